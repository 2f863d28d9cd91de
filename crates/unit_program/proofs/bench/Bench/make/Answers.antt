use Rattle.unit_program.proofs.Common.{length, ap, ◌∙◌, arith, length-replicate}
use Rattle.unit_program.proofs.bench.Bench.make.Goals as goal

pub returns : goal.returns
returns c =
    let rows = simp length-replicate at (ap length c.in_ok-table.ensures) in
    let origins = c.in_ok-origins.ensures in
    let roster = c.in_ok-roster.ensures in
    let limits = simp length-replicate at (ap length c.in_ok-limits.ensures) in
    record {
      blocks = omega (arith, c.in_ok-blocks.ensures.room);
      count = omega (arith, c.in_ok-spells.ensures.count);
      space = omega (arith, c.in_ok-shared.ensures.spare);
      room = λ f r is. c.in_ok-shared.ensures.spare ∙ c.in_ok-spells.ensures.room f r is;
      log = c.in_ok-shared.ensures.log;
      rows = omega (arith, rows);
      origins = origins;
      roster = roster;
      limits = omega (arith, limits);
    }
