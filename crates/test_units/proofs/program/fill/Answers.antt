use Rattle.test_units.proofs.Common.{◌≡◌, ℕ, suc, length, subst, arith, thermal_of, prices_of, IsFilled, ◌+◌, ◌∙◌}
use Rattle.test_units.proofs.Lemmas.{still_left}
use Rattle.test_units.proofs.program.fill.Goals as goal

pub returns-clause-filled : goal.returns-clause-filled
returns-clause-filled g c =
    let until = c.loop-first.auto.first-end (omega arith) in
    let end : c.loop-first.first ≡ suc (length c.args.prices.now.energy.items) = omega (arith, until) in
    subst (λ (n : ℕ). IsFilled (thermal_of c.args.unit.now) (prices_of c.args.prices.now) n c.loop-first.table.items)
    end c.loop-first.invariant.filled

pub loop-first-preserved : goal.loop-first-preserved
loop-first-preserved g c =
    let next : suc c.loop-first.first ≡ c.loop-first.first + 1 = omega arith in
    let was = c.loop-first.invariant in
    record {
      filled = subst (λ (n : ℕ). IsFilled (thermal_of c.args.unit.now) (prices_of c.args.prices.now) n
          c.add_first.new.table.items) next c.in_ok-add_first.ensures.filled;
      costs_length = c.add_first.ensures.costs ∙ was.costs_length;
      table_length = c.add_first.ensures.length ∙ was.table_length;
      frame = still_left g.S.Home.Cells.cell_list g.S.Shape.is_in g.S.Shape.numbers c.args.home.now c.loop-first.home
          c.add_first.new.home was.frame c.add_first.ensures.frame;
      sure = λ counts. c.add_first.ensures.sure counts ∙ was.sure counts;
    }

pub returns-in_err-add_first-clause-frame : goal.returns-in_err-add_first-clause-frame
returns-in_err-add_first-clause-frame g c =
    still_left g.S.Home.Cells.cell_list g.S.Shape.is_in g.S.Shape.numbers c.args.home.now c.loop-first.home
    c.add_first.new.home c.loop-first.invariant.frame c.add_first.ensures.frame
