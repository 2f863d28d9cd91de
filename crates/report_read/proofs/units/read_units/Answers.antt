use Rattle.report_read.proofs.Common.{◌≡◌, ◌++◌, ◌∷◌, [], map, ap, ◌∙◌, arith, err_from_is_err_and, map_push, told_of}
use Rattle.report_read.proofs.Common.{units_at}
use Rattle.report_read.proofs.Lemmas.{unit_goes_on, unit_fails, units_done}
use Rattle.report_read.proofs.units.read_units.Goals as goal

pub returns-in_err-line : goal.returns-in_err-line
returns-in_err-line c =
    let p = err_from_is_err_and c.from_residual-in_err-line.result c.from_residual-in_err-line.ensures.1 in
    rw (p.1, p.2) (unit_fails c.in_err-line.field-0.0 c.args.periods c.loop.least c.args.count c.loop.counter
    (map told_of c.loop.lines.items) c.loop.reader.rest.now
    (units_at c.args.periods 0 c.args.count c.args.reader.now.rest.now) c.loop-test.true
    c.in_err-line.ensures c.loop.invariant.reads)

pub loop-preserved : goal.loop-preserved
loop-preserved c =
    let pushed : map told_of c.push.new.self.items
    ≡ map told_of c.loop.lines.items ++ told_of c.in_ok-line.line ∷ [] =
    ap (map told_of) c.push.ensures.items ∙ map_push told_of c.loop.lines.items c.in_ok-line.line in
    record {
      reads = rw (pushed, c.rank_of_unit_kind-least.ensures)
          (unit_goes_on c.args.periods c.loop.least c.args.count c.loop.counter (map told_of c.loop.lines.items)
          c.loop.reader.rest.now (told_of c.in_ok-line.line) c.read_unit.new.reader.rest.now
          (units_at c.args.periods 0 c.args.count c.args.reader.now.rest.now) c.loop-test.true c.in_ok-line.ensures
          c.loop.invariant.reads);
      room = omega (arith, c.push.ensures.spare);
    }

pub returns : goal.returns
returns c =
    units_done c.args.periods c.loop.least c.args.count c.loop.counter (map told_of c.loop.lines.items)
    c.loop.reader.rest.now
    (units_at c.args.periods 0 c.args.count c.args.reader.now.rest.now) c.loop-test.false c.loop.invariant.reads
