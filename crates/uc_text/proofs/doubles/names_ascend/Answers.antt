use Rattle.uc_text.proofs.Common.{arith, sym, said, names_said}
use Rattle.uc_text.proofs.Lemmas.{ascend_more, name_at, names_len}
use Rattle.uc_text.proofs.doubles.names_ascend.Goals as goal

pub loop-name-preserved : goal.loop-name-preserved
loop-name-preserved c =
    let ns = c.args.names.now in
    let i = c.loop-name.name-index in
    let k = said c.name-item.result.quoted.bytes.now in
    let name = name_at ns i c.name-item.result c.loop-name-test.true c.name-item.is in
    ascend_more (names_said ns) c.loop-name.last.now k c.in-Some.text.now i
    (omega (arith, c.loop-name-test.true, names_len ns)) c.loop-name.invariant (sym name) c.in-Some.ensures.says
    c.in-Some.ensures.above
