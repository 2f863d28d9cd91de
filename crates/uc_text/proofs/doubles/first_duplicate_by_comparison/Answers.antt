use Rattle.uc_text.proofs.Common.{◌≡◌, true, false, arith, sym, ap, subst, ◌∙◌, take, take_all, said, names_said}
use Rattle.uc_text.proofs.Common.{is_there, AreDifferent}
use Rattle.uc_text.proofs.Lemmas.{one_double, one_new, all_new, name_at, names_len, names_said-take}
use Rattle.uc_text.proofs.doubles.first_duplicate_by_comparison.Goals as goal

pub returns-then-branch : goal.returns-then-branch
returns-then-branch c =
    let ns = c.args.names.now in
    let i = c.loop-index.index in
    let k = said c.index-names-index.result.quoted.bytes.now in
    let name = name_at ns i c.index-names-index.result c.loop-index-test.true c.index-names-index.is in
    let on : is_there k (take i (names_said ns)) ≡ true =
    ap (is_there k) (sym (names_said-take ns i)) ∙ sym c.in_ok-is_name_among.ensures ∙ c.if-branch.true in
    one_double (names_said ns) k i (omega (arith, c.loop-index-test.true, names_len ns)) c.loop-index.invariant
    (sym name) on

pub loop-index-preserved : goal.loop-index-preserved
loop-index-preserved c =
    let ns = c.args.names.now in
    let i = c.loop-index.index in
    let k = said c.index-names-index.result.quoted.bytes.now in
    let name = name_at ns i c.index-names-index.result c.loop-index-test.true c.index-names-index.is in
    let off : is_there k (take i (names_said ns)) ≡ false =
    ap (is_there k) (sym (names_said-take ns i)) ∙ sym c.in_ok-is_name_among.ensures ∙ c.if-branch.false in
    one_new (names_said ns) k i (omega (arith, c.loop-index-test.true, names_len ns)) c.loop-index.invariant (sym name)
    off

pub returns : goal.returns
returns c =
    let ks = names_said c.args.names.now in
    let count = names_len c.args.names.now in
    all_new ks _ (omega (arith, count))
    (subst AreDifferent (take_all c.loop-index.index ks (omega (arith, count, c.loop-index-test.false)))
    c.loop-index.invariant)
