use Rattle.uc_text.proofs.Common.{◌≡◌, [], ℕ, sym, ap, subst, ◌∙◌, arith, false, bytes_eq, get_or, inl, inr, cases_lt}
use Rattle.uc_text.proofs.Common.{said, names_said}
use Rattle.uc_text.proofs.Lemmas.{there_at, there_nowhere, name_at, names_len, bytes_eq-turned}
use Rattle.uc_text.proofs.names.is_equal_to_any_name.Goals as goal

pub returns-then-decodes_to_bytes : goal.returns-then-decodes_to_bytes
returns-then-decodes_to_bytes c =
    let text = c.args.text.now in
    let qs = c.args.names.now in
    let name = name_at qs c.loop-name.name-index c.name-item.result c.loop-name-test.true c.name-item.is in
    let same = ap (bytes_eq text) name ∙ bytes_eq-turned text (said c.name-item.result.quoted.bytes.now) ∙
    sym c.decodes_to_bytes.ensures ∙ c.if-decodes_to_bytes.true in
    sym (there_at text (names_said qs) c.loop-name.name-index (omega (arith, c.loop-name-test.true, names_len qs)) same)

pub loop-name-preserved : goal.loop-name-preserved
loop-name-preserved c = λ k lt.
    let text = c.args.text.now in
    let qs = c.args.names.now in
    let name = name_at qs c.loop-name.name-index c.name-item.result c.loop-name-test.true c.name-item.is in
    let other = ap (bytes_eq text) name ∙ bytes_eq-turned text (said c.name-item.result.quoted.bytes.now) ∙
    sym c.decodes_to_bytes.ensures ∙ c.if-decodes_to_bytes.false in
    elim (cases_lt k c.loop-name.name-index) [
      | inl before ↦ c.loop-name.invariant k before
      | inr behind ↦ subst (λ (i : ℕ). bytes_eq text (get_or (names_said qs) i []) ≡ false) (omega (arith, lt, behind))
          other
    ]

pub returns : goal.returns
returns c = sym (there_nowhere c.args.text.now (names_said c.args.names.now)
    (λ k lt. c.loop-name.invariant k (omega (arith, lt, names_len c.args.names.now, c.loop-name-test.false))))
