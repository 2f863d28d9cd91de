use Rattle.report_form.proofs.Common.{◌≡◌, ◌==◌, ℕ, false, arith, zero, suc, List, ◌++◌, refl, rules, numeral, tally}
use Rattle.report_form.proofs.Lemmas.{adds_same, wide_count_is}
use Rattle.report_form.proofs.parts.add_word_and_nonzero_number.Goals as goal

some_told : (word : List ℕ) (n : ℕ) → (n ≡ 0 → ⊥) → word ++ numeral n ≡ tally word n
some_told word zero h = absurd (h refl)
some_told word (suc n) h = let e : suc n == 0 ≡ false = grind arith in rw e refl

pub returns : goal.returns
returns g c =
    adds_same (some_told c.args.word.now c.args.n c.if-n-eq0.false)
    (rw (wide_count_is c.args.n (search rules)) at c.add_word_and_number.ensures)
