-- How the lines of each form are judged.
use Rattle.report_compare.proofs.Common.{◌≡◌, ℕ, ℤ, Bool, List, [], ◌∷◌, refl, ap, arith, Decides, Kind, spaced}
use Rattle.report_compare.proofs.Common.{spaced_counts, spaced_flags, chosen_text, line, count_line, amount_line}
use Rattle.report_compare.proofs.Common.{kind_word, Judged}
use Rattle.uc_model.specs.declared.kinds.Kind.TheVariants as kinds
use Rattle.report_compare.proofs.Comparing.{judged}
use Rattle.report_compare.proofs.OneLine.{line_told, count_told, amount_told, choice_told, amounts_told, counts_told}
use Rattle.report_compare.proofs.OneLine.{flags_told, Titled, title_text}

pub count_judged : (word : List ℕ) (b : Bool) (m n : ℕ) → Decides b (m ≡ n) →
    Judged b (count_line word m) (count_line word n)
count_judged word b m n h = judged (count_line word) (λ law x y e. count_told law x y (line_told word _ _ e)) b m n h

pub amount_judged : (word : List ℕ) (b : Bool) (x y : ℤ) → Decides b (x ≡ y) →
    Judged b (amount_line word x) (amount_line word y)
amount_judged word b x y h = judged (amount_line word) (λ law x y e. amount_told law x y (line_told word _ _ e)) b x y h

pub amounts_judged : (word : List ℕ) (b : Bool) (xs ys : List ℤ) → Decides b (xs ≡ ys) →
    Judged b (line word (spaced xs)) (line word (spaced ys))
amounts_judged word b xs ys h =
    judged (λ (zs : List ℤ). line word (spaced zs)) (λ law x y e. amounts_told law x y (line_told word _ _ e)) b xs ys h

pub counts_judged : (word : List ℕ) (b : Bool) (xs ys : List ℕ) → Decides b (xs ≡ ys) →
    Judged b (line word (spaced_counts xs)) (line word (spaced_counts ys))
counts_judged word b xs ys h = judged (λ (zs : List ℕ). line word (spaced_counts zs))
    (λ law x y e. counts_told law x y (line_told word _ _ e)) b xs ys h

pub flags_judged : (word : List ℕ) (b : Bool) (xs ys : List Bool) → Decides b (xs ≡ ys) →
    Judged b (line word (spaced_flags xs)) (line word (spaced_flags ys))
flags_judged word b xs ys h = judged (λ (zs : List Bool). line word (spaced_flags zs))
    (λ law x y e. flags_told law x y (line_told word _ _ e)) b xs ys h

pub choice_judged : (b : Bool) (m n : ℕ) (x y : ℤ) → Decides b ((m ≡ n) × (x ≡ y)) →
    Judged b (chosen_text m x) (chosen_text n y)
choice_judged b m n x y h =
    judged (λ (c : ℕ × ℤ). chosen_text c.0 c.1) choice_told b (m, x) (n, y) (
      λ is. let both = h.0 is in λ i. (both.0 i, both.1 i),
      λ e. h.1 (ap (λ (c : ℕ × ℤ). c.0) e, ap (λ (c : ℕ × ℤ). c.1) e),
    )

-- ---- titles

-- the letter behind `unit `
letter : List ℕ → ℕ
letter (a ∷ b ∷ c ∷ d ∷ e ∷ f ∷ more) = f
letter more = 0

first_letter : List ℕ → ℕ
first_letter (a ∷ more) = a
first_letter [] = 0

pub kind_told : (k l : Kind) (t u : Titled) → title_text (kind_word k) t ≡ title_text (kind_word l) u → k ≡ l
unfolding letter first_letter
kind_told kinds.Case kinds.Case t u e = refl
kind_told kinds.Case kinds.Thermal t u e = absurd (let n : 34 ≡ 117 = ap first_letter e in omega (arith, n))
kind_told kinds.Case kinds.Renewable t u e = absurd (let n : 34 ≡ 117 = ap first_letter e in omega (arith, n))
kind_told kinds.Case kinds.Bid t u e = absurd (let n : 34 ≡ 117 = ap first_letter e in omega (arith, n))
kind_told kinds.Thermal kinds.Case t u e = absurd (let n : 117 ≡ 34 = ap first_letter e in omega (arith, n))
kind_told kinds.Thermal kinds.Thermal t u e = refl
kind_told kinds.Thermal kinds.Renewable t u e = absurd (let n : 116 ≡ 114 = ap letter e in omega (arith, n))
kind_told kinds.Thermal kinds.Bid t u e = absurd (let n : 116 ≡ 98 = ap letter e in omega (arith, n))
kind_told kinds.Renewable kinds.Case t u e = absurd (let n : 117 ≡ 34 = ap first_letter e in omega (arith, n))
kind_told kinds.Renewable kinds.Thermal t u e = absurd (let n : 114 ≡ 116 = ap letter e in omega (arith, n))
kind_told kinds.Renewable kinds.Renewable t u e = refl
kind_told kinds.Renewable kinds.Bid t u e = absurd (let n : 114 ≡ 98 = ap letter e in omega (arith, n))
kind_told kinds.Bid kinds.Case t u e = absurd (let n : 117 ≡ 34 = ap first_letter e in omega (arith, n))
kind_told kinds.Bid kinds.Thermal t u e = absurd (let n : 98 ≡ 116 = ap letter e in omega (arith, n))
kind_told kinds.Bid kinds.Renewable t u e = absurd (let n : 98 ≡ 114 = ap letter e in omega (arith, n))
kind_told kinds.Bid kinds.Bid t u e = refl
