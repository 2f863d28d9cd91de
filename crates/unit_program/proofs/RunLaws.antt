-- Least times on and off: by runs, as the rules have them, and by single steps.
use Rattle.unit_program.proofs.Common.{◌≡◌, ℕ, zero, suc, ◌+◌, ◌-◌, ◌<◌, ◌≤◌, Bool, true, false, inl, inr, ◌⊎◌, arith}
use Rattle.unit_program.proofs.Common.{cases_Bool, cases_lt, held}

-- what holds of each period of the horizon, by its place
pub from_one : (P : ℕ → Type 0) → ((k : ℕ) → P (suc k)) → (t : ℕ) → 1 ≤ t → P t
from_one P each zero one = absurd (omega arith)
from_one P each (suc k) one = each k

module _ (x : ℕ → Bool) (n : ℕ) where
  pub held-more : (k : ℕ) → x (suc k) ≡ true → held x n (suc k) ≡ suc (held x n k)
  held-more k on = rw on

  pub held-none : (k : ℕ) → x k ≡ false → held x n k ≡ 0
  held-none zero off = rw off
  held-none (suc k) off = rw off

  held-first : x 0 ≡ true → held x n 0 ≡ n
  held-first on = rw on

  -- x holds since before, or since a period after one where it does not
  abbrev HoldsSince : ℕ → Type 0
  HoldsSince k = ((x 0 ≡ true) × (held x n k ≡ n + k)) ⊎
      ((j : ℕ) × (x j ≡ false) × (x (suc j) ≡ true) × (held x n k + j ≡ k) × (suc j ≤ k))

  holds_since : (k : ℕ) → x k ≡ true → HoldsSince k
  holds_since zero on = let first = held-first on in inl (on, omega arith)
  holds_since (suc k) on =
      let more = held-more k on in
      elim (cases_Bool (x k)) [
        | inl before ↦ elim (holds_since k before) [
          | inl w ↦ inl (w.0, omega arith)
          | inr w ↦ inr (w.0, w.1, w.2, omega arith, omega arith)
        ]
        | inr before ↦ let none = held-none k before in inr (k, before, on, omega arith, omega arith)
      ]

  module _ (least last : ℕ) where
    -- a run that holds at the start lasts until its time is over, and each later one for its least time
    pub record KeepsTimes : Type 0 where
      pub begins : x 0 ≡ true → (t : ℕ) → 1 ≤ t → t ≤ last → t ≤ least - n → x t ≡ true
      pub runs : (k t : ℕ) → x k ≡ false → x (suc k) ≡ true → suc k ≤ t → t < suc k + least → t ≤ last → x t ≡ true

    -- it ends only after its least time
    abbrev pub EndsLate : Type 0
    EndsLate = (k : ℕ) → k < last → x k ≡ true → x (suc k) ≡ false → least ≤ held x n k

    pub ends_late : KeepsTimes → EndsLate
    ends_late keeps k low here after = elim (holds_since k here) [
      | inl w ↦ elim (cases_lt (least - n) (suc k)) [
        | inl above ↦ omega arith
        | inr below ↦ let on = keeps.begins w.0 (suc k) (omega arith) low below in cc
      ]
      | inr w ↦ elim (cases_lt (suc k) (suc w.0 + least)) [
        | inl above ↦ let on = keeps.runs w.0 (suc k) w.1 w.2 (omega arith) above low in cc
        | inr below ↦ omega arith
      ]
    ]

    module _ (late : EndsLate) where
      -- what holds at k does so for m periods more, while its time isn't over
      lasts : (k m t : ℕ) → k + m ≡ t → x k ≡ true → t ≤ last → held x n k + m ≤ least →
          (x t ≡ true) × (held x n t ≡ held x n k + m)
      lasts k zero t is here low within = let z : t ≡ k = omega arith in rw z (here, omega arith)
      lasts k (suc m) zero is here low within = absurd (omega arith)
      lasts k (suc m) (suc t) is here low within =
          let r = lasts k m t (omega arith) here (omega arith) (omega arith) in
          elim (cases_Bool (x (suc t))) [
            | inl on ↦ let more = held-more t on in (on, omega arith)
            | inr off ↦ let over = late t low r.0 off in absurd (omega arith)
          ]

      pub keeps_times : KeepsTimes
      keeps_times = record {
        begins = λ on t one low within. let first = held-first on in (lasts 0 t t (omega arith) on low (omega arith)).0;
        runs = λ k t off on order within low.
            let none = held-none k off in
            let more = held-more k on in
            (lasts (suc k) (t - suc k) t (omega arith) on low (omega arith)).0;
      }
