-- What one more row opens.
use Rattle.board_store.proofs.Common.{◌≡◌, ℕ, suc, ◌+◌, ◌<◌, Bool, true, false, cond, inl, inr, List, [], ◌∷◌, ◌++◌}
use Rattle.board_store.proofs.Common.{length, refl, ap, arith, cases_lt, prefix_len-le-length, prefix_len, not, Rules}
use Rattle.board_store.proofs.Common.{free_in, opened_in}

abbrev pub bit : Bool → ℕ
bit true = 1
bit false = 0

pub prefix_stuck : {X : Type 0} (t : X → Bool) (xs : List X) (x : X) → prefix_len t xs < length xs →
    prefix_len t (xs ++ x ∷ []) ≡ prefix_len t xs
prefix_stuck t [] x h = absurd (omega (arith, h))
prefix_stuck t (y ∷ ys) x h =
    elim (t y) as (λ b. cond b (1 + prefix_len t ys) 0 < suc (length ys) →
    cond b (1 + prefix_len t (ys ++ x ∷ [])) 0 ≡ cond b (1 + prefix_len t ys) 0) [
      | true ↦ λ i. let e = prefix_stuck t ys x (omega (arith, i)) in omega (arith, e)
      | false ↦ λ i. refl
    ] h

pub prefix_whole : {X : Type 0} (t : X → Bool) (xs : List X) (x : X) → prefix_len t xs ≡ length xs →
    prefix_len t (xs ++ x ∷ []) ≡ length xs + bit (t x)
prefix_whole t [] x h = elim (t x) as (λ b. cond b (1 + 0) 0 ≡ 0 + bit b) [ true ↦ refl | false ↦ refl ]
prefix_whole t (y ∷ ys) x h =
    elim (t y) as (λ b. cond b (1 + prefix_len t ys) 0 ≡ suc (length ys) →
    cond b (1 + prefix_len t (ys ++ x ∷ [])) 0 ≡ suc (length ys) + bit (t x)) [
      | true ↦ λ i. let e = prefix_whole t ys x (omega (arith, i)) in omega (arith, e)
      | false ↦ λ i. absurd (omega (arith, i))
    ] h

module _ {P R A : Type 0} (g : Rules P R A) (rows : List R) (r : R) where
  pub opens_one : opened_in g rows ≡ length rows + g.ahead → opened_in g rows < g.budget → g.settled r ≡ false →
      opened_in g (rows ++ r ∷ []) ≡ opened_in g rows + 1
  opens_one all more free =
      let whole : free_in g rows ≡ length rows = omega (arith, all, more) in
      let e = prefix_whole (λ (x : R). not (g.settled x)) rows r whole in
      let f : bit (not (g.settled r)) ≡ 1 = ap (λ (b : Bool). bit (not b)) free in
      omega (arith, all, more, e, f, whole)

  pub opens_none : (opened_in g rows ≡ length rows + g.ahead → opened_in g rows < g.budget → g.settled r ≡ false → ⊥) →
      opened_in g (rows ++ r ∷ []) ≡ opened_in g rows
  opens_none h =
      elim (cases_lt (free_in g rows) (length rows)) [
        | inl less ↦ let e = prefix_stuck (λ (x : R). not (g.settled x)) rows r less in omega (arith, e)
        | inr more ↦
            let whole : free_in g rows ≡ length rows =
            omega (arith, more, prefix_len-le-length (λ (x : R). not (g.settled x)) rows) in
            let e = prefix_whole (λ (x : R). not (g.settled x)) rows r whole in
            settled_or (g.settled r) refl whole e
      ]
    where
      settled_or : (b : Bool) → g.settled r ≡ b → free_in g rows ≡ length rows →
          free_in g (rows ++ r ∷ []) ≡ length rows + bit (not (g.settled r)) →
          opened_in g (rows ++ r ∷ []) ≡ opened_in g rows
      settled_or true is whole e =
          let f : bit (not (g.settled r)) ≡ 0 = ap (λ (b : Bool). bit (not b)) is in omega (arith, e, f, whole)
      settled_or false is whole e =
          let f : bit (not (g.settled r)) ≡ 1 = ap (λ (b : Bool). bit (not b)) is in
          elim (cases_lt (length rows + g.ahead) g.budget) [
            | inl less ↦ absurd (h (omega (arith, whole, less)) (omega (arith, whole, less)) is)
            | inr past ↦ omega (arith, e, f, whole, past)
          ]
