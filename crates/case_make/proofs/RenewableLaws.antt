-- A generated renewable unit is within the limits, and giving its greatest power is feasible.
use Rattle.case_make.proofs.Common.{◌≡◌, ℕ, zero, suc, ◌+◌, ◌*◌, ◌≤◌, ℤ, pos, true, false, List, [], ◌∷◌, map}
use Rattle.case_make.proofs.Common.{replicate, get_or, slice_index, refl, sym, ◌∙◌, arith, ints, length-map}
use Rattle.case_make.proofs.Common.{length-replicate, get_or-replicate, All-map, All-weaker, All-replicate}
use Rattle.case_make.proofs.Common.{length-map-range_with_len, mul-le-mul_left, range_with_len, Lcg, RenewableUnit}
use Rattle.case_make.proofs.Common.{IsPower, IsRenewableUnit, IsRenewableFeasible, int_at, capacity_at, most_at}
use Rattle.case_make.proofs.Common.{most_powers, renewable_of, full, ArePowers, draw, word_at}
use Rattle.case_make.proofs.WordLaws.{drawn_within}

pub most_low : (g : Lcg) (index k : ℕ) → most_at g index k ≤ 100000
unfolding most_at capacity_at
most_low g index k =
    let a = drawn_within 5 100 (word_at g index) (omega arith) in
    let b = drawn_within 0 100 (word_at g (index + 1 + k)) (omega arith) in
    let p = mul-le-mul_left (1000 * draw 5 100 (word_at g index)) b.at_most in
    omega (arith, a, p)

pub powers_within : (g : Lcg) (index : ℕ) → ArePowers (most_powers g index)
unfolding most_powers
powers_within g index = record {
  count = length-map-range_with_len (most_at g index) 0 48;
  most = All-map (λ x. x ≤ 100000) (most_at g index) (range_with_len 0 48)
      (λ k d low. most_low g index (get_or (range_with_len 0 48) k d));
}

-- the numbers of a list of powers
pub number_at : (xs : List ℕ) (k : ℕ) → int_at (map pos xs) k ≡ pos (slice_index xs k)
number_at [] k = refl
number_at (x ∷ xs) zero = refl
number_at (x ∷ xs) (suc k) = number_at xs k

pub renewable_limited : (powers : List ℕ) → ArePowers powers → IsRenewableUnit (renewable_of powers)
unfolding renewable_of
renewable_limited powers h =
    let least = length-replicate 48 (pos 0) in
    let most = length-map powers pos ∙ h.count in
    record {
      lengths = least ∙ sym most;
      horizon = record { at_least = omega (arith, least); at_most = omega (arith, least) };
      least = All-replicate IsPower 48 (pos 0)
          (record { at_least = omega (arith, ints); at_most = omega (arith, ints) });
      most = All-map IsPower pos powers
          (All-weaker (λ x. x ≤ 100000) (λ x. IsPower (pos x))
          (λ x low. record { at_least = omega (arith, ints); at_most = omega (arith, ints, low) }) powers h.most);
      range = λ k low.
          let e : int_at (replicate 48 (pos 0)) k ≡ pos 0 =
          get_or-replicate 48 k (pos 0) (pos 0) (omega (arith, least, low)) in
          let f = number_at powers k in
          omega (arith, ints, e, f);
    }

pub full_feasible : (powers : List ℕ) → ArePowers powers → IsRenewableFeasible (renewable_of powers) 48 (full powers)
unfolding renewable_of full
full_feasible powers h = record {
  schedule = record {
    on = length-replicate 48 true;
    power = h.count;
    reserve = length-replicate {A = ℕ} 48 0;
    off = λ k low e. absurd (let on = get_or-replicate 48 k true false low in cc);
  };
  on = λ k low. get_or-replicate 48 k true false low;
  reserve = λ k low. get_or-replicate 48 k 0 0 low;
  least = λ k low.
      let e : int_at (replicate 48 (pos 0)) k ≡ pos 0 = get_or-replicate 48 k (pos 0) (pos 0) low in
      omega (arith, ints, e);
  most = λ k low. let f = number_at powers k in omega (arith, ints, f);
}

pub renewable_is : (powers : List ℕ) (least most : List ℤ) → least ≡ replicate 48 (pos 0) → most ≡ map pos powers →
    (let r : RenewableUnit = record { least = least; most = most } in r ≡ renewable_of powers)
unfolding renewable_of
renewable_is powers least most e f = cc
