-- How many cells the calls need.
use Rattle.test_units.proofs.Common.{◌≡◌, ℕ, ◌+◌, ◌-◌, ◌*◌, ◌≤◌, ◌<◌, is_ok, Result, Err, IsOk, sym, ap, ◌∙◌, arith}
use Rattle.test_units.proofs.Common.{false≢true, cells_for}
use Rattle.std.proofs.Math.Nat.{mul-le-mul}

pub never_both : {X E : Type 0} → (r : Result X E) (e : E) → r ≡ Err e → IsOk r → ⊥
never_both r e was ok = absurd (false≢true (sym (ap is_ok was) ∙ ok))

mono : (a b c d : ℕ) → a ≤ b → c ≤ d → a * c ≤ b * d
mono a b c d h i = mul-le-mul h i

-- a step over a place below the end
pub one_more : (index periods blocks : ℕ) → index < periods → (index + 1) * blocks ≤ periods * blocks
one_more index periods blocks low = mono (index + 1) periods blocks blocks (omega (arith, low)) (omega arith)

-- a unit's curve has at most two blocks between two points
pub charge_of : (blocks points : ℕ) → 1 ≤ points → blocks ≤ 2 * (points - 1) → blocks + 5 ≤ 2 * points + 3
charge_of blocks points some few = omega (arith, some, few)

module _ (periods points charge : ℕ) (some : 1 ≤ periods) (few : charge ≤ 2 * points + 3) where
  whole : ℕ
  whole = periods * (2 * points + 3)

  each : periods * charge ≤ periods * (2 * points + 3)
  each = mono periods periods charge (2 * points + 3) (omega arith) few

  -- two shapes at a time
  pub costs_fit : 3 + 2 * periods * charge ≤ cells_for periods points
  costs_fit =
      let x = periods * (2 * points + 3) in
      let e = each in
      let m = mono 3 (periods + 2) (1 + x) (1 + x) (omega (arith, some)) (omega arith) in
      let twice : 2 * periods * charge ≡ 2 * (periods * charge) = omega arith in
      let three : 3 * (1 + x) ≡ 3 + 3 * x = omega arith in
      omega (arith, e, m, twice, three)

  -- a shape for each period that is still to come
  pub way_fits : (left : ℕ) → left ≤ periods → 1 + left * (1 + periods * charge) ≤ cells_for periods points
  way_fits left low =
      let x = periods * (2 * points + 3) in
      let e = each in
      let m = mono left periods (1 + periods * charge) (1 + x) low (omega (arith, e)) in
      let two : (periods + 2) * (1 + x) ≡ periods * (1 + x) + 2 * (1 + x) = two_more periods (1 + x) in
      omega (arith, m, two)
    where
      two_more : (a b : ℕ) → (a + 2) * b ≡ a * b + 2 * b
      two_more a b = omega arith

  pub way_most : (left : ℕ) → left ≤ periods → 1 + left * charge ≤ 1 + periods * charge
  way_most left low = let m = mono left periods charge charge low (omega arith) in omega (arith, m)

-- what is left for the periods after the next one
module _ (left charge most cells cells' sure sure' : ℕ) (some : 1 ≤ left) (room : cells + left * charge ≤ most)
    (enough : left * most ≤ sure) where
  abbrev rest : ℕ
  rest = left - 1

  split : (n : ℕ) → left * n ≡ rest * n + n
  split n = let e : left ≡ rest + 1 = omega (arith, some) in ap (λ (l : ℕ). l * n) e ∙ (omega arith)

  pub next_fits : cells + charge ≤ sure
  next_fits =
      let a = split charge in
      let b = split most in
      omega (arith, a, b, room, enough)

  pub one_fits : 1 ≤ charge → 1 ≤ sure
  one_fits one = let n = next_fits in omega (arith, n, one)

  module _ (fewer : cells' ≤ cells + charge) (sum : sure' + cells' ≡ sure) where
    pub rest_room : cells' + rest * charge ≤ most
    rest_room = let a = split charge in omega (arith, a, fewer, room)

    pub rest_enough : rest * most ≤ sure'
    rest_enough =
        let a = split charge in
        let b = split most in
        omega (arith, a, b, fewer, sum, room, enough)
