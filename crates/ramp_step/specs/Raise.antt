-- Heights are raised by one line after another (this project's profile).
use Rattle.std.specs.Prelude.{◌≡◌, ℕ, ◌<◌, ◌≤◌, ℤ, ◌+ℤ◌, ◌-ℤ◌, ◌*ℤ◌, ◌≤ℤ◌, ◌<ℤ◌, List}
use Rattle.ramp_step.specs.declared.breakpoint.Knot.{Knot}
use Rattle.uc_model.specs.declared.units.Block.{Block}
use Rattle.ramp_step.specs.Knots.{knot, power, height, IsWide}
use Rattle.slope_list.specs.Table.{IsAmount}
use Rattle.ramp_step.specs.Curve.{block_end, curve_term}

-- the value at x on the line that has this level at a start
abbrev pub line_from : ℤ → ℤ → ℤ → ℤ → ℤ
line_from start level price x = level +ℤ price *ℤ (x -ℤ start)

-- the line may be added to the knot
pub record CanRaise (start level price : ℤ) (q : Knot) : Type 0 where
  pub power : IsWide q.at
  pub before : IsAmount q.value
  pub line : IsAmount (line_from start level price q.at)
  pub after : IsAmount (q.value +ℤ line_from start level price q.at)

-- of the first n knots those from index i on that are at most at power `end`, up to index i', are
-- raised by the term
pub record AreRaisedUpto (term : ℤ → ℤ) (end : ℤ) (n i i' : ℕ) (ks ks' : List Knot) : Type 0 where
  pub from : i ≤ i'
  pub to : i' ≤ n
  pub before : (k : ℕ) → k < i → knot ks' k ≡ knot ks k
  pub powers : (k : ℕ) → i ≤ k → k < i' → power ks' k ≡ power ks k
  pub heights : (k : ℕ) → i ≤ k → k < i' → height ks' k ≡ height ks k +ℤ term (power ks k)
  pub upto : (k : ℕ) → i ≤ k → k < i' → power ks k ≤ℤ end
  pub after : (k : ℕ) → i' ≤ k → knot ks' k ≡ knot ks k
  pub beyond : i' < n → end <ℤ power ks i'

-- the curve is added to the first `done` heights, and to no other; the powers beyond these are
-- beyond the j-th block end
pub record AreRaisedSoFar (v : ℤ) (bs : List Block) (s : ℤ) (j n done : ℕ) (ks ks' : List Knot) :
    Type 0 where
  pub order : done ≤ n
  pub powers : (k : ℕ) → k < n → power ks' k ≡ power ks k
  pub heights : (k : ℕ) → k < done → height ks' k ≡ height ks k +ℤ curve_term v bs s (power ks k)
  pub rest : (k : ℕ) → done ≤ k → knot ks' k ≡ knot ks k
  pub beyond : (k : ℕ) → done ≤ k → k < n → block_end bs s j <ℤ power ks k
