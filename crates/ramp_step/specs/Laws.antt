-- What holds of knots, whatever the step (this project's profile). Each law is the clause of a
-- public function.
use Rattle.std.specs.Prelude.{◌≡◌, ℕ, ◌+◌, ◌-◌, ◌<◌, ◌≤◌, ℤ, pos, ◌+ℤ◌, ◌-ℤ◌, ◌≤ℤ◌, ◌<ℤ◌, List}
use Rattle.std.specs.Prelude.{MatchOption}
use Rattle.std.specs.Int.{int_min, int_max}
use Rattle.slope_list.specs.Effect.{IsPoint, IsSame, IsLeast, IsLeastIn}
use Rattle.slope_list.specs.Table.{value_of, HasNone, IsPlace, IsAmount}
use Rattle.ramp_step.specs.declared.breakpoint.Knot.{Knot}
use Rattle.ramp_step.specs.Knots.{IsConvex, knot, power, height}
use Rattle.ramp_step.specs.Tables.{table_of, AreBreaks}
use Rattle.ramp_step.specs.Window.{IsLeastInReach, IsTurn, AreSpread, AreWindow}

-- the least value in reach: left of m the falling part moved by -down, right of m the rising part
-- moved by up, and between them the least value
pub record MovesParts (f : ℤ → ℤ) (a b m up down : ℤ) : Type 0 where
  pub falling : (x : ℤ) → (a -ℤ down) ≤ℤ x → (x +ℤ down) ≤ℤ m →
      IsLeastInReach f a b up down x (f (x +ℤ down))
  pub flat : (x : ℤ) → m ≤ℤ (x +ℤ down) → (x -ℤ up) ≤ℤ m → IsLeastInReach f a b up down x (f m)
  pub rising : (x : ℤ) → m ≤ℤ (x -ℤ up) → x ≤ℤ (b +ℤ up) →
      IsLeastInReach f a b up down x (f (x -ℤ up))

-- for a convex function from a to b that is least at m
abbrev pub WindowMovesParts : Type 0
WindowMovesParts =
    (f : ℤ → ℤ) (a b m up down : ℤ) → IsConvex a b f → a ≤ℤ m → m ≤ℤ b →
    ((y : ℤ) → a ≤ℤ y → y ≤ℤ b → f m ≤ℤ f y)
    → pos 0 ≤ℤ up → pos 0 ≤ℤ down → MovesParts f a b m up down

-- for knots that fall up to index j and don't fall at it: moved apart there, they stand for the
-- window
abbrev pub WindowMovesKnots : Type 0
WindowMovesKnots =
    (ks ks' : List Knot) (n j : ℕ) (up down : ℤ) → pos 0 ≤ℤ up → pos 0 ≤ℤ down →
    pos 0 <ℤ (up +ℤ down)
    → IsTurn ks n j → AreSpread up down n j ks ks' → AreWindow up down ks n ks' (n + 1)

-- one knot within the limits is a point
abbrev pub OneKnotIsPoint : Type 0
OneKnotIsPoint =
    (ks : List Knot) → IsPlace (power ks 0) → IsAmount (height ks 0) → AreBreaks ks 1
    × IsPoint (power ks 0) (height ks 0) (table_of ks 1)

-- lists that begin with the same knots stand for the same function
abbrev pub SameKnotsAreSame : Type 0
SameKnotsAreSame =
    (ks ks' : List Knot) (n n' : ℕ) → n' ≡ n → ((k : ℕ) → k < n → knot ks' k ≡ knot ks k) →
    AreBreaks ks n → AreBreaks ks' n' × IsSame (table_of ks n) (table_of ks' n')

-- n' of the first n knots, from index `from` on
pub record IsRun (ks : List Knot) (n from : ℕ) (ks' : List Knot) (n' : ℕ) : Type 0 where
  pub inside : from + n' ≤ n
  pub some : 0 < n'
  pub knots : (k : ℕ) → k < n' → knot ks' k ≡ knot ks (from + k)

-- they stand for the function between their ends; where they begin or end as the others do, beyond
-- that end too
abbrev pub RunsStandBetween : Type 0
RunsStandBetween =
    (ks ks' : List Knot) (n from n' : ℕ) → IsRun ks n from ks' n' → AreBreaks ks n
    → AreBreaks ks' n' × ((x : ℤ) → (0 < from → power ks from ≤ℤ x) →
    (from + n' < n → x ≤ℤ power ks' (n' - 1)) →
    value_of (table_of ks' n') x ≡ value_of (table_of ks n) x)

-- the first height that the next one isn't below is the least value, at its least power
abbrev pub TurnIsLeast : Type 0
TurnIsLeast =
    (ks : List Knot) (n turn : ℕ) → AreBreaks ks n → IsTurn ks n turn →
    IsLeast (table_of ks n) (height ks turn) (power ks turn)

-- and the least value of the powers from lo to hi is at the power nearest to it
abbrev pub NearestIsLeast : Type 0
NearestIsLeast =
    (ks : List Knot) (n turn : ℕ) (lo hi : ℤ) → AreBreaks ks n → IsTurn ks n turn → lo ≤ℤ hi
    → MatchOption (value_of (table_of ks n) (int_max lo (int_min hi (power ks turn))))
    (HasNone lo hi (table_of ks n))
    (λ v. IsLeastIn lo hi (table_of ks n) v (int_max lo (int_min hi (power ks turn))))
