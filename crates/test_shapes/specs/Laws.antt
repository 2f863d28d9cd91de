-- What holds of every shape. Each law is the clause of a public function of its name.
use Rattle.std.specs.Prelude.{◌≡◌, ℕ, List, []}
use Rattle.slope_list.specs.Table.{Table}
use Rattle.test_shapes.specs.Cell.{Cell, AreApart, Frame}

module _ {H S : Type 0} (cell_list : H → List Cell) (is_in : H → S → Type 0) (numbers : H → S →
    List ℕ) (function : H → S → Table) where
  -- what is said of a shape that is apart from the call's shape
  pub record StaysAs (own' : List ℕ) (h h' : H) (other : S) : Type 0 where
    pub here : is_in h' other
    pub numbers_same : numbers h' other ≡ numbers h other
    pub function_same : function h' other ≡ function h other
    pub apart : AreApart own' (numbers h' other)

  -- a call on one shape leaves every shape that is apart from it with its function and its cells,
  -- still in the home, and still apart
  abbrev pub OthersStay : Type 0
  OthersStay =
      (own own' : List ℕ) (h h' : H) → Frame cell_list is_in numbers own own' h h' →
      (other : S) → is_in h other → AreApart own (numbers h other) → StaysAs own' h h' other

  -- two calls on one shape leave of the others what one call does
  abbrev pub FramesJoin : Type 0
  FramesJoin =
      (own mid own' : List ℕ) (h h' h'' : H) → Frame cell_list is_in numbers own mid h h' →
      Frame cell_list is_in numbers mid own' h' h'' → Frame cell_list is_in numbers own own' h h''

  -- so do calls on shapes that came and went, and then a call on a shape that was there before
  abbrev pub EndedShapesLeaveNothing : Type 0
  EndedShapesLeaveNothing =
      (own own' : List ℕ) (h h' h'' : H) → Frame cell_list is_in numbers [] [] h h' →
      Frame cell_list is_in numbers own own' h' h'' → Frame cell_list is_in numbers own own' h h''
