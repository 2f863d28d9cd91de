-- The lists of a board without events.
use Rattle.std.specs.Prelude.{◌≡◌, ℕ, ◌+◌, ◌*◌, false, [], replicate, vec_capacity}
use Rattle.board_core.specs.declared.opening.EventLists.{EventLists}

-- no event is in them, and there is room for each that may come
pub record AreBlank (tasks budget callers : ℕ) (x : EventLists) : Type 0 where
  pub history : x.history.items ≡ []
  pub room : vec_capacity x.history ≡ 2 * tasks + callers
  pub takers : x.takers.items ≡ []
  pub takers_room : vec_capacity x.takers ≡ tasks
  pub marks : x.marks.items ≡ replicate tasks false
  pub counts : x.counts.items ≡ replicate budget 0
  pub halted : x.halted.items ≡ replicate callers false
