use Rattle.board_store.proofs.Common.{◌≡◌, ◌<◌, ℕ, get_or}
use Rattle.uc_model.specs.declared.units.Mark.{Mark}
use Rattle.board_store.proofs.same.same_window_marks.Given as goal

abbrev pub invariant-loop-k : goal.invariant-loop-k
invariant-loop-k l = (j : ℕ) (d : Mark) → j < l.k → get_or l.a j d ≡ get_or l.b j d
