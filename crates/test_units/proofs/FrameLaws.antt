-- What two calls, one after the other, leave of the shapes that were in the home before.
use Rattle.test_units.proofs.Common.{◌∙◌, ℕ, List, []}
use Rattle.test_shapes.specs.Cell.{Cell, Frame}

module _ {H S : Type 0} (cell_list : H → List Cell) (is_in : H → S → Type 0) (numbers : H → S → List ℕ) where
  pub still_left : (h h' h'' : H) → Frame cell_list is_in numbers [] [] h h' →
      Frame cell_list is_in numbers [] [] h' h'' → Frame cell_list is_in numbers [] [] h h''
  still_left h h' h'' f g = record {
    changes = λ n u out. g.changes n (u.0, f.changes n u out ∙ u.1, u.2) out ∙ f.changes n u out;
    gains = λ n inside out u. inside;
    stays = λ other here apart. g.stays other (f.stays other here apart) (λ n mine theirs. mine);
  }
