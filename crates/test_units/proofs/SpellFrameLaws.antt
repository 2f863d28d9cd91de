-- What calls on shapes that came and went leave of the others, by the laws of shapes.
use Rattle.test_units.proofs.Common.{ℕ, List, [], sym, subst, Cell, Frame, StaysAs, OthersStay, Table}

module _ {H S : Type 0} {cell_list : H → List Cell} {is_in : H → S → Type 0} {numbers : H → S → List ℕ}
    {function : H → S → Table}
    (law : OthersStay cell_list is_in numbers function) (h h' : H) (s : S)
    (frame : Frame cell_list is_in numbers [] [] h h') (here : is_in h s) where
  -- each shape is as it was
  pub stays : StaysAs cell_list is_in numbers function [] h h' s
  stays = law [] [] h h' frame s here (λ n mine theirs. mine)

  -- and they may come between calls on it
  pub kept : Frame cell_list is_in numbers (numbers h s) (numbers h' s) h h'
  kept = subst (λ (own : List ℕ). Frame cell_list is_in numbers (numbers h s) own h h') (sym stays.numbers_same)
      (record {
        changes = λ n used out. frame.changes n used (λ mine. mine);
        gains = λ n inside out used. out inside;
        stays = λ other there apart. frame.stays other there (λ n mine theirs. mine);
      })
