-- A call on one shape leaves the shapes that are apart from it.
use Rattle.test_shapes.proofs.Common.{◌≡◌, ℕ, List, [], ◌∷◌, ◌∙◌, ap, subst, inl, inr, ◌⊎◌, option_map, Table}
use Rattle.test_shapes.proofs.Common.{OthersStay, FramesJoin, EndedShapesLeaveNothing}
use Rattle.std.proofs.lemmas.Bool.{cases_eq}
use Rattle.test_shapes.specs.Cell.{Cell, IsUsed, IsAmong, AreSameAt, Frame}

pub is_among : (n : ℕ) (xs : List ℕ) → IsAmong n xs ⊎ (IsAmong n xs → ⊥)
is_among n [] = inr (λ h. h)
is_among n (x ∷ xs) =
    elim (cases_eq n x) [
      | inl e ↦ inl (inl e)
      | inr d ↦ elim (is_among n xs) [
        | inl h ↦ inl (inr h)
        | inr none ↦
            inr (λ h. elim h [ inl e ↦ d e | inr k ↦ none k ])
      ]
    ]

module _ {H S : Type 0} (cell_list : H → List Cell) (is_in : H → S → Type 0) (numbers : H → S → List ℕ)
    (function : H → S → Table)
    (law : (h h' : H) (s : S) → is_in h s → AreSameAt (numbers h s) (cell_list h) (cell_list h') →
    (numbers h' s ≡ numbers h s) × (function h' s ≡ function h s))
    (used : (h : H) (s : S) → is_in h s → (n : ℕ) → IsAmong n (numbers h s) → IsUsed (cell_list h) n) where
  pub others_stay : OthersStay cell_list is_in numbers function
  others_stay own own' h h' frame other here apart =
      let same = law h h' other here (λ n among. ap (option_map (λ (c : Cell). c.contents))
      (frame.changes n (used h other here n among) (λ mine. apart n mine among))) in
      record {
        here = frame.stays other here apart;
        numbers_same = same.0;
        function_same = same.1;
        apart = λ n mine theirs.
            let among : IsAmong n (numbers h other) = subst (λ xs. IsAmong n xs) same.0 theirs in
            elim (is_among n own) [
              | inl old ↦ apart n old among
              | inr new ↦ frame.gains n mine new (used h other here n among)
            ];
      }

  still_used : (own own' : List ℕ) (h h' : H) → Frame cell_list is_in numbers own own' h h' → (n : ℕ) →
      IsUsed (cell_list h) n → (IsAmong n own → ⊥) → IsUsed (cell_list h') n
  still_used own own' h h' f n u out = (u.0, f.changes n u out ∙ u.1, u.2)

  pub frames_join : FramesJoin cell_list is_in numbers function
  frames_join own mid own' h h' h'' f g = record {
    changes = λ n u out. g.changes n (still_used own mid h h' f n u out) (λ inside. f.gains n inside out u) ∙
        f.changes n u out;
    gains = λ n inside out u. g.gains n inside (λ m. f.gains n m out u) (still_used own mid h h' f n u out);
    stays = λ other here apart. let s = others_stay own mid h h' f other here apart in g.stays other s.here s.apart;
  }

  pub ended_shapes_leave_nothing : EndedShapesLeaveNothing cell_list is_in numbers function
  ended_shapes_leave_nothing own own' h h' h'' f g = record {
    changes = λ n u out. g.changes n (still_used [] [] h h' f n u (λ a. a)) out ∙ f.changes n u (λ a. a);
    gains = λ n inside out u. g.gains n inside out (still_used [] [] h h' f n u (λ a. a));
    stays = λ other here apart.
        let s = others_stay [] [] h h' f other here (λ n mine theirs. mine) in
        g.stays other s.here (λ n mine theirs. apart n mine (subst (λ xs. IsAmong n xs) s.numbers_same theirs));
  }
