-- The history, and what of it the seats have seen, after each kind of step.
use Rattle.board_share.proofs.Common.{◌≡◌, ℕ, zero, suc, ◌+◌, ◌≢◌, List, [], ◌∷◌, ◌++◌, length, get_or, set, sym, ap}
use Rattle.board_share.proofs.Common.{◌∙◌, arith, append_assoc, length-append, append-nil, All, get_or-set_same}
use Rattle.board_share.proofs.Common.{All-append, some, none, get_elem?, Setup, Content, BoardEvent, content, turn}
use Rattle.board_share.proofs.Common.{View, live_count, Homes, Past, Sees, Counted}
use mathlib.Core.Option as maybe
use Rattle.board_share.proofs.Views.{each_set}

pub all_one : {X : Type 0} (P : X → Type 0) (x : X) → P x → All P (x ∷ [])
all_one P x p zero d lt = p
all_one P x p (suc k) d lt = absurd (omega arith)

pub all_none : {X : Type 0} (P : X → Type 0) → All P []
all_none P k d lt = absurd (omega arith)

-- a seat that has seen it all
pub sees_all : (v : View) (h : List BoardEvent) → v.seen ≡ h → Sees v h
sees_all v h is = record { rest = []; whole = append-nil v.seen ∙ is; past = all_none (Past v) }

-- one more event
pub sees_more : (v : View) (h : List BoardEvent) (e : BoardEvent) → Sees v h → Past v e → Sees v (h ++ e ∷ [])
sees_more v h e old new = record {
  rest = old.rest ++ e ∷ [];
  whole = sym (append_assoc v.seen old.rest (e ∷ [])) ∙ ap (λ (l : List BoardEvent). l ++ e ∷ []) old.whole;
  past = All-append (Past v) old.rest (e ∷ []) old.past (all_one (Past v) e new);
}

-- a slot that is out has no board
pub not_out : (o : maybe.Option (maybe.Option Content)) (b : Content) → o ≡ some none → o ≡ some (some b) → ⊥
not_out o b p q = cc

module _ (about : Setup) (history : List BoardEvent) (words : List ℕ) (homes : Homes) (views : List View)
    (old : Counted about history words homes views) where
  -- a step that makes no event
  pub kept_history : (words' : List ℕ) (homes' : Homes) → get_or words' 0 0 ≡ get_or words 0 0 →
      ((b : Content) → get_elem? homes' 0 ≡ some (some b) → b ≡ content about history)
      → (id : ℕ) (w : View) → ((t : ℕ) → w.stage ≡ turn t → w.seen ≡ history) →
      (live_count w.stage ≡ 1 → Sees w history × (w.setup ≡ about)) →
      Counted about history words' homes' (set views id w)
  kept_history words' homes' same lies id w mine sees = record {
    length_is = same ∙ old.length_is;
    kept = lies;
    held = each_set (λ j x. (t : ℕ) → x.stage ≡ turn t → x.seen ≡ history) views id w mine
        (λ j x _ at t e. old.held j x at t e);
    sees = each_set (λ j x. live_count x.stage ≡ 1 → Sees x history) views id w (λ l. (sees l).0)
        (λ j x _ at l. old.sees j x at l);
    names = each_set (λ j x. live_count x.stage ≡ 1 → x.setup ≡ about) views id w (λ l. (sees l).1)
        (λ j x _ at l. old.names j x at l);
  }

  -- the seat that has the board makes an event, which is past what each other seat has seen
  pub grown : length words ≡ 3 → get_elem? homes 0 ≡ some none → (id : ℕ) (w : View) (e : BoardEvent) (n : ℕ) →
      n ≡ length history + 1 → w.seen ≡ history ++ e ∷ [] → w.setup ≡ about
      → ((j : ℕ) (x : View) → j ≢ id → get_elem? views j ≡ some x → live_count x.stage ≡ 1 → Past x e) →
      ((j : ℕ) (x : View) → j ≢ id → get_elem? views j ≡ some x → (t : ℕ) → x.stage ≡ turn t → ⊥)
      → Counted about (history ++ e ∷ []) (set words 0 n) homes (set views id w)
  grown wide out id w e n next seen named past alone = record {
    length_is = get_or-set_same words 0 n 0 (omega arith) ∙ (next ∙ sym (length-append history (e ∷ [])));
    kept = λ b at. absurd (not_out (get_elem? homes 0) b out at);
    held = each_set (λ j x. (t : ℕ) → x.stage ≡ turn t → x.seen ≡ history ++ e ∷ []) views id w (λ t _. seen)
        (λ j x other at t is. absurd (alone j x other at t is));
    sees = each_set (λ j x. live_count x.stage ≡ 1 → Sees x (history ++ e ∷ [])) views id w
        (λ _. sees_all w (history ++ e ∷ []) seen)
        (λ j x other at l. sees_more x history e (old.sees j x at l) (past j x other at l));
    names = each_set (λ j x. live_count x.stage ≡ 1 → x.setup ≡ about) views id w (λ _. named)
        (λ j x _ at l. old.names j x at l);
  }
