-- The rule at the start.
use Rattle.board_share.proofs.Common.{⊎_elim, ◌≡◌, ℕ, zero, suc, ◌<◌, ◌≤◌, [], ◌∷◌, length, subst, sym, ◌∙◌, refl}
use Rattle.board_share.proofs.Common.{arith, lit<, All, Contains, some, some-injective, some-ne-none, get_elem?}
use Rattle.board_share.proofs.Common.{opening, Content, BoardEvent, caller_of, idle, turn, View, first_view, live_count}
use Rattle.board_share.proofs.Common.{Shared, Sees, home, HasTicket, Joined}
use Rattle.board_share.proofs.SlotSteps.{same_board}
use Rattle.board_share.proofs.Outs.{in_cons, in_none}
use Rattle.board_share.proofs.HistorySteps.{sees_all, all_one}

-- the only element of a list of one
pub only : {A : Type 0} (a b : A) (j : ℕ) → get_elem? (a ∷ []) j ≡ some b → (j ≡ 0) × (a ≡ b)
only a b zero e = (refl, some-injective a b e)
only a b (suc j) e = absurd (some-ne-none b (sym e))

each_only : {A : Type 0} (P : ℕ → A → Type 0) (a : A) → P 0 a → (j : ℕ) (b : A) → get_elem? (a ∷ []) j ≡ some b → P j b
each_only P a p j b e = let o = only a b j e in subst (λ (x : ℕ × _). P x.0 x.1) (λ i. (sym o.0 i, o.1 i)) p

turn_idle : (t : ℕ) → idle ≡ turn t → ⊥
turn_idle t e = cc

has_zero : Contains {X = ℕ} (0 ∷ []) 0
has_zero = (0, lit< tt, refl)

pub starts : (b : Content) → All (λ (e : BoardEvent). (caller_of e) ≡ 0) b.events →
    Shared b (opening (length b.events ∷ 0 ∷ 0 ∷ []) (b ∷ []) (first_view b))
starts b own = let v : View = first_view b in record {
  serving = 0;
  next = 0;
  spot = home;
  history = b.events;
  made = 1;
  out = 0 ∷ [];
  wide = refl;
  tickets = record {
    next_is = refl;
    serving_is = refl;
    counted = refl;
    in_range = each_only (λ j x. (t : ℕ) → HasTicket x.stage t → (0 ≤ t) × (t < 0)) v (λ t h. absurd h);
    differ = λ i u j x a c t h k. (only v u i a).0 ∙ sym (only v x j c).0;
  };
  slot = record {
    lies = (b, refl);
    turns =
        each_only (λ j x. (t : ℕ) → x.stage ≡ turn t → home ≡ _) v (λ t e. absurd (turn_idle t e));
  };
  counted = record {
    length_is = refl;
    kept = λ c at. same_board (some (some b)) b c refl at;
    held = each_only (λ j x. (t : ℕ) → x.stage ≡ turn t → x.seen ≡ b.events) v (λ t e. absurd (turn_idle t e));
    sees = each_only (λ j x. live_count x.stage ≡ 1 → Sees x b.events) v (λ _. sees_all v b.events refl);
    names = each_only (λ j x. live_count x.stage ≡ 1 → x.setup ≡ b.setup) v (λ _. refl);
  };
  callers = record {
    few = omega arith;
    limit = omega arith;
    owner = v;
    owner_at = refl;
    owner_is = (refl, refl, refl, refl);
    outs = each_only (λ j x. live_count x.stage ≡ 1 → Contains (0 ∷ []) x.caller) v (λ _. has_zero);
    each_out = λ c h. (
      0,
      v,
      refl,
      refl,
      ⊎_elim (λ (e : 0 ≡ c). e) (λ (t : Contains [] c). absurd (in_none c t)) (in_cons 0 [] c h),
    );
    apart = λ i u j x a c _ _ _. (only v u i a).0 ∙ sym (only v x j c).0;
    differ = ((λ h. let lt = h.1 in absurd (omega arith)), tt);
    below = all_one (λ c. c < 1) 0 (omega arith);
    events_below = λ k d lt. let e = own k d lt in omega arith;
    joins = each_only (λ j x. Joined x x.stage) v tt;
  };
}
