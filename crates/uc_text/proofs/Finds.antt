-- A key looked for, member by member.
use Rattle.uc_text.proofs.Common.{◌≡◌, ℕ, suc, ◌+◌, ◌<◌, List, ◌∷◌, length, get_or, drop, Some, cond, bytes_eq, refl}
use Rattle.uc_text.proofs.Common.{sym, ap, ◌∙◌, drop-cons, add-one, member_view, member_views, Member}
unfoldable use Rattle.uc_text.specs.Inside.{value_under}

pub value_step : (key : List ℕ) (ms : List Member) (i : ℕ) (m : Member) → i < length ms → m ≡ get_or ms i m
    → value_under key (member_views (drop i ms)) ≡ cond (bytes_eq (member_view m).name key) (Some (member_view m).value)
    (value_under key (member_views (drop (i + 1) ms)))
unfolding value_under
value_step key ms i m lt is =
    let split : drop i ms ≡ m ∷ drop (suc i) ms =
    drop-cons ms i m lt ∙ ap (λ (x : Member). x ∷ drop (suc i) ms) (sym is) in
    rw (split, add-one i) refl
