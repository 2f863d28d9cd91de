-- The members of an object, read one after the other as a loop does, each at the site of its position.
use Rattle.uc_case.proofs.Common.{◌≡◌, ℕ, ◌+◌, ◌<◌, List, [], ◌∷◌, ◌++◌, length, map, get_or, drop, Ok, refl, sym}
use Rattle.uc_case.proofs.Common.{subst, ◌∙◌, length-map, map_push, Pair, member_view, member_views, Member, goes_on}
use Rattle.uc_case.proofs.Common.{ends, site, each, position, Read, Site, FieldFault}
use Rattle.uc_model.specs.declared.kinds.Kind.{Kind}
use Rattle.uc_text.specs.Given.{Fails}
use Rattle.uc_field.specs.declared.fault.Field.{Field}
use Rattle.uc_text.specs.declared.stop.Stop.{Stop}

one_here : {A X : Type 0} (one : Site → Pair → Read A) (named : X → A) (field : Field) (kind : Kind) (p : Site)
    (front : List X) (n : ℕ) (v : Pair) → p ≡ site field kind (n + 1) → n ≡ length front →
    one p v ≡ one (site field kind (position (map named front))) v
one_here one named field kind p front n v p-is n-is = rw (p-is, n-is, length-map front named) refl

pub member_goes_on : {A X : Type 0} (one : Site → Pair → Read A) (named : X → A) (field : Field) (kind : Kind)
    (p : Site) (ms : List Member) (i : ℕ) (m : Member) (front : List X) (n : ℕ) (x : X) (total : Read (List A)) →
    i < length ms → m ≡ get_or ms i m
    → p ≡ site field kind (n + 1) → n ≡ length front → one p (member_view m) ≡ Ok (named x)
    → each (λ before. one (site field kind (position before))) (map named front) (member_views (drop i ms)) ≡ total →
    each (λ before. one (site field kind (position before))) (map named (front ++ x ∷ []))
    (member_views (drop (i + 1) ms)) ≡ total
member_goes_on one named field kind p ms i m front n x total lt is p-is n-is h so_far =
    rw (map_push named front x) (goes_on (λ before. one (site field kind (position before))) member_view ms i m
    (map named front) (named x) total lt is
    (sym (one_here one named field kind p front n (member_view m) p-is n-is) ∙ h) so_far)

pub member_ends : {A X : Type 0} (e : Stop FieldFault) (one : Site → Pair → Read A) (named : X → A) (field : Field)
    (kind : Kind) (p : Site) (ms : List Member) (i : ℕ) (m : Member) (front : List X) (n : ℕ) (total : Read (List A)) →
    i < length ms → m ≡ get_or ms i m
    → p ≡ site field kind (n + 1) → n ≡ length front → Fails e (one p (member_view m))
    → each (λ before. one (site field kind (position before))) (map named front) (member_views (drop i ms)) ≡ total →
    Fails e total
member_ends {A = A} e one named field kind p ms i m front n total lt is p-is n-is h so_far =
    ends e (λ before. one (site field kind (position before))) member_view ms i m (map named front) total lt is
    (subst (λ (r : Read A). Fails e r) (one_here one named field kind p front n (member_view m) p-is n-is) h) so_far
