-- Texts that are written one after another: lines of a list, and two or three texts.
use Rattle.report_form.proofs.Common.{◌≡◌, ℕ, ◌+◌, ◌<◌, ◌≤◌, List, ◌++◌, length, take, drop, get_or, Option, Result, Ok}
use Rattle.report_form.proofs.Common.{Err, IsErr, sym, ap, subst, ◌∙◌, take_all, flat_map, Gains, FallsShort, Writes}
use Rattle.report_form.proofs.Common.{flat_map_at, flat_map_up_to}
use Rattle.report_form.specs.Laws.{GainsAddUp}

module _ {S : Type 0} {held : S → Option (List ℕ)} {faults : S → ℕ} where
  -- all lines of a list
  pub all_items : {X E : Type 0} {last : Option ℕ} {old new : S} (f : X → List ℕ) (xs : List X) (i : ℕ) →
      length xs ≤ i → Gains held faults old new (flat_map f (take i xs))
      → (let r : Result (Unit {0}) E = Ok tt in Writes held faults last old new r (flat_map f xs))
  all_items {X = X} {old = old} {new = new} f xs i h p =
      record { ok = subst (λ (ys : List X). Gains held faults old new (flat_map f ys)) (take_all i xs h) p; err = tt }

  -- a text that is another
  pub writes_same : {E : Type 0} {last : Option ℕ} {old new : S} {r : Result (Unit {0}) E} {a b : List ℕ} →
      a ≡ b → Writes held faults last old new r a → Writes held faults last old new r b
  writes_same {last = last} {old = old} {new = new} {r = r} same w = subst (Writes held faults last old new r) same w

  -- the exit of a `?`
  writes_exit : {E : Type 0} {last : Option ℕ} {old new : S} (text : List ℕ) (r : Result (Unit {0}) E) →
      IsErr r → FallsShort held faults last old new text → Writes held faults last old new r text
  writes_exit text (Ok u) e h = cc
  writes_exit text (Err d) e h = record { ok = tt; err = h }

module _ {S : Type 0} {held : S → Option (List ℕ)} {faults : S → ℕ} {last : Option ℕ}
    (law : GainsAddUp held faults last) where
  -- one line more of a list
  pub gains_at_item : {X : Type 0} {old mid new : S} (f : X → List ℕ) (xs : List X) (i : ℕ) (x : X) →
      i < length xs → x ≡ get_or xs i x → Gains held faults mid new (f x) →
      Gains held faults old mid (flat_map f (take i xs)) → Gains held faults old new (flat_map f (take (i + 1) xs))
  gains_at_item {old = old} {new = new} f xs i x h at q p =
      subst (Gains held faults old new)
      (ap (λ y. flat_map f (take i xs) ++ f y) at ∙ sym (flat_map_up_to f xs i x h)) (law.gains_then _ _ q p)

  -- the exit of a `?` in a loop over such a list
  pub exit_at_item : {X E : Type 0} {old mid new : S} (f : X → List ℕ) (xs : List X) (i : ℕ) (x : X)
      (r : Result (Unit {0}) E) → IsErr r → i < length xs →
      x ≡ get_or xs i x → FallsShort held faults last mid new (f x) →
      Gains held faults old mid (flat_map f (take i xs)) → Writes held faults last old new r (flat_map f xs)
  exit_at_item {old = old} {new = new} f xs i x r e h at q p =
      let rest = flat_map f (drop (i + 1) xs) in
      writes_exit _ r e (subst (FallsShort held faults last old new)
      (ap (λ y. flat_map f (take i xs) ++ f y ++ rest) at ∙ sym (flat_map_at f xs i x h))
      (law.short_more _ rest (law.short_then _ _ q p)))

  -- ---- two texts, one after another: the exit of a `?`, and the last writer

  pub first_of_two : {E : Type 0} {old new : S} (a b : List ℕ) (r : Result (Unit {0}) E) → IsErr r
      → FallsShort held faults last old new a → Writes held faults last old new r (a ++ b)
  first_of_two a b r e h = writes_exit (a ++ b) r e (law.short_more a b h)

  pub last_of_two : {E : Type 0} {old mid new : S} (a b : List ℕ) (r : Result (Unit {0}) E)
      → Writes held faults last mid new r b → Gains held faults old mid a →
      Writes held faults last old new r (a ++ b)
  last_of_two a b (Ok u) w p = record { ok = law.gains_then a b w.ok p; err = tt }
  last_of_two a b (Err e) w p = record { ok = tt; err = law.short_then a b w.err p }

  -- ---- three texts, one after another: the exits of two `?`, and the last writer

  pub first_of_three : {E : Type 0} {old new : S} (a b d : List ℕ) (r : Result (Unit {0}) E) → IsErr r
      → FallsShort held faults last old new a → Writes held faults last old new r (a ++ b ++ d)
  first_of_three a b d r e h = writes_exit (a ++ b ++ d) r e (law.short_more (a ++ b) d (law.short_more a b h))

  pub second_of_three : {E : Type 0} {old mid new : S} (a b d : List ℕ) (r : Result (Unit {0}) E) → IsErr r
      → FallsShort held faults last mid new b → Gains held faults old mid a →
      Writes held faults last old new r (a ++ b ++ d)
  second_of_three a b d r e h p = writes_exit (a ++ b ++ d) r e (law.short_more (a ++ b) d (law.short_then a b h p))

  pub last_of_three : {E : Type 0} {old mid later new : S} (a b d : List ℕ) (r : Result (Unit {0}) E)
      → Writes held faults last later new r d → Gains held faults mid later b →
      Gains held faults old mid a → Writes held faults last old new r (a ++ b ++ d)
  last_of_three a b d (Ok u) w q p = record { ok = law.gains_then (a ++ b) d w.ok (law.gains_then a b q p); err = tt }
  last_of_three a b d (Err e) w q p = record { ok = tt; err = law.short_then (a ++ b) d w.err (law.gains_then a b q p) }
