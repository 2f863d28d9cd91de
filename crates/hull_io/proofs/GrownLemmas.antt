-- How what a sink holds grows, one gain after another.
use Rattle.std.proofs.Common.{◌≡◌, ℕ, ◌+◌, ◌-◌, ◌<◌, ◌≤◌, List, [], ◌∷◌, ◌++◌, length, take, drop, get_or, Option, None}
use Rattle.std.proofs.Common.{Some, Result, Ok, Err, IsErr, refl, sym, ap, subst, ◌∙◌, inl, inr, arith, append_assoc}
use Rattle.std.proofs.Common.{take-add}
use Rattle.std.proofs.lemmas.List.{append-nil, take-append-drop, take_rest, take_more, drop_more}
use Rattle.std.proofs.lemmas.List.Concat.{flat_map-append}
use Rattle.std.specs.List.{flat_map}
use Rattle.hull_io.specs.Edge.{Rose, grown, Gains, FallsShort, Writes}

pub grown_nothing : (o : Option (List ℕ)) → grown o [] ≡ o
grown_nothing None = refl
grown_nothing (Some bytes) = ap Some (append-nil bytes)

pub grown-grown : (o : Option (List ℕ)) (a b : List ℕ) → grown (grown o a) b ≡ grown o (a ++ b)
grown-grown None a b = refl
grown-grown (Some bytes) a b = ap Some (append_assoc bytes a b)

-- a later start, or a count that goes on, leaves what rose risen
pub rose_wider : (last : Option ℕ) (a b c d : ℕ) → a ≤ b → Rose last b c → c ≤ d → Rose last a d
rose_wider None a b c d p h q = omega arith
rose_wider (Some most) a b c d p (inl h) q = inl (omega arith)
rose_wider (Some most) a b c d p (inr h) q = inr (omega arith)

-- a front, and what is taken next of the rest
pub take_next : (at n : ℕ) (piece : List ℕ) →
    take at piece ++ take n (take (length piece - at) (drop at piece)) ≡ take (at + n) piece
take_next at n piece = ap (λ r. take at piece ++ take n r) (take_rest piece at) ∙ sym (take-add at n piece)

-- a front of the piece was gained, and n bytes of the rest of it
pub gains_next : (first second third : Option (List ℕ)) (at n : ℕ) (piece : List ℕ) →
    second ≡ grown first (take at piece) → third ≡ grown second (take n (take (length piece - at) (drop at piece))) →
    third ≡ grown first (take (at + n) piece)
gains_next first second third at n piece p q =
    q ∙ ap (λ o. grown o (take n (take (length piece - at) (drop at piece)))) p ∙ grown-grown first _ _ ∙
    ap (grown first) (take_next at n piece)

-- the texts of a list, before a place, at it and after it
pub flat_map_at : {X : Type 0} (f : X → List ℕ) (xs : List X) (i : ℕ) (d : X) → i < length xs →
    flat_map f xs ≡ flat_map f (take i xs) ++ f (get_or xs i d) ++ flat_map f (drop (i + 1) xs)
flat_map_at f xs i d h =
    ap (flat_map f) (sym (take-append-drop i xs)) ∙ flat_map-append f (take i xs) (drop i xs)
    ∙ ap (λ t. flat_map f (take i xs) ++ flat_map f t) (drop_more xs i d h) ∙
    sym (append_assoc (flat_map f (take i xs)) (f (get_or xs i d)) (flat_map f (drop (i + 1) xs)))

-- and up to the place after it
flat_map_up_to : {X : Type 0} (f : X → List ℕ) (xs : List X) (i : ℕ) (d : X) → i < length xs →
    flat_map f (take (i + 1) xs) ≡ flat_map f (take i xs) ++ f (get_or xs i d)
flat_map_up_to f xs i d h =
    ap (flat_map f) (take_more xs i d h) ∙ flat_map-append f (take i xs) (get_or xs i d ∷ [])
    ∙ ap (λ t. flat_map f (take i xs) ++ t) (append-nil (f (get_or xs i d)))

module _ {S : Type 0} {held : S → Option (List ℕ)} {faults : S → ℕ} where
  -- nothing was written
  pub gains_nothing : (s : S) → Gains held faults s s []
  gains_nothing s = record { gained = sym (grown_nothing (held s)); later = omega arith }

  -- one text whole, and then more
  pub gains_then : {old mid new : S} (a b : List ℕ) → Gains held faults mid new b → Gains held faults old mid a →
      Gains held faults old new (a ++ b)
  gains_then {old = old} a b q p = record {
    gained = q.gained ∙ ap (λ o. grown o b) p.gained ∙ grown-grown (held old) a b;
    later = omega (arith, p.later, q.later);
  }

  -- one text whole, and then a front of more
  pub short_then : {last : Option ℕ} {old mid new : S} (a b : List ℕ) → FallsShort held faults last mid new b →
      Gains held faults old mid a → FallsShort held faults last old new (a ++ b)
  short_then {last = last} {old = old} a b q p = record {
    front = a ++ q.front;
    rest = q.rest;
    begins = ap (λ x. a ++ x) q.begins ∙ sym (append_assoc a q.front q.rest);
    gained = q.gained ∙ ap (λ o. grown o q.front) p.gained ∙ grown-grown (held old) a q.front;
    rose = rose_wider last _ _ _ _ p.later q.rose (omega arith);
    later = omega (arith, p.later, q.later);
  }

  -- where one text was cut short, so is a longer one
  pub short_more : {last : Option ℕ} {old new : S} (a b : List ℕ) → FallsShort held faults last old new a →
      FallsShort held faults last old new (a ++ b)
  short_more a b h = record {
    front = h.front;
    rest = h.rest ++ b;
    begins = ap (λ x. x ++ b) h.begins ∙ append_assoc h.front h.rest b;
    gained = h.gained;
    rose = h.rose;
    later = h.later;
  }

  -- one text whole, and then what a writer of more did
  pub writes_then : {E : Type 0} {last : Option ℕ} {old mid new : S} (a b : List ℕ) (r : Result (Unit {0}) E) →
      Writes held faults last mid new r b → Gains held faults old mid a → Writes held faults last old new r (a ++ b)
  writes_then a b (Ok u) q p = record { ok = gains_then a b q.ok p; err = tt }
  writes_then a b (Err e) q p = record { ok = tt; err = short_then a b q.err p }

  -- the exit of a `?`
  pub writes_exit : {E : Type 0} {last : Option ℕ} {old new : S} (text : List ℕ) (r : Result (Unit {0}) E) → IsErr r →
      FallsShort held faults last old new text → Writes held faults last old new r text
  writes_exit text (Ok u) e h = cc
  writes_exit text (Err d) e h = record { ok = tt; err = h }

  -- the texts of a list, one after another
  pub gains_in_list : {X : Type 0} {old mid new : S} (f : X → List ℕ) (xs : List X) (i : ℕ) (d : X) → i < length xs →
      Gains held faults mid new (f (get_or xs i d)) → Gains held faults old mid (flat_map f (take i xs)) →
      Gains held faults old new (flat_map f (take (i + 1) xs))
  gains_in_list {old = old} {new = new} f xs i d h q p =
      subst (Gains held faults old new) (sym (flat_map_up_to f xs i d h)) (gains_then _ _ q p)

  pub short_in_list : {X : Type 0} {last : Option ℕ} {old mid new : S} (f : X → List ℕ) (xs : List X) (i : ℕ) (d : X) →
      i < length xs → FallsShort held faults last mid new (f (get_or xs i d)) →
      Gains held faults old mid (flat_map f (take i xs)) → FallsShort held faults last old new (flat_map f xs)
  short_in_list {last = last} {old = old} {new = new} f xs i d h q p =
      subst (FallsShort held faults last old new) (sym (flat_map_at f xs i d h))
      (short_more _ (flat_map f (drop (i + 1) xs)) (short_then _ _ q p))

  -- the exit of a `?` in a loop over such a list
  pub exit_in_list : {X E : Type 0} {last : Option ℕ} {old mid new : S} (f : X → List ℕ) (xs : List X) (i : ℕ) (d : X)
      (r : Result (Unit {0}) E) → IsErr r → i < length xs → FallsShort held faults last mid new (f (get_or xs i d)) →
      Gains held faults old mid (flat_map f (take i xs)) → Writes held faults last old new r (flat_map f xs)
  exit_in_list f xs i d r e h q p = writes_exit _ r e (short_in_list f xs i d h q p)

  -- the same where the element was read as `x`
  pub gains_at_item : {X : Type 0} {old mid new : S} (f : X → List ℕ) (xs : List X) (i : ℕ) (x : X) → i < length xs →
      x ≡ get_or xs i x → Gains held faults mid new (f x) → Gains held faults old mid (flat_map f (take i xs)) →
      Gains held faults old new (flat_map f (take (i + 1) xs))
  gains_at_item {mid = mid} {new = new} f xs i x h is q p =
      gains_in_list f xs i x h (subst (λ y. Gains held faults mid new (f y)) is q) p

  pub exit_at_item : {X E : Type 0} {last : Option ℕ} {old mid new : S} (f : X → List ℕ) (xs : List X) (i : ℕ) (x : X)
      (r : Result (Unit {0}) E) → IsErr r → i < length xs → x ≡ get_or xs i x →
      FallsShort held faults last mid new (f x) → Gains held faults old mid (flat_map f (take i xs)) →
      Writes held faults last old new r (flat_map f xs)
  exit_at_item {last = last} {mid = mid} {new = new} f xs i x r e h at q p =
      exit_in_list f xs i x r e h (subst (λ y. FallsShort held faults last mid new (f y)) at q) p
