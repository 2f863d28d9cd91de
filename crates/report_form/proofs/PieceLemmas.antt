-- Texts that are written in pieces.
use Rattle.report_form.proofs.Common.{◌≡◌, ℕ, ◌+◌, ◌<◌, List, [], ◌++◌, length, take, drop, get_or, Option, Result}
use Rattle.report_form.proofs.Common.{Ok, Err, IsErr, refl, sym, ap, subst, ◌∙◌, append_assoc, append-nil}
use Rattle.report_form.proofs.Common.{flat_map, flat_map_at, flat_map_up_to, Gains, FallsShort, Writes, Pends, Adds}
use Rattle.report_form.proofs.GrownLemmas.{gains_nothing, gains_then, short_then, short_more}

-- the more behind a text that is a front and what waits
joined : (text more front waiting : List ℕ) → text ≡ front ++ waiting → text ++ more ≡ front ++ (waiting ++ more)
joined text more front waiting e = ap (λ t. t ++ more) e ∙ append_assoc front waiting more

module _ {S : Type 0} {held : S → Option (List ℕ)} {faults : S → ℕ} where
  -- all of it waits
  pub pends_all : (s : S) (text : List ℕ) → Pends held faults s s text text
  pends_all s text = record { front = []; gained = gains_nothing s; joins = refl }

  -- a front was gained, and all behind it waits
  pub pends_rest : {old new : S} (front waiting : List ℕ) → Gains held faults old new front →
      Pends held faults old new waiting (front ++ waiting)
  pends_rest front waiting h = record { front = front; gained = h; joins = refl }

  -- more was added to what waited
  pub pends_then : {old mid new : S} (waiting later text more : List ℕ) →
      Pends held faults mid new later (waiting ++ more) → Pends held faults old mid waiting text →
      Pends held faults old new later (text ++ more)
  pends_then waiting later text more q p = record {
    front = p.front ++ q.front;
    gained = gains_then p.front q.front q.gained p.gained;
    joins = joined text more p.front waiting p.joins ∙ ap (λ t. p.front ++ t) q.joins ∙
        sym (append_assoc p.front q.front later);
  }

  -- more fell short behind what waited
  pub short_behind : {last : Option ℕ} {old mid new : S} (waiting text more : List ℕ) →
      FallsShort held faults last mid new (waiting ++ more) → Pends held faults old mid waiting text →
      FallsShort held faults last old new (text ++ more)
  short_behind {last = last} {old = old} {new = new} waiting text more q p =
      subst (FallsShort held faults last old new) (sym (joined text more p.front waiting p.joins))
      (short_then p.front (waiting ++ more) q p.gained)

  -- the text may be said in another way
  pub adds_same : {E : Type 0} {last : Option ℕ} {old new : S} {r : Result (Unit {0}) E}
      {before after text other : List ℕ} → text ≡ other
      → Adds held faults last old new r before after text → Adds held faults last old new r before after other
  adds_same {last = last} {old = old} {new = new} {r = r} {before = before} {after = after} e h =
      subst (Adds held faults last old new r before after) e h

  -- ---- adding one text and then another

  -- nothing was added
  pub adds_nothing : {E : Type 0} {last : Option ℕ} (s : S) (before : List ℕ) →
      Adds held faults {T = Unit {0}} {E = E} last s s (Ok tt) before before []
  adds_nothing s before =
      record { ok = subst (Pends held faults s s before) (sym (append-nil before)) (pends_all s before); err = tt }

  -- one text whole, and then what an adder of more did
  pub adds_then : {E : Type 0} {last : Option ℕ} {old mid new : S} (before waiting later text more : List ℕ)
      (r : Result (Unit {0}) E)
      → Adds held faults last mid new r waiting later more → Pends held faults old mid waiting (before ++ text) →
      Adds held faults last old new r before later (text ++ more)
  adds_then {old = old} {new = new} before waiting later text more (Ok u) q p = record {
    ok = subst (Pends held faults old new later) (append_assoc before text more)
        (pends_then waiting later (before ++ text) more q.ok p);
    err = tt;
  }
  adds_then {last = last} {old = old} {new = new} before waiting later text more (Err e) q p = record {
    ok = tt;
    err = subst (FallsShort held faults last old new) (append_assoc before text more)
        (short_behind waiting (before ++ text) more q.err p);
  }

  -- the exit of a `?` behind the first of two texts
  pub adds_exit : {E : Type 0} {last : Option ℕ} {old new : S} (before later text more : List ℕ)
      (r : Result (Unit {0}) E) → IsErr r
      → FallsShort held faults last old new (before ++ text) →
      Adds held faults last old new r before later (text ++ more)
  adds_exit before later text more (Ok u) e h = cc
  adds_exit {last = last} {old = old} {new = new} before later text more (Err d) e h = record {
    ok = tt;
    err = subst (FallsShort held faults last old new) (append_assoc before text more)
        (short_more (before ++ text) more h);
  }

  -- ---- a piece that has no room is written

  -- where that fell short
  pub adds_short : {E : Type 0} {last : Option ℕ} {old new : S} (before later text : List ℕ) (r : Result (Unit {0}) E) →
      IsErr r
      → FallsShort held faults last old new before → Adds held faults last old new r before later text
  adds_short before later text (Ok u) e h = cc
  adds_short before later text (Err d) e h = record { ok = tt; err = short_more before text h }

  -- then the text is written at once
  pub adds_whole : {E : Type 0} {last : Option ℕ} {old mid new : S} (before text : List ℕ) (r : Result (Unit {0}) E)
      → Writes held faults last mid new r text → Gains held faults old mid before →
      Adds held faults last old new r before [] text
  adds_whole {old = old} {new = new} before text (Ok u) q p = record {
    ok = subst (Pends held faults old new []) (append-nil (before ++ text))
        (pends_rest (before ++ text) [] (gains_then before text q.ok p));
    err = tt;
  }
  adds_whole before text (Err e) q p = record { ok = tt; err = short_then before text q.err p }

  -- ---- the texts of a list, one after another

  pub pends_in_list : {X : Type 0} {old mid new : S} (f : X → List ℕ) (xs : List X) (i : ℕ) (d : X)
      (before waiting later : List ℕ) → i < length xs
      → Pends held faults mid new later (waiting ++ f (get_or xs i d)) →
      Pends held faults old mid waiting (before ++ flat_map f (take i xs)) →
      Pends held faults old new later (before ++ flat_map f (take (i + 1) xs))
  pends_in_list {old = old} {new = new} f xs i d before waiting later h q p =
      let front = flat_map f (take i xs) in
      subst (Pends held faults old new later) (append_assoc before front (f (get_or xs i d)) ∙
      ap (λ t. before ++ t) (sym (flat_map_up_to f xs i d h))) (pends_then waiting later (before ++ front) _ q p)

  short_in_list : {X : Type 0} {last : Option ℕ} {old mid new : S} (f : X → List ℕ) (xs : List X) (i : ℕ) (d : X)
      (before waiting : List ℕ) → i < length xs
      → FallsShort held faults last mid new (waiting ++ f (get_or xs i d)) →
      Pends held faults old mid waiting (before ++ flat_map f (take i xs)) →
      FallsShort held faults last old new (before ++ flat_map f xs)
  short_in_list {last = last} {old = old} {new = new} f xs i d before waiting h q p =
      let front = flat_map f (take i xs) in
      let behind = flat_map f (drop (i + 1) xs) in
      subst (FallsShort held faults last old new)
      (ap (λ t. t ++ behind) (append_assoc before front (f (get_or xs i d))) ∙
      append_assoc before (front ++ f (get_or xs i d)) behind ∙
      ap (λ t. before ++ t) (sym (flat_map_at f xs i d h)))
      (short_more _ behind (short_behind waiting (before ++ front) _ q p))

  -- the exit of a `?` in a loop that adds them
  pub adds_exit_in_list : {X E : Type 0} {last : Option ℕ} {old mid new : S} (f : X → List ℕ) (xs : List X) (i : ℕ)
      (d : X) (before waiting later : List ℕ) (r : Result (Unit {0}) E) → IsErr r → i < length xs
      → FallsShort held faults last mid new (waiting ++ f (get_or xs i d)) →
      Pends held faults old mid waiting (before ++ flat_map f (take i xs)) →
      Adds held faults last old new r before later (flat_map f xs)
  adds_exit_in_list f xs i d before waiting later (Ok u) e h q p = cc
  adds_exit_in_list f xs i d before waiting later (Err b) e h q p =
      record { ok = tt; err = short_in_list f xs i d before waiting h q p }

-- for a call that adds bytes to a piece
pub ruleset bytes_added = (pends_all, pends_rest, adds_whole)
