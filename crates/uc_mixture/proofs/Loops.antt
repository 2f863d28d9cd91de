-- Entries and units, read one after the other as a loop does.
use Rattle.uc_mixture.proofs.Common.{◌≡◌, ℕ, ◌+◌, ◌<◌, ◌≤◌, List, [], ◌∷◌, ◌++◌, length, map, get_or, drop, Ok, refl}
use Rattle.uc_mixture.proofs.Common.{sym, subst, ◌∙◌, map_push, length-map, Value, Pair, view, views, Branch, Fails}
use Rattle.uc_mixture.proofs.Common.{Stop, goes_on, ends, is_done, each, position, WeighedSchedule, entry_of}
use Rattle.uc_mixture.proofs.Common.{entries_of, Read, entry, entries, named, units, names_of, site_of_unit, entry_at}
use Rattle.uc_mixture.proofs.Common.{Frame, ShareFault, ShareSite}
use Rattle.gap_proof.specs.declared.mixtures.Entry.{Entry}
use Rattle.plain_lists.specs.Reserved.{Reserved}
use Rattle.uc_model.specs.declared.units.NamedUnit.{NamedUnit}

-- ---- the entries of a unit

-- one of the entries, with those before it
abbrev pub one_entry : Frame → ShareSite → List WeighedSchedule → Value → Read WeighedSchedule
one_entry frame at before = entry frame (entry_at at (position before))

entry_here : (frame : Frame) (at p : ShareSite) (front : List Entry) (n : ℕ) (v : Value) → p ≡ entry_at at (n + 1) →
    n ≡ length front → entry frame p v ≡ one_entry frame at (map entry_of front) v
entry_here frame at p front n v p-is n-is = rw (p-is, n-is, length-map front entry_of) refl

pub entry_goes_on : (frame : Frame) (at p : ShareSite) (ts : List Branch) (i : ℕ) (t : Branch) (front : List Entry)
    (n : ℕ) (x : Entry) → i < length ts → t ≡ get_or ts i t → p ≡ entry_at at (n + 1) → n ≡ length front →
    entry frame p (view t) ≡ Ok (entry_of x)
    → each (one_entry frame at) (map entry_of front) (views (drop i ts)) ≡ entries frame at (views ts) →
    each (one_entry frame at) (map entry_of (front ++ x ∷ [])) (views (drop (i + 1) ts)) ≡ entries frame at
    (views ts)
entry_goes_on frame at p ts i t front n x lt is p-is n-is read so_far =
    rw (map_push entry_of front x) (goes_on (one_entry frame at) view ts i t (map entry_of front) (entry_of x)
    (entries frame at (views ts)) lt is (sym (entry_here frame at p front n (view t) p-is n-is) ∙ read) so_far)

pub entry_ends : (e : Stop ShareFault) (frame : Frame) (at p : ShareSite) (ts : List Branch) (i : ℕ) (t : Branch)
    (front : List Entry) (n : ℕ) → i < length ts → t ≡ get_or ts i t → p ≡ entry_at at (n + 1) → n ≡ length front →
    Fails e (entry frame p (view t))
    → each (one_entry frame at) (map entry_of front) (views (drop i ts)) ≡ entries frame at (views ts) →
    Fails e (entries frame at (views ts))
entry_ends e frame at p ts i t front n lt is p-is n-is fails so_far =
    ends e (one_entry frame at) view ts i t (map entry_of front) (entries frame at (views ts)) lt is
    (subst (λ (r : Read WeighedSchedule). Fails e r) (entry_here frame at p front n (view t) p-is n-is) fails)
    so_far

pub entries_done : (frame : Frame) (at : ShareSite) (ts : List Branch) (i : ℕ) (front : List Entry) → length ts ≤ i →
    each (one_entry frame at) (map entry_of front) (views (drop i ts)) ≡ entries frame at (views ts) →
    entries frame at (views ts) ≡ Ok (map entry_of front)
entries_done frame at ts i front le so_far =
    is_done (one_entry frame at) view ts i (map entry_of front) (entries frame at (views ts)) le so_far

pub entries_begin : (frame : Frame) (at : ShareSite) (ts : List Branch) →
    each (one_entry frame at) [] (views ts) ≡ entries frame at (views ts)
unfolding entries
entries_begin frame at ts = refl

-- ---- the units of a case

abbrev pub one_unit : Frame → List Pair → List (List WeighedSchedule) → List ℕ → Read (List WeighedSchedule)
one_unit frame ms before = named frame ms (site_of_unit (position before))

abbrev name_in : NamedUnit → List ℕ
name_in n = n.name.items

unit_here : (frame : Frame) (ms : List Pair) (p : ShareSite) (front : List (Reserved Entry)) (n : ℕ)
    (name told : List ℕ) → p ≡ site_of_unit (n + 1) → n ≡ length front → name ≡ told →
    named frame ms p name ≡ one_unit frame ms (map entries_of front) told
unit_here frame ms p front n name told p-is n-is name-is = rw (p-is, n-is, name-is, length-map front entries_of) refl

pub unit_goes_on : (frame : Frame) (ms : List Pair) (p : ShareSite) (us : List NamedUnit) (i : ℕ) (u : NamedUnit)
    (name : List ℕ) (front : List (Reserved Entry)) (n : ℕ) (x : Reserved Entry) → i < length us → u ≡ get_or us i u →
    p ≡ site_of_unit (n + 1) → n ≡ length front → name ≡ u.name.items → named frame ms p name ≡ Ok (entries_of x)
    → each (one_unit frame ms) (map entries_of front) (names_of (drop i us)) ≡ units frame ms (names_of us) →
    each (one_unit frame ms) (map entries_of (front ++ x ∷ [])) (names_of (drop (i + 1) us)) ≡ units frame ms
    (names_of us)
unit_goes_on frame ms p us i u name front n x lt is p-is n-is name-is read so_far =
    rw (map_push entries_of front x) (goes_on (one_unit frame ms) name_in us i u (map entries_of front) (entries_of x)
    (units frame ms (names_of us)) lt is
    (sym (unit_here frame ms p front n name u.name.items p-is n-is name-is) ∙ read) so_far)

pub unit_ends : (e : Stop ShareFault) (frame : Frame) (ms : List Pair) (p : ShareSite) (us : List NamedUnit) (i : ℕ)
    (u : NamedUnit) (name : List ℕ) (front : List (Reserved Entry)) (n : ℕ) → i < length us → u ≡ get_or us i u →
    p ≡ site_of_unit (n + 1) → n ≡ length front → name ≡ u.name.items → Fails e (named frame ms p name)
    → each (one_unit frame ms) (map entries_of front) (names_of (drop i us)) ≡ units frame ms (names_of us) →
    Fails e (units frame ms (names_of us))
unit_ends e frame ms p us i u name front n lt is p-is n-is name-is fails so_far =
    ends e (one_unit frame ms) name_in us i u (map entries_of front) (units frame ms (names_of us)) lt is
    (subst (λ (r : Read (List WeighedSchedule)). Fails e r)
    (unit_here frame ms p front n name u.name.items p-is n-is name-is) fails) so_far

pub units_done : (frame : Frame) (ms : List Pair) (us : List NamedUnit) (i : ℕ) (front : List (Reserved Entry)) →
    length us ≤ i → each (one_unit frame ms) (map entries_of front) (names_of (drop i us)) ≡ units frame ms
    (names_of us) → units frame ms (names_of us) ≡ Ok (map entries_of front)
units_done frame ms us i front le so_far =
    is_done (one_unit frame ms) name_in us i (map entries_of front) (units frame ms (names_of us)) le so_far

pub units_begin : (frame : Frame) (ms : List Pair) (us : List NamedUnit) →
    each (one_unit frame ms) [] (names_of us) ≡ units frame ms (names_of us)
unfolding units
units_begin frame ms us = refl
