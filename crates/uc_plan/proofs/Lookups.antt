-- Look-ups by name, while a map or a set of names is filled from the last one on.
use Rattle.uc_plan.proofs.Common.{◌≡◌, ℕ, suc, ◌+◌, ◌-◌, ◌<◌, ◌≤◌, Bool, true, false, cond, List, [], length, map}
use Rattle.uc_plan.proofs.Common.{get_or, drop, Option, Some, None, bytes_eq, refl, sym, ap, ◌∙◌, if◌then◌else◌}
use Rattle.uc_plan.proofs.Common.{drop-cons, add-one, arith, option_map, nil_from_length, length-drop, view}
use Rattle.uc_plan.proofs.Common.{member_view, member_views, Branch, Member, value_under, is_among, first_unknown}

-- nothing is left behind the last one
all_dropped : {A : Type 0} (xs : List A) (n : ℕ) → length xs ≤ n → drop n xs ≡ []
all_dropped xs n le = nil_from_length (drop n xs) (omega (arith, length-drop n xs))

-- an empty map has what no member has
pub none_yet : (q : List ℕ) (ms : List Member) → value_under q (member_views (drop (length ms - 0) ms)) ≡ None
unfolding value_under
none_yet q ms = ap (λ rest. value_under q (member_views rest)) (all_dropped ms (length ms - 0) (omega arith))

seen_cond : (b : Bool) (t : Branch) (old : Option Branch) →
    option_map view (cond b (Some t) old) ≡ cond b (Some (view t)) (option_map view old)
seen_cond true t old = refl
seen_cond false t old = refl

value_split : (q : List ℕ) (ms : List Member) (i : ℕ) (m : Member) → i < length ms → m ≡ get_or ms i m
    → value_under q (member_views (drop i ms)) ≡ cond (bytes_eq (member_view m).name q) (Some (member_view m).value)
    (value_under q (member_views (drop (i + 1) ms)))
unfolding value_under
value_split q ms i m lt is = rw (drop-cons ms i m lt, ← is, add-one i) refl

-- one member more, before those that are in the map
pub put_member : (q name : List ℕ) (ms : List Member) (done : ℕ) (m : Member) (t : Branch) (old new : Option Branch) →
    done < length ms → m ≡ get_or ms (length ms - 1 - done) m
    → name ≡ (member_view m).name → view t ≡ (member_view m).value → new ≡ cond (bytes_eq name q) (Some t) old
    → option_map view old ≡ value_under q (member_views (drop (length ms - done) ms)) →
    option_map view new ≡ value_under q (member_views (drop (length ms - (done + 1)) ms))
put_member q name ms done m t old new lt is name_is value_is put before =
    let i = length ms - 1 - done in
    let here : length ms - (done + 1) ≡ length ms - 1 - done = omega (arith, lt) in
    let behind : length ms - 1 - done + 1 ≡ length ms - done = omega (arith, lt) in
    let inside : length ms - 1 - done < length ms = omega (arith, lt) in
    let step = value_split q ms (length ms - 1 - done) m inside is in
    rw (here, step, behind, put, seen_cond (bytes_eq name q) t old, before, name_is, value_is) refl

among_split : {N : Type 0} (name_of : N → List ℕ) (q : List ℕ) (us : List N) (i : ℕ) (u : N) → i < length us →
    u ≡ get_or us i u
    → is_among q (map name_of (drop i us)) ≡ cond (bytes_eq (name_of u) q) true
    (is_among q (map name_of (drop (i + 1) us)))
among_split name_of q us i u lt is = rw (drop-cons us i u lt, ← is, add-one i) refl

-- one name more, before those that are in the set
pub put_name : {N : Type 0} (name_of : N → List ℕ) (q name : List ℕ) (us : List N) (done : ℕ) (u : N) (old new : Bool) →
    done < length us → u ≡ get_or us (length us - 1 - done) u → name ≡ name_of u
    → new ≡ cond (bytes_eq name q) true old → old ≡ is_among q (map name_of (drop (length us - done) us)) →
    new ≡ is_among q (map name_of (drop (length us - (done + 1)) us))
put_name name_of q name us done u old new lt is name_is put before =
    let here : length us - (done + 1) ≡ length us - 1 - done = omega (arith, lt) in
    let behind : length us - 1 - done + 1 ≡ length us - done = omega (arith, lt) in
    let inside : length us - 1 - done < length us = omega (arith, lt) in
    let step = among_split name_of q us (length us - 1 - done) u inside is in
    rw (here, step, behind, put, before, name_is) refl

pub no_name : {N : Type 0} (name_of : N → List ℕ) (q : List ℕ) (us : List N) →
    is_among q (map name_of (drop (length us - 0) us)) ≡ false
no_name name_of q us = ap (λ rest. is_among q (map name_of rest)) (all_dropped us (length us - 0) (omega arith))

-- ---- the first member whose name isn't known

unknown_split : (ns : List (List ℕ)) (ms : List Member) (k i : ℕ) (m : Member) → i < length ms → m ≡ get_or ms i m
    → first_unknown ns k (member_views (drop i ms))
    ≡ (if is_among (member_view m).name ns then first_unknown ns (suc k) (member_views (drop (i + 1) ms)) else k)
unknown_split ns ms k i m lt is = rw (drop-cons ms i m lt, ← is, add-one i) refl

pub unknown_here : (ns : List (List ℕ)) (ms : List Member) (k i total : ℕ) (m : Member) → i < length ms →
    m ≡ get_or ms i m → is_among (member_view m).name ns ≡ false →
    first_unknown ns k (member_views (drop i ms)) ≡ total → k ≡ total
unknown_here ns ms k i total m lt is strange so_far = sym (unknown_split ns ms k i m lt is ∙ rw strange refl) ∙ so_far

pub unknown_later : (ns : List (List ℕ)) (ms : List Member) (k i total : ℕ) (m : Member) → i < length ms →
    m ≡ get_or ms i m → is_among (member_view m).name ns ≡ true →
    first_unknown ns k (member_views (drop i ms)) ≡ total →
    first_unknown ns (k + 1) (member_views (drop (i + 1) ms)) ≡ total
unknown_later ns ms k i total m lt is known so_far =
    sym (unknown_split ns ms k i m lt is ∙ rw (known, add-one k) refl) ∙ so_far

pub unknown_none : (ns : List (List ℕ)) (ms : List Member) (k i total : ℕ) → length ms ≤ i →
    first_unknown ns k (member_views (drop i ms)) ≡ total → 0 ≡ total
unknown_none ns ms k i total le so_far =
    sym (ap (λ rest. first_unknown ns k (member_views rest)) (all_dropped ms i le)) ∙ so_far
