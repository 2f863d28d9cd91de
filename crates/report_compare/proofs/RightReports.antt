-- The right report, and its lines in the order of the units' numbers.
use Rattle.report_compare.proofs.Common.{◌≡◌, ℕ, suc, ◌+◌, ◌-◌, ◌<◌, ◌≤◌, ℤ, pos, Bool, true, false, cond, Some, List}
use Rattle.report_compare.proofs.Common.{[], ◌∷◌, ◌++◌, map, length, refl, sym, ap, ◌∙◌, subst, arith, append_assoc}
use Rattle.report_compare.proofs.Common.{length-append, slice_get, slice_index_or, AllZip, flat_map, range_with_len}
use Rattle.report_compare.proofs.Common.{get_or_default, same_lists, length-map, length-map-range_with_len}
use Rattle.report_compare.proofs.Common.{get_or-map-range_with_len, Kind, AnyUnit, Thermal, Flat, Bid, NamedThermalUnit}
use Rattle.report_compare.proofs.Common.{NamedRenewableUnit, NamedBidUnit, Schedule, Market, units, unit_count}
use Rattle.report_compare.proofs.Common.{thermal_names, renewable_names, bid_names, IsTop, Proposal, chosen_number}
use Rattle.report_compare.proofs.Common.{HasTotals, IsRun, Fits, plan_cost, IsSettled, UnitLine, IsRightReport}
use Rattle.report_compare.proofs.Common.{AreInOrder, Told, rank, same_kind, lines_of, unit_lines, told_lines, Title}
use Rattle.report_compare.proofs.Common.{titles_of, titles, Answers, idle, line_at, told_from, right_of}
use Rattle.uc_model.specs.declared.kinds.Kind.TheVariants as kinds
use Rattle.right_report.specs.RecordReport.{lines_from}

-- ---- lines by numbers

module _ (line : ℕ → List ℕ → UnitLine) where
  lines_map : {X : Type 0} (part : UnitLine → X) (of : ℕ → X) → ((k : ℕ) (name : List ℕ) → part (line k name) ≡ of k) →
      (first : ℕ) (names : List (List ℕ)) →
      map part (lines_from line first names) ≡ map of (range_with_len first (length names))
  lines_map part of same first [] = refl
  lines_map {X} part of same first (name ∷ names) =
      ap (λ (x : X). x ∷ map part (lines_from line (first + 1) names)) (same first name)
      ∙ ap (λ (xs : List X). of first ∷ xs) (lines_map part of same (first + 1) names)

  lines_names : ((k : ℕ) (name : List ℕ) → (line k name).name ≡ name) → (first : ℕ) (names : List (List ℕ)) →
      map (λ (l : UnitLine). l.name) (lines_from line first names) ≡ names
  lines_names same first [] = refl
  lines_names same first (name ∷ names) =
      ap (λ (n : List ℕ). n ∷ map (λ (l : UnitLine). l.name) (lines_from line (first + 1) names)) (same first name)
      ∙ ap (λ (ns : List (List ℕ)). name ∷ ns) (lines_names same (first + 1) names)

  lines_append : (first : ℕ) (xs ys : List (List ℕ)) →
      lines_from line first (xs ++ ys) ≡ lines_from line first xs ++ lines_from line (first + length xs) ys
  lines_append first [] ys = let same : first ≡ first + 0 = omega arith in ap (λ (n : ℕ). lines_from line n ys) same
  lines_append first (x ∷ xs) ys =
      let same : first + 1 + length xs ≡ first + suc (length xs) = omega arith in
      ap (λ (ls : List UnitLine). line first x ∷ ls)
      (lines_append (first + 1) xs ys ∙ ap (λ (n : ℕ). lines_from line (first + 1) xs ++ lines_from line n ys) same)

-- the items at all places are the list
items_at : {X : Type 0} (xs : List X) (n : ℕ) (d : X) → length xs ≡ n →
    map (λ (k : ℕ). slice_index_or xs k d) (range_with_len 0 n) ≡ xs
items_at {X} xs n d h =
    let at : ℕ → X = λ (k : ℕ). slice_index_or xs k d in
    let long = length-map-range_with_len at 0 n in
    same_lists (map at (range_with_len 0 n)) xs (omega (arith, long, h)) (λ k e lt.
    get_or-map-range_with_len at 0 n k k e (omega (arith, lt, long)) (omega arith) ∙
    get_or_default xs k d e (omega (arith, lt, long, h)))

zip_map : {A B C : Type 0} (P : A → C → Type 0) (f : B → C) (us : List A) (ls : List B) → AllZip P us (map f ls) →
    AllZip (λ u l. P u (f l)) us ls
zip_map P f [] [] h = tt
zip_map P f [] (l ∷ ls) h = absurd h
zip_map P f (u ∷ us) [] h = absurd h
zip_map P f (u ∷ us) (l ∷ ls) h = (h.0, zip_map P f us ls h.1)

-- ---- the right report

pub names_in : Market → List (List ℕ)
names_in m = (thermal_names m ++ renewable_names m) ++ bid_names m

abbrev all_lines : Market → Answers → List UnitLine
all_lines m a =
    (lines_from (line_at a) 0 (thermal_names m) ++ lines_from (line_at a) (length m.thermal) (renewable_names m))
    ++ lines_from (line_at a) (length m.thermal + length m.flat) (bid_names m)

all_are : (m : Market) (a : Answers) → all_lines m a ≡ lines_from (line_at a) 0 (names_in m)
unfolding names_in
all_are m a =
    let t = length-map m.thermal (λ (n : NamedThermalUnit). n.name) in
    let f = length-map m.flat (λ (n : NamedRenewableUnit). n.name) in
    let front = lines_append (line_at a) 0 (thermal_names m) (renewable_names m) in
    let whole = lines_append (line_at a) 0 (thermal_names m ++ renewable_names m) (bid_names m) in
    let n : 0 + length (thermal_names m) ≡ length m.thermal = omega (arith, t) in
    let k : 0 + length (thermal_names m ++ renewable_names m) ≡ length m.thermal + length m.flat =
    omega (arith, t, f, length-append (thermal_names m) (renewable_names m)) in
    sym (whole
    ∙ ap (λ (z : List UnitLine). z ++ lines_from (line_at a) (0 + length (thermal_names m ++ renewable_names m))
    (bid_names m)) (front ∙
    ap (λ (i : ℕ). lines_from (line_at a) 0 (thermal_names m) ++ lines_from (line_at a) i (renewable_names m)) n)
    ∙ ap (λ (i : ℕ). (lines_from (line_at a) 0 (thermal_names m) ++ lines_from (line_at a) (length m.thermal)
    (renewable_names m)) ++ lines_from (line_at a) i (bid_names m)) k)

names_length : (m : Market) → length (names_in m) ≡ unit_count m
unfolding names_in
names_length m =
    let t = length-map m.thermal (λ (n : NamedThermalUnit). n.name) in
    let f = length-map m.flat (λ (n : NamedRenewableUnit). n.name) in
    let b = length-map m.bids (λ (n : NamedBidUnit). n.name) in
    omega (
      arith,
      length-append (thermal_names m ++ renewable_names m) (bid_names m),
      length-append (thermal_names m) (renewable_names m),
      t,
      f,
      b,
    )

part_of_all : {X : Type 0} (m : Market) (a : Answers) (part : UnitLine → X) (xs : List X) (d : X) →
    length xs ≡ unit_count m
    → ((k : ℕ) (name : List ℕ) → part (line_at a k name) ≡ slice_index_or xs k d) → map part (all_lines m a) ≡ xs
part_of_all {X} m a part xs d long same =
    ap (map part) (all_are m a) ∙ lines_map (line_at a) part (λ (k : ℕ). slice_index_or xs k d) same 0 (names_in m)
    ∙ ap (λ (n : ℕ). map (λ (k : ℕ). slice_index_or xs k d) (range_with_len 0 n)) (names_length m)
    ∙ items_at xs (unit_count m) d long

zip_length : {A B : Type 0} (P : A → B → Type 0) (us : List A) (ys : List B) → AllZip P us ys → length us ≡ length ys
zip_length P [] [] h = refl
zip_length P [] (y ∷ ys) h = absurd h
zip_length P (u ∷ us) [] h = absurd h
zip_length P (u ∷ us) (y ∷ ys) h = ap (λ (n : ℕ). suc n) (zip_length P us ys h.1)

units_length : (m : Market) → length (units m) ≡ unit_count m
units_length m =
    let ts = map (λ (n : NamedThermalUnit). Thermal n.unit) m.thermal in
    let fs = map (λ (n : NamedRenewableUnit). Flat n.unit) m.flat in
    let bs = map (λ (n : NamedBidUnit). Bid n.unit) m.bids in
    let a = length-map m.thermal (λ (n : NamedThermalUnit). Thermal n.unit) in
    let b = length-map m.flat (λ (n : NamedRenewableUnit). Flat n.unit) in
    let c = length-map m.bids (λ (n : NamedBidUnit). Bid n.unit) in
    omega (arith, length-append (ts ++ fs) bs, length-append ts fs, a, b, c)

pub count_zipped : {B : Type 0} (P : AnyUnit → B → Type 0) (m : Market) (ys : List B) → AllZip P (units m) ys →
    length ys ≡ unit_count m
count_zipped P m ys h = sym (zip_length P (units m) ys h) ∙ units_length m

pub right_is : (m : Market) (plan : List Schedule) (budget ahead : ℕ) (cost : ℤ) (rows : List Proposal) (row : Proposal)
    (chosen : ℕ) (a : Answers) (surplus payments : ℤ)
    → cost ≡ plan_cost m plan → IsRun Fits m cost budget ahead rows → chosen_number rows ≡ chosen →
    slice_get rows (chosen - 1) ≡ Some row
    → AllZip (λ u s. Fits u row.prices s) (units m) a.responses → HasTotals m a.responses row
    → AllZip (λ u e. IsTop u row.prices e) (units m) a.earned
    → length a.scheduled ≡ unit_count m → length a.payments ≡ unit_count m
    → IsSettled m plan row.prices a.scheduled a.payments surplus payments
    → IsRightReport m plan budget ahead (right_of m a budget ahead cost rows chosen row.value surplus payments)
right_is m plan budget ahead cost rows row chosen a surplus payments cost_is run number at fits totals tops long wide
    settled =
    let responses : map (λ (l : UnitLine). l.response) (all_lines m a) ≡ a.responses =
    part_of_all m a (λ (l : UnitLine). l.response) a.responses idle (count_zipped _ m a.responses fits)
    (λ k name. refl) in
    let earned : map (λ (l : UnitLine). l.earned) (all_lines m a) ≡ a.earned =
    part_of_all m a (λ (l : UnitLine). l.earned) a.earned (pos 0) (count_zipped _ m a.earned tops)
    (λ k name. refl) in
    let scheduled : map (λ (l : UnitLine). l.scheduled) (all_lines m a) ≡ a.scheduled =
    part_of_all m a (λ (l : UnitLine). l.scheduled) a.scheduled (pos 0) long (λ k name. refl) in
    let paid : map (λ (l : UnitLine). l.payment) (all_lines m a) ≡ a.payments =
    part_of_all m a (λ (l : UnitLine). l.payment) a.payments (pos 0) wide (λ k name. refl) in
    record {
      periods_are = refl;
      units_are = refl;
      budget_is = refl;
      ahead_is = refl;
      cost_is = cost_is;
      run = subst (λ (c : ℤ). IsRun Fits m c budget ahead rows) cost_is run;
      chosen_is = sym number;
      row = row;
      is_chosen = at;
      value_is = refl;
      names = record {
        thermal = lines_names (line_at a) (λ k name. refl) 0 (thermal_names m);
        renewable = lines_names (line_at a) (λ k name. refl) (length m.thermal) (renewable_names m);
        bids = lines_names (line_at a) (λ k name. refl) (length m.thermal + length m.flat) (bid_names m);
      };
      responses_fit = zip_map (λ u s. Fits u row.prices s) (λ (l : UnitLine). l.response) (units m) (all_lines m a)
          (subst (λ (z : List Schedule). AllZip (λ u s. Fits u row.prices s) (units m) z) (sym responses) fits);
      totals = subst (λ (z : List Schedule). HasTotals m z row) (sym responses) totals;
      earned = zip_map (λ u e. IsTop u row.prices e) (λ (l : UnitLine). l.earned) (units m) (all_lines m a)
          (subst (λ (z : List ℤ). AllZip (λ u e. IsTop u row.prices e) (units m) z) (sym earned) tops);
      settled = subst (λ (z : List ℤ). IsSettled m plan row.prices z (map (λ (l : UnitLine). l.payment) (all_lines m a))
          surplus payments) (sym scheduled)
          (subst (λ (z : List ℤ). IsSettled m plan row.prices a.scheduled z surplus payments) (sym paid) settled);
      gap_is = refl;
    }

-- ---- its lines

told_append : (a : Answers) (first : ℕ) (ts us : List Title) →
    told_from a first (ts ++ us) ≡ told_from a first ts ++ told_from a (first + length ts) us
told_append a first [] us = let same : first ≡ first + 0 = omega arith in ap (λ (n : ℕ). told_from a n us) same
told_append a first (t ∷ ts) us =
    let same : first + 1 + length ts ≡ first + suc (length ts) = omega arith in
    ap (λ (z : List Told). record { kind = t.kind; line = line_at a first t.name } ∷ z)
    (told_append a (first + 1) ts us ∙ ap (λ (n : ℕ). told_from a (first + 1) ts ++ told_from a n us) same)

flat_append : {X : Type 0} (f : X → List (List ℕ)) (xs ys : List X) →
    flat_map f (xs ++ ys) ≡ flat_map f xs ++ flat_map f ys
flat_append f [] ys = refl
flat_append f (x ∷ xs) ys = ap (λ (z : List (List ℕ)). f x ++ z) (flat_append f xs ys) ∙
    sym (append_assoc (f x) (flat_map f xs) (flat_map f ys))

kind_lined : (a : Answers) (kind : Kind) (first : ℕ) (names : List (List ℕ)) →
    flat_map told_lines (told_from a first (titles_of kind names)) ≡ flat_map (unit_lines kind)
    (lines_from (line_at a) first names)
kind_lined a kind first [] = refl
kind_lined a kind first (name ∷ names) =
    ap (λ (z : List (List ℕ)). unit_lines kind (line_at a first name) ++ z) (kind_lined a kind (first + 1) names)

pub right_lined : (m : Market) (a : Answers) → flat_map told_lines (told_from a 0 (titles m))
    ≡ flat_map (unit_lines kinds.Thermal) (lines_from (line_at a) 0 (thermal_names m))
    ++ (flat_map (unit_lines kinds.Renewable) (lines_from (line_at a) (length m.thermal) (renewable_names m))
    ++ flat_map (unit_lines kinds.Bid) (lines_from (line_at a) (length m.thermal + length m.flat) (bid_names m)))
right_lined m a =
    let ts = titles_of kinds.Thermal (thermal_names m) in
    let fs = titles_of kinds.Renewable (renewable_names m) in
    let bs = titles_of kinds.Bid (bid_names m) in
    let t1 = length-map (thermal_names m)
    (λ (name : List ℕ). let t : Title = record { kind = kinds.Thermal; name = name } in t) in
    let t2 = length-map m.thermal (λ (n : NamedThermalUnit). n.name) in
    let f1 = length-map (renewable_names m)
    (λ (name : List ℕ). let t : Title = record { kind = kinds.Renewable; name = name } in t) in
    let f2 = length-map m.flat (λ (n : NamedRenewableUnit). n.name) in
    let n : 0 + length ts ≡ length m.thermal = omega (arith, t1, t2) in
    let k : length m.thermal + length fs ≡ length m.thermal + length m.flat = omega (arith, f1, f2) in
    let inner : told_from a (length m.thermal) (fs ++ bs) ≡ told_from a (length m.thermal) fs ++ told_from a
    (length m.thermal + length m.flat) bs =
    told_append a (length m.thermal) fs bs ∙ ap (λ (i : ℕ). told_from a (length m.thermal) fs ++ told_from a i bs) k in
    let whole : told_from a 0 (titles m) ≡ told_from a 0
    ts ++ (told_from a (length m.thermal) fs ++ told_from a (length m.thermal + length m.flat) bs) =
    told_append a 0 ts (fs ++ bs) ∙ ap (λ (i : ℕ). told_from a 0 ts ++ told_from a i (fs ++ bs)) n ∙
    ap (λ (z : List Told). told_from a 0 ts ++ z) inner in
    ap (flat_map told_lines) whole
    ∙ flat_append told_lines (told_from a 0 ts)
    (told_from a (length m.thermal) fs ++ told_from a (length m.thermal + length m.flat) bs)
    ∙ ap (λ (z : List (List ℕ)). z ++ flat_map told_lines
    (told_from a (length m.thermal) fs ++ told_from a (length m.thermal + length m.flat) bs))
    (kind_lined a kinds.Thermal 0 (thermal_names m))
    ∙ ap (λ (z : List (List ℕ)). flat_map (unit_lines kinds.Thermal) (lines_from (line_at a) 0 (thermal_names m)) ++ z)
    (
    flat_append told_lines (told_from a (length m.thermal) fs) (told_from a (length m.thermal + length m.flat) bs)
    ∙ ap (λ (z : List (List ℕ)). z ++ flat_map told_lines (told_from a (length m.thermal + length m.flat) bs))
    (kind_lined a kinds.Renewable (length m.thermal) (renewable_names m))
    ∙ ap (λ (z : List (List ℕ)). flat_map (unit_lines kinds.Renewable)
    (lines_from (line_at a) (length m.thermal) (renewable_names m)) ++ z)
    (kind_lined a kinds.Bid (length m.thermal + length m.flat) (bid_names m))
    )

-- ---- the lines of a report whose units stand in order

abbrev by_kind : List Told → List (List ℕ)
by_kind ts =
    flat_map (unit_lines kinds.Thermal) (lines_of kinds.Thermal ts)
    ++ (flat_map (unit_lines kinds.Renewable) (lines_of kinds.Renewable ts) ++ flat_map (unit_lines kinds.Bid)
    (lines_of kinds.Bid ts))

abbrev parts_of : List UnitLine → List UnitLine → List UnitLine → List (List ℕ)
parts_of ts rs bs = flat_map (unit_lines kinds.Thermal)
    ts ++ (flat_map (unit_lines kinds.Renewable) rs ++ flat_map (unit_lines kinds.Bid) bs)

kind_same : (k : Kind) → same_kind k k ≡ true
kind_same kinds.Case = refl
kind_same kinds.Thermal = refl
kind_same kinds.Renewable = refl
kind_same kinds.Bid = refl

kind_apart : (k l : Kind) → rank k < rank l → same_kind k l ≡ false
kind_apart kinds.Thermal kinds.Thermal h = absurd (omega (arith, h))
kind_apart kinds.Thermal kinds.Renewable h = refl
kind_apart kinds.Thermal kinds.Bid h = refl
kind_apart kinds.Thermal kinds.Case h = refl
kind_apart kinds.Renewable kinds.Thermal h = absurd (omega (arith, h))
kind_apart kinds.Renewable kinds.Renewable h = absurd (omega (arith, h))
kind_apart kinds.Renewable kinds.Bid h = refl
kind_apart kinds.Renewable kinds.Case h = refl
kind_apart kinds.Bid kinds.Thermal h = absurd (omega (arith, h))
kind_apart kinds.Bid kinds.Renewable h = absurd (omega (arith, h))
kind_apart kinds.Bid kinds.Bid h = absurd (omega (arith, h))
kind_apart kinds.Bid kinds.Case h = refl
kind_apart kinds.Case kinds.Thermal h = absurd (omega (arith, h))
kind_apart kinds.Case kinds.Renewable h = absurd (omega (arith, h))
kind_apart kinds.Case kinds.Bid h = absurd (omega (arith, h))
kind_apart kinds.Case kinds.Case h = absurd (omega (arith, h))

kept : (kind : Kind) (t : Told) (ts : List Told) → same_kind kind t.kind ≡ true →
    lines_of kind (t ∷ ts) ≡ t.line ∷ lines_of kind ts
kept kind t ts e = ap (λ (b : Bool). cond b (t.line ∷ lines_of kind ts) (lines_of kind ts)) e

left_out : (kind : Kind) (t : Told) (ts : List Told) → same_kind kind t.kind ≡ false →
    lines_of kind (t ∷ ts) ≡ lines_of kind ts
left_out kind t ts e = ap (λ (b : Bool). cond b (t.line ∷ lines_of kind ts) (lines_of kind ts)) e

none_below : (kind : Kind) (least : ℕ) (ts : List Told) → rank kind < least → AreInOrder least ts →
    lines_of kind ts ≡ []
none_below kind least [] h o = refl
none_below kind least (t ∷ ts) h o =
    let behind : rank kind < rank t.kind = omega (arith, h, o.0) in
    left_out kind t ts (kind_apart kind t.kind behind) ∙ none_below kind (rank t.kind) ts behind o.2

-- the first line of three parts is that of the first part that has one
with_thermal : (l : UnitLine) (ts rs bs : List UnitLine) →
    parts_of (l ∷ ts) rs bs ≡ unit_lines kinds.Thermal l ++ parts_of ts rs bs
with_thermal l ts rs bs = append_assoc (unit_lines kinds.Thermal l) (flat_map (unit_lines kinds.Thermal) ts)
    (flat_map (unit_lines kinds.Renewable) rs ++ flat_map (unit_lines kinds.Bid) bs)

with_renewable : (l : UnitLine) (rs bs : List UnitLine) →
    parts_of [] (l ∷ rs) bs ≡ unit_lines kinds.Renewable l ++ parts_of [] rs bs
with_renewable l rs bs = append_assoc (unit_lines kinds.Renewable l) (flat_map (unit_lines kinds.Renewable) rs)
    (flat_map (unit_lines kinds.Bid) bs)

parts_same : (ts us rs ss bs cs : List UnitLine) → ts ≡ us → rs ≡ ss → bs ≡ cs → parts_of ts rs bs ≡ parts_of us ss cs
parts_same ts us rs ss bs cs e f g = λ i. parts_of (e i) (f i) (g i)

one_more : (k : Kind) (t : Told) (ts : List Told) → t.kind ≡ k → rank k ≤ 2 → AreInOrder (rank k) ts →
    by_kind (t ∷ ts) ≡ unit_lines k t.line ++ by_kind ts
one_more kinds.Case t ts e h o = absurd (omega (arith, h))
one_more kinds.Thermal t ts e h o =
    let here = ap (same_kind kinds.Thermal) e in
    parts_same _ (t.line ∷ lines_of kinds.Thermal ts) _ (lines_of kinds.Renewable ts) _ (lines_of kinds.Bid ts)
    (kept kinds.Thermal t ts here) (left_out kinds.Renewable t ts (ap (same_kind kinds.Renewable) e))
    (left_out kinds.Bid t ts (ap (same_kind kinds.Bid) e))
    ∙ with_thermal t.line (lines_of kinds.Thermal ts) (lines_of kinds.Renewable ts) (lines_of kinds.Bid ts)
one_more kinds.Renewable t ts e h o =
    let none = none_below kinds.Thermal 1 ts (omega arith) o in
    parts_same _ [] _ (t.line ∷ lines_of kinds.Renewable ts) _ (lines_of kinds.Bid ts)
    (left_out kinds.Thermal t ts (ap (same_kind kinds.Thermal) e) ∙ none)
    (kept kinds.Renewable t ts (ap (same_kind kinds.Renewable) e))
    (left_out kinds.Bid t ts (ap (same_kind kinds.Bid) e))
    ∙ with_renewable t.line (lines_of kinds.Renewable ts) (lines_of kinds.Bid ts)
    ∙ ap (λ (z : List UnitLine). unit_lines kinds.Renewable t.line ++ parts_of z (lines_of kinds.Renewable ts)
    (lines_of kinds.Bid ts)) (sym none)
one_more kinds.Bid t ts e h o =
    let none = none_below kinds.Thermal 2 ts (omega arith) o in
    let nor = none_below kinds.Renewable 2 ts (omega arith) o in
    parts_same _ [] _ [] _ (t.line ∷ lines_of kinds.Bid ts)
    (left_out kinds.Thermal t ts (ap (same_kind kinds.Thermal) e) ∙ none)
    (left_out kinds.Renewable t ts (ap (same_kind kinds.Renewable) e) ∙ nor)
    (kept kinds.Bid t ts (ap (same_kind kinds.Bid) e))
    ∙ (λ i. unit_lines kinds.Bid t.line ++ parts_of (sym none i) (sym nor i) (lines_of kinds.Bid ts))

pub ordered : (least : ℕ) (ts : List Told) → AreInOrder least ts → by_kind ts ≡ flat_map told_lines ts
ordered least [] o = refl
ordered least (t ∷ ts) o = one_more t.kind t ts refl o.1 o.2 ∙
    ap (λ (z : List (List ℕ)). told_lines t ++ z) (ordered (rank t.kind) ts o.2)

-- there are as many lines as units of the three kinds
counted_more : (k : Kind) (t : Told) (ts : List Told) → t.kind ≡ k → rank k ≤ 2
    → length (lines_of kinds.Thermal ts) + (length (lines_of kinds.Renewable ts) + length (lines_of kinds.Bid ts))
    ≡ length ts
    → length (lines_of kinds.Thermal (t ∷ ts)) + (length (lines_of kinds.Renewable (t ∷ ts)) + length
    (lines_of kinds.Bid (t ∷ ts))) ≡ length (t ∷ ts)
counted_more kinds.Case t ts e h n = absurd (omega (arith, h))
counted_more kinds.Thermal t ts e h n =
    let a = ap length (kept kinds.Thermal t ts (ap (same_kind kinds.Thermal) e)) in
    let b = ap length (left_out kinds.Renewable t ts (ap (same_kind kinds.Renewable) e)) in
    let c = ap length (left_out kinds.Bid t ts (ap (same_kind kinds.Bid) e)) in
    omega (arith, a, b, c, n)
counted_more kinds.Renewable t ts e h n =
    let a = ap length (left_out kinds.Thermal t ts (ap (same_kind kinds.Thermal) e)) in
    let b = ap length (kept kinds.Renewable t ts (ap (same_kind kinds.Renewable) e)) in
    let c = ap length (left_out kinds.Bid t ts (ap (same_kind kinds.Bid) e)) in
    omega (arith, a, b, c, n)
counted_more kinds.Bid t ts e h n =
    let a = ap length (left_out kinds.Thermal t ts (ap (same_kind kinds.Thermal) e)) in
    let b = ap length (left_out kinds.Renewable t ts (ap (same_kind kinds.Renewable) e)) in
    let c = ap length (kept kinds.Bid t ts (ap (same_kind kinds.Bid) e)) in
    omega (arith, a, b, c, n)

pub counted : (least : ℕ) (ts : List Told) → AreInOrder least ts →
    length (lines_of kinds.Thermal ts) + (length (lines_of kinds.Renewable ts) + length (lines_of kinds.Bid ts))
    ≡ length ts
counted least [] o = refl
counted least (t ∷ ts) o = counted_more t.kind t ts refl o.1 (counted (rank t.kind) ts o.2)
