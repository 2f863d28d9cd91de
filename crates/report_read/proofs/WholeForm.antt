-- The whole report: a report within the bounds is read from its text and from nothing else, and where reading stops
-- stands
-- the first line in fault.
use Rattle.report_read.proofs.Common.{◌≡◌, ℕ, suc, ◌+◌, ◌-◌, ◌≤◌, ◌⊎◌, true, false, cond, ℤ, pos, List, [], ◌∷◌, ◌++◌}
use Rattle.report_read.proofs.Common.{length, map, take, replicate, codes, Ok, Err, refl, sym, ap, ◌∙◌, subst, arith}
use Rattle.report_read.proofs.Common.{append_assoc, length-append, inl, inr, flat_map, AllByRecursion, append-nil}
use Rattle.report_read.proofs.Common.{take_at, All-from_recursion, Kind, Proposal, Head, UnitLine, Report, head_text}
use Rattle.report_read.proofs.Common.{rows_text, chosen_text, thermal_text, renewable_text, bid_text, foot_text}
use Rattle.report_read.proofs.Common.{report_text, Foot, Told, rank, same_kind, lines_of, IsList, IsProposal, IsTold}
use Rattle.report_read.proofs.Common.{IsThermalLine, IsOtherLine, IsReport, AreInOrder, IsLine, AreLines, line_feeds}
use Rattle.report_read.proofs.Common.{Begins, IsFault, value_line, line, then_lines, head_at, rows_at, units_at}
use Rattle.report_read.proofs.Common.{foot_at, made_report, report_at, if_no_more, all_of}
use Rattle.uc_model.specs.declared.kinds.Kind.TheVariants as kinds
use Rattle.report_form.specs.Laws.{HasForm, IsFlatLine}
use Rattle.report_read.proofs.Forms.{bind_ok, bind_err, good, ok_is, Form, then_form, making_form}
use Rattle.report_read.proofs.RowForms.{amount_zero, value_form, value_text, word_text, IsValued, IsHead, told_head}
use Rattle.report_read.proofs.RowForms.{head_form, rows_form, zero_rows, chosen_same, told_foot, IsFoot, foot_form}
use Rattle.report_read.proofs.RowForms.{pair_form}
use Rattle.report_read.proofs.UnitForms.{IsResponse, AreUnits, AreSomeUnits, told_text, told_texts, units_form}
use Rattle.report_read.proofs.UnitForms.{zero_unit, zero_units, thermal_told, renewable_told, bid_told}

-- ---- the lines of each kind

abbrev pub tell : Kind → List UnitLine → List Told
tell k ls = map (λ l. record { kind = k; line = l }) ls

abbrev pub all_told : Report → List Told
all_told r = tell kinds.Thermal r.thermal ++ (tell kinds.Renewable r.renewable ++ tell kinds.Bid r.bids)

-- a list of lines with the same kind, and others of later kinds
lines_append : (k : Kind) (xs ys : List Told) → lines_of k (xs ++ ys) ≡ lines_of k xs ++ lines_of k ys
lines_append k [] ys = refl
lines_append k (x ∷ xs) ys =
    elim (same_kind k x.kind) as (λ t. cond t (x.line ∷ lines_of k (xs ++ ys)) (lines_of k (xs ++ ys)) ≡ cond t
    (x.line ∷ lines_of k xs) (lines_of k xs) ++ lines_of k ys) [
      | true ↦ ap (λ (z : List UnitLine). x.line ∷ z) (lines_append k xs ys)
      | false ↦ lines_append k xs ys
    ]

own_kind : (k : Kind) → same_kind k k ≡ true
own_kind kinds.Thermal = refl
own_kind kinds.Renewable = refl
own_kind kinds.Bid = refl
own_kind kinds.Case = refl

lines_own : (k : Kind) (ls : List UnitLine) → lines_of k (tell k ls) ≡ ls
lines_own k [] = refl
lines_own k (l ∷ ls) = rw (own_kind k) (ap (λ (z : List UnitLine). l ∷ z) (lines_own k ls))

lines_other : (j k : Kind) (ls : List UnitLine) → same_kind j k ≡ false → lines_of j (tell k ls) ≡ []
lines_other j k [] h = refl
lines_other j k (l ∷ ls) h = rw h (lines_other j k ls h)

lines_three : (j : Kind) (r : Report) →
    lines_of j (all_told r) ≡ lines_of j (tell kinds.Thermal r.thermal)
    ++ (lines_of j (tell kinds.Renewable r.renewable) ++ lines_of j (tell kinds.Bid r.bids))
lines_three j r =
    lines_append j (tell kinds.Thermal r.thermal) (tell kinds.Renewable r.renewable ++ tell kinds.Bid r.bids)
    ∙ ap (λ (z : List UnitLine). lines_of j (tell kinds.Thermal r.thermal) ++ z)
    (lines_append j (tell kinds.Renewable r.renewable) (tell kinds.Bid r.bids))

thermal_lines : (r : Report) → lines_of kinds.Thermal (all_told r) ≡ r.thermal
thermal_lines r =
    lines_three kinds.Thermal r ∙
    rw (
      lines_own kinds.Thermal r.thermal,
      lines_other kinds.Thermal kinds.Renewable r.renewable refl,
      lines_other kinds.Thermal kinds.Bid r.bids refl,
    ) (append-nil r.thermal)

renewable_lines : (r : Report) → lines_of kinds.Renewable (all_told r) ≡ r.renewable
renewable_lines r =
    lines_three kinds.Renewable r ∙
    rw (
      lines_other kinds.Renewable kinds.Thermal r.thermal refl,
      lines_own kinds.Renewable r.renewable,
      lines_other kinds.Renewable kinds.Bid r.bids refl,
    ) (append-nil r.renewable)

bid_lines : (r : Report) → lines_of kinds.Bid (all_told r) ≡ r.bids
bid_lines r =
    lines_three kinds.Bid r ∙ rw (
      lines_other kinds.Bid kinds.Thermal r.thermal refl,
      lines_other kinds.Bid kinds.Renewable r.renewable refl,
      lines_own kinds.Bid r.bids,
    ) refl

-- ---- units in order: their texts are those of the three kinds, one after the other

-- the three texts
abbrev kinds_text : List Told → List ℕ
kinds_text ts = flat_map thermal_text (lines_of kinds.Thermal ts)
    ++ (flat_map renewable_text (lines_of kinds.Renewable ts) ++ flat_map bid_text (lines_of kinds.Bid ts))

no_thermal : (periods least : ℕ) (ts : List Told) → 1 ≤ least → AreUnits periods least ts →
    lines_of kinds.Thermal ts ≡ []
no_thermal periods least [] h a = refl
no_thermal periods least (t ∷ ts) h a =
    let order = a.0.kind.in_order in
    elim t.kind as (λ k. least ≤ rank k → AreUnits periods (rank k) ts →
    cond (same_kind kinds.Thermal k) (t.line ∷ lines_of kinds.Thermal ts) (lines_of kinds.Thermal ts) ≡ []) [
      | kinds.Thermal ↦ λ o b. absurd (omega arith)
      | kinds.Renewable ↦ λ o b. no_thermal periods 1 ts (omega arith) b
      | kinds.Bid ↦ λ o b. no_thermal periods 2 ts (omega arith) b
      | kinds.Case ↦ λ o b. no_thermal periods 3 ts (omega arith) b
    ] order a.1

no_renewable : (periods least : ℕ) (ts : List Told) → 2 ≤ least → AreUnits periods least ts →
    lines_of kinds.Renewable ts ≡ []
no_renewable periods least [] h a = refl
no_renewable periods least (t ∷ ts) h a =
    let order = a.0.kind.in_order in
    elim t.kind as (λ k. least ≤ rank k → AreUnits periods (rank k) ts →
    cond (same_kind kinds.Renewable k) (t.line ∷ lines_of kinds.Renewable ts) (lines_of kinds.Renewable ts) ≡ []) [
      | kinds.Thermal ↦ λ o b. absurd (omega arith)
      | kinds.Renewable ↦ λ o b. absurd (omega arith)
      | kinds.Bid ↦ λ o b. no_renewable periods 2 ts (omega arith) b
      | kinds.Case ↦ λ o b. no_renewable periods 3 ts (omega arith) b
    ] order a.1

-- the texts of units in order are those of the three kinds
texts_by : (periods : ℕ) (k : Kind) (l : UnitLine) (ts : List Told) → rank k ≤ 2 → AreUnits periods (rank k) ts →
    told_texts ts ≡ kinds_text ts
    → told_text (record { kind = k; line = l }) ++ told_texts ts ≡ kinds_text (record { kind = k; line = l } ∷ ts)
texts_by periods kinds.Thermal l ts h a e =
    let rest = flat_map renewable_text (lines_of kinds.Renewable ts) ++ flat_map bid_text (lines_of kinds.Bid ts) in
    ap (λ (z : List ℕ). z ++ told_texts ts) (thermal_told l) ∙ ap (λ (z : List ℕ). thermal_text l ++ z) e ∙
    sym (append_assoc (thermal_text l) (flat_map thermal_text (lines_of kinds.Thermal ts)) rest)
texts_by periods kinds.Renewable l ts h a e =
    let none = no_thermal periods 1 ts (omega arith) a in
    let bids = flat_map bid_text (lines_of kinds.Bid ts) in
    let others : told_texts ts ≡ flat_map renewable_text (lines_of kinds.Renewable ts) ++ bids =
    e ∙ ap (λ (z : List UnitLine). flat_map thermal_text
    z ++ (flat_map renewable_text (lines_of kinds.Renewable ts) ++ bids)) none in
    let made : told_text (record { kind = kinds.Renewable; line = l }) ++ told_texts
    ts ≡ (renewable_text l ++ flat_map renewable_text (lines_of kinds.Renewable ts)) ++ bids =
    ap (λ (z : List ℕ). z ++ told_texts ts) (renewable_told l) ∙ ap (λ (z : List ℕ). renewable_text l ++ z) others ∙
    sym (append_assoc (renewable_text l) (flat_map renewable_text (lines_of kinds.Renewable ts)) bids) in
    made ∙ ap (λ (z : List UnitLine). flat_map thermal_text
    z ++ ((renewable_text l ++ flat_map renewable_text (lines_of kinds.Renewable ts)) ++ bids)) (sym none)
texts_by periods kinds.Bid l ts h a e =
    let no_t = no_thermal periods 2 ts (omega arith) a in
    let no_r = no_renewable periods 2 ts (omega arith) a in
    let bids = flat_map bid_text (lines_of kinds.Bid ts) in
    let others : told_texts ts ≡ bids =
    e ∙ ap (λ (z : List UnitLine). flat_map thermal_text
    z ++ (flat_map renewable_text (lines_of kinds.Renewable ts) ++ bids)) no_t ∙
    ap (λ (z : List UnitLine). flat_map renewable_text z ++ bids) no_r in
    let made : told_text (record { kind = kinds.Bid; line = l }) ++ told_texts ts ≡ bid_text l ++ bids =
    ap (λ (z : List ℕ). z ++ told_texts ts) (bid_told l) ∙ ap (λ (z : List ℕ). bid_text l ++ z) others in
    made ∙ ap (λ (z : List UnitLine). flat_map renewable_text z ++ (bid_text l ++ bids)) (sym no_r)
    ∙ ap (λ (z : List UnitLine). flat_map thermal_text
    z ++ (flat_map renewable_text (lines_of kinds.Renewable ts) ++ (bid_text l ++ bids))) (sym no_t)
texts_by periods kinds.Case l ts h a e = absurd (omega arith)

texts_same : (periods least : ℕ) (ts : List Told) → AreUnits periods least ts → told_texts ts ≡ kinds_text ts
texts_same periods least [] a = refl
texts_same periods least (t ∷ ts) a =
    texts_by periods t.kind t.line ts a.0.kind.told a.1 (texts_same periods (rank t.kind) ts a.1)

-- ---- what is known of the lines of each kind

count_by_kind : (k : Kind) (l : UnitLine) (ts : List Told) → rank k ≤ 2
    → length (lines_of kinds.Thermal ts) + (length (lines_of kinds.Renewable ts) + length (lines_of kinds.Bid ts))
    ≡ length ts
    → length (lines_of kinds.Thermal (record { kind = k; line = l } ∷ ts))
    + (length (lines_of kinds.Renewable (record { kind = k; line = l } ∷ ts)) + length
    (lines_of kinds.Bid (record { kind = k; line = l } ∷ ts))) ≡ suc (length ts)
count_by_kind kinds.Thermal l ts h e = omega arith
count_by_kind kinds.Renewable l ts h e = omega arith
count_by_kind kinds.Bid l ts h e = omega arith
count_by_kind kinds.Case l ts h e = absurd (omega arith)

kinds_count : (periods least : ℕ) (ts : List Told) → AreUnits periods least ts →
    length (lines_of kinds.Thermal ts) + (length (lines_of kinds.Renewable ts) + length (lines_of kinds.Bid ts))
    ≡ length ts
kinds_count periods least [] a = omega arith
kinds_count periods least (t ∷ ts) a =
    count_by_kind t.kind t.line ts a.0.kind.told (kinds_count periods (rank t.kind) ts a.1)

pub record AreLinesOf (periods : ℕ) (ts : List Told) : Type 0 where
  pub thermal : AllByRecursion (IsThermalLine periods) (lines_of kinds.Thermal ts)
  pub renewable : AllByRecursion (IsOtherLine periods) (lines_of kinds.Renewable ts)
  pub bids : AllByRecursion (IsOtherLine periods) (lines_of kinds.Bid ts)

lines_by : (periods : ℕ) (k : Kind) (l : UnitLine) (ts : List Told) → rank k ≤ 2 → IsTold l →
    IsResponse periods k l.response → AreLinesOf periods ts → AreLinesOf periods (record { kind = k; line = l } ∷ ts)
lines_by periods kinds.Thermal l ts h t r a =
    record {
      thermal = (record { told = t; on = r.on; power = r.power; reserve = r.reserve }, a.thermal);
      renewable =
          a.renewable;
      bids = a.bids;
    }
lines_by periods kinds.Renewable l ts h t r a =
    record {
      thermal = a.thermal;
      renewable =
          (record { told = t; flat = record { on = r.on; reserve = r.reserve }; power = r.power }, a.renewable);
      bids =
          a.bids;
    }
lines_by periods kinds.Bid l ts h t r a =
    record {
      thermal = a.thermal;
      renewable = a.renewable;
      bids =
          (record { told = t; flat = record { on = r.on; reserve = r.reserve }; power = r.power }, a.bids);
    }
lines_by periods kinds.Case l ts h t r a = absurd (omega arith)

lines_known : (periods least : ℕ) (ts : List Told) → AreUnits periods least ts → AreLinesOf periods ts
lines_known periods least [] a = record { thermal = tt; renewable = tt; bids = tt }
lines_known periods least (t ∷ ts) a =
    lines_by periods t.kind t.line ts a.0.kind.told a.0.told a.0.response (lines_known periods (rank t.kind) ts a.1)

pub order_known : (periods least : ℕ) (ts : List Told) → AreUnits periods least ts → AreInOrder least ts
order_known periods least [] a = tt
order_known periods least (t ∷ ts) a = (a.0.kind.in_order, a.0.kind.told, order_known periods (rank t.kind) ts a.1)

-- ---- and back

other_response : (periods : ℕ) (l : UnitLine) → IsOtherLine periods l → IsResponse periods kinds.Bid l.response
other_response periods l h = record { on = h.flat.on; reserve = h.flat.reserve; power = h.power }

bids_are : (periods least : ℕ) (ls : List UnitLine) → least ≤ 2 → AllByRecursion (IsOtherLine periods) ls →
    AreUnits periods least (tell kinds.Bid ls)
bids_are periods least [] h a = tt
bids_are periods least (l ∷ ls) h a = (
  record {
    kind = record { in_order = h; told = omega arith };
    told = a.0.told;
    response =
        other_response periods l a.0;
  },
  bids_are periods 2 ls (omega arith) a.1,
)

renewables_are : (periods least : ℕ) (ls bids : List UnitLine) → least ≤ 1 → AllByRecursion (IsOtherLine periods) ls →
    AllByRecursion (IsOtherLine periods) bids
    → AreUnits periods least (tell kinds.Renewable ls ++ tell kinds.Bid bids)
renewables_are periods least [] bids h a b = bids_are periods least bids (omega arith) b
renewables_are periods least (l ∷ ls) bids h a b = (
  record {
    kind = record { in_order = h; told = omega arith };
    told = a.0.told;
    response =
        other_response periods l a.0;
  },
  renewables_are periods 1 ls bids (omega arith) a.1 b,
)

thermals_are : (periods : ℕ) (ls renewables bids : List UnitLine) → AllByRecursion (IsThermalLine periods) ls →
    AllByRecursion (IsOtherLine periods) renewables → AllByRecursion (IsOtherLine periods) bids
    → AreUnits periods 0 (tell kinds.Thermal ls ++ (tell kinds.Renewable renewables ++ tell kinds.Bid bids))
thermals_are periods [] renewables bids a b d = renewables_are periods 0 renewables bids (omega arith) b d
thermals_are periods (l ∷ ls) renewables bids a b d = (
  record {
    kind = record { in_order = omega arith; told = omega arith };
    told = a.0.told;
    response =
        record { on = a.0.on; power = a.0.power; reserve = a.0.reserve };
  },
  thermals_are periods ls renewables bids a.1 b d,
)

tell_length : (k : Kind) (ls : List UnitLine) → length (tell k ls) ≡ length ls
tell_length k [] = refl
tell_length k (l ∷ ls) = ap suc (tell_length k ls)

all_length : (r : Report) → length (all_told r) ≡ length r.thermal + (length r.renewable + length r.bids)
all_length r =
    let a = length-append (tell kinds.Thermal r.thermal) (tell kinds.Renewable r.renewable ++ tell kinds.Bid r.bids) in
    let b = length-append (tell kinds.Renewable r.renewable) (tell kinds.Bid r.bids) in
    let t = tell_length kinds.Thermal r.thermal in
    let n = tell_length kinds.Renewable r.renewable in
    let d = tell_length kinds.Bid r.bids in
    omega arith

-- ---- the whole

abbrev Whole : Type 0
Whole = Head × (List Proposal × ((ℕ × ℤ) × (List Told × Foot)))

abbrev chosen_line : ℕ × ℤ → List ℕ
chosen_line = word_text (codes "chosen ") value_text

abbrev whole_text : Whole → List ℕ
whole_text x =
    told_head x.0 ++ (rows_text 1 x.1.0 ++ (chosen_line x.1.1.0 ++ (told_texts x.1.1.1.0 ++ told_foot x.1.1.1.1)))

abbrev IsWhole : Whole → Type 0
IsWhole x = IsHead x.0 × (IsList (IsProposal x.0.periods) x.0.proposals x.1.0 ×
    (IsValued 0 4294967295 x.1.1.0 × (AreSomeUnits x.0.periods 0 x.0.units x.1.1.1.0 × IsFoot x.1.1.1.1)))

zero_foot : Foot
zero_foot = record { surplus = pos 0; payments = pos 0; gap = pos 0 }

zero_foot_fits : IsFoot zero_foot
unfolding zero_foot
zero_foot_fits = record { surplus = amount_zero; payments = amount_zero; gap = amount_zero }

some_valued : IsValued 0 4294967295 (0, pos 0)
some_valued = (record { at_least = omega arith; at_most = omega arith }, amount_zero)

whole_lines : Form whole_text IsWhole (then_lines head_at (λ h.
    then_lines (rows_at h.periods 1 h.proposals) (λ _.
    then_lines (line (value_line (codes "chosen ") 0 4294967295)) (λ _.
    then_lines (units_at h.periods 0 h.units) (λ _. foot_at)))))
whole_lines =
    let units = λ (h : Head). pair_form told_texts (AreSomeUnits h.periods 0 h.units) (units_at h.periods 0 h.units)
    told_foot IsFoot foot_at zero_foot zero_foot_fits (units_form h.periods 0 h.units (omega arith))
    foot_form in
    let some_units = λ (h : Head). zero_units h.periods 0 h.units (omega arith) in
    let tolds = λ (h : Head). replicate h.units (zero_unit h.periods) in
    let chosen = λ (h : Head). pair_form _ _ _ _ _ _ (tolds h, zero_foot) (some_units h, zero_foot_fits)
    (value_form (codes "chosen ") 0 4294967295 refl (omega arith)) (units h) in
    let rows = λ (h : Head). pair_form _ _ _ _ _ _ ((0, pos 0), (tolds h, zero_foot))
    (some_valued, (some_units h, zero_foot_fits)) (rows_form h.periods 1 h.proposals) (chosen h) in
    then_form told_head IsHead head_at
    (λ h y. rows_text 1 y.0 ++ (chosen_line y.1.0 ++ (told_texts y.1.1.0 ++ told_foot y.1.1.1)))
    (λ h y. IsList (IsProposal h.periods) h.proposals y.0 ×
    (IsValued 0 4294967295 y.1.0 × (AreSomeUnits h.periods 0 h.units y.1.1.0 × IsFoot y.1.1.1)))
    (λ h. then_lines (rows_at h.periods 1 h.proposals)
    (λ _. then_lines (line (value_line (codes "chosen ") 0 4294967295))
    (λ _. then_lines (units_at h.periods 0 h.units) (λ _. foot_at))))
    head_form (λ h fits. rows h)
    (λ h fits. (
      ((zero_rows h.periods h.proposals).0, ((0, pos 0), (tolds h, zero_foot))),
      ((zero_rows h.periods h.proposals).1, (some_valued, (some_units h, zero_foot_fits))),
    ))

whole_fits : (x : Whole) → IsWhole x → IsReport (made_report x)
whole_fits x h =
    let units = h.1.1.1.0 in
    let known = lines_known x.0.periods 0 x.1.1.1.0 units.units in
    let count = kinds_count x.0.periods 0 x.1.1.1.0 units.units in
    let some = h.0.proposals in
    record {
      periods = record { at_least = h.0.periods.at_least; at_most = h.0.periods.at_most };
      units_at_least = h.0.units.at_least;
      units_at_most = h.0.units.at_most;
      budget_at_least = h.0.budget.at_least;
      budget_at_most = h.0.budget.at_most;
      ahead_at_least = h.0.ahead.at_least;
      ahead_at_most = h.0.ahead.at_most;
      cost = h.0.cost;
      rows_at_least = (let n = h.1.0.length_is in let low = some.at_least in omega arith);
      rows_at_most = (let n = h.1.0.length_is in let high = some.at_most in omega arith);
      rows = h.1.0.items;
      chosen = (let high = h.1.1.0.0.at_most in omega arith);
      value = h.1.1.0.1;
      lines = count ∙ units.length_is;
      thermal = known.thermal;
      renewable = known.renewable;
      bids = known.bids;
      surplus = h.1.1.1.1.surplus;
      payments = h.1.1.1.1.payments;
      gap = h.1.1.1.1.gap;
    }

-- a report's text, its lines one after the other
text_parts : (head rows chosen thermal renewable bids foot : List ℕ) →
    head ++ rows ++ chosen ++ thermal ++ renewable ++ bids ++ foot ≡ head
    ++ (rows ++ (chosen ++ ((thermal ++ (renewable ++ bids)) ++ foot)))
text_parts head rows chosen thermal renewable bids foot = simp append_assoc

whole_same : (x : Whole) → IsWhole x → report_text (made_report x) ≡ whole_text x
unfolding report_text
whole_same x h =
    let r = made_report x in
    let count : head_text r.periods r.units r.budget r.ahead r.cost (length r.rows) ≡ told_head x.0 =
    ap (λ (n : ℕ). head_text x.0.periods x.0.units x.0.budget x.0.ahead x.0.cost n) h.1.0.length_is in
    let texts : flat_map thermal_text r.thermal ++ (flat_map renewable_text r.renewable ++ flat_map bid_text r.bids)
    ≡ told_texts x.1.1.1.0 = sym (texts_same x.0.periods 0 x.1.1.1.0 h.1.1.1.0.units) in
    text_parts (head_text r.periods r.units r.budget r.ahead r.cost (length r.rows)) (rows_text 1 r.rows)
    (chosen_text r.chosen r.value) (flat_map thermal_text r.thermal) (flat_map renewable_text r.renewable)
    (flat_map bid_text r.bids) (foot_text r.surplus r.payments r.gap)
    ∙ ap (λ (z : List ℕ).
    z ++ (rows_text 1 r.rows ++ (chosen_text r.chosen
    r.value ++ ((flat_map thermal_text
    r.thermal ++ (flat_map renewable_text r.renewable ++ flat_map bid_text r.bids)) ++ told_foot x.1.1.1.1)))) count
    ∙ ap (λ (z : List ℕ). told_head
    x.0 ++ (rows_text 1
    r.rows ++
    (z ++ ((flat_map thermal_text r.thermal ++ (flat_map renewable_text r.renewable ++ flat_map bid_text r.bids))
    ++ told_foot x.1.1.1.1)))) (chosen_same x.1.1.0)
    ∙ ap (λ (z : List ℕ). told_head x.0 ++ (rows_text 1 r.rows ++ (chosen_line x.1.1.0 ++ (z ++ told_foot x.1.1.1.1))))
    texts

whole_back : Report → Whole
whole_back r = (
  record {
    periods = r.periods;
    units = r.units;
    budget = r.budget;
    ahead = r.ahead;
    cost = r.cost;
    proposals =
        length r.rows;
  },
  (r.rows, ((r.chosen, r.value), (all_told r, record { surplus = r.surplus; payments = r.payments; gap = r.gap }))),
)

back_fits : (r : Report) → IsReport r → IsWhole (whole_back r)
unfolding whole_back
back_fits r h = (
  record {
    periods = record { at_least = h.periods.at_least; at_most = h.periods.at_most };
    units = record { at_least = h.units_at_least; at_most = h.units_at_most };
    budget = record { at_least = h.budget_at_least; at_most = h.budget_at_most };
    ahead = record { at_least = h.ahead_at_least; at_most = h.ahead_at_most };
    cost = h.cost;
    proposals = record { at_least = h.rows_at_least; at_most = (let most = h.rows_at_most in omega arith) };
  },
  (
    record { length_is = refl; items = h.rows },
    (
      (record { at_least = omega arith; at_most = (let most = h.chosen in omega arith) }, h.value),
      (
        record {
          length_is = all_length r ∙ h.lines;
          units =
              thermals_are r.periods r.thermal r.renewable r.bids h.thermal h.renewable h.bids;
        },
        record { surplus = h.surplus; payments = h.payments; gap = h.gap },
      ),
    ),
  ),
)

back_is : (r : Report) → made_report (whole_back r) ≡ r
unfolding whole_back
back_is r = λ i. record {
  periods = r.periods;
  units = r.units;
  budget = r.budget;
  ahead = r.ahead;
  cost = r.cost;
  rows = r.rows;
  chosen = r.chosen;
  value = r.value;
  thermal = thermal_lines r i;
  renewable = renewable_lines r i;
  bids = bid_lines r i;
  surplus = r.surplus;
  payments = r.payments;
  gap = r.gap;
}

pub report_form : Form report_text IsReport report_at
unfolding report_at
report_form = making_form whole_text IsWhole _ report_text IsReport made_report whole_lines (record {
  fits = whole_fits;
  same = whole_same;
  back = whole_back;
  back_fits = back_fits;
  back_is = λ r h. back_is r;
})

-- ---- all of the bytes

more_or_none : {A : Type 0} (r : A) (bytes : List ℕ) (x : A) → if_no_more r bytes ≡ good x → (bytes ≡ []) × (r ≡ x)
more_or_none r [] x e = (refl, ok_is r x e)
more_or_none r (b ∷ bs) x e = absurd cc

pub all_takes : (bytes : List ℕ) (r : Report) → all_of bytes ≡ Ok r → (bytes ≡ report_text r) × IsReport r
unfolding all_of
all_takes bytes r e =
    let a = bind_ok (report_at bytes) (λ x. if_no_more x.0 x.1) r e in
    let t = report_form.takes bytes a.0.0 a.0.1 a.1 in
    let n = more_or_none a.0.0 a.0.1 r a.2 in
    let whole : bytes ≡ report_text a.0.0 = t.0 ∙ ap (λ (z : List ℕ). report_text a.0.0 ++ z) n.0 ∙
    append-nil (report_text a.0.0) in
    subst (λ (w : Report). (bytes ≡ report_text w) × IsReport w) n.1 (whole, t.1)

pub all_again : (r : Report) → IsReport r → all_of (report_text r) ≡ Ok r
unfolding all_of
all_again r h =
    let read : report_at (report_text r) ≡ Ok (r, []) =
    ap report_at (sym (append-nil (report_text r))) ∙ report_form.again r [] h in
    rw read refl

-- where reading stops
pub record StopsAt (bytes : List ℕ) (left : ℕ) : Type 0 where
  pub before : List ℕ
  pub rest : List ℕ
  pub cut : bytes ≡ before ++ rest
  pub left_is : length rest ≡ left
  pub lines : AreLines before
  pub begins : Begins before
  pub fails : (here after : List ℕ) → IsLine here → rest ≡ here ++ after → Begins (before ++ here) → ⊥

more_is : {A : Type 0} (r : A) (bytes : List ℕ) (left : ℕ) → if_no_more r bytes ≡ Err left →
    (length bytes ≡ left) × (1 ≤ length bytes)
more_is r [] left e = absurd cc
more_is {A} r (b ∷ bs) left e = let same : length (b ∷ bs) ≡ left = cc in (same, omega arith)

line_is_some : (here after : List ℕ) → IsLine here → [] ≡ here ++ after → ⊥
line_is_some here after l e =
    let n = ap length e in
    let m = length-append here after in
    let k = ap length l.ends in
    let j = length-append l.inside (10 ∷ []) in
    omega arith

pub all_stops : (bytes : List ℕ) (left : ℕ) → all_of bytes ≡ Err left → StopsAt bytes left
unfolding all_of
all_stops bytes left e =
    elim (bind_err (report_at bytes) (λ x. if_no_more x.0 x.1) left e) [
      | inl first ↦
          let s = report_form.stuck bytes left first in
          record {
            before = s.before;
            rest = s.rest;
            cut = s.cut;
            left_is = s.left_is;
            lines = s.lines;
            begins = (s.begun, s.fits, s.more, s.begins);
            fails = λ here after whole cut b. s.fails here after whole cut b.0 [] b.2 b.1
                (append-nil (report_text b.0) ∙ b.3);
          }
      | inr a ↦
          let t = report_form.takes bytes a.0.0 a.0.1 a.1 in
          let n = more_is a.0.0 a.0.1 left a.2 in
          record {
            before = report_text a.0.0;
            rest = a.0.1;
            cut = t.0;
            left_is = n.0;
            lines = report_form.lines a.0.0 t.1;
            begins = (a.0.0, t.1, [], sym (append-nil (report_text a.0.0)));
            fails = λ here after whole cut b.
                let one : good (b.0, []) ≡ good (a.0.0, here ++ b.2) =
                sym (report_form.again b.0 [] b.1) ∙
                ap report_at (append-nil (report_text b.0) ∙ b.3 ∙ append_assoc (report_text a.0.0) here b.2) ∙
                report_form.again a.0.0 (here ++ b.2) t.1 in
                let pair = ok_is (b.0, []) (a.0.0, here ++ b.2) one in
                let nothing : [] ≡ here ++ b.2 = ap (λ (w : Report × List ℕ). w.1) pair in
                line_is_some here b.2 whole nothing;
          }
    ]

-- the line where so many bytes are left
cut_is : (before rest : List ℕ) (left : ℕ) → length rest ≡ left →
    take (length (before ++ rest) - left) (before ++ rest) ≡ before
cut_is before rest left h =
    let n = length-append before rest in
    let k : length (before ++ rest) - left ≡ length before = omega arith in
    rw k (take_at before rest (length before) refl)

pub is_fault : (bytes : List ℕ) (left : ℕ) → all_of bytes ≡ Err left →
    IsFault bytes (suc (line_feeds (take (length bytes - left) bytes)))
is_fault bytes left e =
    let s = all_stops bytes left e in
    let front : take (length bytes - left) bytes ≡ s.before =
    ap (λ (z : List ℕ). take (length z - left) z) s.cut ∙ cut_is s.before s.rest left s.left_is in
    record {
      none = λ r h same. (let read = ap all_of same ∙ all_again r h in
          absurd (let both : Err left ≡ good r = sym e ∙ read in cc));
      before = s.before;
      rest = s.rest;
      cut = s.cut;
      lines = s.lines;
      number = ap (λ (z : List ℕ). suc (line_feeds z)) front;
      begins = s.begins;
      fails = s.fails;
    }

-- bytes are read or refused
pub report_or_fault : (bytes : List ℕ) →
    ((r : Report) × IsReport r × (bytes ≡ report_text r)) ⊎ ((line : ℕ) × IsFault bytes line)
report_or_fault bytes =
    elim (all_of bytes) as (λ found. all_of bytes ≡ found →
    ((r : Report) × IsReport r × (bytes ≡ report_text r)) ⊎ ((line : ℕ) × IsFault bytes line)) [
      | Ok r ↦ λ read. (let t = all_takes bytes r read in inl (r, t.1, t.0))
      | Err left ↦ λ read. inr (suc (line_feeds (take (length bytes - left) bytes)), is_fault bytes left read)
    ] refl

pub left_within : (bytes : List ℕ) (left : ℕ) → all_of bytes ≡ Err left → left ≤ length bytes
left_within bytes left e =
    let s = all_stops bytes left e in
    let n = length-append s.before s.rest in
    let k = ap length s.cut in
    let m = s.left_is in
    omega arith

-- ---- laws

flat_lines : (periods : ℕ) (ls : List UnitLine) → AllByRecursion (IsOtherLine periods) ls → AllByRecursion IsFlatLine ls
flat_lines periods [] h = tt
flat_lines periods (l ∷ ls) h = (h.0.flat, flat_lines periods ls h.1)

pub has_form : (r : Report) → IsReport r → HasForm r
has_form r h = record {
  renewable = All-from_recursion IsFlatLine r.renewable (flat_lines r.periods r.renewable h.renewable);
  bids = All-from_recursion IsFlatLine r.bids (flat_lines r.periods r.bids h.bids);
}

-- ---- what the readers of the parts keep

pub head_is : (bytes : List ℕ) (h : Head) (rest : List ℕ) → head_at bytes ≡ Ok (h, rest) → IsHead h
head_is bytes h rest e = (head_form.takes bytes h rest e).1

pub head_shorter : (bytes : List ℕ) (h : Head) (rest : List ℕ) → head_at bytes ≡ Ok (h, rest) →
    length rest ≤ length bytes
head_shorter bytes h rest e =
    let t = (head_form.takes bytes h rest e).0 in
    let n = ap length t in
    let m = length-append (told_head h) rest in
    omega arith

pub units_order : (periods count : ℕ) (bytes : List ℕ) (ts : List Told) (rest : List ℕ) →
    units_at periods 0 count bytes ≡ Ok (ts, rest) → AreInOrder 0 ts
units_order periods count bytes ts rest e =
    order_known periods 0 ts ((units_form periods 0 count (omega arith)).takes bytes ts rest e).1.units

-- bytes aren't both read and refused
pub never_both : (bytes : List ℕ) (left : ℕ) (r : Report) → all_of bytes ≡ Err left → bytes ≡ report_text r →
    IsReport r → ⊥
never_both bytes left r e same h =
    let read : good r ≡ Err left = sym (ap all_of same ∙ all_again r h) ∙ e in
    absurd cc

pub one_read : (bytes : List ℕ) (a b : Report) → all_of bytes ≡ Ok a → bytes ≡ report_text b → IsReport b → a ≡ b
one_read bytes a b e same h = ok_is a b (sym e ∙ ap all_of same ∙ all_again b h)
