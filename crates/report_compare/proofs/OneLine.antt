-- A line tells its numbers: a report that has it is told by its text.
use Rattle.report_compare.proofs.Common.{◌≡◌, ℕ, ℤ, pos, Bool, List, [], ◌∷◌, ◌++◌, refl, sym, ap, ◌∙◌, append_assoc}
use Rattle.report_compare.proofs.Common.{codes, append_cancel_left, append_cancel_right, All-nil, Schedule, Proposal}
use Rattle.report_compare.proofs.Common.{numeral, signed_numeral, spaced, spaced_counts, spaced_flags, UnitLine, Report}
use Rattle.report_compare.proofs.Common.{head_text, row_text, chosen_text, thermal_text, report_text, IsFlatLine}
use Rattle.report_compare.proofs.Common.{HasForm, TextDeterminesReport, line, title_line}

-- a line tells what stands behind its word
pub line_told : (word a b : List ℕ) → line word a ≡ line word b → a ≡ b
line_told word a b e = append_cancel_right a b (codes "\n")
    (append_cancel_left word (a ++ codes "\n") (b ++ codes "\n") e)

-- ---- reports that tell little else

blank : Report
blank = record {
  periods = 0;
  units = 0;
  budget = 0;
  ahead = 0;
  cost = pos 0;
  rows = [];
  chosen = 0;
  value = pos 0;
  thermal = [];
  renewable = [];
  bids = [];
  surplus = pos 0;
  payments = pos 0;
  gap = pos 0;
}

abbrev with_numbers : ℕ → ℤ → Report
with_numbers n x = record {
  periods = n;
  units = 0;
  budget = 0;
  ahead = 0;
  cost = x;
  rows = [];
  chosen = 0;
  value = pos 0;
  thermal = [];
  renewable = [];
  bids = [];
  surplus = pos 0;
  payments = pos 0;
  gap = pos 0;
}

abbrev with_choice : ℕ → ℤ → Report
with_choice n x = record {
  periods = 0;
  units = 0;
  budget = 0;
  ahead = 0;
  cost = pos 0;
  rows = [];
  chosen = n;
  value = x;
  thermal = [];
  renewable = [];
  bids = [];
  surplus = pos 0;
  payments = pos 0;
  gap = pos 0;
}

abbrev with_prices : List ℤ → Report
with_prices xs = record {
  periods = 0;
  units = 0;
  budget = 0;
  ahead = 0;
  cost = pos 0;
  rows = record { prices = record { energy = xs; reserve = [] }; value = pos 0; supply = []; reserve = [] } ∷ [];
  chosen = 0;
  value = pos 0;
  thermal = [];
  renewable = [];
  bids = [];
  surplus = pos 0;
  payments = pos 0;
  gap = pos 0;
}

abbrev with_thermal : UnitLine → Report
with_thermal u = record {
  periods = 0;
  units = 0;
  budget = 0;
  ahead = 0;
  cost = pos 0;
  rows = [];
  chosen = 0;
  value = pos 0;
  thermal = u ∷ [];
  renewable = [];
  bids = [];
  surplus = pos 0;
  payments = pos 0;
  gap = pos 0;
}

no_others : (r : Report) → r.renewable ≡ [] → r.bids ≡ [] → HasForm r
no_others r e f = record { renewable = rw e (All-nil IsFlatLine); bids = rw f (All-nil IsFlatLine) }

-- ---- numbers

pub count_told : TextDeterminesReport → (m n : ℕ) → numeral m ≡ numeral n → m ≡ n
unfolding report_text head_text
count_told law m n e =
    let text : report_text (with_numbers m (pos 0)) ≡ report_text (with_numbers n (pos 0)) = rw e refl in
    ap (λ (r : Report). r.periods)
    (law (with_numbers m (pos 0)) (with_numbers n (pos 0)) (no_others _ refl refl) (no_others _ refl refl) text)

pub amount_told : TextDeterminesReport → (x y : ℤ) → signed_numeral x ≡ signed_numeral y → x ≡ y
unfolding report_text head_text
amount_told law x y e =
    let text : report_text (with_numbers 0 x) ≡ report_text (with_numbers 0 y) = rw e refl in
    ap (λ (r : Report). r.cost)
    (law (with_numbers 0 x) (with_numbers 0 y) (no_others _ refl refl) (no_others _ refl refl) text)

pub choice_told : TextDeterminesReport → (a b : ℕ × ℤ) → chosen_text a.0 a.1 ≡ chosen_text b.0 b.1 → a ≡ b
unfolding report_text
choice_told law a b e =
    let text : report_text (with_choice a.0 a.1) ≡ report_text (with_choice b.0 b.1) = rw e refl in
    ap (λ (r : Report). (r.chosen, r.value))
    (law (with_choice a.0 a.1) (with_choice b.0 b.1) (no_others _ refl refl) (no_others _ refl refl) text)

-- ---- lists

abbrev first_energy : List Proposal → List ℤ
first_energy [] = []
first_energy (r ∷ rs) = r.prices.energy

pub amounts_told : TextDeterminesReport → (xs ys : List ℤ) → spaced xs ≡ spaced ys → xs ≡ ys
unfolding report_text row_text
amounts_told law xs ys e =
    let text : report_text (with_prices xs) ≡ report_text (with_prices ys) = rw e refl in
    let same = law (with_prices xs) (with_prices ys) (no_others _ refl refl) (no_others _ refl refl) text in
    ap (λ (r : Report). first_energy r.rows) same

abbrev with_response : Schedule → UnitLine
with_response s = record { name = []; earned = pos 0; scheduled = pos 0; payment = pos 0; response = s }

abbrev first_of_list : UnitLine → List UnitLine → UnitLine
first_of_list d [] = d
first_of_list d (u ∷ us) = u

pub unit_told : TextDeterminesReport → (u v : UnitLine) → thermal_text u ≡ thermal_text v → u ≡ v
unfolding report_text
unit_told law u v e =
    let text : report_text (with_thermal u) ≡ report_text (with_thermal v) = rw e refl in
    ap (λ (r : Report). first_of_list u r.thermal)
    (law (with_thermal u) (with_thermal v) (no_others _ refl refl) (no_others _ refl refl) text)

pub counts_told : TextDeterminesReport → (xs ys : List ℕ) → spaced_counts xs ≡ spaced_counts ys → xs ≡ ys
unfolding thermal_text
counts_told law xs ys e =
    let u = with_response (record { on = []; power = xs; reserve = [] }) in
    let v = with_response (record { on = []; power = ys; reserve = [] }) in
    let text : thermal_text u ≡ thermal_text v = rw e refl in
    ap (λ (l : UnitLine). l.response.power) (unit_told law u v text)

pub flags_told : TextDeterminesReport → (xs ys : List Bool) → spaced_flags xs ≡ spaced_flags ys → xs ≡ ys
unfolding thermal_text
flags_told law xs ys e =
    let u = with_response (record { on = xs; power = []; reserve = [] }) in
    let v = with_response (record { on = ys; power = []; reserve = [] }) in
    let text : thermal_text u ≡ thermal_text v = rw e refl in
    ap (λ (l : UnitLine). l.response.on) (unit_told law u v text)

-- ---- titles

abbrev pub Titled : Type 0
Titled = List ℕ × ℤ × ℤ × ℤ

abbrev bare : Titled → UnitLine
bare t = record {
  name = t.0;
  earned = t.1;
  scheduled = t.2;
  payment = t.3;
  response =
      record { on = []; power = []; reserve = [] };
}

abbrev pub title_text : List ℕ → Titled → List ℕ
title_text word t = title_line word t.0 t.1 t.2 t.3

thermal_titled : (t : Titled) →
    title_text (codes "unit thermal ") t ++ codes "on\npower\nreserve\n" ≡ thermal_text (bare t)
unfolding thermal_text
thermal_titled t = simp append_assoc refl

pub title_told : TextDeterminesReport → (word : List ℕ) (t u : Titled) → title_text word t ≡ title_text word u → t ≡ u
title_told law word t u e =
    let bare_same = append_cancel_left word _ _ e in
    let titles : title_text (codes "unit thermal ") t ≡ title_text (codes "unit thermal ") u =
    ap (λ (z : List ℕ). codes "unit thermal " ++ z) bare_same in
    let text = sym (thermal_titled t) ∙ ap (λ (z : List ℕ). z ++ codes "on\npower\nreserve\n") titles ∙
    thermal_titled u in
    ap (λ (l : UnitLine). (l.name, l.earned, l.scheduled, l.payment)) (unit_told law (bare t) (bare u) text)
