-- The text of a record's report, part by part.
use Rattle.hull_report.proofs.Common.{◌≡◌, ℕ, ◌+◌, ℤ, ◌-ℤ◌, List, ◌++◌, length, sym, ◌∙◌, append_assoc, length-map}
use Rattle.hull_report.proofs.Common.{flat_map, Content, own_rows, NamedThermalUnit, NamedRenewableUnit, unit_count}
use Rattle.hull_report.proofs.Common.{Settlement, head_text, rows_text, chosen_text, thermal_text, renewable_text}
use Rattle.hull_report.proofs.Common.{bid_text, foot_text, report_text, thermal_names, renewable_names, bid_names}
use Rattle.hull_report.proofs.Common.{line_of, lines_from, chosen_of, value_of, report_of, try_lines, try_text, Market}
use Rattle.hull_report.proofs.Common.{Settled, settled_line, settlement_of, settlement_text, priced_text}
use Rattle.right_report.proofs.UnitLines.{length-lines}

-- the lines up to the chosen value
abbrev pub front_text : Content → (proposals chosen : ℕ) → ℤ → List ℕ
front_text c proposals chosen value =
    head_text c.setup.market.periods (unit_count c.setup.market) c.setup.budget c.setup.ahead c.setup.cost
    proposals ++ rows_text 1 (own_rows c) ++ chosen_text chosen value

-- the lines of all units and bids
abbrev pub units_text : Content → Settlement → ℕ → List ℕ
units_text c s chosen =
    flat_map thermal_text (lines_from (line_of c s chosen) 0 (thermal_names c.setup.market))
    ++ flat_map renewable_text
    (lines_from (line_of c s chosen) (length c.setup.market.thermal) (renewable_names c.setup.market))
    ++ flat_map bid_text
    (lines_from (line_of c s chosen) (length c.setup.market.thermal + length c.setup.market.flat)
    (bid_names c.setup.market))

nested : (front a b d foot : List ℕ) → front ++ (a ++ b ++ d) ++ foot ≡ front ++ a ++ b ++ d ++ foot
nested front a b d foot = simp append_assoc

pub whole_report : (c : Content) (s : Settlement) →
    front_text c (length (own_rows c)) (chosen_of c) (value_of c) ++ units_text c s (chosen_of c) ++
    foot_text s.surplus s.total (c.setup.cost -ℤ value_of c) ≡ report_text (report_of c s)
unfolding report_text report_of
whole_report c s =
    let m = c.setup.market in
    let line = line_of c s (chosen_of c) in
    nested (front_text c (length (own_rows c)) (chosen_of c) (value_of c))
    (flat_map thermal_text (lines_from line 0 (thermal_names m)))
    (flat_map renewable_text (lines_from line (length m.thermal) (renewable_names m)))
    (flat_map bid_text (lines_from line (length m.thermal + length m.flat) (bid_names m)))
    (foot_text s.surplus s.total (c.setup.cost -ℤ value_of c))

pub whole_try : (number : ℕ) (c : Content) (s : Settlement) →
    try_lines number c.setup.market.periods (length c.setup.market.thermal) (length c.setup.market.flat)
    (length (own_rows c)) (chosen_of c) (value_of c) c.setup.cost s.total s.surplus (c.setup.cost -ℤ value_of c)
    ≡ try_text number (report_of c s)
unfolding report_of
whole_try number c s =
    let m = c.setup.market in
    let line = line_of c s (chosen_of c) in
    let thermal : length m.thermal ≡ length (lines_from line 0 (thermal_names m)) = sym
    (length-lines line 0 (thermal_names m) ∙ length-map m.thermal (λ (n : NamedThermalUnit). n.name)) in
    let flat : length m.flat ≡ length (lines_from line (length m.thermal) (renewable_names m)) =
    sym (length-lines line (length m.thermal) (renewable_names m) ∙
    length-map m.flat (λ (n : NamedRenewableUnit). n.name)) in
    λ i. try_lines number m.periods (thermal i) (flat i) (length (own_rows c)) (chosen_of c) (value_of c)
    c.setup.cost s.total s.surplus (c.setup.cost -ℤ value_of c)

-- the text of a settlement, of its three parts
pub whole_settlement : (m : Market) (cost : ℤ) (s : Settled) → priced_text m.periods (unit_count m) cost s.row
    ++ (flat_map thermal_text (lines_from (settled_line s) 0 (thermal_names m)) ++ flat_map renewable_text
    (lines_from (settled_line s) (length m.thermal) (renewable_names m))
    ++ flat_map bid_text (lines_from (settled_line s) (length m.thermal + length m.flat) (bid_names m)))
    ++ foot_text s.surplus s.sum (cost -ℤ s.row.value) ≡ settlement_text (settlement_of m cost s)
unfolding settlement_text settlement_of
whole_settlement m cost s =
    let line = settled_line s in
    nested (priced_text m.periods (unit_count m) cost s.row)
    (flat_map thermal_text (lines_from line 0 (thermal_names m)))
    (flat_map renewable_text (lines_from line (length m.thermal) (renewable_names m)))
    (flat_map bid_text (lines_from line (length m.thermal + length m.flat) (bid_names m)))
    (foot_text s.surplus s.sum (cost -ℤ s.row.value))
