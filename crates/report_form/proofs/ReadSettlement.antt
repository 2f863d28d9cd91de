-- A settlement, read back from its text block by block.
use Rattle.report_form.proofs.Common.{◌≡◌, ℕ, ℤ, List, ◌++◌, codes, refl, sym, ◌∙◌, append_assoc, flat_map, Proposal}
use Rattle.report_form.proofs.Common.{append_cancel_left, opening_text, priced_text, thermal_text, renewable_text}
use Rattle.report_form.proofs.Common.{bid_text, foot_text, SettlementReport, settlement_text}
use Rattle.report_form.proofs.Common.{TextDeterminesSettlement}
use Rattle.report_form.proofs.ReadBack.{after_count, after_amount}
use Rattle.report_form.proofs.ReadLines.{read_levels, read_units, foot_begins, read_foot}

-- the first lines tell the same
record AreSame (p g : ℕ) (c : ℤ) (r : Proposal) (q h : ℕ) (k : ℤ) (s : Proposal) : Type 0 where
  pub periods : p ≡ q
  pub units : g ≡ h
  pub cost : c ≡ k
  pub row : r ≡ s

read_priced : (p g : ℕ) (c : ℤ) (r : Proposal) (q h : ℕ) (k : ℤ) (s : Proposal) (u v : List ℕ) →
    priced_text p g c r ++ u ≡ priced_text q h k s ++ v → AreSame p g c r q h k s × (u ≡ v)
unfolding priced_text opening_text
read_priced p g c r q h k s u v same =
    let text = simp append_assoc at same in
    let periods = after_count (codes "hull-settlement 1\nperiods ") p q _ _ text refl refl in
    let units = after_count (codes "\nunits ") g h _ _ periods.1 refl refl in
    let cost = after_amount (codes "\ncost ") c k _ _ units.1 refl refl in
    let row = read_levels r s u v (append_cancel_left (codes "\n") _ _ cost.1) in
    (record { periods = periods.0; units = units.0; cost = cost.0; row = row.0 }, row.1)

-- what comes behind the first lines
abbrev rest_text : SettlementReport → List ℕ
rest_text r =
    flat_map thermal_text r.thermal ++ (flat_map renewable_text
    r.renewable ++ (flat_map bid_text r.bids ++ foot_text r.surplus r.payments r.gap))

opened : (r : SettlementReport) → settlement_text r ≡ priced_text r.periods r.units r.cost r.row ++ rest_text r
unfolding settlement_text
opened r = simp append_assoc

pub settlement_determined : TextDeterminesSettlement
settlement_determined a b h k same =
    let priced = read_priced a.periods a.units a.cost a.row b.periods b.units b.cost b.row (rest_text a) (rest_text b)
    (sym (opened a) ∙ same ∙ opened b) in
    let lines = read_units a.thermal b.thermal a.renewable b.renewable a.bids b.bids _ _ h.renewable k.renewable h.bids
    k.bids (foot_begins a.surplus a.payments a.gap) (foot_begins b.surplus b.payments b.gap) priced.1 in
    let foot = read_foot a.surplus a.payments a.gap b.surplus b.payments b.gap lines.3 in
    λ i. record {
      periods = priced.0.periods i;
      units = priced.0.units i;
      cost = priced.0.cost i;
      row = priced.0.row i;
      thermal = lines.0 i;
      renewable = lines.1 i;
      bids = lines.2 i;
      surplus = foot.0 i;
      payments = foot.1 i;
      gap = foot.2 i;
    }
