-- The text of a settlement tells the settlement.
use Rattle.law_outcome.proofs.Common.{◌≡◌, ℕ, ◌<◌, true, false, List, [], ◌∷◌, length, slice_get, Some, refl, sym}
use Rattle.law_outcome.proofs.Common.{ap, ◌∙◌, subst, arith, same_Some, All, IsTrue, IsFlatLine, UnitLine, Market}
use Rattle.law_outcome.proofs.Common.{PriceLists, Schedule, PlanHasAtMostOneSettlement, Settled, IsSettledAt, Proposal}
use Rattle.std.proofs.Common.{zero, suc, ◌+◌, map, get_or, replicate}
use Rattle.std.proofs.lemmas.List.{length-replicate, get_or-replicate, get_or_default, same_lists}
use Rattle.std.proofs.lemmas.List.Elements.{All-nil, All-cons}
use Rattle.std.proofs.lemmas.Option.{none-some}
use Rattle.std.specs.List.{AllZip}
use Rattle.std.specs.Prelude.{slice_index, slice_index_or}
use Rattle.uc_model.specs.Data.{AnyUnit, Flat, Bid, NamedRenewableUnit, NamedBidUnit, units}
use Rattle.uc_model.specs.PlanLaws.{UnitNumbersGoByKind}
use Rattle.uc_model.specs.Runs.{Fits}
use Rattle.uc_model.specs.Schedules.{IsSchedule}
use Rattle.right_report.specs.RecordReport.{lines_from}
use Rattle.report_form.specs.SettlementText.{SettlementReport, TextDeterminesSettlement}
use Rattle.hull_report.specs.SettledText.{no_schedule, settled_line, settlement_of}
use Rattle.law_outcome.specs.SettledTexts.{SettlementsHaveForm, TextTellsTheSettlement}

-- ---- the lines of renewable units and bids

-- a list with one item at every place
all_same : {X : Type 0} (xs : List X) (n : ℕ) (x y : X) → length xs ≡ n →
    ((k : ℕ) → k < n → get_or xs k y ≡ x) → xs ≡ replicate n x
all_same xs n x y long each =
    same_lists xs (replicate n x) (long ∙ sym (length-replicate n x)) (λ k d lt.
    get_or_default xs k d y lt ∙ each k (omega (arith, lt, long))
    ∙ sym (get_or-replicate n k x d (omega (arith, lt, long))))

flat_line : (n : ℕ) (l : UnitLine) → IsSchedule n l.response →
    ((k : ℕ) → k < n → IsTrue (slice_index_or l.response.on k false)) →
    ((k : ℕ) → k < n → slice_index l.response.reserve k ≡ 0) → IsFlatLine l
flat_line n l schedule on reserve = record {
  on = all_same l.response.on n true false schedule.on on ∙ ap (λ (m : ℕ). replicate m true) (sym schedule.power);
  reserve =
      all_same l.response.reserve n 0 0 schedule.reserve reserve ∙ ap (λ (m : ℕ). replicate m 0) (sym schedule.power);
}

zip_at : (R : AnyUnit → Schedule → Type 0) (us : List AnyUnit) (rs : List Schedule) → AllZip R us rs → (k : ℕ)
    (u : AnyUnit) → slice_get us k ≡ Some u → R u (slice_index_or rs k no_schedule)
zip_at R [] rs h k u e = absurd (none-some u e)
zip_at R (x ∷ us) [] h k u e = absurd h
zip_at R (x ∷ us) (r ∷ rs) h zero u e = subst (λ (w : AnyUnit). R w r) (same_Some x u e) h.0
zip_at R (x ∷ us) (r ∷ rs) h (suc k) u e = zip_at R us rs h.1 k u e

-- a unit of this number, which may be written in two ways
moved : (m : Market) (u : AnyUnit) (j k : ℕ) → j ≡ k → slice_get (units m) j ≡ Some u →
    slice_get (units m) k ≡ Some u
moved m u j k same at = subst (λ (i : ℕ). slice_get (units m) i ≡ Some u) same at

module _ (m : Market) (π : PriceLists) (s : Settled) (fit : AllZip (λ u r. Fits u π r) (units m) s.responses) where
  fits_at : (k : ℕ) (u : AnyUnit) → slice_get (units m) k ≡ Some u →
      Fits u π (slice_index_or s.responses k no_schedule)
  fits_at k u e = zip_at (λ u r. Fits u π r) (units m) s.responses fit k u e

  renewable_lines : (ns : List NamedRenewableUnit) (first : ℕ) → ((i : ℕ) (n : NamedRenewableUnit) →
      slice_get ns i ≡ Some n → slice_get (units m) (first + i) ≡ Some (Flat n.unit)) →
      All IsFlatLine (lines_from (settled_line s) first (map (λ (n : NamedRenewableUnit). n.name) ns))
  renewable_lines [] first at = All-nil IsFlatLine
  renewable_lines (n ∷ ns) first at =
      let here = moved m (Flat n.unit) (first + 0) first (omega arith) (at 0 n refl) in
      let f = (fits_at first (Flat n.unit) here).best.feasible in
      All-cons IsFlatLine (settled_line s first n.name)
      (lines_from (settled_line s) (first + 1) (map (λ (n : NamedRenewableUnit). n.name) ns))
      (flat_line (length π.energy) (settled_line s first n.name) f.schedule f.on f.reserve)
      (renewable_lines ns (first + 1) (λ i o e.
      moved m (Flat o.unit) (first + suc i) ((first + 1) + i) (omega arith) (at (suc i) o e)))

  bid_lines : (ns : List NamedBidUnit) (first : ℕ) → ((i : ℕ) (n : NamedBidUnit) →
      slice_get ns i ≡ Some n → slice_get (units m) (first + i) ≡ Some (Bid n.unit)) →
      All IsFlatLine (lines_from (settled_line s) first (map (λ (n : NamedBidUnit). n.name) ns))
  bid_lines [] first at = All-nil IsFlatLine
  bid_lines (n ∷ ns) first at =
      let here = moved m (Bid n.unit) (first + 0) first (omega arith) (at 0 n refl) in
      let f = (fits_at first (Bid n.unit) here).best.feasible in
      All-cons IsFlatLine (settled_line s first n.name)
      (lines_from (settled_line s) (first + 1) (map (λ (n : NamedBidUnit). n.name) ns))
      (flat_line (length π.energy) (settled_line s first n.name) f.schedule f.on f.reserve)
      (bid_lines ns (first + 1) (λ i o e.
      moved m (Bid o.unit) (first + suc i) ((first + 1) + i) (omega arith) (at (suc i) o e)))

-- ---- the settlement

pub settlements_have_form : UnitNumbersGoByKind → SettlementsHaveForm
unfolding settlement_of
settlements_have_form numbered m plan π cost s h =
    let number = numbered m in
    record {
      renewable = renewable_lines m π s h.answers m.flat (length m.thermal) number.flat;
      bids = bid_lines m π s h.answers m.bids (length m.thermal + length m.flat) number.bids;
    }

pub text_tells_the_settlement : SettlementsHaveForm → TextDeterminesSettlement → PlanHasAtMostOneSettlement →
    TextTellsTheSettlement
unfolding settlement_of
text_tells_the_settlement form text one m plan π ρ cost other_cost s other h k same =
    let e = text (settlement_of m cost s) (settlement_of m other_cost other) (form m plan π cost s h)
    (form m plan ρ other_cost other k) same in
    let row : s.row ≡ other.row = ap (λ (r : SettlementReport). r.row) e in
    let prices : π ≡ ρ = sym h.prices ∙ ap (λ (p : Proposal). p.prices) row ∙ k.prices in (
      prices,
      ap (λ (r : SettlementReport). r.cost) e,
      one m plan ρ s other (subst (λ (x : PriceLists). IsSettledAt m plan x s) prices h) k,
    )
