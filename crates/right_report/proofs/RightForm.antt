-- A right report has the form of a report: renewable units and bids are always on and give no reserve.
use Rattle.right_report.proofs.Common.{◌≡◌, ℕ, ◌<◌, true, false, IsTrue, List, [], ◌∷◌, ◌++◌, map, length, replicate}
use Rattle.right_report.proofs.Common.{get_or, sym, ap, ◌∙◌, arith, length-append, length-map, length-replicate}
use Rattle.right_report.proofs.Common.{get_or-replicate, get_or_default, same_lists, All, AllZip, slice_index}
use Rattle.right_report.proofs.Common.{slice_index_or, AnyUnit, Thermal, Flat, Bid, NamedThermalUnit}
use Rattle.right_report.proofs.Common.{NamedRenewableUnit, NamedBidUnit, PriceLists, Fits, IsSchedule, UnitLine}
use Rattle.right_report.proofs.Common.{IsFlatLine, RightReportHasForm}
use Rattle.std.proofs.lemmas.List.Elements.{All-nil, All-cons}

-- a list with one item at every place
all_same : {X : Type 0} (xs : List X) (n : ℕ) (x y : X) → length xs ≡ n → ((k : ℕ) → k < n → get_or xs k y ≡ x) →
    xs ≡ replicate n x
all_same xs n x y long each =
    same_lists xs (replicate n x) (long ∙ sym (length-replicate n x)) (λ k d lt.
    get_or_default xs k d y lt ∙ each k (omega arith) ∙ sym (get_or-replicate n k x d (omega arith)))

flat_line : (n : ℕ) (l : UnitLine) → IsSchedule n l.response →
    ((k : ℕ) → k < n → IsTrue (slice_index_or l.response.on k false)) →
    ((k : ℕ) → k < n → slice_index l.response.reserve k ≡ 0) → IsFlatLine l
flat_line n l schedule on reserve = record {
  on = all_same l.response.on n true false schedule.on on ∙ ap (λ (m : ℕ). replicate m true) (sym schedule.power);
  reserve = all_same l.response.reserve n 0 0 schedule.reserve reserve ∙
      ap (λ (m : ℕ). replicate m 0) (sym schedule.power);
}

module _ (π : PriceLists) where
  abbrev FitsLine : AnyUnit → UnitLine → Type 0
  FitsLine u l = Fits u π l.response

  renewable_lines : (ns : List NamedRenewableUnit) (ls : List UnitLine) →
      AllZip FitsLine (map (λ (n : NamedRenewableUnit). Flat n.unit) ns) ls → All IsFlatLine ls
  renewable_lines [] [] h = All-nil IsFlatLine
  renewable_lines [] (l ∷ ls) h = absurd h
  renewable_lines (n ∷ ns) [] h = absurd h
  renewable_lines (n ∷ ns) (l ∷ ls) h =
      let f = h.0.best.feasible in
      All-cons IsFlatLine l ls (flat_line (length π.energy) l f.schedule f.on f.reserve) (renewable_lines ns ls h.1)

  bid_lines : (ns : List NamedBidUnit) (ls : List UnitLine) →
      AllZip FitsLine (map (λ (n : NamedBidUnit). Bid n.unit) ns) ls → All IsFlatLine ls
  bid_lines [] [] h = All-nil IsFlatLine
  bid_lines [] (l ∷ ls) h = absurd h
  bid_lines (n ∷ ns) [] h = absurd h
  bid_lines (n ∷ ns) (l ∷ ls) h =
      let f = h.0.best.feasible in
      All-cons IsFlatLine l ls (flat_line (length π.energy) l f.schedule f.on f.reserve) (bid_lines ns ls h.1)

split : {A B : Type 0} (R : A → B → Type 0) (xs ys : List A) (us vs : List B) → length xs ≡ length us →
    AllZip R (xs ++ ys) (us ++ vs) → AllZip R xs us × AllZip R ys vs
split R [] ys [] vs e h = (tt, h)
split R [] ys (u ∷ us) vs e h = absurd (omega arith)
split R (x ∷ xs) ys [] vs e h = absurd (omega arith)
split R (x ∷ xs) ys (u ∷ us) vs e h = let r = split R xs ys us vs (omega arith) h.1 in ((h.0, r.0), r.1)

pub right_has_form : RightReportHasForm
right_has_form m plan budget ahead r h =
    let π = h.row.prices in
    let ts = map (λ (n : NamedThermalUnit). Thermal n.unit) m.thermal in
    let fs = map (λ (n : NamedRenewableUnit). Flat n.unit) m.flat in
    let bs = map (λ (n : NamedBidUnit). Bid n.unit) m.bids in
    let name = λ (l : UnitLine). l.name in
    let thermal : length r.thermal ≡ length m.thermal = sym (length-map r.thermal name) ∙ ap length h.names.thermal ∙
    length-map m.thermal (λ (n : NamedThermalUnit). n.name) in
    let flat : length r.renewable ≡ length m.flat = sym (length-map r.renewable name) ∙ ap length h.names.renewable ∙
    length-map m.flat (λ (n : NamedRenewableUnit). n.name) in
    let a = length-map m.thermal (λ (n : NamedThermalUnit). Thermal n.unit) in
    let b = length-map m.flat (λ (n : NamedRenewableUnit). Flat n.unit) in
    let outer = split (FitsLine π) (ts ++ fs) bs (r.thermal ++ r.renewable) r.bids
    (omega (arith, thermal, flat, a, b, length-append ts fs, length-append r.thermal r.renewable))
    h.responses_fit in
    let inner = split (FitsLine π) ts fs r.thermal r.renewable (omega (arith, thermal, a)) outer.0 in
    record { renewable = renewable_lines π m.flat r.renewable inner.1; bids = bid_lines π m.bids r.bids outer.1 }
