-- Schedules that are put in place of others.
use Rattle.bundle_columns.proofs.Common.{◌≡◌, ℕ, zero, suc, ℤ, List, [], ◌∷◌, length, map, refl, sym, ap}
use Rattle.bundle_columns.proofs.Common.{◌∙◌, subst, Some, slice_get, slice_set, All, AllZip, head_of, tail_of}
use Rattle.bundle_columns.proofs.Common.{all_cons, none_some, same_item, total, Entry, entry_of, entries_of, Schedule}
use Rattle.bundle_columns.proofs.Common.{ThermalUnit, NamedThermalUnit, Market, IsThermalFeasible, WeighedSchedule}
use Rattle.bundle_columns.proofs.Common.{AreKept, IsKept, rescheduled, schedule_of}
use Rattle.bundle_columns.proofs.Weighing.{weight_of, IsLow}
use Rattle.bundle_columns.proofs.Keeping.{AreKeptOf}
use Rattle.bundle_columns.proofs.Copying.{map_set}
use Rattle.uc_model.specs.declared.units.Response.{Response}
use Rattle.plain_lists.specs.Reserved.{Reserved}

pub schedule_set : (es : List Entry) (k : ℕ) (e : Entry) (r : Response) (s : Schedule) → slice_get es k ≡ Some e →
    schedule_of r ≡ s →
    map entry_of (slice_set es k (record { weight = e.weight; response = r })) ≡ rescheduled (map entry_of es) k s
schedule_set [] k e r s at is = absurd (none_some e at)
schedule_set (x ∷ es) zero e r s at is =
    ap (λ (z : Entry). record { weight = z.weight; schedule = schedule_of r } ∷ map entry_of es) (same_item x e at) ∙
    ap (λ (t : Schedule). record { weight = x.weight; schedule = t } ∷ map entry_of es) is
schedule_set (x ∷ es) (suc k) e r s at is = ap (λ l. entry_of x ∷ l) (schedule_set es k e r s at is)

pub same_weights : (es : List WeighedSchedule) (k : ℕ) (s : Schedule) →
    map weight_of (rescheduled es k s) ≡ map weight_of es
same_weights [] k s = refl
same_weights (e ∷ es) zero s = refl
same_weights (e ∷ es) (suc k) s = ap (λ l. e.weight ∷ l) (same_weights es k s)

same_length : (es : List WeighedSchedule) (k : ℕ) (s : Schedule) → length (rescheduled es k s) ≡ length es
same_length [] k s = refl
same_length (e ∷ es) zero s = refl
same_length (e ∷ es) (suc k) s = ap suc (same_length es k s)

still_low : (es : List WeighedSchedule) (k : ℕ) (s : Schedule) → All IsLow es → All IsLow (rescheduled es k s)
still_low [] k s h = h
still_low (e ∷ es) zero s h =
    all_cons IsLow (record e { schedule = s }) es (head_of IsLow e es h) (tail_of IsLow e es h)
still_low (e ∷ es) (suc k) s h =
    all_cons IsLow e (rescheduled es k s) (head_of IsLow e es h) (still_low es k s (tail_of IsLow e es h))

abbrev pub IsFit : ℕ → ThermalUnit → WeighedSchedule → Type 0
IsFit periods g e = IsThermalFeasible g periods e.schedule

still_fit : (periods : ℕ) (g : ThermalUnit) (es : List WeighedSchedule) (k : ℕ) (s : Schedule) →
    IsThermalFeasible g periods s → All (IsFit periods g) es → All (IsFit periods g) (rescheduled es k s)
still_fit periods g [] k s f h = h
still_fit periods g (e ∷ es) zero s f h =
    all_cons (IsFit periods g) (record e { schedule = s }) es f (tail_of (IsFit periods g) e es h)
still_fit periods g (e ∷ es) (suc k) s f h =
    all_cons (IsFit periods g) e (rescheduled es k s) (head_of (IsFit periods g) e es h)
    (still_fit periods g es k s f (tail_of (IsFit periods g) e es h))

-- a feasible schedule may stand in place of any other
pub kept_rescheduled : (periods places : ℕ) (g : ThermalUnit) (es : List WeighedSchedule) (k : ℕ) (s : Schedule) →
    IsThermalFeasible g periods s → AreKept periods places g es → AreKept periods places g (rescheduled es k s)
kept_rescheduled periods places g es k s f h = record {
  count = same_length es k s ∙ h.count;
  mixed = record {
    shares = record {
      from_zero = still_low es k s h.mixed.shares.from_zero;
      whole_is = ap total (same_weights es k s) ∙ h.mixed.shares.whole_is;
    };
    feasible = still_fit periods g es k s f h.mixed.feasible;
  };
}

-- ---- entries of one unit put in place of others

zip_set : {X Y : Type 0} (R : X → Y → Type 0) (xs : List X) (ys : List Y) (i : ℕ) (x : X) (y : Y) → AllZip R xs ys →
    slice_get xs i ≡ Some x → R x y → AllZip R xs (slice_set ys i y)
zip_set R [] [] i x y h at r = absurd (none_some x at)
zip_set R [] (b ∷ ys) i x y h at r = absurd h
zip_set R (a ∷ xs) [] i x y h at r = absurd h
zip_set R (a ∷ xs) (b ∷ ys) zero x y h at r = (subst (λ z. R z y) (same_item a x at) r, h.1)
zip_set R (a ∷ xs) (b ∷ ys) (suc i) x y h at r = (h.0, zip_set R xs ys i x y h.1 at r)

pub kept_set : (m : Market) (places : ℕ) (whole : ℤ) (items : List (Reserved Entry)) (i : ℕ) (n : NamedThermalUnit)
    (es : Reserved Entry) → IsKept m places (record { whole = whole; entries = map entries_of items }) →
    slice_get m.thermal i ≡ Some n → AreKept m.periods places n.unit (entries_of es) →
    IsKept m places (record { whole = whole; entries = map entries_of (slice_set items i es) })
kept_set m places whole items i n es h at kept = record {
  whole = h.whole;
  kept = subst (λ (l : List (List WeighedSchedule)). AllZip (AreKeptOf m.periods places) m.thermal l)
      (sym (map_set entries_of items i es))
      (zip_set (AreKeptOf m.periods places) m.thermal (map entries_of items) i n (entries_of es) h.kept at kept);
}
