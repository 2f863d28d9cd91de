-- The ends that the next start may follow, as a period of the table asks for them.
use Rattle.unit_table.proofs.Common.{◌≡◌, ℕ, suc, ◌<◌, ◌≤◌, inl, inr, Option, Some, ℤ, pos, ◌+ℤ◌, ◌≤ℤ◌, List, length}
use Rattle.unit_table.proofs.Common.{sym, ap, ◌∙◌, arith, slice_get, ints, StartCostsAreWithin, ThermalUnit}
use Rattle.unit_table.proofs.Common.{Origin, Ended, IsOrigin, AreOrigins, AreOriginsWithin, cost_at, AreWithin}
use Rattle.unit_table.proofs.Common.{off_time, IsEntry, IsLag}
use Rattle.std.specs.List.{All}
use Rattle.unit_rows.specs.declared.origins.Origins.{Origins}

-- ---- the rows up to period k are all that counts

pub origins_to : (g : ThermalUnit) (ends ends' : ℕ → Option ℤ) (k : ℕ) (os : Origins) →
    ((l : ℕ) → l ≤ k → ends' l ≡ ends l) → AreOrigins g ends k os → AreOrigins g ends' k os
origins_to g ends ends' k os same now = record {
  few = now.few;
  right = record {
    rising = now.right.rising;
    off = now.right.off;
    off_since = now.right.off_since;
    each = λ i o low is.
        (let old = now.right.each i o low is in record
        { ended = same o.last old.gap.off.order ∙ old.ended; gap = old.gap });
    order = now.right.order;
  };
  all = λ o is. now.all o (record { ended = sym (same o.last is.gap.off.order) ∙ is.ended; gap = is.gap });
}

-- ---- limits

-- where each of the list is above a limit, so is each entry
pub entry_beyond : (g : ThermalUnit) (ends : ℕ → Option ℤ) (k : ℕ) (os : Origins) → StartCostsAreWithin →
    AreOrigins g ends k os → All IsLag g.lags → (limit : ℤ) →
    ((i : ℕ) (o : Origin) → i < os.count → slice_get os.list.items i ≡ Some o → (limit +ℤ pos 1) ≤ℤ o.cost) → (e : ℤ) →
    IsEntry g ends (suc k) e → (limit +ℤ pos 1) ≤ℤ e
entry_beyond g ends k os starts now lags limit beyond e entry = elim (entry.1) [
  | inl none ↦ let z = none.0 in absurd (omega arith)
  | inr h ↦
      let z : h.before ≡ k = omega arith in
      let o : Origin = record { last = entry.0; cost = h.value } in
      let is_origin : IsOrigin g ends k o = record
      { ended = h.ended; gap = rw z at h.gap } in
      let has = now.all o is_origin in
      let a = now.right.each has.index has.origin has.low has.is in
      let high = beyond has.index has.origin has.low has.is in
      let start = (starts g.lags (off_time g entry.0 h.before) lags).at_least in
      elim (has.best) [
        | inl same ↦
            let e = a.ended in
            let g = ap ends same in
            let cost : has.origin.cost ≡ o.cost = (cc) in
            omega (arith, ints)
        | inr more ↦ omega (arith, ints)
      ]
]

-- ---- within bounds

pub origins_within : (g : ThermalUnit) (rows : List (Option Ended)) (k : ℕ) (os : Origins) →
    AreOrigins g (cost_at rows) k os → AreWithin rows → k < length os.list.items → AreOriginsWithin k os
origins_within g rows k os now within room = record {
  room = omega arith;
  last = λ i o low is. (now.right.each i o low is).gap.off.order;
  cost = λ i o low is. within o.last o.cost (now.right.each i o low is).ended;
}
