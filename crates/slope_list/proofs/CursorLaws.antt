-- Powers among the pieces: where they lie, the levels there, and the valley.
use Rattle.slope_list.proofs.Common.{◌≡◌, ℕ, suc, ◌+◌, ◌<◌, ◌≤◌, List, length, ap, inl, inr, arith, ℤ, pos, ◌+ℤ◌, ◌-ℤ◌}
use Rattle.slope_list.proofs.Common.{◌*ℤ◌, ◌≤ℤ◌, ◌<ℤ◌, ints, cases_lt, Piece, Start, Cursor, piece, end_at, last_power}
use Rattle.slope_list.proofs.Common.{function_of, AreSlopes, IsPlaced, AreWithin, IsValley, CanGo, ◌-◌}
use Rattle.slope_list.proofs.LineLaws.{line_step}
use Rattle.slope_list.proofs.PieceLaws.{ends_rise_to, slopes_rise, along_line, held}

-- ---- where they lie

-- the power where a piece ends
pub placed_after : (first : ℤ) (ps : List Piece) (k : ℕ) (cursor : Cursor) → AreSlopes first ps → k < length ps →
    cursor.at ≡ (piece ps k).end → cursor.next ≡ suc k → IsPlaced first ps cursor
placed_after first ps k cursor slopes inside at e =
    let start : end_at first ps cursor.next ≡ end_at first ps (suc k) =
    ap (end_at first ps) {x = cursor.next} {y = suc k} e in
    record {
      some = omega arith;
      from = omega (arith, ints);
      to = λ i.
          let r = slopes.rise (suc k) (omega arith) in
          let stop : end_at first ps (suc cursor.next) ≡ end_at first ps (suc (suc k)) =
          ap (λ (j : ℕ). end_at first ps (suc j)) {x = cursor.next} {y = suc k} e in
          omega (arith, ints);
      last = λ i.
          let f : last_power first ps ≡ end_at first ps cursor.next =
          ap (end_at first ps) {x = length ps} {y = cursor.next} (omega arith) in omega (arith, ints);
    }

-- a power is in the interval
pub placed_within : (first : ℤ) (ps : List Piece) (cursor : Cursor) → AreSlopes first ps → IsPlaced first ps cursor →
    (first ≤ℤ cursor.at) × (cursor.at ≤ℤ last_power first ps)
placed_within first ps cursor slopes placed =
    let some = placed.some in
    let low = ends_rise_to first ps slopes 0 cursor.next (omega arith) some in
    elim (cases_lt cursor.next (length ps)) [
      | inl inside ↦
          let to = placed.to inside in
          let high = ends_rise_to first ps slopes (suc cursor.next) (length ps) (omega arith) (omega arith) in
          (omega (arith, ints), omega (arith, ints))
      | inr past ↦
          let e = placed.last (omega arith) in
          (omega (arith, ints), omega (arith, ints))
    ]

-- before the last power a piece goes on
pub placed_inside : (first : ℤ) (ps : List Piece) (cursor : Cursor) → IsPlaced first ps cursor →
    cursor.at <ℤ last_power first ps → cursor.next < length ps
placed_inside first ps cursor placed h = elim (cases_lt cursor.next (length ps)) [
  | inl inside ↦ inside
  | inr past ↦ absurd (let some = placed.some in let e = placed.last (omega arith) in omega (arith, ints))
]

-- ---- levels along the pieces

module _ (start : Start) (ps : List Piece) (slopes : AreSlopes start.first ps) (within : AreWithin start ps) (k : ℕ)
    (inside : k < length ps) (x : ℤ) (low : end_at start.first ps k ≤ℤ x) (high : x ≤ℤ (piece ps k).end) where
  pub level_along : function_of start ps x ≡ function_of start ps (end_at start.first ps k) +ℤ (piece ps k).slope *ℤ
      (x -ℤ end_at start.first ps k)
  level_along = (along_line start.first start.level ps slopes k inside).line x low high

  pub level_from : (level from : ℤ) → from ≡ end_at start.first ps k → level ≡ function_of start ps from →
      function_of start ps x ≡ level +ℤ (piece ps k).slope *ℤ (x -ℤ from)
  level_from level from from_is level_is =
      let e = level_along in
      let d : (piece ps k).slope *ℤ (x -ℤ from) ≡ (piece ps k).slope *ℤ (x -ℤ end_at start.first ps k) =
      ap (λ (z : ℤ). (piece ps k).slope *ℤ (x -ℤ z)) from_is in
      let g : function_of start ps from ≡ function_of start ps (end_at start.first ps k) =
      ap (function_of start ps) from_is in
      omega (arith, ints)

  pub can_go : (level from : ℤ) → from ≡ end_at start.first ps k → level ≡ function_of start ps from →
      CanGo level (piece ps k).slope from x
  can_go level from from_is level_is =
      let r = ends_rise_to start.first ps slopes 0 k (omega arith) (omega arith) in
      let t = ends_rise_to start.first ps slopes (suc k) (length ps) inside (omega arith) in
      let a = within from (omega (arith, ints)) (omega (arith, ints)) in
      let b = within x (omega (arith, ints)) (omega (arith, ints)) in
      let e = level_from level from from_is level_is in
      record {
        from_power = a.0;
        to_power = b.0;
        product = record { at_least = omega (arith, ints); at_most = omega (arith, ints) };
        sum = record { at_least = omega (arith, ints); at_most = omega (arith, ints) };
      }

-- ---- the valley

-- where the slopes before an end are below 0, and the one after it isn't
pub valley_at : (start : Start) (ps : List Piece) → AreSlopes start.first ps → (k : ℕ) → k ≤ length ps →
    ((j : ℕ) → j < k → (piece ps j).slope <ℤ pos 0) → (k < length ps → pos 0 ≤ℤ (piece ps k).slope)
    → IsValley (function_of start ps) start.first (last_power start.first ps) (end_at start.first ps k)
valley_at start ps slopes k inside falls rises =
    let f = function_of start ps in
    let e = end_at start.first ps in
    let low = ends_rise_to start.first ps slopes 0 k (omega arith) inside in
    let high = ends_rise_to start.first ps slopes k (length ps) inside (omega arith) in
    record {
      from = low;
      to = high;
      falls = λ x from to.
          let h = held start.first ps x from (omega (arith, ints)) in
          let j = h.index in
          let l = line_step f (e j) (e (suc j)) (piece ps j).slope x
          (along_line start.first start.level ps slopes j h.inside) h.from h.to in
          let below : j < k = elim (cases_lt j k) [
            | inl p ↦ p
            | inr p ↦ absurd (let r = ends_rise_to start.first ps slopes k j p (let i = h.inside in omega arith) in
                omega (arith, ints))
          ] in
          let d = falls j below in
          omega (arith, ints);
      rises = λ x from to.
          let h = held start.first ps x (omega (arith, ints)) to in
          let j = h.index in
          let l = line_step f (e j) (e (suc j)) (piece ps j).slope x
          (along_line start.first start.level ps slopes j h.inside) h.from h.to in
          let i = h.inside in
          let above : k ≤ j = elim (cases_lt j k) [
            | inl p ↦ absurd (let r = ends_rise_to start.first ps slopes (suc j) k (omega arith) inside in
                omega (arith, ints))
            | inr p ↦ p
          ] in
          let d = rises (omega arith) in
          let up = slopes_rise start.first ps slopes (j - k) k j (omega arith) i in
          omega (arith, ints);
    }
