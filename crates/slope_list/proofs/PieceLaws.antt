-- Pieces, and the function that they stand for.
use Rattle.slope_list.proofs.Common.{◌≡◌, ℕ, zero, suc, ◌+◌, ◌-◌, ◌<◌, ◌≤◌, List, [], ◌∷◌, length, take, refl, sym, ap}
use Rattle.slope_list.proofs.Common.{◌∙◌, subst, inl, inr, arith, ℤ, pos, ◌+ℤ◌, ◌-ℤ◌, ◌*ℤ◌, ◌≤ℤ◌, ◌<ℤ◌, ints, by_lt_z}
use Rattle.slope_list.proofs.Common.{cases_lt, Piece, piece, end_at, value_along, last_power, AreSlopes, IsLine, Stand}
use Rattle.slope_list.proofs.Common.{Curves}
use Rattle.std.proofs.lemmas.List.{get_or-take, length-take-le}
use Rattle.slope_list.proofs.LineLaws.{lt_is, not_lt_is, times_none, line_step, line_same}

pub end_at-tail : (first : ℤ) (p : Piece) (ps : List Piece) (k : ℕ) → end_at first (p ∷ ps) (suc k) ≡ end_at p.end ps k
end_at-tail first p ps zero = refl
end_at-tail first p ps (suc k) = refl

pub tail_slopes : (first : ℤ) (p : Piece) (ps : List Piece) → AreSlopes first (p ∷ ps) → AreSlopes p.end ps
tail_slopes first p ps h = record {
  rise = λ k i.
      let r = h.rise (suc k) (omega arith) in
      let e = end_at-tail first p ps k in
      omega (arith, ints);
  order = λ k i. h.order (suc k) (omega arith);
}

-- ---- the order of ends and slopes

pub ends_rise : (first : ℤ) (ps : List Piece) → AreSlopes first ps → (d i j : ℕ) → j ≡ i + d → j ≤ length ps →
    end_at first ps i ≤ℤ end_at first ps j
ends_rise first ps s zero i j e h =
    let same : end_at first ps j ≡ end_at first ps i = ap (end_at first ps) {x = j} {y = i} (omega arith) in
    omega (arith, ints)
ends_rise first ps s (suc d) i j e h =
    let before : end_at first ps i ≤ℤ end_at first ps (i + d) = ends_rise first ps s d i (i + d) refl (omega arith) in
    let step : end_at first ps (i + d) <ℤ end_at first ps (suc (i + d)) = s.rise (i + d) (omega arith) in
    let same : end_at first ps j ≡ end_at first ps (suc (i + d)) =
    ap (end_at first ps) {x = j} {y = suc (i + d)} (omega arith) in
    omega (arith, ints)

pub ends_rise_to : (first : ℤ) (ps : List Piece) → AreSlopes first ps → (i j : ℕ) → i ≤ j → j ≤ length ps →
    end_at first ps i ≤ℤ end_at first ps j
ends_rise_to first ps s i j l h = ends_rise first ps s (j - i) i j (omega arith) h

pub slopes_rise : (first : ℤ) (ps : List Piece) → AreSlopes first ps → (d i j : ℕ) → j ≡ i + d → j < length ps →
    (piece ps i).slope ≤ℤ (piece ps j).slope
slopes_rise first ps s zero i j e h =
    let same : (piece ps j).slope ≡ (piece ps i).slope = ap (λ (k : ℕ). (piece ps k).slope) (omega arith) in
    omega (arith, ints)
slopes_rise first ps s (suc d) i j e h =
    let before : (piece ps i).slope ≤ℤ (piece ps (i + d)).slope =
    slopes_rise first ps s d i (i + d) refl (omega arith) in
    let step : (piece ps (i + d)).slope ≤ℤ (piece ps (suc (i + d))).slope = s.order (i + d) (omega arith) in
    let same : (piece ps j).slope ≡ (piece ps (suc (i + d))).slope = ap (λ (k : ℕ). (piece ps k).slope) (omega arith) in
    omega (arith, ints)

-- ---- values

along_near : (first level : ℤ) (p : Piece) (ps : List Piece) (x : ℤ) → x ≤ℤ p.end →
    value_along first level (p ∷ ps) x ≡ level +ℤ p.slope *ℤ (x -ℤ first)
along_near first level p ps x h = rw (not_lt_is p.end x h)

along_past : (first level : ℤ) (p : Piece) (ps : List Piece) (x : ℤ) → p.end <ℤ x →
    value_along first level (p ∷ ps) x ≡ value_along p.end (level +ℤ p.slope *ℤ (p.end -ℤ first)) ps x
along_past first level p ps x h = rw (lt_is p.end x h)

pub along_first : (first level : ℤ) (ps : List Piece) → AreSlopes first ps → value_along first level ps first ≡ level
along_first first level [] s = refl
along_first first level (p ∷ ps) s =
    let up : first <ℤ p.end = s.rise 0 (omega arith) in
    let none = times_none p.slope (first -ℤ first) (omega (arith, ints)) in
    along_near first level p ps first (omega (arith, ints)) ∙ omega (arith, ints)

along_tail : (first level : ℤ) (p : Piece) (ps : List Piece) → AreSlopes first (p ∷ ps) → (x : ℤ) → p.end ≤ℤ x
    → value_along first level (p ∷ ps) x ≡ value_along p.end (level +ℤ p.slope *ℤ (p.end -ℤ first)) ps x
along_tail first level p ps s x h =
    by_lt_z p.end x
    (λ (past : p.end <ℤ x). along_past first level p ps x past)
    (λ (near : x ≤ℤ p.end).
    let e : x ≡ p.end = omega (arith, ints) in
    let l = level +ℤ p.slope *ℤ (p.end -ℤ first) in
    along_near first level p ps x near
    ∙ ap (λ (z : ℤ). level +ℤ p.slope *ℤ (z -ℤ first)) e
    ∙ sym (along_first p.end l ps (tail_slopes first p ps s))
    ∙ ap (value_along p.end l ps) (sym e))

-- each piece is a line of the function
pub along_line : (first level : ℤ) (ps : List Piece) → AreSlopes first ps →
    Stand (value_along first level ps) first ps (length ps)
along_line first level [] s k h = absurd (omega arith)
along_line first level (p ∷ ps) s zero h = record {
  rise = s.rise 0 h;
  line = λ x from to.
      let here = along_near first level p ps x to in
      let start = along_first first level (p ∷ ps) s in
      omega (arith, ints);
}
along_line first level (p ∷ ps) s (suc k) h =
    let t = tail_slopes first p ps s in
    let l = level +ℤ p.slope *ℤ (p.end -ℤ first) in
    let i = along_line p.end l ps t k (omega arith) in
    let e = end_at-tail first p ps k in
    let low : p.end ≤ℤ end_at p.end ps k = ends_rise_to p.end ps t 0 k (omega arith) (omega arith) in
    line_same (value_along p.end l ps) (value_along first level (p ∷ ps)) (end_at first (p ∷ ps) (suc k))
    (piece ps k).end (piece ps k).slope
    (subst (λ (z : ℤ). IsLine (value_along p.end l ps) z (piece ps k).end (piece ps k).slope) (sym e) i)
    (λ x from to. along_tail first level p ps s x (omega (arith, ints)))

-- ---- the piece that holds a power

pub record IsHeld (first : ℤ) (ps : List Piece) (x : ℤ) : Type 0 where
  pub index : ℕ
  pub inside : index < length ps
  pub from : end_at first ps index ≤ℤ x
  pub to : x <ℤ end_at first ps (suc index)

held_below : (first : ℤ) (ps : List Piece) (x : ℤ) → first ≤ℤ x → (n : ℕ) → n ≤ length ps → x <ℤ end_at first ps n →
    IsHeld first ps x
held_below first ps x low zero h high = absurd (omega (arith, ints))
held_below first ps x low (suc n) h high =
    by_lt_z x (end_at first ps n)
    (λ (l : x <ℤ end_at first ps n). held_below first ps x low n (omega arith) l)
    (λ (l : end_at first ps n ≤ℤ x). record { index = n; inside = omega arith; from = l; to = high })

pub held : (first : ℤ) (ps : List Piece) (x : ℤ) → first ≤ℤ x → x <ℤ last_power first ps → IsHeld first ps x
held first ps x low high = held_below first ps x low (length ps) (omega arith) high

-- no step is below the one before it
pub along_curves : (first level : ℤ) (ps : List Piece) → AreSlopes first ps →
    Curves (value_along first level ps) first (last_power first ps)
along_curves first level ps s x y low order high =
    let p = held first ps x low (omega (arith, ints)) in
    let q = held first ps y (omega (arith, ints)) high in
    let k = p.index in
    let j = q.index in
    let a = along_line first level ps s k p.inside in
    let b = along_line first level ps s j q.inside in
    let sx = line_step (value_along first level ps) (end_at first ps k) (end_at first ps (suc k)) (piece ps k).slope x a
    p.from p.to in
    let sy = line_step (value_along first level ps) (end_at first ps j) (end_at first ps (suc j)) (piece ps j).slope y b
    q.from q.to in
    let up : (piece ps k).slope ≤ℤ (piece ps j).slope = elim (cases_lt j k) [
      | inl below ↦ absurd (let r = ends_rise_to first ps s (suc j) k (omega arith) (let i = p.inside in omega arith) in
          omega (arith, ints))
      | inr above ↦ slopes_rise first ps s (j - k) k j (omega arith) q.inside
    ] in
    omega (arith, ints)

-- ---- and back

stand_tail : (h : ℤ → ℤ) (lo : ℤ) (p : Piece) (ps : List Piece) (n : ℕ) → Stand h lo (p ∷ ps) (suc n) →
    Stand h p.end ps n
stand_tail h lo p ps n s k i =
    subst (λ (z : ℤ). IsLine h z (piece ps k).end (piece ps k).slope) (end_at-tail lo p ps k) (s (suc k) (omega arith))

pub along_from_stand : (h : ℤ → ℤ) (lo level : ℤ) (ps : List Piece) → Stand h lo ps (length ps) → h lo ≡ level →
    (x : ℤ) → lo ≤ℤ x → x ≤ℤ last_power lo ps
    → value_along lo level ps x ≡ h x
along_from_stand h lo level [] s e x low high = let same : h x ≡ h lo = ap h (omega (arith, ints)) in sym e ∙ sym same
along_from_stand h lo level (p ∷ ps) s e x low high =
    let l = s 0 (omega arith) in
    by_lt_z p.end x
    (λ (past : p.end <ℤ x).
    let end = l.line p.end (omega (arith, ints)) (omega (arith, ints)) in
    let last = end_at-tail lo p ps (length ps) in
    along_past lo level p ps x past
    ∙ along_from_stand h p.end (level +ℤ p.slope *ℤ (p.end -ℤ lo)) ps (stand_tail h lo p ps (length ps) s)
    (omega (arith, ints)) x (omega (arith, ints)) (omega (arith, ints)))
    (λ (near : x ≤ℤ p.end).
    let here = l.line x low near in
    along_near lo level p ps x near ∙ omega (arith, ints))

-- ---- the first pieces of a list

pub piece-take : (n : ℕ) (ps : List Piece) (k : ℕ) → k < n → piece (take n ps) k ≡ piece ps k
piece-take n ps k h = get_or-take n ps k (record { end = pos 0; slope = pos 0 }) h

pub end_at-take : (lo : ℤ) (n : ℕ) (ps : List Piece) (k : ℕ) → k ≤ n → end_at lo (take n ps) k ≡ end_at lo ps k
end_at-take lo n ps zero h = refl
end_at-take lo n ps (suc k) h = ap (λ (p : Piece). p.end) (piece-take n ps k (omega arith))

pub last_power-take : (lo : ℤ) (n : ℕ) (ps : List Piece) → n ≤ length ps → last_power lo (take n ps) ≡ end_at lo ps n
last_power-take lo n ps h = ap (end_at lo (take n ps)) (length-take-le n ps h) ∙ end_at-take lo n ps n (omega arith)

pub stand-take : (h : ℤ → ℤ) (lo : ℤ) (n : ℕ) (ps : List Piece) → n ≤ length ps → Stand h lo ps n →
    Stand h lo (take n ps) (length (take n ps))
stand-take h lo n ps len s k i =
    let l = length-take-le n ps len in
    let below : k < n = omega (arith, i, l) in
    let line = s k below in
    let same = piece-take n ps k below in
    let start = end_at-take lo n ps k (omega arith) in
    let stop : end_at lo (take n ps) (suc k) ≡ end_at lo ps (suc k) = ap (λ (p : Piece). p.end) same in
    let slope : (piece (take n ps) k).slope ≡ (piece ps k).slope = ap (λ (p : Piece). p.slope) same in
    subst (λ (z : ℤ). IsLine h z (end_at lo (take n ps) (suc k)) (piece (take n ps) k).slope) (sym start)
    (subst (λ (z : ℤ). IsLine h (end_at lo ps k) z (piece (take n ps) k).slope) (sym stop)
    (subst (λ (z : ℤ). IsLine h (end_at lo ps k) (end_at lo ps (suc k)) z) (sym slope) line))
