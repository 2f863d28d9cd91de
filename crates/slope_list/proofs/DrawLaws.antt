-- Pieces that are written one after another.
use Rattle.slope_list.proofs.Common.{◌≡◌, ◌≢◌, ℕ, zero, suc, ◌+◌, ◌<◌, ◌≤◌, List, length, get_or-set_same}
use Rattle.slope_list.proofs.Common.{get_or-set_other, refl, sym, ap, ◌∙◌, subst, inl, inr, arith, slice_set, ℤ, pos}
use Rattle.slope_list.proofs.Common.{cases_lt, Piece, piece, end_at, IsLine, IsDrawn}
use Rattle.slope_list.specs.declared.draw.Pen.{Pen}

piece_same : (out : List Piece) (i : ℕ) (q : Piece) → i < length out → piece (slice_set out i q) i ≡ q
piece_same out i q h = get_or-set_same out i q (record { end = pos 0; slope = pos 0 }) h

piece_other : (out : List Piece) (i k : ℕ) (q : Piece) → k ≢ i → piece (slice_set out i q) k ≡ piece out k
piece_other out i k q h = get_or-set_other out i k q (record { end = pos 0; slope = pos 0 }) h

end_other : (lo : ℤ) (out : List Piece) (i k : ℕ) (q : Piece) → k ≤ i →
    end_at lo (slice_set out i q) k ≡ end_at lo out k
end_other lo out i zero q h = refl
end_other lo out i (suc k) q h = ap (λ (p : Piece). p.end) (piece_other out i k q (omega arith))

pub same_line : (h : ℤ → ℤ) (a b s a' b' s' : ℤ) → a' ≡ a → b' ≡ b → s' ≡ s → IsLine h a b s → IsLine h a' b' s'
same_line h a b s a' b' s' p q r l =
    subst (λ (z : ℤ). IsLine h z b' s') (sym p)
    (subst (λ (z : ℤ). IsLine h a z s') (sym q) (subst (λ (z : ℤ). IsLine h a b z) (sym r) l))

pub drawn_more : (h : ℤ → ℤ) (lo : ℤ) (out : List Piece) (pen pen' : Pen) (q : Piece) → pen.used < length out →
    IsDrawn h lo out pen → IsLine h pen.at q.end q.slope
    → pen'.used ≡ pen.used + 1 → pen'.at ≡ q.end → IsDrawn h lo (slice_set out pen.used q) pen'
drawn_more h lo out pen pen' q room d line used at =
    let i = pen.used in
    let new = slice_set out i q in
    let meets = d.meets in
    record {
      pieces = λ k below. elim (cases_lt k i) [
        | inl before ↦
            let e = piece_other out i k q (omega arith) in
            same_line h (end_at lo out k) (end_at lo out (suc k)) (piece out k).slope (end_at lo new k)
            (end_at lo new (suc k)) (piece new k).slope
            (end_other lo out i k q (omega arith)) (ap (λ (p : Piece). p.end) e) (ap (λ (p : Piece). p.slope) e)
            (d.pieces k before)
        | inr here ↦
            let is : k ≡ i = omega arith in
            subst (λ (z : ℕ). IsLine h (end_at lo new z) (end_at lo new (suc z)) (piece new z).slope) (sym is)
            (
            let e = piece_same out i q room in
            same_line h pen.at q.end q.slope (end_at lo new i) (end_at lo new (suc i)) (piece new i).slope
            (end_other lo out i i q (omega arith) ∙ meets) (ap (λ (p : Piece). p.end) e) (ap (λ (p : Piece). p.slope) e)
            line
            )
      ];
      meets =
          let e = piece_same out i q room in
          ap (end_at lo new) {x = pen'.used} {y = suc i} (omega arith) ∙ ap (λ (p : Piece). p.end) e ∙ sym at;
    }

-- the same pieces, where the pen is at the same power
pub drawn_same : (h : ℤ → ℤ) (lo : ℤ) (out : List Piece) (pen pen' : Pen) → IsDrawn h lo out pen →
    pen'.used ≡ pen.used → pen'.at ≡ pen.at → IsDrawn h lo out pen'
drawn_same h lo out pen pen' d used at = record {
  pieces = λ k below. d.pieces k (omega arith);
  meets = ap (end_at lo out) used ∙ d.meets ∙ sym at;
}
