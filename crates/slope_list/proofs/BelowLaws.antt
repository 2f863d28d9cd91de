-- One function below another one, piece by piece.
use Rattle.slope_list.proofs.Common.{◌≡◌, ℕ, suc, ◌+◌, ◌-◌, ◌<◌, ◌≤◌, ◌⊎◌, List, length, sym, ap, ◌∙◌, subst, inl, inr}
use Rattle.slope_list.proofs.Common.{arith, ℤ, pos, ◌+ℤ◌, ◌-ℤ◌, ◌*ℤ◌, ◌≤ℤ◌, ◌<ℤ◌, int_min, ints, clamps, by_lt_z}
use Rattle.slope_list.proofs.Common.{IsAmount, *ℤ-zero, mul-mono_of, Piece, Start, CanGo, piece, end_at, last_power}
use Rattle.slope_list.proofs.Common.{function_of, table_of, AreSlopes, IsLine, AreWithin, IsPlaced, IsReached, IsUnder}
use Rattle.slope_list.proofs.Common.{IsUnderTo, IsNowhereAbove}
use Rattle.slope_list.specs.declared.cursor.Reached.{Reached}
use Rattle.slope_list.proofs.LineLaws.{add-mul, line_part}
use Rattle.slope_list.proofs.PieceLaws.{ends_rise_to, along_line}
use Rattle.slope_list.proofs.FunctionLaws.{on_inside, on_back}
use Rattle.slope_list.proofs.CursorLaws.{placed_within, placed_inside}

-- a slope that isn't below another one goes at least as far up
more : (s q d : ℤ) → s ≤ℤ q → pos 0 ≤ℤ d → (s *ℤ d) ≤ℤ (q *ℤ d)
more s q d up long =
    let e : q *ℤ d ≡ s *ℤ d +ℤ (q -ℤ s) *ℤ d =
    ap (λ (z : ℤ). z *ℤ d) {x = q} {y = s +ℤ (q -ℤ s)} (omega (arith, ints)) ∙ add-mul s (q -ℤ s) d in
    let m = mul-mono_of (q -ℤ s) (pos 0) d (omega (arith, ints)) long in
    let z = *ℤ-zero (q -ℤ s) in
    omega (arith, ints)

-- a slope that is above another one goes up the less beyond it the shorter the way is
less : (s q d e : ℤ) → q ≤ℤ s → d ≤ℤ e → ((s *ℤ d) -ℤ (q *ℤ d)) ≤ℤ ((s *ℤ e) -ℤ (q *ℤ e))
less s q d e down short =
    let n = s -ℤ q in
    let split : (z : ℤ) → s *ℤ z ≡ q *ℤ z +ℤ n *ℤ z =
    λ z. ap (λ (y : ℤ). y *ℤ z) {x = s} {y = q +ℤ n} (omega (arith, ints)) ∙ add-mul q n z in
    let ed = split d in
    let ee = split e in
    let m = mul-mono_of n d e (omega (arith, ints)) short in
    omega (arith, ints)

-- where a line is below another one at both ends, it is so between them
pub between : (f g : ℤ → ℤ) (a b s q shift : ℤ) → IsLine f a b s → IsLine g a b q
    → (f a +ℤ shift) ≤ℤ g a → (f b +ℤ shift) ≤ℤ g b → (x : ℤ) → a ≤ℤ x → x ≤ℤ b → (f x +ℤ shift) ≤ℤ g x
between f g a b s q shift l m here there x from to =
    let fx = l.line x from to in
    let gx = m.line x from to in
    let fb = l.line b (omega (arith, ints)) (omega (arith, ints)) in
    let gb = m.line b (omega (arith, ints)) (omega (arith, ints)) in
    by_lt_z q s
    (λ (above : q <ℤ s). let h = less s q (x -ℤ a) (b -ℤ a) (omega (arith, ints)) (omega (arith, ints)) in
    omega (arith, ints))
    (λ (under : s ≤ℤ q). let h = more s q (x -ℤ a) under (omega (arith, ints)) in omega (arith, ints))

-- up to the end of two lines
pub under_on : (start : Start) (ps : List Piece) (other : Start) (qs : List Piece) (shift at end s q : ℤ)
    → IsLine (function_of start ps) at end s → IsLine (function_of other qs) at end q
    → other.first ≤ℤ at → IsUnderTo start ps other qs shift at →
    (function_of start ps end +ℤ shift) ≤ℤ function_of other qs end
    → IsUnderTo start ps other qs shift end
under_on start ps other qs shift at end s q l m from under there x low high =
    by_lt_z x at
    (λ (before : x <ℤ at). under x low (omega (arith, ints)))
    (λ (past : at ≤ℤ x). between (function_of start ps) (function_of other qs) at end s q shift l m
    (under at from (omega (arith, ints))) there x past high)

-- ---- to another power of one piece

module _ (start : Start) (ps : List Piece) (slopes : AreSlopes start.first ps) (within : AreWithin start ps) (at : ℤ)
    (r : Reached) (reached : IsReached start ps at r) (inside : r.next < length ps)
    (end : ℤ) (rise : at <ℤ end) (to : end ≤ℤ (piece ps r.next).end) where
  pub part : IsLine (function_of start ps) at end (piece ps r.next).slope
  part = line_part (function_of start ps) (end_at start.first ps r.next) (end_at start.first ps (suc r.next))
      (piece ps r.next).slope at end
      (along_line start.first start.level ps slopes r.next inside) reached.placed.from rise to

  pub part_value : function_of start ps end ≡ r.value +ℤ (piece ps r.next).slope *ℤ (end -ℤ at)
  part_value = let e = part.line end (omega (arith, ints)) (omega (arith, ints)) in let v = reached.value in
      omega (arith, ints)

  pub part_goes : CanGo r.value (piece ps r.next).slope at end
  part_goes =
      let low = ends_rise_to start.first ps slopes 0 r.next (omega arith) (omega arith) in
      let high = ends_rise_to start.first ps slopes (suc r.next) (length ps) inside (omega arith) in
      let a = within at (omega (arith, ints)) (omega (arith, ints)) in
      let b = within end (omega (arith, ints)) (omega (arith, ints)) in
      let e = part_value in
      record {
        from_power = a.0;
        to_power = b.0;
        product = record { at_least = omega (arith, ints); at_most = omega (arith, ints) };
        sum = record { at_least = omega (arith, ints); at_most = omega (arith, ints) };
      }

  -- within the piece, or to its end
  pub placed_on : (next : ℕ) → (end <ℤ (piece ps r.next).end → next ≡ r.next) →
      ((piece ps r.next).end ≤ℤ end → next ≡ suc r.next) → IsPlaced start.first ps (record { at = end; next = next })
  placed_on next stays goes =
      let from = reached.placed.from in
      by_lt_z end (piece ps r.next).end
      (λ (before : end <ℤ (piece ps r.next).end).
      let e = stays before in
      let same : end_at start.first ps next ≡ end_at start.first ps r.next = ap (end_at start.first ps) e in
      let then : end_at start.first ps (suc next) ≡ end_at start.first ps (suc r.next) =
      ap (λ (k : ℕ). end_at start.first ps (suc k)) e in
      record {
        some = omega arith;
        from = omega (arith, ints);
        to = λ h. omega (arith, ints);
        last = λ h. absurd (omega arith);
      })
      (λ (past : (piece ps r.next).end ≤ℤ end).
      let e = goes past in
      let same : end_at start.first ps next ≡ end_at start.first ps (suc r.next) = ap (end_at start.first ps) e in
      record {
        some = omega arith;
        from = omega (arith, ints);
        to = λ h.
            let up = slopes.rise next h in
            omega (arith, ints);
        last = λ h.
            let last : end_at start.first ps next ≡ last_power start.first ps = ap (end_at start.first ps) h in
            omega (arith, ints);
      })

-- ---- two functions at one power

pub reached_amount : (start : Start) (ps : List Piece) → AreSlopes start.first ps → AreWithin start ps →
    (at : ℤ) (r : Reached) → IsReached start ps at r → IsAmount r.value
reached_amount start ps slopes within at r reached =
    let w = placed_within start.first ps (record { at = at; next = r.next }) slopes reached.placed in
    subst IsAmount (sym reached.value) (within at w.0 w.1).1

-- where a piece of the other function goes on, so does one of this one
module _ (start : Start) (ps : List Piece) (other : Start) (qs : List Piece) (slopes : AreSlopes other.first qs)
    (last : last_power other.first qs ≤ℤ last_power start.first ps)
    (at : ℤ) (r : Reached) (reached : IsReached start ps at r) (t : Reached) (there : IsReached other qs at t)
    (inside : t.next < length qs) where
  pub goes_on : r.next < length ps
  goes_on =
      let up = there.placed.to inside in
      let high = ends_rise_to other.first qs slopes (suc t.next) (length qs) inside (omega arith) in
      placed_inside start.first ps (record { at = at; next = r.next }) reached.placed (omega (arith, ints))

  pub end_ahead : (end : ℤ) → end ≡ int_min (piece ps r.next).end (piece qs t.next).end → at <ℤ end
  end_ahead end is =
      let a = reached.placed.to goes_on in
      let b = there.placed.to inside in
      omega (arith, ints, clamps)

-- the end of one of two pieces
pub end_of_one : (a b end : ℤ) → end ≡ int_min a b → (end ≡ a) ⊎ (end ≡ b)
end_of_one a b end is =
    by_lt_z a b
    (λ (l : a <ℤ b). inl (omega (arith, ints, clamps)))
    (λ (l : b ≤ℤ a). inr (omega (arith, ints, clamps)))

pub fewer : (n m h h' t t' : ℕ) → h < n → t < m → h ≤ h' → t ≤ t' → h' ≤ n → t' ≤ m → (h' ≡ suc h) ⊎ (t' ≡ suc t) →
    ((n - h') + (m - t')) < ((n - h) + (m - t))
fewer n m h h' t t' a b c d e f (inl k) = omega arith
fewer n m h h' t t' a b c d e f (inr k) = omega arith

-- as the tables show it
pub shown_under : (start : Start) (ps : List Piece) (other : Start) (qs : List Piece) (shift : ℤ) →
    IsUnder start ps other qs shift → IsNowhereAbove (table_of start ps) (table_of other qs) shift
shown_under start ps other qs shift under x v h =
    let o = on_back (function_of other qs) other.first (last_power other.first qs) x v h in
    let u = under x o.from o.to in (
      function_of start ps x,
      on_inside (function_of start ps) start.first (last_power start.first ps) x u.0 u.1,
      omega (arith, ints),
    )
