-- The function less the worth of the reserve, part by part.
use Rattle.slope_list.proofs.Common.{◌≡◌, ℕ, suc, ◌+◌, ◌<◌, ◌≤◌, List, length, sym, ap, ◌∙◌, subst, arith, neg_ℤ, ℤ}
use Rattle.slope_list.proofs.Common.{pos, ◌+ℤ◌, ◌-ℤ◌, ◌*ℤ◌, ◌≤ℤ◌, ◌<ℤ◌, int_min, ints, clamps, by_lt_z, zero-*ℤ}
use Rattle.slope_list.proofs.Common.{*ℤ_comm, mul-add, mul-sub, mul-mono_of, Step, IsFairStep, reserve_term, Piece}
use Rattle.slope_list.proofs.Common.{Start, Cursor, piece, end_at, last_power, function_of, AreSlopes, IsLine, Curves}
use Rattle.slope_list.proofs.Common.{kinked, bend_of, IsLowered, IsPlaced, AreSmall, AreWithin, IsGentle, IsSteep}
use Rattle.slope_list.proofs.Common.{IsValley, parts_from, IsOutput}
use Rattle.slope_list.proofs.LineLaws.{lt_is, not_lt_is, times_split, line_step, line_part}
use Rattle.slope_list.proofs.CursorLaws.{placed_after, placed_within}
use Rattle.slope_list.proofs.PieceLaws.{along_line, along_curves}

-- ---- the term

sub-mul : (a b c : ℤ) → (a -ℤ b) *ℤ c ≡ a *ℤ c -ℤ b *ℤ c
sub-mul a b c = omega (arith, ints, *ℤ_comm (a -ℤ b) c, mul-sub c a b, *ℤ_comm c a, *ℤ_comm c b)

-- a line and a term that is the same along it
line_level : (f term : ℤ → ℤ) (a b s : ℤ) → IsLine f a b s → ((x : ℤ) → a ≤ℤ x → x ≤ℤ b → term x ≡ term a) →
    IsLine (λ x. f x +ℤ term x) a b s
line_level f term a b s l same = record {
  rise = l.rise;
  line = λ x from to. let p = l.line x from to in let q = same x from to in omega (arith, ints);
}

module _ (mu cap up : ℤ) where
  term_above : (x a : ℤ) → (cap -ℤ up) ≤ℤ a → a ≤ℤ x → reserve_term mu cap up x ≡ reserve_term mu cap up a
  term_above x a h l = ap (λ (z : ℤ). neg_ℤ (mu *ℤ z)) {x = int_min cap (up +ℤ x)} {y = int_min cap (up +ℤ a)}
      (omega (arith, ints, clamps))

  term_free : (x a : ℤ) → mu ≡ pos 0 → reserve_term mu cap up x ≡ reserve_term mu cap up a
  term_free x a h =
      let p = ap (λ (z : ℤ). z *ℤ int_min cap (up +ℤ x)) h ∙ zero-*ℤ (int_min cap (up +ℤ x)) in
      let q = ap (λ (z : ℤ). z *ℤ int_min cap (up +ℤ a)) h ∙ zero-*ℤ (int_min cap (up +ℤ a)) in
      ap neg_ℤ (p ∙ sym q)

  -- up to the bend the term is a line with slope -mu
  term_below : (x a : ℤ) → a ≤ℤ x → x ≤ℤ (cap -ℤ up) →
      reserve_term mu cap up x ≡ reserve_term mu cap up a -ℤ mu *ℤ (x -ℤ a)
  term_below x a h l =
      let m = int_min cap (up +ℤ x) in
      let n = int_min cap (up +ℤ a) in
      let e = times_split mu n (x -ℤ a) m (omega (arith, ints, clamps)) in
      omega (arith, ints)

  line_below : (f : ℤ → ℤ) (a b s : ℤ) → IsLine f a b s → b ≤ℤ (cap -ℤ up) →
      IsLine (λ x. f x +ℤ reserve_term mu cap up x) a b (s -ℤ mu)
  line_below f a b s l h = record {
    rise = l.rise;
    line = λ x from to.
        let p = l.line x from to in
        let q = term_below x a from (omega (arith, ints)) in
        let e = sub-mul s mu (x -ℤ a) in
        omega (arith, ints);
  }

  term_curves : pos 0 ≤ℤ mu → (f : ℤ → ℤ) (a b : ℤ) → Curves f a b → Curves (λ x. f x +ℤ reserve_term mu cap up x) a b
  term_curves h f a b c x y low order high =
      let m0 = int_min cap (up +ℤ x) in
      let m1 = int_min cap (up +ℤ (x +ℤ pos 1)) in
      let n0 = int_min cap (up +ℤ y) in
      let n1 = int_min cap (up +ℤ (y +ℤ pos 1)) in
      let concave : (m0 +ℤ n1) ≤ℤ (m1 +ℤ n0) = omega (arith, ints, clamps) in
      let e0 = mul-add mu m0 n1 in
      let e1 = mul-add mu m1 n0 in
      let l = mul-mono_of mu (m0 +ℤ n1) (m1 +ℤ n0) h concave in
      let g = c x y low order high in
      omega (arith, ints)

-- where f falls, it falls all the more less the worth of the reserve
pub kinked_falls : (start : Start) (ps : List Piece) (s : Step) → IsFairStep s → (x : ℤ) →
    function_of start ps (x +ℤ pos 1) <ℤ function_of start ps x → kinked start ps s (x +ℤ pos 1) <ℤ kinked start ps s x
kinked_falls start ps s fair x falls =
    let m0 = int_min s.cap (s.ramp_up +ℤ x) in
    let m1 = int_min s.cap (s.ramp_up +ℤ (x +ℤ pos 1)) in
    let l = mul-mono_of s.reserve_price m0 m1 fair.reserve_price.at_least (omega (arith, ints, clamps)) in
    omega (arith, ints)

pub kinked_curves : (start : Start) (ps : List Piece) (s : Step) → IsFairStep s → AreSlopes start.first ps →
    Curves (kinked start ps s) start.first (last_power start.first ps)
kinked_curves start ps s fair slopes = term_curves s.reserve_price s.cap s.ramp_up fair.reserve_price.at_least
    (function_of start ps) start.first (last_power start.first ps) (along_curves start.first start.level ps slopes)

-- ---- the part from a power on

-- what is left of a piece is lower, or as it was
pub record IsLeft (s : Step) (at : ℤ) (p q : Piece) : Type 0 where
  pub rise : at <ℤ q.end
  pub within : q.end ≤ℤ p.end
  pub bent : q.end <ℤ p.end → (at <ℤ bend_of s) × (q.end ≡ bend_of s)
  pub lines : (f : ℤ → ℤ) (a b t : ℤ) → at ≤ℤ a → b ≤ℤ q.end → IsLine f a b t →
      IsLine (λ x. f x +ℤ reserve_term s.reserve_price s.cap s.ramp_up x) a b (t +ℤ (q.slope -ℤ p.slope))

line_sloped : (f : ℤ → ℤ) (a b t u : ℤ) → u ≡ t → IsLine f a b t → IsLine f a b u
line_sloped f a b t u e l = subst (λ (z : ℤ). IsLine f a b z) (sym e) l

module _ (s : Step) (fair : IsFairStep s) (at : ℤ) (p q : Piece) (to : at <ℤ p.end) (l : IsLowered s at p q) where
  left_below : pos 0 <ℤ s.reserve_price → at <ℤ bend_of s → IsLeft s at p q
  left_below paid below =
      let r = l.below paid below in
      let slope = r.1 in
      record {
        rise = omega (arith, ints, clamps);
        within = omega (arith, ints, clamps);
        bent = λ h. (below, omega (arith, ints, clamps));
        lines = λ f a b t from within line. line_sloped _ a b (t -ℤ s.reserve_price) _ (omega (arith, ints))
            (line_below s.reserve_price s.cap s.ramp_up f a b t line (omega (arith, ints, clamps)));
      }

  left_same : (q.end ≡ p.end) → (q.slope ≡ p.slope) →
      ((x a : ℤ) → at ≤ℤ a → a ≤ℤ x →
      reserve_term s.reserve_price s.cap s.ramp_up x ≡ reserve_term s.reserve_price s.cap s.ramp_up a) → IsLeft s at p q
  left_same end slope same = record {
    rise = omega (arith, ints);
    within = omega (arith, ints);
    bent = λ h. absurd (omega (arith, ints));
    lines = λ f a b t from within line. line_sloped _ a b t _ (omega (arith, ints))
        (line_level f (reserve_term s.reserve_price s.cap s.ramp_up) a b t line (λ x low high. same x a from low));
  }

  pub left : IsLeft s at p q
  left = by_lt_z (pos 0) s.reserve_price
      (λ (paid : pos 0 <ℤ s.reserve_price). by_lt_z at (bend_of s)
      (λ (below : at <ℤ bend_of s). left_below paid below)
      (λ (above : bend_of s ≤ℤ at). let r = l.above above in
      left_same r.0 r.1
      (λ x a low high. term_above s.reserve_price s.cap s.ramp_up x a (omega (arith, ints)) high)))
      (λ (free : s.reserve_price ≤ℤ pos 0).
      let r = l.free free in
      left_same r.0 r.1 (λ x a low high. term_free s.reserve_price s.cap s.ramp_up x a (omega (arith, ints))))

  pub left_steep : IsGentle p.slope → IsSteep q.slope
  left_steep g =
      by_lt_z (pos 0) s.reserve_price
      (λ (paid : pos 0 <ℤ s.reserve_price). by_lt_z at (bend_of s)
      (λ (below : at <ℤ bend_of s). let e = (l.below paid below).1 in
      record { at_least = omega (arith, ints); at_most = omega (arith, ints) })
      (λ (above : bend_of s ≤ℤ at). let e = (l.above above).1 in
      record { at_least = omega (arith, ints); at_most = omega (arith, ints) }))
      (λ (free : s.reserve_price ≤ℤ pos 0). let e = (l.free free).1 in
      record { at_least = omega (arith, ints); at_most = omega (arith, ints) })

-- its line
pub part_line : (ps : List Piece) (s : Step) (cursor : Cursor) (q : Piece) → cursor.next < length ps →
    IsLeft s cursor.at (piece ps cursor.next) q
    → (start : Start) → AreSlopes start.first ps → IsPlaced start.first ps cursor →
    IsLine (kinked start ps s) cursor.at q.end q.slope
part_line ps s cursor q next l start slopes placed =
    let k = cursor.next in
    let whole = along_line start.first start.level ps slopes k next in
    line_sloped (kinked start ps s) cursor.at q.end _ q.slope (omega (arith, ints))
    (l.lines (function_of start ps) cursor.at q.end (piece ps k).slope (omega (arith, ints)) (omega (arith, ints))
    (line_part (function_of start ps) (end_at start.first ps k) (end_at start.first ps (suc k)) (piece ps k).slope
    cursor.at q.end whole placed.from l.rise l.within))

module _ (ps : List Piece) (s : Step) (cursor cursor' : Cursor) (q : Piece) (next : cursor.next < length ps)
    (l : IsLeft s cursor.at (piece ps cursor.next) q) (at : cursor'.at ≡ q.end)
    (within : q.end <ℤ (piece ps cursor.next).end → cursor'.next ≡ cursor.next)
    (past : (piece ps cursor.next).end ≤ℤ q.end → cursor'.next ≡ suc cursor.next) where
  pub part_placed : (first : ℤ) → AreSlopes first ps → IsPlaced first ps cursor → IsPlaced first ps cursor'
  part_placed first slopes placed =
      by_lt_z q.end (piece ps cursor.next).end
      (λ (h : q.end <ℤ (piece ps cursor.next).end).
      let e = within h in
      let from = placed.from in
      let start : end_at first ps cursor'.next ≡ end_at first ps cursor.next = ap (end_at first ps) e in
      let stop : end_at first ps (suc cursor'.next) ≡ end_at first ps (suc cursor.next) =
      ap (λ (k : ℕ). end_at first ps (suc k)) e in
      record {
        some = omega arith;
        from = omega (arith, ints);
        to = λ i. omega (arith, ints);
        last =
            λ i. absurd (omega arith);
      })
      (λ (h : (piece ps cursor.next).end ≤ℤ q.end).
      let ends = l.within in
      placed_after first ps cursor.next cursor' slopes next (omega (arith, ints)) (past h))

  pub part_fewer : parts_from ps s cursor' + 1 ≤ parts_from ps s cursor
  part_fewer =
      by_lt_z q.end (piece ps cursor.next).end
      (λ (h : q.end <ℤ (piece ps cursor.next).end).
      let e = within h in
      let b = l.bent h in
      let was = lt_is cursor.at (bend_of s) b.0 in
      let is = not_lt_is cursor'.at (bend_of s) (let f = b.1 in omega (arith, ints)) in
      rw (was, is) (omega arith))
      (λ (h : (piece ps cursor.next).end ≤ℤ q.end).
      let e = past h in
      by_lt_z cursor'.at (bend_of s)
      (λ (g : cursor'.at <ℤ bend_of s).
      let is = lt_is cursor'.at (bend_of s) g in
      let was = lt_is cursor.at (bend_of s) (omega (arith, ints)) in
      rw (was, is) (omega arith))
      (λ (g : bend_of s ≤ℤ cursor'.at).
      let is = not_lt_is cursor'.at (bend_of s) g in
      rw is (omega arith)))

-- ---- the valley

module _ (start : Start) (ps : List Piece) (s : Step) (fair : IsFairStep s) (slopes : AreSlopes start.first ps)
    (cursor : Cursor) (placed : IsPlaced start.first ps cursor)
    (falls : (x : ℤ) → start.first ≤ℤ x → x <ℤ cursor.at → kinked start ps s (x +ℤ pos 1) <ℤ kinked start ps s x) where
  pub valley_here : (e slope : ℤ) → IsLine (kinked start ps s) cursor.at e slope → e ≤ℤ last_power start.first ps →
      pos 0 ≤ℤ slope → IsValley (kinked start ps s) start.first (last_power start.first ps) cursor.at
  valley_here e slope line end up =
      let w = placed_within start.first ps cursor slopes placed in
      let rise = line.rise in
      record {
        from = w.0;
        to = w.1;
        falls = falls;
        rises = λ x low high.
            let c = kinked_curves start ps s fair slopes cursor.at x w.0 low high in
            let l = line_step (kinked start ps s) cursor.at e slope cursor.at line (omega (arith, ints)) rise in
            omega (arith, ints);
      }

  pub valley_end : length ps ≤ cursor.next →
      IsValley (kinked start ps s) start.first (last_power start.first ps) cursor.at
  valley_end past =
      let w = placed_within start.first ps cursor slopes placed in
      let e = placed.last (omega arith) in
      record { from = w.0; to = w.1; falls = falls; rises = λ x low high. absurd (omega (arith, ints)) }

  pub falls_on : (e slope : ℤ) → IsLine (kinked start ps s) cursor.at e slope → slope <ℤ pos 0 → (x : ℤ) →
      start.first ≤ℤ x → x <ℤ e → kinked start ps s (x +ℤ pos 1) <ℤ kinked start ps s x
  falls_on e slope line down x low high = by_lt_z x cursor.at
      (λ (l : x <ℤ cursor.at). falls x low l)
      (λ (l : cursor.at ≤ℤ x). let h = line_step (kinked start ps s) cursor.at e slope x line l high in
      omega (arith, ints))

-- ---- limits

pub within_from_small : (start : Start) (ps : List Piece) → AreSmall start ps → AreWithin start ps
within_from_small start ps small x low high =
    let a = small x low high in
    ((omega (arith, ints), omega (arith, ints)), (omega (arith, ints), omega (arith, ints)))

-- where a part ends
pub record IsEnd (first last e : ℤ) : Type 0 where
  pub from : first ≤ℤ e
  pub to : e ≤ℤ last
  pub out : IsOutput e

pub end_within : (start : Start) (ps : List Piece) → AreSlopes start.first ps → AreSmall start ps → (cursor : Cursor) →
    IsPlaced start.first ps cursor → (e : ℤ) → cursor.at ≡ e → IsEnd start.first (last_power start.first ps) e
end_within start ps slopes small cursor placed e is =
    let w = placed_within start.first ps cursor slopes placed in
    let o = small cursor.at w.0 w.1 in
    subst (λ (z : ℤ). IsEnd start.first (last_power start.first ps) z) is (record { from = w.0; to = w.1; out = o.0 })

pub end_of_valley : (start : Start) (ps : List Piece) → AreSmall start ps → (s : Step) (m : ℤ) →
    IsValley (kinked start ps s) start.first (last_power start.first ps) m → IsOutput m
end_of_valley start ps small s m v = (small m v.from v.to).0
