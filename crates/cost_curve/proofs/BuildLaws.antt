-- A curve grows by the blocks of an edge, and is right once no edge leads on.
use Rattle.cost_curve.proofs.Common.{◌≡◌, ℕ, suc, ◌+◌, ◌-◌, ◌*◌, ◌<◌, ◌≤◌, ◌⊎◌, inl, inr, ℤ, pos, ◌+ℤ◌, ◌-ℤ◌, ◌*ℤ◌}
use Rattle.cost_curve.proofs.Common.{◌≤ℤ◌, ◌<ℤ◌, Bool, true, false, cond, Some, None, List, [], ◌∷◌, ◌++◌, length}
use Rattle.cost_curve.proofs.Common.{slice_index_or, refl, sym, ap, ◌∙◌, subst, arith, length-append, ints}
use Rattle.cost_curve.proofs.Common.{get_or_append_left, get_or_default, int_lt, All, option_map, Block, Curve, Point}
use Rattle.cost_curve.proofs.Common.{rise_at, curve_value, envelope, line_at, width_of, mul-add, PowerCostsAreWithin}
use Rattle.cost_curve.proofs.Common.{EnvelopeIsGreatest, rise_of, extended, IsBuilt, AreCostPoints, IsCostCurve}
use Rattle.cost_curve.proofs.Common.{CanEvaluate, point_at, IsEdge, IsLast, IsVertex}
use Rattle.std.proofs.Math.Seq.{get_or-append_seam}
use Rattle.std.proofs.lemmas.List.Elements.{All-append}
use Rattle.cost_curve.proofs.CurveLaws.{width-append, rise-append, rise_old, rise_new, end_is}
use Rattle.cost_curve.proofs.EdgeLaws.{ordered_powers, price_rises}
use Rattle.cost_curve.proofs.EnvelopeValues.{Spans-ordered, envelope_value, envelope_vertex, IsEnvelope-before}
use Rattle.cost_curve.proofs.EnvelopeValues.{IsEnvelope-after}
use Rattle.cost_curve.proofs.SlopeLaws.{before_times}
use Rattle.cost_curve.proofs.ValueLaws.{after_start, before_last, is_some_of}

All-one : (P : Block → Type 0) (b : Block) → P b → All P (b ∷ [])
All-one P b h = λ k d lt. let e : k ≡ 0 = omega (arith, lt) in subst (λ j. P (slice_index_or (b ∷ []) j d)) (sym e) h

All-dearer : (bs : List Block) (k p : ℤ) → k ≤ℤ p → All (λ (b : Block). b.price ≤ℤ k) bs →
    All (λ (b : Block). b.price ≤ℤ p) bs
All-dearer bs k p le h = λ i d lt. let a = h i d lt in omega (arith, ints, a, le)

inner_or_seam : (k n : ℕ) → suc k < n + 1 → (suc k < n) ⊎ (suc k ≡ n)
inner_or_seam k n lt = grind arith

-- a dearer block at the end keeps the order
rising-append : (bs : List Block) (b : Block) →
    ((k : ℕ) (d : Block) → suc k < length bs → (slice_index_or bs k d).price ≤ℤ (slice_index_or bs (suc k) d).price) →
    All (λ (a : Block). a.price ≤ℤ b.price) bs → (k : ℕ) (d : Block) → suc k < length (bs ++ b ∷ []) →
    (slice_index_or (bs ++ b ∷ []) k d).price ≤ℤ (slice_index_or (bs ++ b ∷ []) (suc k) d).price
rising-append bs b rising below k d lt =
    let n = length-append bs (b ∷ []) in
    let lt2 : suc k < length bs + 1 = omega (arith, n, lt) in
    elim (inner_or_seam k (length bs) lt2) [
      | inl inner ↦
          let r = rising k d inner in
          let e1 = ap (λ (x : Block). x.price) (get_or_append_left bs (b ∷ []) d k (omega (arith, inner))) in
          let e2 = ap (λ (x : Block). x.price) (get_or_append_left bs (b ∷ []) d (suc k) inner) in
          omega (arith, ints, r, e1, e2)
      | inr seam ↦
          let r = below k d (omega (arith, seam)) in
          let e1 = ap (λ (x : Block). x.price) (get_or_append_left bs (b ∷ []) d k (omega (arith, seam))) in
          let e2 = ap (λ (j : ℕ). (slice_index_or (bs ++ b ∷ []) j d).price) seam ∙
          ap (λ (x : Block). x.price) (get_or-append_seam bs b [] d) in
          omega (arith, ints, r, e1, e2)
    ]

up_or_down : (w : ℤ) → (pos 0 <ℤ w) ⊎ (w ≤ℤ pos 0)
up_or_down w = grind (arith, ints)

some_or_none : (w : ℤ) → pos 0 ≤ℤ w → (int_lt (pos 0) w ≡ true) ⊎ ((int_lt (pos 0) w ≡ false) × (w ≡ pos 0))
some_or_none w h = elim (up_or_down w) [
  | inl up ↦ inl (grind (arith, ints))
  | inr down ↦
      inr (grind (arith, ints), omega (arith, ints, h, down))
]

le_or_past : (a b : ℤ) → (a ≤ℤ b) ⊎ (b <ℤ a)
le_or_past a b = grind (arith, ints)

module _ (ps : List Point) (at value : ℤ) (bs : List Block) (end price : ℤ) (built : IsBuilt ps at value bs end price)
    (b : Block) (dearer : price ≤ℤ b.price) (wide : pos 0 ≤ℤ b.width)
    (goes_on : (d : ℤ) → pos 0 ≤ℤ d → d ≤ℤ b.width → envelope ps (end +ℤ d) ≡ envelope ps end +ℤ (b.price *ℤ d)) where
  appended : IsBuilt ps at value (bs ++ b ∷ []) (end +ℤ b.width) b.price
  appended = record {
    ends = let e = built.ends in let w = width-append bs b in omega (arith, ints, e, w);
    height = let h = built.height in let r = rise-append bs b in let g = goes_on b.width wide (omega (arith, ints)) in
        omega (arith, ints, h, r, g);
    values = λ x low high.
        elim (le_or_past x end) [
          | inl old ↦ rise_old bs b (x -ℤ at) (envelope ps x -ℤ value) built.blocks.widths wide
              (omega (arith, ints, low)) (built.values x low old)
          | inr new ↦
              let ends = built.ends in
              let h = built.height in
              let y : ℤ = x -ℤ end in
              let g = goes_on y (omega (arith, ints, new)) (omega (arith, ints, high)) in
              let there : end +ℤ y ≡ x = omega (arith, ints) in
              let v = ap (envelope ps) there in
              let index : x -ℤ at ≡ width_of bs +ℤ y = omega (arith, ints, ends) in
              let sum : rise_of bs +ℤ (b.price *ℤ y) ≡ envelope ps x -ℤ value = omega (arith, ints, h, g, v) in
              ap (rise_at (bs ++ b ∷ [])) index ∙ rise_new bs b y built.blocks.widths (omega (arith, ints, new))
              (omega (arith, ints, high)) ∙ ap Some sum
        ];
    blocks = record {
      widths = All-append (λ (a : Block). pos 0 ≤ℤ a.width) bs (b ∷ []) built.blocks.widths
          (All-one (λ (a : Block). pos 0 ≤ℤ a.width) b wide);
      rising = rising-append bs b built.blocks.rising (All-dearer bs price b.price dearer built.below);
    };
    below = All-append (λ (a : Block). a.price ≤ℤ b.price) bs (b ∷ []) (All-dearer bs price b.price dearer built.below)
        (All-one (λ (a : Block). a.price ≤ℤ b.price) b (omega (arith, ints)));
  }

  same : b.width ≡ pos 0 → IsBuilt ps at value bs (end +ℤ b.width) b.price
  same none =
      let e : end ≡ end +ℤ b.width = omega (arith, ints, none) in
      subst (λ z. IsBuilt ps at value bs z b.price) e (record {
        ends = built.ends;
        height = built.height;
        values = built.values;
        blocks = built.blocks;
        below = All-dearer bs price b.price dearer built.below;
      })

  pub IsBuilt-extended : IsBuilt ps at value (extended bs b) (end +ℤ b.width) b.price
  IsBuilt-extended =
      elim (some_or_none b.width wide) [
        | inl some ↦ subst (λ (t : Bool). IsBuilt ps at value (cond t (bs ++ b ∷ []) bs) (end +ℤ b.width) b.price)
            (sym some) appended
        | inr none ↦ subst (λ (t : Bool). IsBuilt ps at value (cond t (bs ++ b ∷ []) bs) (end +ℤ b.width) b.price)
            (sym none.0) (same none.1)
      ]

pub length-extended : (bs : List Block) (b : Block) → length (extended bs b) ≤ length bs + 1
length-extended bs b =
    let h : (t : Bool) → length (cond t (bs ++ b ∷ []) bs) ≤ length bs + 1 =
    λ t. elim t as (λ (q : Bool). length (cond q (bs ++ b ∷ []) bs) ≤ length bs + 1) [
      | true ↦
          (let n = length-append bs (b ∷ []) in omega (arith, n))
      | false ↦ omega arith
    ] in
    h (int_lt (pos 0) b.width)

-- ---- the start, an edge, and the end

not_before : (x at : ℤ) → at ≤ℤ x → int_lt x at ≡ false
not_before x at h = grind (arith, ints)

module _ (greatest : EnvelopeIsGreatest) (costs : PowerCostsAreWithin) (ps : List Point) (are : AreCostPoints ps) where
  pub IsBuilt-start : (k : ℤ) (i : ℕ) → i < length ps → IsVertex ps k (point_at ps i) →
      IsBuilt ps (point_at ps i).at (point_at ps i).cost [] (point_at ps i).at k
  IsBuilt-start k i lt v =
      let cost = envelope_vertex greatest ps are k i lt v in
      record {
        ends = omega (arith, ints);
        height = omega (arith, ints, cost);
        values = λ x low high.
            let here : x ≡ (point_at ps i).at = omega (arith, ints, low, high) in
            let e = ap (envelope ps) here in
            let none : x -ℤ (point_at ps i).at ≡ pos 0 = omega (arith, ints, here) in
            let sum : pos 0 ≡ envelope ps x -ℤ (point_at ps i).cost = omega (arith, ints, e, cost) in
            ap (rise_at []) none ∙ ap Some sum;
        blocks = record {
          widths = λ j d lt2. absurd (omega (arith, lt2));
          rising =
              λ j d lt2. absurd (omega (arith, lt2));
        };
        below = λ j d lt2. absurd (omega (arith, lt2));
      }

  module _ (i j : ℕ) (i_in : i < length ps) (j_in : j < length ps) (k t w : ℤ) (v : IsVertex ps k (point_at ps i))
      (e : IsEdge (point_at ps i) (length ps) ps (point_at ps j) t w) where
    -- the envelope over the first w kilowatts
    pub envelope_before : (d : ℤ) → pos 0 ≤ℤ d → d ≤ℤ w →
        envelope ps ((point_at ps i).at +ℤ d) ≡ (point_at ps i).cost +ℤ ((t -ℤ pos 1) *ℤ d)
    envelope_before d low high =
        let most = e.slope.most in
        let x : ℤ = (point_at ps i).at +ℤ d in
        let near : (x -ℤ (point_at ps i).at) ≤ℤ w = omega (arith, ints, high) in
        let from : (point_at ps i).at ≤ℤ x = omega (arith, ints, low) in
        let to : x ≤ℤ (point_at ps j).at = omega (arith, ints, high, most) in
        let value = envelope_value greatest ps are x (line_at (t -ℤ pos 1) x (point_at ps i))
        (Spans-ordered ps are.ordered i j x i_in j_in from to)
        (IsEnvelope-before ps i j i_in j_in k t w v e x from to near) in
        let off : x -ℤ (point_at ps i).at ≡ d = omega (arith, ints) in
        let m = ap (λ (z : ℤ). (t -ℤ pos 1) *ℤ z) off in
        omega (arith, ints, value, m)

    -- and from there to the next point
    pub envelope_after : (d : ℤ) → w ≤ℤ d → d ≤ℤ ((point_at ps j).at -ℤ (point_at ps i).at) →
        envelope ps ((point_at ps i).at +ℤ d) ≡ ((point_at ps i).cost +ℤ ((t -ℤ pos 1) *ℤ d)) +ℤ (d -ℤ w)
    envelope_after d low high =
        let least = e.slope.least in
        let x : ℤ = (point_at ps i).at +ℤ d in
        let far : w ≤ℤ (x -ℤ (point_at ps i).at) = omega (arith, ints, low) in
        let from : (point_at ps i).at ≤ℤ x = omega (arith, ints, low, least) in
        let to : x ≤ℤ (point_at ps j).at = omega (arith, ints, high) in
        let value = envelope_value greatest ps are x
        (line_at (t -ℤ pos 1) x (point_at ps i) +ℤ ((x -ℤ (point_at ps i).at) -ℤ w))
        (Spans-ordered ps are.ordered i j x i_in j_in from to)
        (IsEnvelope-after ps i j i_in j_in k t w v e x from to far) in
        let off : x -ℤ (point_at ps i).at ≡ d = omega (arith, ints) in
        let m = ap (λ (z : ℤ). (t -ℤ pos 1) *ℤ z) off in
        omega (arith, ints, value, m)

    pub IsBuilt-edge : (at value : ℤ) (bs : List Block) → IsBuilt ps at value bs (point_at ps i).at k →
        IsBuilt ps at value (extended (extended bs (record { width = w; price = t -ℤ pos 1 }))
        (record { width = ((point_at ps j).at -ℤ (point_at ps i).at) -ℤ w; price = t })) (point_at ps j).at t
    IsBuilt-edge at value bs built =
        let least = e.slope.least in
        let most = e.slope.most in
        let here = envelope_vertex greatest ps are k i i_in v in
        let run : ℤ = (point_at ps j).at -ℤ (point_at ps i).at in
        let first = IsBuilt-extended ps at value bs (point_at ps i).at k built
        (record { width = w; price = t -ℤ pos 1 })
        (price_rises (point_at ps i) ps (point_at ps j) k t w v e j j_in refl) least
        (λ d low high. let f = envelope_before d low high in omega (arith, ints, f, here)) in
        let second = IsBuilt-extended ps at value (extended bs (record { width = w; price = t -ℤ pos 1 }))
        ((point_at ps i).at +ℤ w) (t -ℤ pos 1) first (record { width = run -ℤ w; price = t })
        (omega (arith, ints)) (omega (arith, ints, most))
        (λ d low high.
        let start = envelope_before w least (omega (arith, ints)) in
        let go = envelope_after (w +ℤ d) (omega (arith, ints, low)) (omega (arith, ints, high)) in
        let there : (point_at ps i).at +ℤ (w +ℤ d) ≡ ((point_at ps i).at +ℤ w) +ℤ d = omega (arith, ints) in
        let same_power = ap (envelope ps) there in
        let split = mul-add (t -ℤ pos 1) w d in
        let one = before_times t d in
        omega (arith, ints, start, go, same_power, split, one)) in
        let end : ((point_at ps i).at +ℤ w) +ℤ (run -ℤ w) ≡ (point_at ps j).at = omega (arith, ints) in
        subst (λ (z : ℤ). IsBuilt ps at value
        (extended (extended bs (record { width = w; price = t -ℤ pos 1 })) (record { width = run -ℤ w; price = t }))
        z t) end second

  -- where no point has more power, the vertex has the last point's
  pub last_power : (i n : ℕ) → i < length ps → suc n ≡ length ps → IsLast (point_at ps i) (length ps) ps →
      (point_at ps i).at ≡ (point_at ps n).at
  last_power i n lt is last =
      let a = last n (omega (arith, is)) in
      let b = ordered_powers ps are.ordered i n (omega (arith, lt, is)) (omega (arith, is)) in
      omega (arith, ints, a, b)

  pub IsCostCurve-built : (c : Curve) (i : ℕ) (k : ℤ) → i < length ps → IsLast (point_at ps i) (length ps) ps →
      c.at ≡ (point_at ps 0).at → IsBuilt ps c.at c.value c.blocks.items (point_at ps i).at k →
      length c.blocks.items ≤ 2 * i → IsCostCurve ps c
  IsCostCurve-built c i k lt last starts built few =
      let none : Point = record { at = pos 0; cost = pos 0 } in
      record {
        starts = λ d. starts ∙ ap (λ (p : Point). p.at) (get_or_default ps 0 none d (omega arith));
        ends = λ n d is.
            let e = end_is c.at c.blocks.items in
            let b = built.ends in
            let l = last_power i n lt is last in
            let f = ap (λ (p : Point). p.at) (get_or_default ps n none d (omega (arith, is))) in
            omega (arith, ints, e, b, l, f);
        value = λ x span.
            let n : ℕ = length ps - 1 in
            let n_is : suc n ≡ length ps = omega (arith, lt) in
            let low = span.first none in
            let high = span.last n none n_is in
            let l = last_power i n lt n_is last in
            let in_it = built.values x (omega (arith, ints, starts, low)) (omega (arith, ints, high, l)) in
            let f : int_lt x c.at ≡ false = not_before x c.at (omega (arith, ints, starts, low)) in
            let back : (envelope ps x -ℤ c.value) +ℤ c.value ≡ envelope ps x = omega (arith, ints) in
            ap (λ (t : Bool). cond t None (option_map (λ (v : ℤ). v +ℤ c.value) (rise_at c.blocks.items (x -ℤ c.at)))) f
            ∙ ap (option_map (λ (v : ℤ). v +ℤ c.value)) in_it ∙ ap Some back;
        inside = λ x some.
            let low = after_start c x some in
            let high = before_last c x some built.blocks.widths in
            let b = built.ends in
            record {
              first = λ d. let f = ap (λ (p : Point). p.at) (get_or_default ps 0 none d (omega arith)) in
                  omega (arith, ints, low, starts, f);
              last = λ n d is.
                  let l = last_power i n lt is last in
                  let f = ap (λ (p : Point). p.at) (get_or_default ps n none d (omega (arith, is))) in
                  omega (arith, ints, high, b, l, f);
            };
        blocks = built.blocks;
        count = omega (arith, few, lt);
      }

  -- such a curve can be evaluated
  pub CanEvaluate-curve : (c : Curve) → IsCostCurve ps c → CanEvaluate c
  CanEvaluate-curve c curve =
      let none : Point = record { at = pos 0; cost = pos 0 } in
      let n : ℕ = length ps - 1 in
      let n_is : suc n ≡ length ps = omega (arith, are.some) in
      let first = are.points 0 none (omega (arith, are.some)) in
      let last = are.points n none (omega (arith, are.some)) in
      let starts = curve.starts none in
      let ends = curve.ends n none n_is in
      let a = first.at.at_least in
      let b = first.at.at_most in
      let d = last.at.at_least in
      let f = last.at.at_most in
      record {
        widths = curve.blocks.widths;
        first_power = record { at_least = omega (arith, ints, starts, a); at_most = omega (arith, ints, starts, b) };
        last_power = record { at_least = omega (arith, ints, ends, d); at_most = omega (arith, ints, ends, f) };
        values = λ x v is.
            let span = curve.inside x (is_some_of (curve_value c x) v is) in
            let limit = costs ps x are.some are.points span in
            let same : Some (envelope ps x) ≡ Some v = sym (curve.value x span) ∙ is in
            let v_is : envelope ps x ≡ v = cc in
            let low = limit.at_least in
            let high = limit.at_most in
            record { at_least = omega (arith, ints, v_is, low); at_most = omega (arith, ints, v_is, high) };
      }
