-- The least of the values is the least of the function.
use Rattle.level_table.proofs.Common.{◌≡◌, ℕ, ◌+◌, ◌-◌, ◌<◌, ◌≤◌, List, length, get_or, take, drop, None, refl, sym, ap}
use Rattle.level_table.proofs.Common.{◌∙◌, arith, inl, inr, get_or-take, get_or-drop, length-take, length-drop, ℤ, pos}
use Rattle.level_table.proofs.Common.{◌+ℤ◌, ◌≤ℤ◌, ◌<ℤ◌, ◌⊎◌, ints, cases_lt, value_of, HasNone, IsLeast, IsLeastIn}
use Rattle.level_table.proofs.Common.{IsAt-from_value, value-from_is_at, value_of-at, value_of-below, power_split}
use Rattle.level_table.proofs.Common.{slice_get_past, table, IsLeastOf}

pub IsLeast-from_list : (lo : ℤ) (xs : List ℤ) (v : ℤ) (i : ℕ) → IsLeastOf xs v i →
    IsLeast (table lo xs) v (lo +ℤ pos i)
IsLeast-from_list lo xs v i is =
    let f = table lo xs in
    record {
      there = value-from_is_at f (lo +ℤ pos i) v
          (record { offset = i; power = refl; inside = is.inside; there = is.there });
      least = λ y w h.
          let a = IsAt-from_value f y w h in
          let l = is.least a.offset a.inside in
          let t = a.there in
          omega (arith, ints);
      first = λ y h.
          let a = IsAt-from_value f y v h in
          let t = a.there in
          let p = a.power in
          elim (cases_lt a.offset i) [
            | inl before ↦ let b = is.first a.offset before in absurd (omega (arith, ints))
            | inr after ↦ omega (arith, ints)
          ];
    }

-- the powers from `from` to `to` have the indices from start on and below end
module _ (values : List ℤ) (lo from to : ℤ) (start end : ℕ)
    (below : (k : ℕ) → k < start → (lo +ℤ pos k) <ℤ from)
    (above : (k : ℕ) → end ≤ k → k < length values → to <ℤ (lo +ℤ pos k)) where
  none_by : end ≤ start → (x : ℤ) → from ≤ℤ x → x ≤ℤ to → ((k : ℕ) × (x ≡ lo +ℤ pos k)) ⊎ (x <ℤ lo) →
      value_of (table lo values) x ≡ None
  none_by order x h l (inr under) = value_of-below (table lo values) x under
  none_by order x h l (inl p) =
      let power = p.1 in
      elim (cases_lt p.0 (length values)) [
        | inr past ↦ ap (value_of (table lo values)) power ∙ value_of-at (table lo values) p.0 ∙
            slice_get_past values p.0 past
        | inl inside ↦ elim (cases_lt p.0 start) [
          | inl before ↦ let b = below p.0 before in absurd (omega (arith, ints))
          | inr after ↦ let a = above p.0 (omega arith) inside in absurd (omega (arith, ints))
        ]
      ]

  pub none_between : end ≤ start → HasNone from to (table lo values)
  none_between order x h l = none_by order x h l (power_split lo x)

  part_at : (k : ℕ) → k < end - start →
      get_or (take (end - start) (drop start values)) k (pos 0) ≡ get_or values (start + k) (pos 0)
  part_at k h = rw (get_or-take, get_or-drop)

  module _ (v : ℤ) (i : ℕ) (order : start < end) (within : end ≤ length values)
      (first : (k : ℕ) → start ≤ k → k < length values → from ≤ℤ (lo +ℤ pos k))
      (last : (k : ℕ) → k < end → (lo +ℤ pos k) ≤ℤ to)
      (is : IsLeastOf (take (end - start) (drop start values)) v i) where
    part_length : length (take (end - start) (drop start values)) ≡ end - start
    part_length = omega (arith, length-take (end - start) (drop start values), length-drop start values)

    -- an index of a power between the two ends
    between : (k : ℕ) (y : ℤ) → y ≡ lo +ℤ pos k → k < length values → from ≤ℤ y → y ≤ℤ to → (start ≤ k) × (k < end)
    between k y power inside h l =
        elim (cases_lt k start) [
          | inl before ↦ let b = below k before in absurd (omega (arith, ints))
          | inr after ↦ elim (cases_lt k end) [
            | inl under ↦ (after, under)
            | inr past ↦ let a = above k past inside in absurd (omega (arith, ints))
          ]
        ]

    pub least_between_is : IsLeastIn from to (table lo values) v (lo +ℤ pos (start + i))
    least_between_is =
        let f = table lo values in
        let inside : i < end - start = omega (arith, is.inside, part_length) in
        record {
          inside = (first (start + i) (omega arith) (omega arith), last (start + i) (omega arith));
          there = value-from_is_at f (lo +ℤ pos (start + i)) v
              (record {
                offset = start + i;
                power = refl;
                inside = omega arith;
                there =
                    sym (part_at i inside) ∙ is.there;
              });
          least = λ y w h l m.
              let a = IsAt-from_value f y w h in
              let b = between a.offset y a.power a.inside l m in
              let low = b.0 in
              let high = b.1 in
              let least = is.least (a.offset - start) (omega (arith, part_length)) in
              let e : get_or (take (end - start) (drop start values)) (a.offset - start) (pos 0) ≡ get_or values
              a.offset (pos 0) =
              part_at (a.offset - start) (omega arith) ∙ ap (λ j. get_or values j (pos 0)) (omega arith) in
              let t = a.there in
              omega (arith, ints);
          first = λ y h l m.
              let a = IsAt-from_value f y v h in
              let b = between a.offset y a.power a.inside l m in
              let low = b.0 in
              let t = a.there in
              let p = a.power in
              elim (cases_lt a.offset (start + i)) [
                | inr after ↦ omega (arith, ints)
                | inl before ↦
                    let s = is.first (a.offset - start) (omega arith) in
                    let e : get_or (take (end - start) (drop start values)) (a.offset - start) (pos 0) ≡ get_or values
                    a.offset (pos 0) =
                    part_at (a.offset - start) (omega (arith, inside)) ∙
                    ap (λ j. get_or values j (pos 0)) (omega arith) in
                    absurd (omega (arith, ints))
              ];
        }
