-- Knots that are dropped, put at an end, or put in between.
use Rattle.ramp_step.proofs.Common.{◌≡◌, ℕ, ◌+◌, ◌-◌, ◌<◌, ◌≤◌, List, refl, sym, ap, ◌∙◌, subst, arith, inl, inr, ℤ}
use Rattle.ramp_step.proofs.Common.{pos, ◌+ℤ◌, ◌-ℤ◌, ◌*ℤ◌, ◌≤ℤ◌, ◌<ℤ◌, ◌⊎◌, ints, by_lt_z, cases_lt, Knot, knot, power}
use Rattle.ramp_step.proofs.Common.{height, IsStraight, StandFor, IsShape, HaveSameEnds, IsFar, IsAmount, IsOnLine}
use Rattle.ramp_step.proofs.Common.{IsBetween, AreWithin, IsLimited, AreBelow, IsCut, AreDropped, IsInserted, IsSplit}
use Rattle.ramp_step.proofs.Common.{IsPart}
use Rattle.ramp_step.proofs.KnotLaws.{rises, StandFor-run}
use Rattle.ramp_step.proofs.WindowLaws.{straight_line}

-- ---- between neighbours

module _ (ks : List Knot) (n m : ℕ) (f : ℤ → ℤ) (s : StandFor ks n f) (some : 0 < m) (inside : m < n) where
  step : power ks (m - 1) <ℤ power ks m
  step = let h = s.rise (m - 1) (omega arith) in
      let e : power ks ((m - 1) + 1) ≡ power ks m = ap (power ks) (omega arith) in omega (arith, ints)

  part : IsStraight (power ks (m - 1)) (power ks m) f
  part x low high =
      let e : power ks ((m - 1) + 1) ≡ power ks m = ap (power ks) (omega arith) in
      s.straight (m - 1) (omega arith) x low (omega (arith, ints))

  whole_slope : height ks m ≡ height ks (m - 1) +ℤ (f (power ks (m - 1) +ℤ pos 1) -ℤ f (power ks (m - 1))) *ℤ
      (power ks m -ℤ power ks (m - 1))
  whole_slope =
      let h = step in
      let e = straight_line f (power ks (m - 1)) (power ks m) part (power ks m) (omega (arith, ints))
      (omega (arith, ints)) in
      let a = s.meet (m - 1) (omega arith) in
      let b = s.meet m inside in
      omega (arith, ints)

  pub on_line_between : (x : ℤ) → power ks (m - 1) ≤ℤ x → x ≤ℤ power ks m → IsOnLine (knot ks (m - 1)) (knot ks m) x
  on_line_between x low high = record {
    rise = step;
    from = low;
    to = high;
    slope = f (power ks (m - 1) +ℤ pos 1) -ℤ f (power ks (m - 1));
    whole = whole_slope;
  }

  pub value_between : (x : ℤ) (q : Knot) → power ks (m - 1) ≤ℤ x → x ≤ℤ power ks m →
      IsBetween (knot ks (m - 1)) (knot ks m) x q → q.value ≡ f x
  value_between x q low high b =
      let v = b.value (f (power ks (m - 1) +ℤ pos 1) -ℤ f (power ks (m - 1))) whole_slope in
      let e = straight_line f (power ks (m - 1)) (power ks m) part x low high in
      let a = s.meet (m - 1) (omega arith) in
      omega (arith, ints)

pub within_between : (ks : List Knot) (n m : ℕ) → IsLimited ks n → 0 < m → m < n →
    AreWithin (knot ks (m - 1)) (knot ks m)
within_between ks n m l some inside = record {
  power_a = l.powers (m - 1) (omega arith);
  power_b = l.powers m inside;
  amount_a = l.amounts (m - 1) (omega arith);
  amount_b = l.amounts m inside;
}

-- ---- a knot is put in

-- what holds of each knot and of the new one
inserted_each : (ks ks' : List Knot) (n m : ℕ) (q : Knot) → m < n → IsInserted m n q ks ks' → (P : Knot → Type 0) →
    ((k : ℕ) → k < n → P (knot ks k)) → P q → (k : ℕ) → k < n + 1 → P (knot ks' k)
inserted_each ks ks' n m q inside i P all new k h = elim (cases_lt k m) [
  | inl before ↦ subst P (sym (i.before k before)) (all k (omega arith))
  | inr past ↦ elim (cases_lt m k) [
    | inl after ↦
        let e : knot ks' k ≡ knot ks (k - 1) = ap (knot ks') (omega arith) ∙
        i.after (k - 1) (omega arith) (omega arith) in
        subst P (sym e) (all (k - 1) (omega arith))
    | inr same ↦ let e : knot ks' k ≡ q = ap (knot ks') (omega arith) ∙ i.there in subst P (sym e) new
  ]
]

module _ (ks ks' : List Knot) (n m : ℕ) (f : ℤ → ℤ) (x : ℤ) (q : Knot) (s : StandFor ks n f) (some : 0 < m)
    (inside : m < n)
    (low : power ks (m - 1) <ℤ x) (high : x <ℤ power ks m) (at : q.at ≡ x) (value : q.value ≡ f x)
    (i : IsInserted m n q ks ks') where
  before_power : (k : ℕ) → k < m → power ks' k ≡ power ks k
  before_power k h = ap (λ (r : Knot). r.at) (i.before k h)

  there_power : power ks' m ≡ x
  there_power = ap (λ (r : Knot). r.at) i.there ∙ at

  after_power : (k : ℕ) → m < k → k < n + 1 → power ks' k ≡ power ks (k - 1)
  after_power k h l = ap (power ks') (omega arith) ∙
      ap (λ (r : Knot). r.at) (i.after (k - 1) (omega arith) (omega arith))

  pub part_of : (k : ℕ) → k + 1 < n + 1 → IsPart ks n ks' k
  part_of k h =
      elim (cases_lt (k + 1) m) [
        | inl before ↦
            let a = before_power k (omega arith) in
            let b = before_power (k + 1) before in
            let r = s.rise k (omega arith) in
            record {
              old = k;
              bound = omega arith;
              from = omega (arith, ints);
              to = omega (arith, ints);
              rise =
                  omega (arith, ints);
            }
        | inr from ↦ elim (cases_lt k m) [
          | inl last ↦
              let a = before_power k last in
              let e : power ks' (k + 1) ≡ power ks' m = ap (power ks') (omega arith) in
              let b = there_power in
              let e1 : power ks k ≡ power ks (m - 1) = ap (power ks) (omega arith) in
              let e2 : power ks (k + 1) ≡ power ks m = ap (power ks) (omega arith) in
              record {
                old = k;
                bound = omega arith;
                from = omega (arith, ints);
                to = omega (arith, ints);
                rise =
                    omega (arith, ints);
              }
          | inr past ↦ elim (cases_lt m k) [
            | inl after ↦
                let a = after_power k after (omega arith) in
                let b = after_power (k + 1) (omega arith) h in
                let e : power ks ((k + 1) - 1) ≡ power ks ((k - 1) + 1) = ap (power ks) (omega arith) in
                let r = s.rise (k - 1) (omega arith) in
                record {
                  old = k - 1;
                  bound = omega arith;
                  from = omega (arith, ints);
                  to = omega (arith, ints);
                  rise =
                      omega (arith, ints);
                }
            | inr same ↦
                let e : power ks' k ≡ power ks' m = ap (power ks') (omega arith) in
                let a = there_power in
                let b = after_power (k + 1) (omega arith) h in
                let e1 : power ks ((k + 1) - 1) ≡ power ks m = ap (power ks) (omega arith) in
                let e2 : power ks ((k - 1) + 1) ≡ power ks m = ap (power ks) (omega arith) in
                let e3 : power ks (k - 1) ≡ power ks (m - 1) = ap (power ks) (omega arith) in
                record {
                  old = k - 1;
                  bound = omega arith;
                  from = omega (arith, ints);
                  to = omega (arith, ints);
                  rise =
                      omega (arith, ints);
                }
          ]
        ]
      ]

  pub ends_inserted : HaveSameEnds ks n ks' (n + 1)
  ends_inserted = record {
    some = λ h. omega arith;
    none = λ h. absurd (omega arith);
    first = λ h. before_power 0 some;
    last = λ h. let e : power ks ((n + 1) - 1 - 1) ≡ power ks (n - 1) = ap (power ks) (omega arith) in
        after_power ((n + 1) - 1) (omega arith) (omega arith) ∙ e;
  }

  pub StandFor-inserted : StandFor ks' (n + 1) f
  StandFor-inserted = record {
    rise = λ k h. let p = part_of k h in p.rise;
    meet = inserted_each ks ks' n m q inside i (λ r. r.value ≡ f r.at) s.meet (value ∙ ap f (sym at));
    straight = λ k h y from to.
        let p = part_of k h in
        let a = p.from in
        s.straight p.old p.bound y (omega (arith, ints)) (omega (arith, ints));
    convex = λ y from to.
        let a = before_power 0 some in
        let e = ends_inserted.last (omega arith) in
        s.convex y (omega (arith, ints)) (omega (arith, ints));
  }

  -- no two neighbours have x between them
  pub apart_inserted : (k : ℕ) → k + 1 < n + 1 → (power ks' (k + 1) ≤ℤ x) ⊎ (x ≤ℤ power ks' k)
  apart_inserted k h =
      let a = there_power in
      elim (cases_lt k m) [
        | inl before ↦ elim (cases_lt (k + 1) m) [
          | inl left ↦
              let b = before_power (k + 1) left in
              let order = rises n (power ks) s.rise ((m - 1) - (k + 1)) (k + 1) (m - 1) (omega arith) (omega arith) in
              inl (omega (arith, ints))
          | inr here ↦ let e : power ks' (k + 1) ≡ power ks' m = ap (power ks') (omega arith) in
              inl (omega (arith, ints))
        ]
        | inr past ↦ elim (cases_lt m k) [
          | inl after ↦
              let b = after_power k after (omega arith) in
              let order = rises n (power ks) s.rise ((k - 1) - m) m (k - 1) (omega arith) (omega arith) in
              inr (omega (arith, ints))
          | inr same ↦ let e : power ks' k ≡ power ks' m = ap (power ks') (omega arith) in inr (omega (arith, ints))
        ]
      ]

pub IsLimited-inserted : (ks ks' : List Knot) (n m : ℕ) (q : Knot) → IsLimited ks n → m < n → IsInserted m n q ks ks' →
    IsFar q.at → IsAmount q.value → IsLimited ks' (n + 1)
IsLimited-inserted ks ks' n m q l inside i at value = record {
  powers = inserted_each ks ks' n m q inside i (λ r. IsFar r.at) l.powers at;
  amounts = inserted_each ks ks' n m q inside i (λ r. IsAmount r.value) l.amounts value;
}

pub IsSplit-inserted : (ks ks' : List Knot) (n m : ℕ) (x : ℤ) (q : Knot) → IsShape ks n → AreBelow ks n x m → 0 < m →
    m < n → (power ks m ≡ x → ⊥)
    → IsBetween (knot ks (m - 1)) (knot ks m) x q → IsInserted m n q ks ks' → IsSplit x ks n ks' (n + 1)
IsSplit-inserted ks ks' n m x q shape b some inside new is i =
    let low = b.before (m - 1) (omega arith) in
    let upto = b.after inside in
    let high : x <ℤ power ks m = by_lt_z x (power ks m) (λ h. h) (λ h. absurd (new (omega (arith, ints)))) in
    let v : (f : ℤ → ℤ) → StandFor ks n f → q.value ≡ f x =
    λ f s. value_between ks n m f s some inside x q (omega (arith, ints)) upto is in
    let f = shape.0 in
    let s = shape.1 in
    record {
      function = λ f' s'. StandFor-inserted ks ks' n m f' x q s' some inside low high is.at (v f' s') i;
      apart = apart_inserted ks ks' n m f x q s some inside low high is.at (v f s) i;
      finer = part_of ks ks' n m f x q s some inside low high is.at (v f s) i;
      ends = ends_inserted ks ks' n m f x q s some inside low high is.at (v f s) i;
    }

-- no knot is put in: x is the power of a knot, or isn't inside
pub IsSplit-still : (ks : List Knot) (n m : ℕ) (x : ℤ) → IsShape ks n → AreBelow ks n x m →
    (m ≡ 0) ⊎ ((m ≡ n) ⊎ (power ks m ≡ x)) → IsSplit x ks n ks n
IsSplit-still ks n m x shape b why = record {
  function = λ f s. s;
  apart = λ k h.
      let s = shape.1 in
      elim (cases_lt k m) [
        | inl before ↦ elim (cases_lt (k + 1) m) [
          | inl left ↦ let l = b.before (k + 1) left in inl (omega (arith, ints))
          | inr here ↦ elim why [
            | inl none ↦ absurd (omega arith)
            | inr rest ↦ elim rest [
              | inl whole ↦ absurd (omega arith)
              | inr there ↦ let e : power ks (k + 1) ≡ power ks m = ap (power ks) (omega arith) in
                  inl (omega (arith, ints))
            ]
          ]
        ]
        | inr past ↦
            let a = b.after (omega arith) in
            let order = rises n (power ks) s.rise (k - m) m k (omega arith) (omega arith) in
            inr (omega (arith, ints))
      ];
  finer = λ k h. record {
    old = k;
    bound = h;
    from = omega (arith, ints);
    to = omega (arith, ints);
    rise =
        let s = shape.1 in s.rise k h;
  };
  ends = record { some = λ h. h; none = λ h. h; first = λ h. refl; last = λ h. refl };
}

-- ---- fewer knots, from the front or the back

pub StandFor-fewer : (ks : List Knot) (n m : ℕ) (f : ℤ → ℤ) → StandFor ks n f → m ≤ n → StandFor ks m f
StandFor-fewer ks n m f s h = record {
  rise = λ k i. s.rise k (omega arith);
  meet = λ k i. s.meet k (omega arith);
  straight = λ k i. s.straight k (omega arith);
  convex = λ y from to. elim (cases_lt 0 m) [
    | inl some ↦
        let order = rises n (power ks) s.rise ((n - 1) - (m - 1)) (m - 1) (n - 1) (omega arith) (omega arith) in
        s.convex y from (omega (arith, ints))
    | inr none ↦ let e : power ks (m - 1) ≡ power ks 0 = ap (power ks) (omega arith) in absurd (omega (arith, ints))
  ];
}

module _ (ks ks' : List Knot) (n by_ : ℕ) (f : ℤ → ℤ) (s : StandFor ks n f) (inside : by_ < n)
    (d : AreDropped 0 by_ n ks ks') where
  pub dropped_power : (k : ℕ) → k + by_ < n → power ks' k ≡ power ks (k + by_)
  dropped_power k h = ap (λ (q : Knot). q.at) (d.moved k (omega arith) h)

  pub StandFor-dropped : StandFor ks' (n - by_) f
  StandFor-dropped = StandFor-run ks ks' n by_ (n - by_)
      (record {
        inside = omega arith;
        some = omega arith;
        knots =
            λ k h. d.moved k (omega arith) (omega arith) ∙ ap (knot ks) (omega arith);
      }) f s

-- ---- cuts

pub StandFor-none : (ks : List Knot) (n : ℕ) (f : ℤ → ℤ) → n ≡ 0 → StandFor ks n f
StandFor-none ks n f e = record {
  rise = λ k h. absurd (omega arith);
  meet = λ k h. absurd (omega arith);
  straight = λ k h. absurd (omega arith);
  convex = λ y from to. let q : power ks (n - 1) ≡ power ks 0 = ap (power ks) (omega arith) in
      absurd (omega (arith, ints));
}

was_some : (ks ks1 : List Knot) (n0 n : ℕ) → HaveSameEnds ks n0 ks1 n → 0 < n → 0 < n0
was_some ks ks1 n0 n ends h =
    elim (cases_lt 0 n0) [ inl y ↦ y | inr empty ↦ let z = ends.none (omega arith) in absurd (omega arith) ]

-- after a split at lo the powers from lo on are kept
pub IsCut-below : (ks ks1 ks' : List Knot) (n0 n m : ℕ) (lo : ℤ) → IsShape ks n0 → IsSplit lo ks n0 ks1 n →
    AreBelow ks1 n lo m → AreDropped 0 m n ks1 ks' → IsCut (λ x. lo ≤ℤ x) ks n0 ks' (n - m)
IsCut-below ks ks1 ks' n0 n m lo shape split b d =
    let f = shape.0 in
    let s = split.function f shape.1 in
    record {
      function = λ f' s'. elim (cases_lt m n) [
        | inl inside ↦ StandFor-dropped ks1 ks' n m f' (split.function f' s') inside d
        | inr whole ↦ StandFor-none ks' (n - m) f' (omega arith)
      ];
      inside = λ x h.
          let some = h.some in
          let was = was_some ks ks1 n0 n split.ends (omega arith) in
          let e0 = dropped_power ks1 ks' n m f s (omega arith) d 0 (omega arith) in
          let e1 : power ks1 (0 + m) ≡ power ks1 m = ap (power ks1) (omega arith) in
          let e2 = dropped_power ks1 ks' n m f s (omega arith) d ((n - m) - 1) (omega arith) in
          let e3 : power ks1 (((n - m) - 1) + m) ≡ power ks1 (n - 1) = ap (power ks1) (omega arith) in
          let order = rises n (power ks1) s.rise m 0 m (omega arith) (omega arith) in
          let first = split.ends.first was in
          let last = split.ends.last was in
          let low = b.after (omega arith) in
          (record { some = was; from_first = omega (arith, ints); to_last = omega (arith, ints) }, omega (arith, ints));
      back = λ x h low.
          let was = h.some in
          let first = split.ends.first was in
          let last = split.ends.last was in
          let some = split.ends.some was in
          let inside : m < n = elim (cases_lt m n) [
            | inl y ↦ y
            | inr whole ↦ let l = b.before (n - 1) (omega arith) in
                absurd (omega (arith, ints))
          ] in
          let e0 = dropped_power ks1 ks' n m f s inside d 0 (omega arith) in
          let e1 : power ks1 (0 + m) ≡ power ks1 m = ap (power ks1) (omega arith) in
          let e2 = dropped_power ks1 ks' n m f s inside d ((n - m) - 1) (omega arith) in
          let e3 : power ks1 (((n - m) - 1) + m) ≡ power ks1 (n - 1) = ap (power ks1) (omega arith) in
          let near : power ks1 m ≤ℤ x = elim (cases_lt 0 m) [
            | inl more ↦ elim (split.apart (m - 1) (omega arith)) [
              | inl left ↦ let e : power ks1 ((m - 1) + 1) ≡ power ks1 m = ap (power ks1) (omega arith) in
                  omega (arith, ints)
              | inr right ↦ let l = b.before (m - 1) (omega arith) in absurd (omega (arith, ints))
            ]
            | inr none ↦ let e : power ks1 m ≡ power ks1 0 = ap (power ks1) (omega arith) in omega (arith, ints)
          ] in
          record { some = omega arith; from_first = omega (arith, ints); to_last = omega (arith, ints) };
    }

-- after a split at hi the powers up to hi are kept: the knot there is the last
pub IsCut-at : (ks ks1 : List Knot) (n0 n m : ℕ) (hi : ℤ) → IsShape ks n0 → IsSplit hi ks n0 ks1 n → m < n →
    power ks1 m ≡ hi → IsCut (λ x. x ≤ℤ hi) ks n0 ks1 (m + 1)
IsCut-at ks ks1 n0 n m hi shape split inside there =
    let f = shape.0 in
    let s = split.function f shape.1 in
    let e : power ks1 ((m + 1) - 1) ≡ power ks1 m = ap (power ks1) (omega arith) in
    let order = rises n (power ks1) s.rise ((n - 1) - m) m (n - 1) (omega arith) (omega arith) in
    let was = was_some ks ks1 n0 n split.ends (omega arith) in
    let first = split.ends.first was in
    let last = split.ends.last was in
    record {
      function = λ f' s'. StandFor-fewer ks1 n (m + 1) f' (split.function f' s') (omega arith);
      inside = λ x h. let from = h.from_first in let to = h.to_last in
          (record { some = was; from_first = omega (arith, ints); to_last = omega (arith, ints) }, omega (arith, ints));
      back = λ x h low. let from = h.from_first in let to = h.to_last in
          record { some = omega arith; from_first = omega (arith, ints); to_last = omega (arith, ints) };
    }

-- no knot is at hi: all are below it, or none
all_or_none : (ks ks1 : List Knot) (n0 n m : ℕ) (hi : ℤ) → IsSplit hi ks n0 ks1 n → AreBelow ks1 n hi m →
    (m < n → power ks1 m ≡ hi → ⊥) → (m ≡ n) ⊎ (m ≡ 0)
all_or_none ks ks1 n0 n m hi split b off =
    elim (cases_lt m n) [
      | inr whole ↦ inl (omega arith)
      | inl inside ↦ elim (cases_lt 0 m) [
        | inr none ↦ inr (omega arith)
        | inl more ↦
            let a = b.after inside in
            let l = b.before (m - 1) (omega arith) in
            elim (split.apart (m - 1) (omega arith)) [
              | inl left ↦ let e : power ks1 ((m - 1) + 1) ≡ power ks1 m = ap (power ks1) (omega arith) in
                  absurd (off inside (omega (arith, ints)))
              | inr right ↦ absurd (omega (arith, ints))
            ]
      ]
    ]

pub IsCut-off : (ks ks1 : List Knot) (n0 n m : ℕ) (hi : ℤ) → IsShape ks n0 → IsSplit hi ks n0 ks1 n →
    AreBelow ks1 n hi m → (m < n → power ks1 m ≡ hi → ⊥) → IsCut (λ x. x ≤ℤ hi) ks n0 ks1 m
IsCut-off ks ks1 n0 n m hi shape split b off =
    let within = b.within in
    let why = all_or_none ks ks1 n0 n m hi split b off in
    record {
      function = λ f' s'. StandFor-fewer ks1 n m f' (split.function f' s') within;
      inside = λ x h.
          let some = h.some in
          let was = was_some ks ks1 n0 n split.ends (omega arith) in
          let first = split.ends.first was in
          let last = split.ends.last was in
          elim why [
            | inl whole ↦
                let e : power ks1 (m - 1) ≡ power ks1 (n - 1) = ap (power ks1) (omega arith) in
                let l = b.before (m - 1) (omega arith) in (
                  record { some = was; from_first = omega (arith, ints); to_last = omega (arith, ints) },
                  omega (arith, ints),
                )
            | inr none ↦ absurd (omega arith)
          ];
      back = λ x h low.
          let was = h.some in
          let first = split.ends.first was in
          let last = split.ends.last was in
          let some = split.ends.some was in
          elim why [
            | inl whole ↦
                let e : power ks1 (m - 1) ≡ power ks1 (n - 1) = ap (power ks1) (omega arith) in
                record { some = omega arith; from_first = omega (arith, ints); to_last = omega (arith, ints) }
            | inr none ↦
                let a = b.after (omega arith) in
                let e : power ks1 m ≡ power ks1 0 = ap (power ks1) (omega arith) in
                absurd (off (omega arith) (omega (arith, ints)))
          ];
    }

pub IsLimited-fewer : (ks : List Knot) (n m : ℕ) → IsLimited ks n → m ≤ n → IsLimited ks m
IsLimited-fewer ks n m l h =
    record { powers = λ k i. l.powers k (omega arith); amounts = λ k i. l.amounts k (omega arith) }
