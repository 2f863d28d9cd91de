-- Knots with free cells between them.
use Rattle.ramp_step.proofs.Common.{◌≡◌, ◌≢◌, ℕ, ◌+◌, ◌-◌, ◌<◌, ◌≤◌, List, length, take, drop, get_or, sym, ap, ◌∙◌}
use Rattle.ramp_step.proofs.Common.{subst, arith, inl, inr, ℤ, pos, ◌≤ℤ◌, ◌<ℤ◌, slice_set, ints, cases_lt, Knot, Block}
use Rattle.ramp_step.proofs.Common.{knot, power, StandFor, IsFar, IsAmount, IsLimited, IsInserted, AreBelow, AreDropped}
use Rattle.ramp_step.proofs.Common.{IsRefined, spaced, AreMovedBack, IsMovedOn}
use Rattle.std.proofs.lemmas.List.{length-set, length-take-le, get_or-take, get_or-drop, get_or-append_right}
use Rattle.std.proofs.lemmas.List.{get_or_append_left}
use Rattle.ramp_step.proofs.KnotLaws.{knot_same, knot_other}

nothing : Knot
nothing = record { at = pos 0; value = pos 0 }

-- a knot before the free cells, and one behind them
pub spaced_before : (ks : List Knot) (front room k : ℕ) → front ≤ length ks → k < front →
    knot (spaced ks front room) k ≡ knot ks k
unfolding nothing
spaced_before ks front room k fits h =
    let len = length-take-le front ks fits in
    get_or_append_left (take front ks) (drop (front + room) ks) nothing k (omega (arith, len)) ∙
    get_or-take front ks k nothing h

pub spaced_after : (ks : List Knot) (front room k : ℕ) → front ≤ length ks → front ≤ k →
    knot (spaced ks front room) k ≡ knot ks (k + room)
unfolding nothing
spaced_after ks front room k fits h =
    get_or-append_right (take front ks) (drop (front + room) ks) front k nothing (length-take-le front ks fits) h
    ∙ get_or-drop (front + room) ks (k - front) nothing
    ∙ ap (λ (i : ℕ). get_or ks i nothing) (omega arith)

-- ---- the same knots

module _ (ks ks' : List Knot) (n : ℕ) (same : (k : ℕ) → k < n → knot ks' k ≡ knot ks k) where
  pub same_power : (k : ℕ) → k < n → power ks' k ≡ power ks k
  same_power k h = ap (λ (q : Knot). q.at) (same k h)

  pub StandFor-same : (f : ℤ → ℤ) → StandFor ks n f → StandFor ks' n f
  StandFor-same f s = record {
    rise = λ k h. let a = same_power k (omega arith) in let b = same_power (k + 1) h in let r = s.rise k h in
        omega (arith, ints);
    meet = λ k h. subst (λ (q : Knot). q.value ≡ f q.at) (sym (same k h)) (s.meet k h);
    straight = λ k h x from to.
        let a = same_power k (omega arith) in
        let b = same_power (k + 1) h in
        s.straight k h x (omega (arith, ints)) (omega (arith, ints));
    convex = λ x from to. elim (cases_lt 0 n) [
      | inl some ↦
          let a = same_power 0 some in
          let b = same_power (n - 1) (omega arith) in
          s.convex x (omega (arith, ints)) (omega (arith, ints))
      | inr none ↦ absurd (let e : power ks' (n - 1) ≡ power ks' 0 = ap (power ks') (omega arith) in
          omega (arith, ints))
    ];
  }

  pub IsLimited-same : IsLimited ks n → IsLimited ks' n
  IsLimited-same l = record {
    powers = λ k h. subst IsFar (sym (same_power k h)) (l.powers k h);
    amounts = λ k h. subst (λ (q : Knot). IsAmount q.value) (sym (same k h)) (l.amounts k h);
  }

  pub IsRefined-same : (bs : List Block) (s : ℤ) (j : ℕ) (ks0 : List Knot) (n0 : ℕ) → IsRefined bs s j ks0 n0 ks n →
      IsRefined bs s j ks0 n0 ks' n
  IsRefined-same bs s j ks0 n0 r = record {
    function = λ f st. StandFor-same f (r.function f st);
    apart = λ k h i l.
        let a = same_power k (omega arith) in
        let b = same_power (k + 1) h in
        elim (r.apart k h i l) [ inl high ↦ inl (omega (arith, ints)) | inr low ↦ inr (omega (arith, ints)) ];
    ends = record {
      some = r.ends.some;
      none = r.ends.none;
      first = λ h. same_power 0 (r.ends.some h) ∙ r.ends.first h;
      last = λ h. let some = r.ends.some h in same_power (n - 1) (omega arith) ∙ r.ends.last h;
    };
  }

-- ---- the free cells at the front

pub spaced_moved : (ks ks' : List Knot) (by_ n : ℕ) → AreMovedBack by_ n ks ks' → (k : ℕ) → k < n →
    knot (spaced ks' 0 by_) k ≡ knot ks k
spaced_moved ks ks' by_ n m k h = spaced_after ks' 0 by_ k (omega arith) (omega arith) ∙ m.moved k h

-- ---- the free cells are closed

pub spaced_closed : (ks ks' : List Knot) (front room total : ℕ) → front + room ≤ total → total ≤ length ks →
    AreDropped front room total ks ks'
    → (k : ℕ) → k < total - room → knot ks' k ≡ knot (spaced ks front room) k
spaced_closed ks ks' front room total order fits d k h = elim (cases_lt k front) [
  | inl before ↦ d.before k before ∙ sym (spaced_before ks front room k (omega arith) before)
  | inr after ↦ d.moved k (omega arith) (omega arith) ∙ sym (spaced_after ks front room k (omega arith) (omega arith))
]

-- ---- the free cells are moved on

pub IsMovedOn-stop : (ks ks' : List Knot) (front room i n : ℕ) (x : ℤ) → front ≤ i → i ≤ n → n + room ≤ length ks →
    n + room ≤ length ks'
    → ((k : ℕ) → k < front → knot ks' k ≡ knot ks k)
    → ((k : ℕ) → front ≤ k → k < i → knot ks' k ≡ knot ks (k + room))
    → ((k : ℕ) → i + room ≤ k → knot ks' k ≡ knot ks k)
    → ((k : ℕ) → front ≤ k → k < i → power ks (k + room) <ℤ x)
    → (i < n → x ≤ℤ power ks (i + room))
    → IsMovedOn x n room front i ks ks'
IsMovedOn-stop ks ks' front room i n x from to fits fits' before moved rest below after = record {
  from = from;
  to = to;
  same = λ k h. elim (cases_lt k front) [
    | inl early ↦ spaced_before ks' i room k (omega arith) (omega arith) ∙ before k early ∙
        sym (spaced_before ks front room k (omega arith) early)
    | inr later ↦ elim (cases_lt k i) [
      | inl passed ↦ spaced_before ks' i room k (omega arith) passed ∙ moved k (omega arith) passed ∙
          sym (spaced_after ks front room k (omega arith) (omega arith))
      | inr left ↦ spaced_after ks' i room k (omega arith) (omega arith) ∙ rest (k + room) (omega arith) ∙
          sym (spaced_after ks front room k (omega arith) (omega arith))
    ]
  ];
  below = λ k h l. let e = ap (λ (q : Knot). q.at) (spaced_after ks front room k (omega arith) h) in
      let b = below k h l in omega (arith, ints);
  after = λ h. let e = ap (λ (q : Knot). q.at) (spaced_after ks front room i (omega arith) from) in let a = after h in
      omega (arith, ints);
}

-- ---- a knot is put in

module _ (ks : List Knot) (front room n : ℕ) (q : Knot) (some : 0 < room) (fits : front + room ≤ length ks) where
  fits' : front + room ≤ length (slice_set ks ((front + room) - 1) q)
  fits' = let len = length-set ks ((front + room) - 1) q in omega (arith, len)

  pub put_before : (k : ℕ) → k < front →
      knot (spaced (slice_set ks ((front + room) - 1) q) front (room - 1)) k ≡ knot (spaced ks front room) k
  put_before k h =
      let other : k ≢ ((front + room) - 1) = omega arith in
      spaced_before (slice_set ks ((front + room) - 1) q) front (room - 1) k (let long = fits' in omega arith) h ∙
      knot_other ks ((front + room) - 1) k q other ∙ sym (spaced_before ks front room k (omega arith) h)

  pub put_there : knot (spaced (slice_set ks ((front + room) - 1) q) front (room - 1)) front ≡ q
  put_there =
      spaced_after (slice_set ks ((front + room) - 1) q) front (room - 1) front (let long = fits' in omega arith)
      (omega arith)
      ∙ ap (knot (slice_set ks ((front + room) - 1) q)) (omega arith) ∙
      knot_same ks ((front + room) - 1) q (omega arith)

  put_after : (k : ℕ) → front ≤ k →
      knot (spaced (slice_set ks ((front + room) - 1) q) front (room - 1)) (k + 1) ≡ knot (spaced ks front room) k
  put_after k h =
      let other : (k + room) ≢ ((front + room) - 1) = omega arith in
      spaced_after (slice_set ks ((front + room) - 1) q) front (room - 1) (k + 1) (let long = fits' in omega arith)
      (omega arith)
      ∙ ap (knot (slice_set ks ((front + room) - 1) q)) (omega arith) ∙
      knot_other ks ((front + room) - 1) (k + room) q other
      ∙ sym (spaced_after ks front room k (omega arith) h)

  pub IsInserted-put : IsInserted front n q (spaced ks front room)
      (spaced (slice_set ks ((front + room) - 1) q) front (room - 1))
  IsInserted-put = record { before = put_before; there = put_there; after = λ k h l. put_after k h }

  pub AreBelow-put : (x : ℤ) → q.at ≡ x → AreBelow (spaced ks front room) n x front →
      AreBelow (spaced (slice_set ks ((front + room) - 1) q) front (room - 1)) (n + 1) x front
  AreBelow-put x at b = record {
    within = let w = b.within in omega arith;
    before = λ k h. let e = ap (λ (r : Knot). r.at) (put_before k h) in let l = b.before k h in omega (arith, ints);
    after = λ h. let e = ap (λ (r : Knot). r.at) put_there in omega (arith, ints);
  }

-- after the free cells are moved on, the knots before them are those below x
pub AreBelow-moved : (ks ks' : List Knot) (front front' room n : ℕ) (x : ℤ) → IsMovedOn x n room front front' ks ks'
    → ((k : ℕ) → k < front → power (spaced ks front room) k <ℤ x) → AreBelow (spaced ks' front' room) n x front'
AreBelow-moved ks ks' front front' room n x m below =
    let to = m.to in
    record {
      within = to;
      before = λ k h.
          let e = ap (λ (q : Knot). q.at) (m.same k (omega arith)) in
          elim (cases_lt k front) [
            | inl early ↦ let b = below k early in omega (arith, ints)
            | inr later ↦ let b = m.below k later h in omega (arith, ints)
          ];
      after = λ h. let e = ap (λ (q : Knot). q.at) (m.same front' h) in let a = m.after h in omega (arith, ints);
    }
