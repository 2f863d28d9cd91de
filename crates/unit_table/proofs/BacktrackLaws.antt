-- What the running spells left for backtracking from each row.
use Rattle.unit_table.proofs.Common.{◌≡◌, ◌≢◌, ℕ, suc, ◌-◌, ◌<◌, ◌≤◌, ◌⊎◌, inl, inr, Option, Some, None, ℤ, ◌+ℤ◌, List}
use Rattle.unit_table.proofs.Common.{length, sym, ap, ◌∙◌, subst, arith, IfSome, IfNone, cases_lt, cases_eq, Table}
use Rattle.unit_table.proofs.Common.{value_of, Lowest, ThermalUnit, PriceLists, Passed, IsFrontier, IsOnNoted}
use Rattle.unit_table.proofs.Common.{IsEndNoted, IsSpellNoted, since, end_cost, Ended, refl, AreFewer, IsGoneOn}
use Rattle.unit_table.proofs.Common.{AreAllNoted}
use Rattle.unit_table.proofs.Common.{row_at, first_at, IsPut, Going, AreRunningSpells, AreNoted, IsRowOf}
use Rattle.unit_table.proofs.Common.{IsEndLeft, CanBacktrack}
use Rattle.unit_table.proofs.RowLaws.{first-is}

-- ---- a period more

-- where a period is reached, the one before it was
before_some : (g : ThermalUnit) (π : PriceLists) (first t : ℕ) (f h : Table) (x v : ℤ) → IsFrontier g π first t f →
    IsFrontier g π first (suc t) h → value_of h x ≡ Some v → (y w : ℤ) × (value_of f y ≡ Some w)
before_some g π first t f h x v front next there =
    let r = next.sound x v there in
    let c = front.complete r.run (λ k from until. r.keeps k from (omega arith)) in
    (_, c.0, c.1)

pub noted_more : (g : ThermalUnit) (π : PriceLists) (first t : ℕ) (f h : Table) (left left' : ℕ → Passed) →
    IsFrontier g π first t f → IsFrontier g π first (suc t) h →
    ((k : ℕ) → k ≢ t - (first - 1) → left' k ≡ left k) →
    ((x v : ℤ) → value_of f x ≡ Some v → IsOnNoted g π first t (since first left' t).note) →
    AreNoted g π first t f left →
    AreNoted g π first (suc t) h left'
noted_more g π first t f h left left' front next kept noted old x v there k from until =
    let b = before_some g π first t f h x v front next there in
    elim (cases_lt k t) [
      | inl less ↦ rw (kept (k - (first - 1)) (λ z. omega arith)) (old b.0 b.1 b.2 k from less)
      | inr most ↦ let z : t ≡ k = omega arith in subst (λ (j : ℕ). IsOnNoted g π first j (since first left' j).note)
          z (noted b.0 b.1 b.2)
    ]

-- each one that is on, where it goes on
pub noted_all : (g : ThermalUnit) (π : PriceLists) (t : ℕ) (live live' : ℕ → Option Going) (left left' : ℕ → ℕ →
    Passed) → ((f : ℕ) (r : Going) → live f ≡ Some r → IsFrontier g π f t r.function) →
    ((f : ℕ) (r : Going) → live f ≡ Some r → IsGoneOn g π t f r (live' f)) →
    ((f : ℕ) → live f ≡ None → live' f ≡ None) → ((f k : ℕ) → k ≢ t - (f - 1) → left' f k ≡ left f k) →
    ((f : ℕ) (r : Going) (x v : ℤ) → live f ≡ Some r → value_of r.function x ≡ Some v →
    IsOnNoted g π f t (since f (left' f) t).note) →
    AreAllNoted g π t live left → AreAllNoted g π (suc t) live' left'
noted_all g π t live live' left left' front goes off kept noted old f y is =
    elim (live f) as (λ o. live f ≡ o → AreNoted g π f (suc t) y.function (left' f)) [
      | None ↦ λ none. (let gone = off f none in absurd (cc))
      | Some r ↦ λ on.
          let h = goes f r on in
          elim (h.next_is) [
            | inl here ↦
                let new : Going = record { before = r.before; cost = r.cost; function = h.function } in
                let z : new ≡ y = (cc) in
                subst (λ (y : Going). AreNoted g π f (suc t) y.function (left' f)) z
                (noted_more g π f t r.function h.function (left f) (left' f) (front f r on) h.frontier (kept f)
                (λ x v there. noted f r x v on there) (old f r on))
            | inr gone ↦ (let none = gone.0 in absurd (cc))
          ]
    ] refl

-- where some were stopped
pub noted_fewer : (g : ThermalUnit) (π : PriceLists) (t : ℕ) (live live' : ℕ → Option Going) (left left' : ℕ → ℕ →
    Passed) → AreFewer live live' → ((f k : ℕ) → left' f k ≡ left f k) → AreAllNoted g π t live left →
    AreAllNoted g π t live' left'
noted_fewer g π t live live' left left' fewer same noted f r on x v there k from until = elim (fewer f) [
  | inl kept ↦ rw (same f (k - (f - 1))) (noted f r (sym kept ∙ on) x v there k from until)
  | inr none ↦ absurd (cc)
]

-- where one begins with the next period
pub noted_start : (g : ThermalUnit) (π : PriceLists) (t : ℕ) (live live' : ℕ → Option Going) (left left' : ℕ → ℕ →
    Passed) → ((f : ℕ) → f ≢ suc t → live' f ≡ live f) → ((f k : ℕ) → left' f k ≡ left f k) →
    AreAllNoted g π t live left → AreAllNoted g π t live' left'
noted_start g π t live live' left left' others same noted f r on x v there k from until = elim (cases_eq f (suc t)) [
  | inl z ↦ absurd (omega arith)
  | inr other ↦ rw (same f (k - (f - 1))) (noted f r (sym (others f other) ∙ on) x v there k from until)
]

-- ---- an end that is put into its row

pub end_left : (g : ThermalUnit) (π : PriceLists) (first t before : ℕ) (cost : ℤ) (rows rows' : List (Option Ended))
    (p q : Passed) (net : Option ℤ) → q ≡ p → net ≡ end_cost p.end → IfNone net (rows' ≡ rows) →
    IfSome net (λ c. IsPut (suc t) (record { cost = cost +ℤ c; first = first; before = before }) rows rows') →
    IfSome p.end (IsEndNoted g π first t p.note) →
    (row_at rows' (suc t) ≡ row_at rows (suc t)) ⊎ ((first_at rows' (suc t) ≡ first) × IsEndLeft g π first t q)
end_left g π first t before cost rows rows' p q net same is none some ended =
    by_end p.end (rw is at none)
    (rw is at some) ended
    (cc)
  where
    by_end : (end : Option Lowest) → IfNone (end_cost end) (rows' ≡ rows) →
        IfSome (end_cost end)
        (λ c. IsPut (suc t) (record { cost = cost +ℤ c; first = first; before = before }) rows rows') →
        IfSome end (IsEndNoted g π first t p.note) → q.end ≡ end →
        (row_at rows' (suc t) ≡ row_at rows (suc t)) ⊎ ((first_at rows' (suc t) ≡ first) × IsEndLeft g π first t q)
    by_end None none some ended at = inl (cc)
    by_end (Some e) none some ended at = elim (some.here) [
      | inl old ↦ inl old
      | inr new ↦ inr (
        first-is rows' (suc t) (record { cost = cost +ℤ e.value; first = first; before = before }) new,
        (e, at, rw same ended),
      )
    ]

-- the cost of an end
pub end_some : (end : Option Lowest) (net : Option ℤ) (P : ℤ → Type 0) → net ≡ end_cost end →
    IfSome end (λ (e : Lowest). P e.value) → IfSome net P
end_some None net P is h = subst (λ o. IfSome o P) (sym is) tt
end_some (Some e) net P is h = subst (λ o. IfSome o P) (sym is) h

pub always : {X : Type 0} (o : Option X) (P : Type 0) → P → IfSome o (λ _. P)
always None P h = tt
always (Some x) P h = h

-- ---- rows

spell_same : (g : ThermalUnit) (π : PriceLists) (first l : ℕ) (p q : ℕ → Passed) → 1 ≤ l → first ≤ l →
    ((k : ℕ) → first ≤ suc k → k < l → q k ≡ p k) → IsSpellNoted g π first l p → IsSpellNoted g π first l q
spell_same g π first l p q one order same h =
    let e = same (l - 1) (omega arith) (omega arith) in
    record {
      on = λ k from until. rw (same k from (omega arith)) (h.on k from until);
      lowest = h.lowest;
      is_end = cc;
      end = rw e h.end;
    }

pub ways_same : (g : ThermalUnit) (π : PriceLists) (t : ℕ) (ends : ℕ → Option ℤ) (firsts : ℕ → ℕ) (left left' : ℕ → ℕ →
    Passed) → ((f k : ℕ) → left' f k ≡ left f k) → CanBacktrack g π t ends firsts left → CanBacktrack g π t ends firsts
    left'
ways_same g π t ends firsts left left' same backtracks l v one until is =
    let f = firsts l in
    let old = backtracks l v one until is in (
      old.0,
      spell_same g π f l (since f (left f)) (since f (left' f)) one old.0 (λ k from low. same f (k - (f - 1)))
          old.1,
    )

-- none ends with the period
pub ways_none : (g : ThermalUnit) (π : PriceLists) (t : ℕ) (ends : ℕ → Option ℤ) (firsts : ℕ → ℕ) (left : ℕ → ℕ →
    Passed) → ends (suc t) ≡ None → CanBacktrack g π t ends firsts left → CanBacktrack g π (suc t) ends firsts left
ways_none g π t ends firsts left none backtracks l v one until is = elim (cases_lt l (suc t)) [
  | inl less ↦ backtracks l v one (omega arith) is
  | inr most ↦ let z : l ≡ suc t = omega arith in let e = ap ends z in cc
]

module _ (g : ThermalUnit) (π : PriceLists) (t n : ℕ) (ends ends' : ℕ → Option ℤ) (firsts firsts' : ℕ →
    ℕ) (before : ℕ) (left left' : ℕ → ℕ → Passed) (live : ℕ → Option Going)
    (limits : ℕ → ℤ) (now : AreRunningSpells g π limits ends live t n) (all_noted : AreAllNoted g π t live left)
    (row : IsRowOf g π (length π.energy) live n (suc t) (ends' (suc t)) (firsts' (suc t)) before)
    (ended : (v : ℤ) → ends' (suc t) ≡ Some v → IsEndLeft g π (firsts' (suc t)) t
    (since (firsts' (suc t)) (left' (firsts' (suc t))) t))
    (kept : (f k : ℕ) → k ≢ t - (f - 1) → left' f k ≡ left f k)
    (same_end : (l : ℕ) → l ≢ suc t → ends' l ≡ ends l) (same_first : (l : ℕ) → l ≢ suc t → firsts' l ≡ firsts l) where
  here : (v : ℤ) → ends' (suc t) ≡ Some v → (firsts' (suc t) ≤ suc t) × IsSpellNoted g π (firsts' (suc t)) (suc t)
      (since (firsts' (suc t)) (left' (firsts' (suc t))))
  here v is =
      let first = firsts' (suc t) in
      let s = row.sound v is in
      let r = s.0 in
      let running_spell = (now.right first r s.1).1 in
      let e = ended v is in
      let noted = e.2.1 in
      let reached = noted.frontier.sound _ noted.value noted.begins.there in
      let c = running_spell.frontier.complete reached.run reached.keeps in
      let z : suc t - 1 ≡ t = omega arith in (
        s.4.order,
        record {
          on = λ k from until.
              (let low : k < t = omega arith in
              let j = k - (first - 1) in
              rw (sym (kept first j (λ y. omega arith))) at (all_noted first r s.1 _ c.0 c.1 k from low));
          lowest = e.0;
          is_end = cc;
          end = rw z e.2;
        },
      )

  pub ways_more : CanBacktrack g π t ends firsts left → CanBacktrack g π (suc t) ends' firsts' left'
  ways_more backtracks l v one until is = elim (cases_eq l (suc t)) [
    | inl z ↦ rw z (here v (ap ends' (sym z) ∙ is))
    | inr other ↦
        let low : l ≤ t = omega arith in
        let first = same_first l other in
        let old = backtracks l v one low (sym (same_end l other) ∙ is) in
        let f = firsts l in
        let moved = spell_same g π f l (since f (left f)) (since f (left' f)) one old.0
        (λ k from less. kept f (k - (f - 1)) (λ y. omega arith)) old.1 in
        subst (λ (f : ℕ). (f ≤ l) × IsSpellNoted g π f l (since f (left' f))) (sym first) (old.0, moved)
  ]
