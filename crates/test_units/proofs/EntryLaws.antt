-- The least entry among those after an ever later on period.
use Rattle.test_units.proofs.Common.{◌≡◌, ℕ, suc, ◌+◌, ◌*◌, ◌<◌, ◌⊎◌, inl, inr, ◌≤◌, Option, Some, None, ℤ, pos, ◌+ℤ◌}
use Rattle.test_units.proofs.Common.{◌≤ℤ◌, refl, ap, ◌∙◌, subst, arith, IfSome, IfNone, ints, ThermalUnit, IsGap}
use Rattle.test_units.proofs.Common.{start_cost_after, IsStarted, IsEntry, IsLeastEntry, Entry, HasEntryAtMost}
use Rattle.test_units.proofs.Common.{IsWithinTimes}
use Rattle.test_units.proofs.Common.{sym, cases_lt}
use Rattle.plain_lists.proofs.ListLaws.{if_some}

if_none : {X : Type 0} → (P : Type 0) (o : Option X) → o ≡ None → IfNone o P → P
if_none P o is h = subst (λ o. IfNone o P) is h

-- ---- the least so far, where Is k v says that place k has something that costs v

module _ (Is : ℕ → ℤ → Type 0) where
  pub record IsLeastOf (last : ℕ) (least : Option Entry) : Type 0 where
    pub sound : (r : Entry) → least ≡ Some r → Is r.last r.cost
    pub complete : (k : ℕ) (v : ℤ) → k < last → Is k v → HasEntryAtMost least v
    pub inside : (r : Entry) → least ≡ Some r → r.last < last
    pub earliest : (r : Entry) → least ≡ Some r → (k : ℕ) → k < last → Is k r.cost → r.last ≤ k

  one_more : (last : ℕ) (least least' : Option Entry) (o : Option ℤ) → IsLeastOf last least
      → ((v : ℤ) → o ≡ Some v → Is last v) → ((v : ℤ) → Is last v → o ≡ Some v)
      → ((r : Entry) → least' ≡ Some r → (least ≡ Some r) ⊎ ((o ≡ Some r.cost) × (r.last ≡ last)))
      → ((r : Entry) → least ≡ Some r → HasEntryAtMost least' r.cost)
      → ((v : ℤ) → o ≡ Some v → HasEntryAtMost least' v)
      → ((r u : Entry) → least ≡ Some r → least' ≡ Some u → (u.last ≡ r.last) ⊎ ((u.cost +ℤ pos 1) ≤ℤ r.cost))
      → IsLeastOf (last + 1) least'
  one_more last least least' o so_far is_here all_here from old added kept = record {
    sound = λ r is. elim (from r is) [
      | inl h ↦ so_far.sound r h
      | inr h ↦ subst (λ (k : ℕ). Is k r.cost) (sym h.1) (is_here r.cost h.0)
    ];
    complete = λ k v low is. elim (cases_lt k last) [
      | inl less ↦
          let r = so_far.complete k v less is in
          let s = old r.0 r.1 in
          (s.0, s.1, omega (arith, ints))
      | inr most ↦
          let z : k ≡ last = omega (arith, most, low) in
          added v (all_here v (subst (λ (k : ℕ). Is k v) z is))
    ];
    inside = λ r is. elim (from r is) [
      | inl h ↦ let low = so_far.inside r h in omega (arith, low)
      | inr h ↦ let z = h.1 in omega (arith, z)
    ];
    earliest = λ r is k low there. elim (cases_lt k last) [
      | inr most ↦ elim (from r is) [
        | inl h ↦ let below = so_far.inside r h in omega (arith, below, most)
        | inr h ↦ let z = h.1 in omega (arith, z, most)
      ]
      | inl less ↦ elim (from r is) [
        | inl h ↦ so_far.earliest r h k less there
        | inr h ↦
            let s = so_far.complete k r.cost less there in
            let below = so_far.inside s.0 s.1 in
            let z = h.1 in
            elim (kept s.0 r s.1 is) [
              | inl same ↦ absurd (omega (arith, same, below, z))
              | inr more ↦ absurd (omega (arith, ints, more))
            ]
      ]
    ];
  }

module _ (g : ThermalUnit) (ends : ℕ → Option ℤ) (before : ℕ) where
  -- a start after `before`, where the last on period before it is `last`, costs e with all up to there
  abbrev Way : ℕ → ℤ → Type 0
  Way last e = (v : ℤ) × (ends last ≡ Some v) × IsGap g last before × (e ≡ v +ℤ start_cost_after g last before)

  pub record IsLeastSoFar (last : ℕ) (least : Option Entry) : Type 0 where
    pub of_ways : IsLeastOf Way last least
    pub bound : (r : Entry) → least ≡ Some r → IsWithinTimes (2 * before + 3) r.cost

  pub one_more_way : (last : ℕ) (least least' : Option Entry) (o : Option ℤ) → IsLeastSoFar last least
      → IfSome o (Way last) → IfNone o ((v : ℤ) → ends last ≡ Some v → IsGap g last before → ⊥)
      → ((e : ℤ) → o ≡ Some e → IsWithinTimes (2 * before + 3) e)
      → ((r : Entry) → least' ≡ Some r → (least ≡ Some r) ⊎ ((o ≡ Some r.cost) × (r.last ≡ last)))
      → ((r : Entry) → least ≡ Some r → HasEntryAtMost least' r.cost)
      → ((v : ℤ) → o ≡ Some v → HasEntryAtMost least' v)
      → ((r u : Entry) → least ≡ Some r → least' ≡ Some u → (u.last ≡ r.last) ⊎ ((u.cost +ℤ pos 1) ≤ℤ r.cost))
      → IsLeastSoFar (last + 1) least'
  one_more_way last least least' o so_far some none bound from old added kept =
      let all_here : (e : ℤ) → Way last e → o ≡ Some e = λ e way. elim o as (λ p. o ≡ p → o ≡ Some e) [
        | None ↦ λ is. absurd
            (if_none ((v : ℤ) → ends last ≡ Some v → IsGap g last before → ⊥) o is none way.0 way.1 way.2)
        | Some x ↦ λ is.
            let here = if_some (Way last) o x is some in
            let same : here.0 ≡ way.0 = cc in
            let z : x ≡ e = omega (arith, ints, same) in
            is ∙ ap Some z
      ] refl in
      record {
        of_ways = one_more Way last least least' o so_far.of_ways (λ e is. if_some (Way last) o e is some) all_here from
            old added kept;
        bound = λ r is. elim (from r is) [ inl h ↦ so_far.bound r h | inr h ↦ bound r.cost h.0 ];
      }

  way_of : (k : ℕ) (e : ℤ) → IsStarted g ends (suc before) k e → Way k e
  way_of k e h =
      let z : h.before ≡ before = omega arith in (
        h.value,
        h.ended,
        subst (λ (b : ℕ). IsGap g k b) z h.gap,
        h.cost ∙
            ap (λ (b : ℕ). h.value +ℤ start_cost_after g k b) z,
      )

  pub least_of_all : (last : ℕ) (r : Entry) (least : Option Entry) → before < last → IsLeastSoFar last least →
      least ≡ Some r → IsLeastEntry g ends (suc before) r.last r.cost
  least_of_all last r least all_ so_far is =
      let ways = so_far.of_ways in
      let way = ways.sound r is in
      record {
        entry = inr (record { before = before; first = refl; value = way.0; ended = way.1; gap = way.2; cost = way.3 });
        least = λ d entry. elim (entry.1) [
          | inl h ↦ absurd (omega arith)
          | inr h ↦
              let other = way_of entry.0 d h in
              let s = ways.complete entry.0 d (omega (arith, all_)) other in
              let same : s.0 ≡ r = cc in
              let cost = ap (λ (r : Entry). r.cost) same in
              omega (arith, ints, cost)
        ];
        earliest = λ k entry. elim entry [
          | inl h ↦ absurd (omega arith)
          | inr h ↦
              let other = way_of k r.cost h in
              ways.earliest r is k (omega (arith, all_)) other
        ];
      }

  pub none_of_all : (last : ℕ) (least : Option Entry) → before < last → IsLeastSoFar last least → least ≡ None →
      (e : ℤ) → IsEntry g ends (suc before) e → ⊥
  none_of_all last least all_ so_far is e entry = elim (entry.1) [
    | inl h ↦ absurd (omega arith)
    | inr h ↦
        let way = way_of entry.0 e h in
        let s = so_far.of_ways.complete entry.0 e (omega (arith, all_)) way in
        cc
  ]
