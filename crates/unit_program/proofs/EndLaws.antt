-- The least of the ends after which the unit may be off to the last period, as it is read row by row.
use Rattle.unit_program.proofs.Common.{◌≡◌, ℕ, ◌+◌, ◌<◌, ◌≤◌, ◌⊎◌, inl, inr, Option, Some, None, ℤ, pos, ◌+ℤ◌, ◌≤ℤ◌}
use Rattle.unit_program.proofs.Common.{refl}
use Rattle.unit_program.proofs.Common.{arith, signed, IfSome, IfNone, cases_lt, ThermalUnit, IsOffRun, IsLeastEnd}
use Rattle.unit_program.proofs.Common.{Entry}
use Rattle.unit_program.proofs.Common.{HasEntryAtMost}
use Rattle.plain_lists.proofs.ListLaws.{if_some}

module _ (g : ThermalUnit) (periods : ℕ) (ends : ℕ → Option ℤ) where
  -- of the ends before a last on period, the earliest of the least
  pub record IsLeastOf (last : ℕ) (least : Option Entry) : Type 0 where
    pub sound : (r : Entry) → least ≡ Some r → (ends r.last ≡ Some r.cost) × IsOffRun g r.last periods
    pub complete : (k : ℕ) (v : ℤ) → k < last → ends k ≡ Some v → IsOffRun g k periods → HasEntryAtMost least v
    pub inside : (r : Entry) → least ≡ Some r → r.last < last
    pub earliest : (r : Entry) → least ≡ Some r → (k : ℕ) → k < last → ends k ≡ Some r.cost → IsOffRun g k periods →
        r.last ≤ k

  pub one_more : (last : ℕ) (least least' : Option Entry) (o : Option ℤ) → o ≡ ends last → IsOffRun g last periods →
      IsLeastOf last least
      → IfSome least' (λ r. (least ≡ Some r) ⊎ ((o ≡ Some r.cost) × (r.last ≡ last)))
      → ((r : Entry) → least ≡ Some r → HasEntryAtMost least' r.cost)
      → ((v : ℤ) → o ≡ Some v → HasEntryAtMost least' v)
      → ((r u : Entry) → least ≡ Some r → least' ≡ Some u → (u.last ≡ r.last) ⊎ ((u.cost +ℤ pos 1) ≤ℤ r.cost))
      → IsLeastOf (last + 1) least'
  one_more last least least' o is_end run so_far chosen old added kept =
      let from : (r : Entry) → least' ≡ Some r → (least ≡ Some r) ⊎ ((o ≡ Some r.cost) × (r.last ≡ last)) = λ r is.
      if_some (λ r. (least ≡ Some r) ⊎ ((o ≡ Some r.cost) × (r.last ≡ last))) least' r is chosen in
      record {
        sound = λ r is. elim (from r is) [
          | inl h ↦ so_far.sound r h
          | inr h ↦ rw h.1 (cc, run)
        ];
        complete = λ k v low is off. elim (cases_lt k last) [
          | inl less ↦
              let r = so_far.complete k v less is off in
              let s = old r.0 r.1 in
              (s.0, s.1, omega signed)
          | inr most ↦ let z : k ≡ last = omega arith in added v (cc)
        ];
        inside = λ r is. elim (from r is) [
          | inl h ↦ let low = so_far.inside r h in omega arith
          | inr h ↦ omega arith
        ];
        earliest = λ r is k low there off. elim (from r is) [
          | inl h ↦ elim (cases_lt k last) [
            | inl less ↦ so_far.earliest r h k less there off
            | inr most ↦ let below = so_far.inside r h in omega arith
          ]
          | inr h ↦ elim (cases_lt k last) [
            | inr most ↦ omega arith
            | inl less ↦
                let s = so_far.complete k r.cost less there off in
                let below = so_far.inside s.0 s.1 in
                elim (kept s.0 r s.1 is) [
                  | inl same ↦ absurd (omega arith)
                  | inr more ↦ absurd (omega signed)
                ]
          ]
        ];
      }

  module _ (last : ℕ) (low : periods < last) where
    pub least_end_of_all : (least : Option Entry) → IsLeastOf last least →
        IfSome least (λ r. IsLeastEnd g periods ends r.last r.cost)
    least_end_of_all None so_far = tt
    least_end_of_all (Some r) so_far = record {
      ended = (so_far.sound r refl).0;
      off = (so_far.sound r refl).1;
      least = λ k u ended run.
          let s = so_far.complete k u (let order = run.order in omega arith) ended run in
          let same : s.0 ≡ r = cc in
          rw same at s.2;
    }

    pub earliest_of_all : (least : Option Entry) → IsLeastOf last least →
        IfSome least (λ r. (k : ℕ) → ends k ≡ Some r.cost → IsOffRun g k periods → r.last ≤ k)
    earliest_of_all None so_far = tt
    earliest_of_all (Some r) so_far = λ k ended run.
        so_far.earliest r refl k (let order = run.order in omega arith) ended run

    pub no_end_of_all : (least : Option Entry) → IsLeastOf last least →
        IfNone least ((k : ℕ) (u : ℤ) → ends k ≡ Some u → IsOffRun g k periods → ⊥)
    no_end_of_all None so_far = λ k u ended run.
        let s = so_far.complete k u (let order = run.order in omega arith) ended run in
        let none = s.1 in cc
    no_end_of_all (Some r) so_far = tt
