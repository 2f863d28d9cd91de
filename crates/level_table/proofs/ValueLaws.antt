-- The values and the function, index by index and power by power.
use Rattle.level_table.proofs.Common.{◌≡◌, ℕ, ◌<◌, List, length, get_or, Option, Some, None, refl, sym, subst, ap, ◌∙◌}
use Rattle.level_table.proofs.Common.{arith, inl, inr, ℤ, pos, ◌+ℤ◌, ◌<ℤ◌, ◌⊎◌, slice_get, MatchOption, cases_lt}
use Rattle.level_table.proofs.Common.{value_of, IsWithinLimits, IsSum, same_some, value-from_index, value_of-at}
use Rattle.level_table.proofs.Common.{value_of-below, power_split, slice_get_in, slice_get_past, table, AreWithin}
use Rattle.std.specs.Option.{option_map}

pub AreWithin-from_limits : (lo : ℤ) (values : List ℤ) → IsWithinLimits (table lo values) → AreWithin lo values
AreWithin-from_limits lo values h = record {
  powers = λ k inside. (h (lo +ℤ pos k) (get_or values k (pos 0)) (value-from_index (table lo values) k inside)).0;
  amounts = λ k inside. (h (lo +ℤ pos k) (get_or values k (pos 0)) (value-from_index (table lo values) k inside)).1;
}

-- values that differ by what is known to be added at each power
module _ (added : ℤ → Option ℤ) (lo : ℤ) (xs ys : List ℤ) (len : length ys ≡ length xs)
    (each : (k : ℕ) → k < length xs → (t : ℤ) × (added (lo +ℤ pos k) ≡ Some t) ×
    (get_or ys k (pos 0) ≡ get_or xs k (pos 0) +ℤ t)) where
  abbrev IsAdded : ℤ → Option ℤ → Type 0
  IsAdded x o = MatchOption o (value_of (table lo ys) x ≡ None)
      (λ v. (t : ℤ) × (added x ≡ Some t) × (value_of (table lo ys) x ≡ Some (v +ℤ t)))

  at_power : (x : ℤ) → ((k : ℕ) × (x ≡ lo +ℤ pos k)) ⊎ (x <ℤ lo) → IsAdded x (value_of (table lo xs) x)
  at_power x (inr below) = subst (IsAdded x) (sym (value_of-below (table lo xs) x below))
      (value_of-below (table lo ys) x below)
  at_power x (inl p) =
      let k = p.0 in
      let at_new : value_of (table lo ys) x ≡ slice_get ys k =
      ap (value_of (table lo ys)) p.1 ∙ value_of-at (table lo ys) k in
      let at_old : value_of (table lo xs) x ≡ slice_get xs k =
      ap (value_of (table lo xs)) p.1 ∙ value_of-at (table lo xs) k in
      elim (cases_lt k (length xs)) [
        | inl inside ↦
            let e = each k inside in
            let old : value_of (table lo xs) x ≡ Some (get_or xs k (pos 0)) = at_old ∙ slice_get_in xs k inside in
            let new : value_of (table lo ys) x ≡ Some (get_or xs k (pos 0) +ℤ e.0) =
            at_new ∙ slice_get_in ys k (omega arith) ∙ ap Some e.2 in
            subst (IsAdded x) (sym old) (e.0, ap added p.1 ∙ e.1, new)
        | inr past ↦ subst (IsAdded x) (sym (at_old ∙ slice_get_past xs k past))
            (at_new ∙ slice_get_past ys k (omega arith))
      ]

  pub added_at : (x : ℤ) → IsAdded x (value_of (table lo xs) x)
  added_at x = at_power x (power_split lo x)

-- a term that is known everywhere
sum_by : (t : ℤ) (o p : Option ℤ) → MatchOption o (p ≡ None) (λ v. (u : ℤ) × (Some t ≡ Some u) × (p ≡ Some (v +ℤ u))) →
    p ≡ option_map (λ v. v +ℤ t) o
sum_by t None p h = h
sum_by t (Some v) p h = h.2 ∙ ap (λ u. Some (v +ℤ u)) (sym (same_some (Some t) refl h.1))

pub IsSum-from_index : (term : ℤ → ℤ) (lo : ℤ) (xs ys : List ℤ) → length ys ≡ length xs
    → ((k : ℕ) → k < length xs → (t : ℤ) × (Some (term (lo +ℤ pos k)) ≡ Some t) ×
    (get_or ys k (pos 0) ≡ get_or xs k (pos 0) +ℤ t)) → IsSum term (table lo xs) (table lo ys)
IsSum-from_index term lo xs ys len each x =
    sum_by (term x) (value_of (table lo xs) x) (value_of (table lo ys) x)
    (added_at (λ z. Some (term z)) lo xs ys len each x)
