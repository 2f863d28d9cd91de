-- A table's value at a power, by the offset from the first power.
use Rattle.std.proofs.Common.{◌≡◌, ℕ, zero, suc, ◌<◌, ◌≤◌, List, [], ◌∷◌, length, get_or, Option}
use Rattle.std.proofs.Common.{Some, None, refl, sym, ap, ◌∙◌, subst, inl, inr, arith}
use Rattle.std.specs.Prelude.{ℤ, pos, negsuc, ◌+ℤ◌, ◌-ℤ◌, ◌<ℤ◌, ◌⊎◌, slice_get}
use Rattle.std.proofs.lemmas.Int.{ints}
use Rattle.slope_list.specs.Table.{Table, value_of, offset_value, IsPlace, IsAmount, IsWithinLimits}

-- ---- powers

split_by : (lo x d : ℤ) → x -ℤ lo ≡ d → ((k : ℕ) × (x ≡ lo +ℤ pos k)) ⊎ (x <ℤ lo)
split_by lo x (pos k) e = inl (k, omega (arith, ints))
split_by lo x (negsuc k) e = inr (omega (arith, ints))

-- a power is at an offset from `lo`, or below it
pub power_split : (lo x : ℤ) → ((k : ℕ) × (x ≡ lo +ℤ pos k)) ⊎ (x <ℤ lo)
power_split lo x = split_by lo x (x -ℤ lo) refl

offset_is : (lo : ℤ) (k : ℕ) → (lo +ℤ pos k) -ℤ lo ≡ pos k
offset_is lo k = omega (arith, ints)

below_by : (lo x d : ℤ) (values : List ℤ) → x -ℤ lo ≡ d → x <ℤ lo → offset_value values d ≡ None
below_by lo x (pos k) values e h = absurd (omega (arith, ints))
below_by lo x (negsuc k) values e h = refl

-- the value at an offset
pub value_of-at : (f : Table) (k : ℕ) → value_of f (f.lo +ℤ pos k) ≡ slice_get f.values k
value_of-at f k = ap (offset_value f.values) (offset_is f.lo k)

pub value_of-below : (f : Table) (x : ℤ) → x <ℤ f.lo → value_of f x ≡ None
value_of-below f x h = below_by f.lo x (x -ℤ f.lo) f.values refl h

-- ---- an element by its index
pub slice_get_in : (xs : List ℤ) (k : ℕ) → k < length xs →
    slice_get xs k ≡ Some (get_or xs k (pos 0))
slice_get_in [] k h = absurd (omega arith)
slice_get_in (x ∷ xs) zero h = refl
slice_get_in (x ∷ xs) (suc k) h = slice_get_in xs k (omega arith)

pub slice_get_some : (xs : List ℤ) (k : ℕ) (v : ℤ) → slice_get xs k ≡ Some v → (k < length xs)
    × (get_or xs k (pos 0) ≡ v)
slice_get_some [] k v h = cc
slice_get_some (x ∷ xs) zero v h = (omega arith, cc)
slice_get_some (x ∷ xs) (suc k) v h = let r = slice_get_some xs k v h in (omega (arith, r.0), r.1)

pub slice_get_past : (xs : List ℤ) (k : ℕ) → length xs ≤ k → slice_get xs k ≡ None
slice_get_past [] k h = refl
slice_get_past (x ∷ xs) zero h = absurd (omega arith)
slice_get_past (x ∷ xs) (suc k) h = slice_get_past xs k (omega arith)

-- the table has this value at an offset
pub record IsAt (f : Table) (x v : ℤ) : Type 0 where
  pub offset : ℕ
  pub power : x ≡ f.lo +ℤ pos offset
  pub inside : offset < length f.values
  pub there : get_or f.values offset (pos 0) ≡ v

at_by : (f : Table) (x v : ℤ) → value_of f x ≡ Some v → ((k : ℕ) × (x ≡ f.lo +ℤ pos k))
    ⊎ (x <ℤ f.lo) → IsAt f x v
at_by f x v h (inl p) =
    let e : slice_get f.values p.0 ≡ Some v =
    sym (value_of-at f p.0) ∙ ap (value_of f) (sym p.1) ∙ h in
    let r = slice_get_some f.values p.0 v e in
    record { offset = p.0; power = p.1; inside = r.0; there = r.1 }
at_by f x v h (inr b) = let n : value_of f x ≡ None = value_of-below f x b in cc

pub IsAt-from_value : (f : Table) (x v : ℤ) → value_of f x ≡ Some v → IsAt f x v
IsAt-from_value f x v h = at_by f x v h (power_split f.lo x)

pub value-from_index : (f : Table) (k : ℕ) → k < length f.values →
    value_of f (f.lo +ℤ pos k) ≡ Some (get_or f.values k (pos 0))
value-from_index f k h = value_of-at f k ∙ slice_get_in f.values k h

pub value-from_is_at : (f : Table) (x v : ℤ) → IsAt f x v → value_of f x ≡ Some v
value-from_is_at f x v a =
    ap (value_of f) a.power ∙ value-from_index f a.offset a.inside ∙ ap Some a.there

pub same_some : {a b : ℤ} → (o : Option ℤ) → o ≡ Some a → o ≡ Some b → a ≡ b
same_some o p q = cc

-- a table is within the limits where its powers and values are, index by index
pub within_by_index : (f : Table) → ((k : ℕ) → k < length f.values → IsPlace (f.lo +ℤ pos k)) →
    ((k : ℕ) → k < length f.values → IsAmount (get_or f.values k (pos 0))) → IsWithinLimits f
within_by_index f powers amounts x v e =
    let a = IsAt-from_value f x v e in
    (subst IsPlace (sym a.power) (powers a.offset a.inside), subst IsAmount a.there (amounts a.offset a.inside))
