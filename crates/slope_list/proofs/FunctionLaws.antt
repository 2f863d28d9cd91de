-- A function at the powers from a to b as a table, and back.
use Rattle.slope_list.proofs.Common.{◌≡◌, ℕ, zero, suc, ◌<◌, ◌≤◌, Option, Some, None, refl, sym, ap, ◌∙◌, arith, ℤ}
use Rattle.slope_list.proofs.Common.{pos, negsuc, ◌+ℤ◌, ◌-ℤ◌, ◌≤ℤ◌, ◌<ℤ◌, slice_get, ints, by_lt_z, value_of}
use Rattle.slope_list.proofs.Common.{offset_value, values_from, powers_to, table_on}
use Rattle.slope_list.proofs.Lookup.{same_some}

get_values : (f : ℤ → ℤ) (x : ℤ) (n k : ℕ) → k < n → slice_get (values_from f x n) k ≡ Some (f (x +ℤ pos k))
get_values f x zero k h = absurd (omega arith)
get_values f x (suc n) zero h = ap (λ (z : ℤ). Some (f z)) (omega (arith, ints))
get_values f x (suc n) (suc k) h = get_values f (x +ℤ pos 1) n k (omega arith) ∙
    ap (λ (z : ℤ). Some (f z)) (omega (arith, ints))

past_values : (f : ℤ → ℤ) (x : ℤ) (n k : ℕ) → n ≤ k → slice_get (values_from f x n) k ≡ None
past_values f x zero k h = refl
past_values f x (suc n) zero h = absurd (omega arith)
past_values f x (suc n) (suc k) h = past_values f (x +ℤ pos 1) n k (omega arith)

inside_by : (f : ℤ → ℤ) (a b x d e : ℤ) → a ≤ℤ x → x ≤ℤ b → x -ℤ a ≡ d → b -ℤ a ≡ e →
    offset_value (values_from f a (powers_to e)) d ≡ Some (f x)
inside_by f a b x (pos k) (pos m) low high p q =
    get_values f a (suc m) k (omega (arith, ints)) ∙ ap (λ (z : ℤ). Some (f z)) (omega (arith, ints))
inside_by f a b x (pos k) (negsuc m) low high p q = absurd (omega (arith, ints))
inside_by f a b x (negsuc k) e low high p q = absurd (omega (arith, ints))

below_by : (f : ℤ → ℤ) (a x d : ℤ) (n : ℕ) → x <ℤ a → x -ℤ a ≡ d → offset_value (values_from f a n) d ≡ None
below_by f a x (pos k) n h p = absurd (omega (arith, ints))
below_by f a x (negsuc k) n h p = refl

above_by : (f : ℤ → ℤ) (a b x d e : ℤ) → b <ℤ x → x -ℤ a ≡ d → b -ℤ a ≡ e →
    offset_value (values_from f a (powers_to e)) d ≡ None
above_by f a b x (pos k) (pos m) h p q = past_values f a (suc m) k (omega (arith, ints))
above_by f a b x (pos k) (negsuc m) h p q = refl
above_by f a b x (negsuc k) e h p q = refl

pub on_inside : (f : ℤ → ℤ) (a b x : ℤ) → a ≤ℤ x → x ≤ℤ b → value_of (table_on f a b) x ≡ Some (f x)
on_inside f a b x low high = inside_by f a b x (x -ℤ a) (b -ℤ a) low high refl refl

pub on_below : (f : ℤ → ℤ) (a b x : ℤ) → x <ℤ a → value_of (table_on f a b) x ≡ None
on_below f a b x h = below_by f a x (x -ℤ a) (powers_to (b -ℤ a)) h refl

pub on_above : (f : ℤ → ℤ) (a b x : ℤ) → b <ℤ x → value_of (table_on f a b) x ≡ None
on_above f a b x h = above_by f a b x (x -ℤ a) (b -ℤ a) h refl refl

-- a power is inside, or every function on these powers has no value there
pub by_power : {P : Type 0} (a b x : ℤ) → (a ≤ℤ x → x ≤ℤ b → P) →
    (((g : ℤ → ℤ) → value_of (table_on g a b) x ≡ None) → P) → P
by_power a b x inside outside =
    by_lt_z x a
    (λ (l : x <ℤ a). outside (λ g. on_below g a b x l))
    (λ (l : a ≤ℤ x).
    by_lt_z b x
    (λ (h : b <ℤ x). outside (λ g. on_above g a b x h))
    (λ (h : x ≤ℤ b). inside l h))

pub record IsOn (f : ℤ → ℤ) (a b x v : ℤ) : Type 0 where
  pub from : a ≤ℤ x
  pub to : x ≤ℤ b
  pub value : v ≡ f x

not_some : {P : Type 0} {v : ℤ} → (o : Option ℤ) → o ≡ None → o ≡ Some v → P
not_some o p q = cc

pub on_back : (f : ℤ → ℤ) (a b x v : ℤ) → value_of (table_on f a b) x ≡ Some v → IsOn f a b x v
on_back f a b x v h = by_power a b x
    (λ (low : a ≤ℤ x) (high : x ≤ℤ b). record {
      from = low;
      to = high;
      value =
          same_some (value_of (table_on f a b) x) h (on_inside f a b x low high);
    })
    (λ none. not_some (value_of (table_on f a b) x) (none f) h)

-- equal functions have equal tables
pub on_same : (f g : ℤ → ℤ) (a b : ℤ) → ((x : ℤ) → a ≤ℤ x → x ≤ℤ b → g x ≡ f x) → (x : ℤ) →
    value_of (table_on g a b) x ≡ value_of (table_on f a b) x
on_same f g a b same x = by_power a b x
    (λ (low : a ≤ℤ x) (high : x ≤ℤ b). on_inside g a b x low high ∙ ap Some (same x low high) ∙
    sym (on_inside f a b x low high))
    (λ none. none g ∙ sym (none f))
