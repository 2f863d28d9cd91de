-- Lists of refusals: when one is empty, and what its first item is.
use Rattle.plan_check.proofs.Common.{◌≡◌, ℕ, zero, suc, ◌+◌, ◌<◌, ◌≤◌, ◌⊎◌, inl, inr, ℤ, Bool, true, false, cond}
use Rattle.plan_check.proofs.Common.{Option, Some, None, List, [], ◌∷◌, ◌++◌, refl, sym, ap, ◌∙◌, arith, slice_get}
use Rattle.plan_check.proofs.Common.{filter_map, range_with_len, cons_option, option_map, Refusal, unless, or_else}
use Rattle.plan_check.proofs.Common.{told, none_some}
use Rattle.std.specs.Prelude.{⊤, Result, Ok, Err}
use Rattle.plan_check.specs.Checks.{Finds, refusal_of}
use Rattle.plan_check.specs.declared.RuleFault.{RuleFault}
use Rattle.uc_model.specs.declared.kinds.Kind.{Kind}
use Rattle.uc_model.specs.declared.kinds.RuleCode.{RuleCode}

-- ---- one list after another

pub append_nil_left : {X : Type 0} → (xs ys : List X) → xs ++ ys ≡ [] → xs ≡ []
append_nil_left [] ys e = refl
append_nil_left (x ∷ xs) ys e = cc

pub append_nil_right : {X : Type 0} → (xs ys : List X) → xs ++ ys ≡ [] → ys ≡ []
append_nil_right [] ys e = e
append_nil_right (x ∷ xs) ys e = cc

pub append_nil : {X : Type 0} → (xs ys : List X) → xs ≡ [] → ys ≡ [] → xs ++ ys ≡ []
append_nil xs ys e f = ap (λ zs. zs ++ ys) e ∙ f

pub first_left : {X : Type 0} → (xs ys : List X) (r : X) → slice_get xs 0 ≡ Some r → slice_get (xs ++ ys) 0 ≡ Some r
first_left [] ys r e = absurd (none_some r e)
first_left (x ∷ xs) ys r e = e

pub first_right : {X : Type 0} → (xs ys : List X) (r : X) → xs ≡ [] → slice_get ys 0 ≡ Some r →
    slice_get (xs ++ ys) 0 ≡ Some r
first_right xs ys r none e = ap (λ zs. slice_get (zs ++ ys) 0) none ∙ e

pub some_first : {X : Type 0} → (xs : List X) (r : X) → slice_get xs 0 ≡ Some r → xs ≡ [] → ⊥
some_first xs r e none = none_some r (sym (ap (λ zs. slice_get zs 0) none) ∙ e)

-- a check finds the first of what its list has behind an empty one
pub finds_right : (xs ys : List Refusal) (found : Result ⊤ RuleFault) → xs ≡ [] → Finds ys found →
    Finds (xs ++ ys) found
finds_right xs ys (Ok u) none all = append_nil xs ys none all
finds_right xs ys (Err f) none first = first_right xs ys (refusal_of f) none first

-- ---- what is told over periods

cons_none : (o : Option Refusal) (xs : List Refusal) → o ≡ None → cons_option o xs ≡ xs
cons_none o xs e = ap (λ q. cons_option q xs) e

cons_some : (o : Option Refusal) (xs : List Refusal) (r : Refusal) → o ≡ Some r → cons_option o xs ≡ r ∷ xs
cons_some o xs r e = ap (λ q. cons_option q xs) e

cons_nil : (o : Option Refusal) (xs : List Refusal) → cons_option o xs ≡ [] → (o ≡ None) × (xs ≡ [])
cons_nil None xs e = (refl, e)
cons_nil (Some r) xs e = cc

at_or_after : (a k : ℕ) → a ≤ k → (k ≡ a) ⊎ (a + 1 ≤ k)
at_or_after a k h = grind arith

module _ (h : ℕ → Option Refusal) where
  filter_none : (a n : ℕ) → ((k : ℕ) → a ≤ k → k < a + n → h k ≡ None) → filter_map h (range_with_len a n) ≡ []
  filter_none a zero none = refl
  filter_none a (suc n) none =
      cons_none (h a) (filter_map h (range_with_len (a + 1) n)) (none a (omega arith) (omega arith))
      ∙ filter_none (a + 1) n (λ k low high. none k (omega (arith, low)) (omega (arith, high)))

  filter_all : (a n : ℕ) → filter_map h (range_with_len a n) ≡ [] → (k : ℕ) → a ≤ k → k < a + n → h k ≡ None
  filter_all a zero e k low high = absurd (omega (arith, low, high))
  filter_all a (suc n) e k low high =
      let parts = cons_nil (h a) (filter_map h (range_with_len (a + 1) n)) e in
      elim (at_or_after a k low) [
        | inl here ↦ ap h here ∙ parts.0
        | inr later ↦ filter_all (a + 1) n parts.1 k later (omega (arith, high))
      ]

  filter_first : (a n i : ℕ) (r : Refusal) → a ≤ i → i < a + n → ((k : ℕ) → a ≤ k → k < i → h k ≡ None) → h i ≡ Some r →
      slice_get (filter_map h (range_with_len a n)) 0 ≡ Some r
  filter_first a zero i r low high before here = absurd (omega (arith, low, high))
  filter_first a (suc n) i r low high before here =
      elim (at_or_after a i low) [
        | inl now ↦ ap (λ xs. slice_get xs 0)
            (cons_some (h a) (filter_map h (range_with_len (a + 1) n)) r (ap h (sym now) ∙ here))
        | inr later ↦
            ap (λ xs. slice_get xs 0) (cons_none (h a) (filter_map h (range_with_len (a + 1) n))
            (before a (omega arith) (omega (arith, later))))
            ∙ filter_first (a + 1) n i r later (omega (arith, high))
            (λ k k_low k_high. before k (omega (arith, k_low)) k_high) here
      ]

map_none : {A B : Type 0} → (f : A → B) (o : Option A) → option_map f o ≡ None → o ≡ None
map_none f None e = refl
map_none f (Some x) e = absurd (none_some (f x) (sym e))

module _ (rule : RuleCode) (kind : Kind) (unit periods shift : ℕ) (broken : ℕ → Option (ℤ × ℤ)) where
  abbrev refusal_at : ℕ → (ℤ × ℤ) → Refusal
  refusal_at k p = record { rule = rule; kind = kind; unit = unit; period = k + shift; left = p.0; right = p.1 }

  abbrev told_at : ℕ → Option Refusal
  told_at k = option_map (λ (p : ℤ × ℤ). refusal_at k p) (broken k)

  pub told_none : ((k : ℕ) → k < periods → broken k ≡ None) → told rule kind unit periods shift broken ≡ []
  told_none none = filter_none told_at 0 periods
      (λ k low high. ap (option_map (λ (p : ℤ × ℤ). refusal_at k p)) (none k (omega (arith, high))))

  pub told_all : told rule kind unit periods shift broken ≡ [] → (k : ℕ) → k < periods → broken k ≡ None
  told_all e k lt = map_none (λ (p : ℤ × ℤ). refusal_at k p) (broken k)
      (filter_all told_at 0 periods e k (omega arith) (omega (arith, lt)))

  pub told_first : (i : ℕ) (p : ℤ × ℤ) → i < periods → ((k : ℕ) → k < i → broken k ≡ None) → broken i ≡ Some p →
      slice_get (told rule kind unit periods shift broken) 0 ≡ Some
      (record { rule = rule; kind = kind; unit = unit; period = i + shift; left = p.0; right = p.1 })
  told_first i p lt before here =
      filter_first told_at 0 periods i (refusal_at i p) (omega arith) (omega (arith, lt))
      (λ k low high. ap (option_map (λ (q : ℤ × ℤ). refusal_at k q)) (before k high))
      (ap (option_map (λ (q : ℤ × ℤ). refusal_at i q)) here)

-- ---- tests

pub unless_none : (b : Bool) (l r : ℤ) → unless b l r ≡ None → b ≡ true
unless_none true l r e = refl
unless_none false l r e = absurd (none_some (l, r) (sym e))

pub unless_holds : (b : Bool) (l r : ℤ) → b ≡ true → unless b l r ≡ None
unless_holds b l r e = ap (λ t. unless t l r) e

pub or_else_none : {A : Type 0} → (a b : Option A) → or_else a b ≡ None → (a ≡ None) × (b ≡ None)
or_else_none None b e = (refl, e)
or_else_none (Some x) b e = absurd (none_some x (sym e))

pub or_else_holds : {A : Type 0} → (a b : Option A) → a ≡ None → b ≡ None → or_else a b ≡ None
or_else_holds a b e f = ap (λ o. or_else o b) e ∙ f

pub if_none : {A : Type 0} → (b : Bool) (o : Option A) → cond b o None ≡ None → b ≡ true → o ≡ None
if_none b o e t = sym (ap (λ q. cond q o None) t) ∙ e

pub if_holds : {A : Type 0} → (b : Bool) (o : Option A) → (b ≡ true → o ≡ None) → cond b o None ≡ None
if_holds true o h = h refl
if_holds false o h = refl
