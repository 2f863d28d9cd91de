-- Lines: functions of one slope from one power to another.
use Rattle.slope_list.proofs.Common.{◌≡◌, ap, ◌∙◌, arith, true, false, ℤ, pos, ◌+ℤ◌, ◌-ℤ◌, ◌*ℤ◌, ◌≤ℤ◌, ◌<ℤ◌, int_lt}
use Rattle.slope_list.proofs.Common.{ints, one, *ℤ-one, *ℤ-zero, zero-*ℤ, *ℤ_comm, mul-add, mul-sub, IsLine}

pub lt_is : (a b : ℤ) → a <ℤ b → int_lt a b ≡ true
lt_is a b h = grind (arith, ints)

pub not_lt_is : (a b : ℤ) → b ≤ℤ a → int_lt a b ≡ false
not_lt_is a b h = grind (arith, ints)

-- ---- products

pub times_one : (s : ℤ) → s *ℤ pos 1 ≡ s
unfolding one
times_one s = *ℤ-one s

-- one step to the right adds the factor to a product
pub times_next : (a x : ℤ) → a *ℤ (x +ℤ pos 1) ≡ a *ℤ x +ℤ a
times_next a x = omega (arith, ints, mul-add a x (pos 1), times_one a)

pub add-mul : (a b c : ℤ) → (a +ℤ b) *ℤ c ≡ a *ℤ c +ℤ b *ℤ c
add-mul a b c = omega (arith, ints, *ℤ_comm (a +ℤ b) c, mul-add c a b, *ℤ_comm c a, *ℤ_comm c b)

-- a product with a sum of two ways
pub times_split : (s d e z : ℤ) → z ≡ d +ℤ e → s *ℤ z ≡ s *ℤ d +ℤ s *ℤ e
times_split s d e z h = ap (λ (y : ℤ). s *ℤ y) h ∙ mul-add s d e

pub times_none : (s z : ℤ) → z ≡ pos 0 → s *ℤ z ≡ pos 0
times_none s z h = ap (λ (y : ℤ). s *ℤ y) h ∙ *ℤ-zero s

-- ---- lines

-- each step on a line is its slope
pub line_step : (f : ℤ → ℤ) (a b s x : ℤ) → IsLine f a b s → a ≤ℤ x → x <ℤ b → f (x +ℤ pos 1) ≡ f x +ℤ s
line_step f a b s x l low high =
    let p = l.line x low (omega (arith, ints)) in
    let q = l.line (x +ℤ pos 1) (omega (arith, ints)) (omega (arith, ints)) in
    let e : s *ℤ ((x +ℤ pos 1) -ℤ a) ≡ s *ℤ (x -ℤ a) +ℤ s =
    ap (λ (z : ℤ). s *ℤ z) (omega (arith, ints)) ∙ times_next s (x -ℤ a) in
    omega (arith, ints)

pub line_part : (f : ℤ → ℤ) (a b s c d : ℤ) → IsLine f a b s → a ≤ℤ c → c <ℤ d → d ≤ℤ b → IsLine f c d s
line_part f a b s c d l low rise high = record {
  rise = rise;
  line = λ x from to.
      let p = l.line x (omega (arith, ints)) (omega (arith, ints)) in
      let q = l.line c low (omega (arith, ints)) in
      let e = times_split s (c -ℤ a) (x -ℤ c) (x -ℤ a) (omega (arith, ints)) in
      omega (arith, ints);
}

pub line_moved : (f : ℤ → ℤ) (a b s d a' b' : ℤ) → IsLine f a b s → a' +ℤ d ≡ a → b' +ℤ d ≡ b →
    IsLine (λ x. f (x +ℤ d)) a' b' s
line_moved f a b s d a' b' l ea eb =
    record {
      rise = omega (arith, ints);
      line = λ x from to.
          let p = l.line (x +ℤ d) (omega (arith, ints)) (omega (arith, ints)) in
          let q : f (a' +ℤ d) ≡ f a = ap f ea in
          let e : s *ℤ ((x +ℤ d) -ℤ a) ≡ s *ℤ (x -ℤ a') = ap (λ (z : ℤ). s *ℤ z) (omega (arith, ints)) in
          omega (arith, ints);
    }

pub line_same : (f g : ℤ → ℤ) (a b s : ℤ) → IsLine f a b s → ((x : ℤ) → a ≤ℤ x → x ≤ℤ b → g x ≡ f x) → IsLine g a b s
line_same f g a b s l same =
    let up = l.rise in
    record {
      rise = up;
      line = λ x from to.
          let p = l.line x from to in
          let q = same x from to in
          let r = same a (omega (arith, ints)) (omega (arith, ints)) in
          omega (arith, ints);
    }

pub line_sum : (f g : ℤ → ℤ) (a b s t : ℤ) → IsLine f a b s → IsLine g a b t → IsLine (λ x. f x +ℤ g x) a b (s +ℤ t)
line_sum f g a b s t l m = record {
  rise = l.rise;
  line = λ x from to.
      let p = l.line x from to in
      let q = m.line x from to in
      let e = add-mul s t (x -ℤ a) in
      omega (arith, ints);
}

pub line_flat : (f : ℤ → ℤ) (a b : ℤ) → a <ℤ b → ((x : ℤ) → a ≤ℤ x → x ≤ℤ b → f x ≡ f a) → IsLine f a b (pos 0)
line_flat f a b rise flat = record {
  rise = rise;
  line = λ x from to.
      let p = flat x from to in
      let e = zero-*ℤ (x -ℤ a) in
      omega (arith, ints);
}

pub line_product : (s a b : ℤ) → a <ℤ b → IsLine (λ x. s *ℤ x) a b s
line_product s a b rise = record {
  rise = rise;
  line = λ x from to. let e = mul-sub s x a in omega (arith, ints);
}
