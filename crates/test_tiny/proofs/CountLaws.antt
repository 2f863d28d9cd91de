-- The count of the schedules that come after one falls along the order for ties, and no two have the same.
use Rattle.test_tiny.proofs.Common.{◌≡◌, ℕ, zero, suc, ◌+◌, ◌-◌, ◌*◌, ◌<◌, ◌≤◌, ◌⊎◌, inl, inr, Bool, true, false, List}
use Rattle.test_tiny.proofs.Common.{[], ◌∷◌, ◌++◌, map, reverse, length, refl, sym, ap, ◌∙◌, subst, arith, append_assoc}
use Rattle.test_tiny.proofs.Common.{mul-le-mul_left, map-append, reverse-append, reverse-reverse, length-reverse}
use Rattle.test_tiny.proofs.Common.{length-map, All, Schedule, tie_numbers, ComesBefore, after_of, list_count, flag}
use Rattle.test_tiny.proofs.Common.{flags_of, schedules_after, IsWithin}
use Rattle.std.specs.Cmp.Lexicographic.{slice_cmp}
use Rattle.std.specs.Ordering.{nat_cmp, ordering_then}
use Rattle.std.specs.declared.cmp.Ordering.TheVariants.{Less, Equal, Greater}

-- ---- numbers

pub below_or : (a b : ℕ) → (a < b) ⊎ (b ≤ a)
below_or a b = grind arith

-- of two numbers with a lower part below n the higher part decides
higher_decides : (n d e a b : ℕ) → d < n → b < a → d + n * b < e + n * a
higher_decides n d e a b low less = omega (arith, mul-le-mul_left n less)

same_higher : (n d e a b : ℕ) → d < n → e < n → d + n * a ≡ e + n * b → (a ≡ b) × (d ≡ e)
same_higher n d e a b dn en is =
    elim (below_or a b) [
      | inl less ↦ absurd (let x = higher_decides n d e b a dn less in omega (arith, x, is))
      | inr more ↦ elim (below_or b a) [
        | inl less ↦ absurd (let x = higher_decides n e d a b en less in omega (arith, x, is))
        | inr most ↦ let same : a ≡ b = omega (arith, more, most) in let f = ap (λ (x : ℕ). n * x) same in
            (same, omega (arith, f, is))
      ]
    ]

-- ---- one list

rest_up_to : (most x : ℕ) (xs : List ℕ) → All (λ y. y ≤ most) (x ∷ xs) → All (λ y. y ≤ most) xs
rest_up_to most x xs h = λ k d low. h (suc k) d (omega (arith, low))

pub after_is_below : (most : ℕ) (xs : List ℕ) → All (λ x. x ≤ most) xs → after_of most xs < list_count most (length xs)
after_is_below most [] h = omega arith
after_is_below most (x ∷ xs) h =
    let rest = after_is_below most xs (rest_up_to most x xs h) in
    omega (arith, mul-le-mul_left (suc most) rest)

pub after_unique : (most : ℕ) (xs ys : List ℕ) → length xs ≡ length ys → All (λ x. x ≤ most) xs →
    All (λ x. x ≤ most) ys → after_of most xs ≡ after_of most ys → xs ≡ ys
after_unique most [] [] long h i e = refl
after_unique most [] (y ∷ ys) long h i e = absurd (omega (arith, long))
after_unique most (x ∷ xs) [] long h i e = absurd (omega (arith, long))
after_unique most (x ∷ xs) (y ∷ ys) long h i e =
    let parts = same_higher (suc most) (most - x) (most - y) (after_of most xs) (after_of most ys) (omega arith)
    (omega arith) e in
    let x_low : x ≤ most = h 0 0 (omega arith) in
    let y_low : y ≤ most = i 0 0 (omega arith) in
    let d = parts.1 in
    let head : x ≡ y = omega (arith, x_low, y_low, d) in
    let tail = after_unique most xs ys (omega (arith, long)) (rest_up_to most x xs h) (rest_up_to most y ys i)
    parts.0 in
    ap (λ (z : ℕ). z ∷ xs) head ∙ ap (λ (zs : List ℕ). y ∷ zs) tail

-- ---- the order of joined lists

number_less : (x y : ℕ) → nat_cmp x y ≡ Less → x < y
number_less x y e = grind arith

number_same : (x y : ℕ) → nat_cmp x y ≡ Equal → x ≡ y
number_same x y e = grind arith

abbrev Joined : List ℕ → List ℕ → List ℕ → List ℕ → Type 0
Joined a b c d = (slice_cmp nat_cmp a c ≡ Less) ⊎ ((a ≡ c) × (slice_cmp nat_cmp b d ≡ Less))

less_joined : (a b c d : List ℕ) → length a ≡ length c → slice_cmp nat_cmp (a ++ b) (c ++ d) ≡ Less → Joined a b c d
less_joined [] b [] d h e = inr (refl, e)
less_joined [] b (y ∷ ys) d h e = absurd (omega (arith, h))
less_joined (x ∷ xs) b [] d h e = absurd (omega (arith, h))
less_joined (x ∷ xs) b (y ∷ ys) d h e =
    elim (nat_cmp x y) as (λ o. nat_cmp x y ≡ o → ordering_then o (slice_cmp nat_cmp (xs ++ b) (ys ++ d)) ≡ Less →
    Joined (x ∷ xs) b (y ∷ ys) d) [
      | Less ↦ λ is less. inl (ap (λ o. ordering_then o (slice_cmp nat_cmp xs ys)) is)
      | Equal ↦ λ is less.
          let head = number_same x y is in
          elim (less_joined xs b ys d (omega (arith, h)) less) [
            | inl l ↦ inl (ap (λ o. ordering_then o (slice_cmp nat_cmp xs ys)) is ∙ l)
            | inr r ↦ inr (ap (λ (z : ℕ). z ∷ xs) head ∙ ap (λ (zs : List ℕ). y ∷ zs) r.0, r.1)
          ]
      | Greater ↦ λ is less. absurd (let bad : Greater ≡ Less = less in cc)
    ] refl e

one_less : (x y : ℕ) → slice_cmp nat_cmp (x ∷ []) (y ∷ []) ≡ Less → x < y
one_less x y e =
    elim (nat_cmp x y) as (λ o. nat_cmp x y ≡ o → ordering_then o Equal ≡ Less → x < y) [
      | Less ↦ λ is less. number_less x y is
      | Equal ↦ λ is less. absurd (let bad : Equal ≡ Less = less in cc)
      | Greater ↦ λ is less. absurd (let bad : Greater ≡ Less = less in cc)
    ] refl e

-- of two lists the one that is less from its last item back has more after it
pub after-less : (most : ℕ) (xs ys : List ℕ) → length xs ≡ length ys → All (λ x. x ≤ most) xs → All (λ x. x ≤ most) ys →
    slice_cmp nat_cmp (reverse xs) (reverse ys) ≡ Less → after_of most ys < after_of most xs
after-less most [] [] long h i e = absurd (let bad : Equal ≡ Less = e in cc)
after-less most [] (y ∷ ys) long h i e = absurd (omega (arith, long))
after-less most (x ∷ xs) [] long h i e = absurd (omega (arith, long))
after-less most (x ∷ xs) (y ∷ ys) long h i e =
    let turn_x : reverse (x ∷ xs) ≡ reverse xs ++ (x ∷ []) = reverse-append (x ∷ []) xs in
    let turn_y : reverse (y ∷ ys) ≡ reverse ys ++ (y ∷ []) = reverse-append (y ∷ []) ys in
    let shorter : length xs ≡ length ys = omega (arith, long) in
    let split : Joined (reverse xs) (x ∷ []) (reverse ys) (y ∷ []) =
    less_joined (reverse xs) (x ∷ []) (reverse ys) (y ∷ []) (length-reverse xs ∙ shorter ∙ sym (length-reverse ys))
    (subst (λ (z : List ℕ). slice_cmp nat_cmp z (reverse ys ++ (y ∷ [])) ≡ Less) turn_x
    (subst (λ (z : List ℕ). slice_cmp nat_cmp (reverse (x ∷ xs)) z ≡ Less) turn_y e)) in
    let x_low : x ≤ most = h 0 0 (omega arith) in
    let y_low : y ≤ most = i 0 0 (omega arith) in
    elim split [
      | inl l ↦
          let less = after-less most xs ys shorter (rest_up_to most x xs h) (rest_up_to most y ys i) l in
          higher_decides (suc most) (most - y) (most - x) (after_of most xs) (after_of most ys) (omega arith) less
      | inr r ↦
          let less = one_less x y r.1 in
          let same : xs ≡ ys = sym (reverse-reverse xs) ∙ ap reverse r.0 ∙ reverse-reverse ys in
          let f = ap (λ (zs : List ℕ). suc most * after_of most zs) same in
          omega (arith, less, x_low, y_low, f)
    ]

-- ---- flags

flags_up_to : (bs : List Bool) → All (λ x. x ≤ 1) (map flag bs)
flags_up_to [] k d low = absurd (omega (arith, low))
flags_up_to (true ∷ bs) zero d low = omega arith
flags_up_to (false ∷ bs) zero d low = omega arith
flags_up_to (b ∷ bs) (suc k) d low = flags_up_to bs k d (omega (arith, low))

same_flag : (a b : Bool) → flag a ≡ flag b → a ≡ b
same_flag true true e = refl
same_flag false false e = refl
same_flag true false e = absurd (omega (arith, e))
same_flag false true e = absurd (omega (arith, e))

same_flags : (xs ys : List Bool) → map flag xs ≡ map flag ys → xs ≡ ys
same_flags [] [] e = refl
same_flags [] (y ∷ ys) e = cc
same_flags (x ∷ xs) [] e = cc
same_flags (x ∷ xs) (y ∷ ys) e =
    let head : flag x ≡ flag y = cc in
    let tail : map flag xs ≡ map flag ys = cc in
    ap (λ (z : Bool). z ∷ xs) (same_flag x y head) ∙ ap (λ (zs : List Bool). y ∷ zs) (same_flags xs ys tail)

map-reverse : (bs : List Bool) → map flag (reverse bs) ≡ reverse (map flag bs)
map-reverse [] = refl
map-reverse (b ∷ bs) =
    ap (map flag) (reverse-append (b ∷ []) bs) ∙ map-append flag (reverse bs) (b ∷ []) ∙
    ap (λ (zs : List ℕ). zs ++ (flag b ∷ [])) (map-reverse bs)
    ∙ sym (reverse-append (flag b ∷ []) (map flag bs))

-- ---- schedules

-- the lists of a schedule over n periods, none above the greatest power
pub record IsCounted (most n : ℕ) (s : Schedule) : Type 0 where
  pub on : length s.on ≡ n
  pub power : length s.power ≡ n
  pub reserve : length s.reserve ≡ n
  pub within : IsWithin most s

-- the count, where the flags are over n periods
abbrev pub counted : ℕ → ℕ → Schedule → ℕ
counted most n s = after_of most s.reserve + list_count most
    n * (after_of most s.power + list_count most n * after_of 1 (flags_of s))

pub schedules_after-counted : (most n : ℕ) (s : Schedule) → IsCounted most n s →
    schedules_after most s ≡ counted most n s
schedules_after-counted most n s h =
    ap (λ (m : ℕ). after_of most s.reserve + list_count most
    m * (after_of most s.power + list_count most m * after_of 1 (flags_of s))) h.on

pub power_below : (most n : ℕ) (s : Schedule) → IsCounted most n s → after_of most s.power < list_count most n
power_below most n s h = subst (λ (m : ℕ). after_of most s.power < list_count most m) h.power
    (after_is_below most s.power h.within.power)

pub reserve_below : (most n : ℕ) (s : Schedule) → IsCounted most n s → after_of most s.reserve < list_count most n
reserve_below most n s h = subst (λ (m : ℕ). after_of most s.reserve < list_count most m) h.reserve
    (after_is_below most s.reserve h.within.reserve)

pub flags_below : (most n : ℕ) (s : Schedule) → IsCounted most n s → after_of 1 (flags_of s) < list_count 1 n
flags_below most n s h = subst (λ (m : ℕ). after_of 1 (flags_of s) < list_count 1 m) (length-map s.on flag ∙ h.on)
    (after_is_below 1 (flags_of s) (flags_up_to s.on))

module _ (most n : ℕ) (a b : Schedule) (h : IsCounted most n a) (i : IsCounted most n b) where
  flag_lengths : length (flags_of a) ≡ length (flags_of b)
  flag_lengths = length-map a.on flag ∙ h.on ∙ sym (length-map b.on flag ∙ i.on)

  turned_lengths : length (map flag (reverse a.on)) ≡ length (map flag (reverse b.on))
  turned_lengths = length-map (reverse a.on) flag ∙ length-reverse a.on ∙ h.on ∙
      sym (length-map (reverse b.on) flag ∙ length-reverse b.on ∙ i.on)

  power_lengths : length (reverse a.power) ≡ length (reverse b.power)
  power_lengths = length-reverse a.power ∙ h.power ∙ sym (length-reverse b.power ∙ i.power)

  -- two numbers for the parts of a schedule decide in the order flags, powers, reserves
  flags_decide : after_of 1 (flags_of b) < after_of 1 (flags_of a) → counted most n b < counted most n a
  flags_decide less =
      higher_decides (list_count most n) _ _ _ _ (reserve_below most n b i)
      (higher_decides (list_count most n) _ _ _ _ (power_below most n b i) less)

  powers_decide : flags_of a ≡ flags_of b → after_of most b.power < after_of most a.power →
      counted most n b < counted most n a
  powers_decide same less =
      let f = ap (λ (zs : List ℕ). list_count most n * after_of 1 zs) same in
      higher_decides (list_count most n) _ _ _ _ (reserve_below most n b i) (omega (arith, f, less))

  reserves_decide : flags_of a ≡ flags_of b → a.power ≡ b.power → after_of most b.reserve < after_of most a.reserve →
      counted most n b < counted most n a
  reserves_decide same_on same less =
      let f = ap (λ (zs : List ℕ). list_count most n * (after_of most b.power + list_count most n * after_of 1 zs))
      same_on in
      let g = ap (λ (zs : List ℕ). list_count most n * (after_of most zs + list_count most n * after_of 1 (flags_of a)))
      same in
      omega (arith, f, g, less)

  back : (xs ys : List ℕ) → reverse xs ≡ reverse ys → xs ≡ ys
  back xs ys e = sym (reverse-reverse xs) ∙ ap reverse e ∙ reverse-reverse ys

  turned : map flag (reverse a.on) ≡ map flag (reverse b.on) → flags_of a ≡ flags_of b
  turned e = back (flags_of a) (flags_of b) (sym (map-reverse a.on) ∙ e ∙ map-reverse b.on)

  before_counted : ComesBefore a b → counted most n b < counted most n a
  before_counted e =
      let regrouped : slice_cmp nat_cmp (map flag (reverse a.on) ++ (reverse a.power ++ reverse a.reserve))
      (map flag (reverse b.on) ++ (reverse b.power ++ reverse b.reserve)) ≡ Less =
      subst (λ (z : List ℕ). slice_cmp nat_cmp z
      (map flag (reverse b.on) ++ (reverse b.power ++ reverse b.reserve)) ≡ Less)
      (append_assoc (map flag (reverse a.on)) (reverse a.power) (reverse a.reserve))
      (subst (λ (z : List ℕ). slice_cmp nat_cmp (tie_numbers a) z ≡ Less)
      (append_assoc (map flag (reverse b.on)) (reverse b.power) (reverse b.reserve)) e) in
      elim (less_joined (map flag (reverse a.on)) (reverse a.power ++ reverse a.reserve) (map flag (reverse b.on))
      (reverse b.power ++ reverse b.reserve) turned_lengths regrouped) [
        | inl l ↦
            let on : slice_cmp nat_cmp (reverse (flags_of a)) (reverse (flags_of b)) ≡ Less =
            subst (λ (z : List ℕ). slice_cmp nat_cmp z (reverse (flags_of b)) ≡ Less) (map-reverse a.on)
            (subst (λ (z : List ℕ). slice_cmp nat_cmp (map flag (reverse a.on)) z ≡ Less) (map-reverse b.on) l) in
            flags_decide (after-less 1 (flags_of a) (flags_of b) flag_lengths (flags_up_to a.on) (flags_up_to b.on) on)
        | inr r ↦ elim (less_joined (reverse a.power) (reverse a.reserve) (reverse b.power) (reverse b.reserve)
            power_lengths r.1) [
              | inl l ↦ powers_decide (turned r.0)
                  (after-less most a.power b.power (h.power ∙ sym i.power) h.within.power i.within.power l)
              | inr q ↦ reserves_decide (turned r.0) (back a.power b.power q.0)
                  (after-less most a.reserve b.reserve (h.reserve ∙ sym i.reserve) h.within.reserve i.within.reserve
                  q.1)
            ]
      ]

  -- of two schedules the one that comes first has more after it
  pub before-more : ComesBefore a b → schedules_after most b < schedules_after most a
  before-more e =
      let x = schedules_after-counted most n a h in
      let y = schedules_after-counted most n b i in
      let z = before_counted e in
      omega (arith, x, y, z)

  -- two schedules with as many after them are one
  pub one_place : schedules_after most a ≡ schedules_after most b → a ≡ b
  one_place e =
      let whole : counted most n a ≡ counted most n b =
      sym (schedules_after-counted most n a h) ∙ e ∙ schedules_after-counted most n b i in
      let outer = same_higher (list_count most n) _ _ _ _ (reserve_below most n a h) (reserve_below most n b i) whole in
      let inner = same_higher (list_count most n) _ _ _ _ (power_below most n a h) (power_below most n b i) outer.0 in
      let reserve = after_unique most a.reserve b.reserve (h.reserve ∙ sym i.reserve) h.within.reserve i.within.reserve
      outer.1 in
      let power = after_unique most a.power b.power (h.power ∙ sym i.power) h.within.power i.within.power inner.1 in
      let on = same_flags a.on b.on
      (after_unique 1 (flags_of a) (flags_of b) flag_lengths (flags_up_to a.on) (flags_up_to b.on) inner.0) in
      ap (λ (z : List Bool). record { on = z; power = a.power; reserve = a.reserve }) on
      ∙ ap (λ (z : List ℕ). record { on = b.on; power = z; reserve = a.reserve }) power
      ∙ ap (λ (z : List ℕ). record { on = b.on; power = b.power; reserve = z }) reserve
