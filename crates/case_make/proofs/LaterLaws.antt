-- What is drawn after so many words is what stands at that place.
use Rattle.case_make.proofs.Common.{◌≡◌, ℕ, ◌+◌, ◌*◌, ◌/◌, List, [], ◌∷◌, map, refl, ap, sym, ◌∙◌, arith}
use Rattle.case_make.proofs.Common.{range_with_len, Lcg, NamedThermalUnit, NamedRenewableUnit, unit_draws, unit_of}
use Rattle.case_make.proofs.Common.{unit_schedule, capacity_at, most_at, most_powers, renewable_of, full, name_of}
use Rattle.case_make.proofs.Common.{named_unit, unit_plan, named_renewable, renewable_plan, renewable_units}
use Rattle.case_make.proofs.Common.{renewable_plans, draw, word_at, moved_on}
use Rattle.case_make.proofs.WordLaws.{word_later}

word_from : (n k m : ℕ) (g h : Lcg) → h ≡ moved_on n g → m ≡ n + k → word_at h k ≡ word_at g m
word_from n k m g h e is = ap (λ (x : Lcg). word_at x k) e ∙ word_later n k g ∙ sym (ap (word_at g) is)

draw_from : (low high n k m : ℕ) (g h : Lcg) → h ≡ moved_on n g → m ≡ n + k →
    draw low high (word_at h k) ≡ draw low high (word_at g m)
draw_from low high n k m g h e is = ap (draw low high) (word_from n k m g h e is)

pub unit_draws_later : (n : ℕ) (g h : Lcg) → h ≡ moved_on n g → unit_draws h 0 ≡ unit_draws g n
unfolding unit_draws
unit_draws_later n g h e =
    cc (
      draw_from 20 400 n 0 n g h e (omega arith),
      draw_from 20 50 n 1 (n + 1) g h e refl,
      draw_from 2 6 n 2 (n + 2) g h e refl,
      draw_from 1 8 n 3 (n + 3) g h e refl,
      draw_from 1 8 n 4 (n + 4) g h e refl,
      draw_from 0 2 n 5 (n + 5) g h e refl,
      draw_from 15 60 n 6 (n + 6) g h e refl,
      draw_from 1 50 n 7 (n + 7) g h e refl,
      draw_from 0 100 n 8 (n + 8) g h e refl,
    )

same_map : {X Y : Type 0} → (f g : X → Y) → ((x : X) → f x ≡ g x) → (xs : List X) → map f xs ≡ map g xs
same_map f g h [] = refl
same_map {X} {Y} f g h (x ∷ xs) = ap (λ (y : Y). y ∷ map f xs) (h x) ∙
    ap (λ (ys : List Y). g x ∷ ys) (same_map f g h xs)

most_later : (n p m k : ℕ) (g h : Lcg) → h ≡ moved_on n g → m ≡ n + p → most_at h p k ≡ most_at g m k
unfolding most_at capacity_at
most_later n p m k g h e is =
    ap (λ (x : ℕ). 1000 * x * draw 0 100 (word_at h (p + 1 + k)) / 100) (draw_from 5 100 n p m g h e is)
    ∙ ap (λ (x : ℕ). 1000 * draw 5 100 (word_at g m) * x / 100)
    (draw_from 0 100 n (p + 1 + k) (m + 1 + k) g h e (omega arith))

pub most_powers_later : (n p m : ℕ) (g h : Lcg) → h ≡ moved_on n g → m ≡ n + p → most_powers h p ≡ most_powers g m
unfolding most_powers
most_powers_later n p m g h e is =
    same_map (most_at h p) (most_at g m) (λ k. most_later n p m k g h e is) (range_with_len 0 48)

-- ---- thermal units

-- unit i, where the generator has given the words of those before it
pub unit_named : (i : ℕ) (g h : Lcg) (u : NamedThermalUnit) → h ≡ moved_on (9 * i) g →
    u ≡ record { name = name_of 84 (i + 1); unit = unit_of (unit_draws h 0) } → u ≡ named_unit g i
unfolding named_unit
unit_named i g h u e is = cc (is, ap unit_of (unit_draws_later (9 * i) g h e))

pub unit_planned : (i : ℕ) (g h : Lcg) → h ≡ moved_on (9 * i) g → unit_schedule (unit_draws h 0) ≡ unit_plan g i
unfolding unit_plan
unit_planned i g h e = ap unit_schedule (unit_draws_later (9 * i) g h e)

-- ---- renewable units

pub renewable_named : (j : ℕ) (g h : Lcg) (u : NamedRenewableUnit) → h ≡ moved_on (49 * j) g →
    u ≡ record { name = name_of 82 (j + 1); unit = renewable_of (most_powers h 0) } → u ≡ named_renewable g 0 j
unfolding named_renewable
renewable_named j g h u e is = cc (is, ap renewable_of (most_powers_later (49 * j) 0 (0 + 49 * j) g h e (omega arith)))

pub renewable_planned : (j : ℕ) (g h : Lcg) → h ≡ moved_on (49 * j) g → full (most_powers h 0) ≡ renewable_plan g 0 j
unfolding renewable_plan
renewable_planned j g h e = ap full (most_powers_later (49 * j) 0 (0 + 49 * j) g h e (omega arith))

-- all renewable units, where the generator has given the words before theirs
named_later : (n : ℕ) (g h : Lcg) (j : ℕ) → h ≡ moved_on n g → named_renewable h 0 j ≡ named_renewable g n j
unfolding named_renewable
named_later n g h j e = cc (ap renewable_of (most_powers_later n (0 + 49 * j) (n + 49 * j) g h e (omega arith)))

plan_later : (n : ℕ) (g h : Lcg) (j : ℕ) → h ≡ moved_on n g → renewable_plan h 0 j ≡ renewable_plan g n j
unfolding renewable_plan
plan_later n g h j e = ap full (most_powers_later n (0 + 49 * j) (n + 49 * j) g h e (omega arith))

pub renewable_units_later : (n count : ℕ) (g h : Lcg) → h ≡ moved_on n g →
    renewable_units h 0 count ≡ renewable_units g n count
unfolding renewable_units
renewable_units_later n count g h e =
    same_map (named_renewable h 0) (named_renewable g n) (λ j. named_later n g h j e) (range_with_len 0 count)

pub renewable_plans_later : (n count : ℕ) (g h : Lcg) → h ≡ moved_on n g →
    renewable_plans h 0 count ≡ renewable_plans g n count
unfolding renewable_plans
renewable_plans_later n count g h e =
    same_map (renewable_plan h 0) (renewable_plan g n) (λ j. plan_later n g h j e) (range_with_len 0 count)
