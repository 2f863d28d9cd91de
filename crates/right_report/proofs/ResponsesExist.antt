-- The feasible schedules of a unit are among finitely many, so one of the best of them comes first.
use Rattle.right_report.proofs.Common.{◌≡◌, ℕ, ◌<◌, ◌≤◌, inl, inr, ℤ, ◌≤ℤ◌, Bool, false, List, length, map, refl, sym}
use Rattle.right_report.proofs.Common.{ap, ◌∙◌, subst, arith, true≢false, int_ranked, int_cmp_total, tied_itself}
use Rattle.right_report.proofs.Common.{on_total, then_total, back_total, nat_list_cmp_total, ints, IsTotalOrder}
use Rattle.right_report.proofs.Common.{flat_map, MatchOrdering, nat_cmp, int_cmp, is_gt, on, then_cmp, flip_args}
use Rattle.right_report.proofs.Common.{ordering_then, ordering_reverse, ◌<ℤ◌, slice_index, Ordering, Less, Equal}
use Rattle.right_report.proofs.Common.{Greater, AnyUnit, Thermal, Flat, Bid, PriceLists, Schedule, earnings, IsBest}
use Rattle.right_report.proofs.Common.{IsSchedule, IsFeasible, BestResponsesExist}
use Rattle.std.specs.Cmp.Lexicographic.{slice_cmp}
use Rattle.uc_model.specs.Ties.{tie_numbers, ComesBefore, IsLeast}
use Rattle.right_report.proofs.Choosing.{none_or_first}
use Rattle.right_report.proofs.Feasible.{feasible_or_not}
use Rattle.right_report.proofs.Limits.{limit_of, limits}
use Rattle.right_report.proofs.Listing.{IsIn, lists_of, flags, up_to, in_map, in_each, flags_are_in, numbers_are_in}

-- ---- all schedules whose numbers are at most so large

abbrev made : List Bool → List ℕ → List ℕ → Schedule
made on power reserve = record { on = on; power = power; reserve = reserve }

abbrev with_reserves : List (List ℕ) → List Bool → List ℕ → List Schedule
with_reserves reserves on power = map (made on power) reserves

abbrev with_powers : List (List ℕ) → List Bool → List Schedule
with_powers numbers on = flat_map (with_reserves numbers on) numbers

abbrev all_schedules : List (List Bool) → List (List ℕ) → List Schedule
all_schedules ons numbers = flat_map (with_powers numbers) ons

abbrev schedules_up_to : ℕ → ℕ → List Schedule
schedules_up_to most n = all_schedules (lists_of flags n) (lists_of (up_to most) n)

is_in_all : (ons : List (List Bool)) (numbers : List (List ℕ)) (s : Schedule) → IsIn s.on ons → IsIn s.power numbers →
    IsIn s.reserve numbers → IsIn s (all_schedules ons numbers)
is_in_all ons numbers s on power reserve =
    in_each (with_powers numbers) s.on s ons on
    (in_each (with_reserves numbers s.on) s.power s numbers power
    (in_map (made s.on s.power) s.reserve numbers reserve))

has_shape : (u : AnyUnit) (n : ℕ) (s : Schedule) → IsFeasible u n s → IsSchedule n s
has_shape (Thermal g) n s h = h.schedule
has_shape (Flat r) n s h = h.schedule
has_shape (Bid b) n s h = h.schedule

numbers_in : (most n : ℕ) (xs : List ℕ) → length xs ≡ n → ((k : ℕ) → k < n → slice_index xs k ≤ most) →
    IsIn xs (lists_of (up_to most) n)
numbers_in most n xs long low = subst (λ (i : ℕ). IsIn xs (lists_of (up_to most) i)) long
    (numbers_are_in most xs (λ k in'. low k (omega (arith, in', long))))

is_in : (u : AnyUnit) (n : ℕ) (s : Schedule) → IsFeasible u n s → IsIn s (schedules_up_to (limit_of u n) n)
is_in u n s h =
    let shape = has_shape u n s h in
    is_in_all (lists_of flags n) (lists_of (up_to (limit_of u n)) n) s
    (subst (λ (i : ℕ). IsIn s.on (lists_of flags i)) shape.on (flags_are_in s.on))
    (numbers_in (limit_of u n) n s.power shape.power (λ k low. (limits u n s h k low).0))
    (numbers_in (limit_of u n) n s.reserve shape.reserve (λ k low. (limits u n s h k low).1))

-- ---- what earns more comes first, and of those that earn as much the first by its tie numbers

module _ (u : AnyUnit) (π : PriceLists) where
  abbrev by_earnings : Schedule → Schedule → Ordering
  by_earnings = flip_args (on (earnings u π) int_cmp)

  abbrev by_ties : Schedule → Schedule → Ordering
  by_ties = on tie_numbers (slice_cmp nat_cmp)

  abbrev preferred : Schedule → Schedule → Ordering
  preferred = then_cmp by_earnings by_ties

  preferred_total : IsTotalOrder preferred
  preferred_total = then_total (back_total (on_total (earnings u π) int_cmp_total))
      (on_total tie_numbers nat_list_cmp_total)

first_part : (o p : Ordering) → is_gt (ordering_then o p) ≡ false → is_gt o ≡ false
first_part Less p h = refl
first_part Equal p h = refl
first_part Greater p h = h

second_part : (o p : Ordering) → o ≡ Equal → is_gt (ordering_then o p) ≡ false → is_gt p ≡ false
second_part o p same h = rw same at h

ranked_up_to : (a b : ℤ) (o : Ordering) → MatchOrdering o (a <ℤ b) (a ≡ b) (b <ℤ a) → is_gt o ≡ false → a ≤ℤ b
ranked_up_to a b Less h e = omega (arith, ints, h)
ranked_up_to a b Equal h e = omega (arith, ints, h)
ranked_up_to a b Greater h e = absurd (true≢false e)

up_to_by_cmp : (a b : ℤ) → is_gt (int_cmp a b) ≡ false → a ≤ℤ b
up_to_by_cmp a b h = ranked_up_to a b (int_cmp a b) (int_ranked a b (int_cmp a b) refl) h

same_by_cmp : (a b : ℤ) → a ≡ b → int_cmp a b ≡ Equal
same_by_cmp a b same = ap (λ (z : ℤ). int_cmp a z) (sym same) ∙ tied_itself int_cmp_total a

not_less : (o p : Ordering) → o ≡ ordering_reverse p → is_gt o ≡ false → p ≡ Less → ⊥
not_less o p turned h less = true≢false (sym (ap (λ q. is_gt (ordering_reverse q)) less) ∙ (sym (ap is_gt turned) ∙ h))

-- ---- the first of those that are feasible

module _ (u : AnyUnit) (π : PriceLists) (s : Schedule) (feasible : IsFeasible u (length π.energy) s)
    (before : (y : Schedule) → IsIn y (schedules_up_to (limit_of u (length π.energy)) (length π.energy)) →
    IsFeasible u (length π.energy) y → is_gt (preferred u π s y) ≡ false) where
  none_before : (y : Schedule) → IsFeasible u (length π.energy) y → is_gt (preferred u π s y) ≡ false
  none_before y h = before y (is_in u (length π.energy) y h) h

  earns_most : (y : Schedule) → IsFeasible u (length π.energy) y → earnings u π y ≤ℤ earnings u π s
  earns_most y h = up_to_by_cmp (earnings u π y) (earnings u π s)
      (first_part (by_earnings u π s y) (by_ties u π s y) (none_before y h))

  no_earlier : (y : Schedule) → IsBest u π y → ComesBefore y s → ⊥
  no_earlier y best earlier =
      let up = best.greatest s feasible in
      let down = earns_most y best.feasible in
      let same : earnings u π y ≡ earnings u π s = omega (arith, ints, up, down) in
      let ties = second_part (by_earnings u π s y) (by_ties u π s y)
      (same_by_cmp (earnings u π y) (earnings u π s) same) (none_before y best.feasible) in
      not_less (by_ties u π s y) (by_ties u π y s) (nat_list_cmp_total.antisymm (tie_numbers s) (tie_numbers y)) ties
      earlier

  is_least : IsLeast u π s
  is_least = record {
    best = record { feasible = feasible; greatest = earns_most };
    first = no_earlier;
  }

pub best_responses_exist : BestResponsesExist
best_responses_exist u π feasible h =
    let n = length π.energy in
    let most = limit_of u n in
    elim (none_or_first (preferred u π) (preferred_total u π) (IsFeasible u n) (feasible_or_not u n)
    (schedules_up_to most n)) [
      | inl none ↦ absurd (none feasible (is_in u n feasible h) h)
      | inr first ↦ (first.0, is_least u π first.0 first.1 first.2)
    ]
