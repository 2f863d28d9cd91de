-- What a job keeps while it answers.
use Rattle.audit_check.proofs.Common.{◌≡◌, ℕ, zero, suc, ◌+◌, ◌≤◌, ℤ, pos, neg_ℤ, ◌+ℤ◌, ◌≤ℤ◌, Option, None, Some, List}
use Rattle.audit_check.proofs.Common.{[], ◌∷◌, ◌++◌, length, replicate, refl, sym, ap, ◌∙◌, subst, arith, ∥∥₁_map, ints}
use Rattle.audit_check.proofs.Common.{length-replicate, All-replicate, All, option_map_or, slice_get, slice_index}
use Rattle.audit_check.proofs.Common.{IsRaised, GivesWithin, most_given, least_given, UnitsAreWithin, OutputsAreWithin}
use Rattle.audit_check.proofs.Common.{EarningsAreWithin, AnyUnit, Thermal, Flat, Bid, PriceLists, Schedule, Market}
use Rattle.audit_check.proofs.Common.{units, unit_count, earnings, supply_in, IsMarket, IsUnit, IsEarned, ArePrices}
use Rattle.audit_check.proofs.Common.{schedule_of, Fits, reserve_in, int_at, none_some, same_item, length_same, item_of}
use Rattle.audit_check.proofs.Common.{Sums, IsAnswerAt, amount_of, part_of, sum_of, FitsAt, AreSumsOf, AreWithin}
use Rattle.audit_check.proofs.Common.{IsMore}
use Rattle.audit_check.proofs.Common.{IsSmall}
use Rattle.std.proofs.lemmas.Slice.Zip.{all_zipped_more}
use Rattle.uc_model.specs.declared.units.Answered.{Answered}
use Rattle.uc_model.specs.declared.units.Flow.{Flow}
use Rattle.audit_check.proofs.Small.{nothing_small, zero_at, raised_within}

-- ---- the beginning

pub starts : (m : Market) (π : PriceLists) (numbers : List ℕ) (s : Sums) (a b : ℕ) → numbers ≡ [] → s.earned ≡ pos 0 →
    s.supply.items ≡ replicate a (pos 0) → s.reserve.items ≡ replicate b (pos 0) → ∥ AreSumsOf m π numbers s ∥₁
starts m π numbers s a b none earned supply reserve = ∣ subst (λ (l : List ℕ). AreSumsOf m π l s) (sym none) (record {
  schedules = [];
  fit = tt;
  earned = earned;
  supply = λ k less. ap (λ (l : List ℤ). int_at l k) supply ∙ zero_at a k;
  reserve = λ k less. ap (λ (l : List ℤ). int_at l k) reserve ∙ zero_at b k;
}) ∣₁

pub starts_within : (periods : ℕ) (numbers : List ℕ) (s : Sums) (a b : ℕ) → numbers ≡ [] → a ≡ periods → b ≡ periods →
    s.earned ≡ pos 0 → s.supply.items ≡ replicate a (pos 0) → s.reserve.items ≡ replicate b (pos 0) →
    AreWithin periods (length numbers) s
starts_within periods numbers s a b none ea eb earned supply reserve = record {
  supply_length = ap length supply ∙ (length-replicate a (pos 0) ∙ ea);
  reserve_length = ap length reserve ∙ (length-replicate b (pos 0) ∙ eb);
  earned = subst (IsSmall (length numbers)) (sym earned) (nothing_small (length numbers));
  supply = subst (All (IsSmall (length numbers))) (sym supply)
      (All-replicate (IsSmall (length numbers)) a (pos 0) (nothing_small (length numbers)));
  reserve = subst (All (IsSmall (length numbers))) (sym reserve)
      (All-replicate (IsSmall (length numbers)) b (pos 0) (nothing_small (length numbers)));
}

-- ---- one more number

sum_push : (m : Market) (g : AnyUnit → Schedule → ℤ) (xs : List ℕ) (ss : List Schedule) (n : ℕ) (s : Schedule) →
    length xs ≡ length ss → sum_of m g (xs ++ n ∷ []) (ss ++ s ∷ []) ≡ sum_of m g xs ss +ℤ part_of m g n s
sum_push m g [] [] n s e = omega (arith, ints)
sum_push m g [] (t ∷ ss) n s e = absurd (omega (arith, e))
sum_push m g (x ∷ xs) [] n s e = absurd (omega (arith, e))
sum_push m g (x ∷ xs) (t ∷ ss) n s e = omega (arith, ints, sum_push m g xs ss n s (omega (arith, e)))

added : (x o a r p : ℤ) → x ≡ o +ℤ p → o ≡ r → a ≡ r +ℤ p → x ≡ a
added x o a r p e f g = omega (arith, ints, e, f, g)

pub keeps_more : (m : Market) (π : PriceLists) (numbers more : List ℕ) (n : ℕ) (old new : Sums) →
    more ≡ numbers ++ n ∷ [] → ∥ AreSumsOf m π numbers old ∥₁ → IsMore m π n old new → ∥ AreSumsOf m π more new ∥₁
keeps_more m π numbers more n old new is kept one =
    subst (λ (l : List ℕ). ∥ AreSumsOf m π l new ∥₁) (sym is) (∥∥₁_map kept (λ h.
    let long = length_same (FitsAt m π) numbers h.schedules h.fit in
    record {
      schedules = h.schedules ++ one.schedule ∷ [];
      fit = all_zipped_more (FitsAt m π) numbers h.schedules n one.schedule h.fit one.fit;
      earned =
          let g : AnyUnit → Schedule → ℤ = λ u s. earnings u π s in
          added new.earned old.earned (sum_of m g (numbers ++ n ∷ []) (h.schedules ++ one.schedule ∷ []))
          (sum_of m g numbers h.schedules) (part_of m g n one.schedule)
          one.earned h.earned (sum_push m g numbers h.schedules n one.schedule long);
      supply = λ k less.
          let g : AnyUnit → Schedule → ℤ = λ u s. supply_in u s (suc k) in
          added (int_at new.supply.items k) (int_at old.supply.items k)
          (sum_of m g (numbers ++ n ∷ []) (h.schedules ++ one.schedule ∷ [])) (sum_of m g numbers h.schedules)
          (part_of m g n one.schedule)
          (one.supply k less) (h.supply k less) (sum_push m g numbers h.schedules n one.schedule long);
      reserve = λ k less.
          let g : AnyUnit → Schedule → ℤ = λ u s. reserve_in s (suc k) in
          added (int_at new.reserve.items k) (int_at old.reserve.items k)
          (sum_of m g (numbers ++ n ∷ []) (h.schedules ++ one.schedule ∷ [])) (sum_of m g numbers h.schedules)
          (part_of m g n one.schedule)
          (one.reserve k less) (h.reserve k less) (sum_push m g numbers h.schedules n one.schedule long);
    }))

no_item : {X : Type 0} → (xs : List X) (n : ℕ) → length xs ≤ n → slice_get xs n ≡ None
no_item [] n h = refl
no_item (x ∷ xs) zero h = absurd (omega (arith, h))
no_item (x ∷ xs) (suc n) h = no_item xs n (omega (arith, h))

part_none : (m : Market) (g : AnyUnit → Schedule → ℤ) (n : ℕ) (s : Schedule) → slice_get (units m) n ≡ None →
    part_of m g n s ≡ pos 0
part_none m g n s none = ap (λ (o : Option AnyUnit). option_map_or (λ (u : AnyUnit). g u s) o (pos 0)) none

part_some : (m : Market) (g : AnyUnit → Schedule → ℤ) (n : ℕ) (s : Schedule) (u : AnyUnit) →
    slice_get (units m) n ≡ Some u → part_of m g n s ≡ g u s
part_some m g n s u some = ap (λ (o : Option AnyUnit). option_map_or (λ (u : AnyUnit). g u s) o (pos 0)) some

none_added : (x p : ℤ) → p ≡ pos 0 → x ≡ x +ℤ p
none_added x p e = omega (arith, ints, e)

pub nothing_more : (m : Market) (π : PriceLists) (n : ℕ) (sums : Sums) → length (units m) ≤ n → IsMore m π n sums sums
nothing_more m π n sums past =
    let none = no_item (units m) n past in
    let s : Schedule = record { on = []; power = []; reserve = [] } in
    record {
      schedule = s;
      fit = λ u is. absurd (none_some u (sym none ∙ is));
      earned = none_added sums.earned (part_of m (λ u s. earnings u π s) n s)
          (part_none m (λ u s. earnings u π s) n s none);
      supply = λ k less. none_added (int_at sums.supply.items k) (part_of m (λ u s. supply_in u s (suc k)) n s)
          (part_none m (λ u s. supply_in u s (suc k)) n s none);
      reserve = λ k less. none_added (int_at sums.reserve.items k) (part_of m (λ u s. reserve_in s (suc k)) n s)
          (part_none m (λ u s. reserve_in s (suc k)) n s none);
    }

one_added : (x o p q : ℤ) → x ≡ o +ℤ p → p ≡ q → x ≡ o +ℤ q
one_added x o p q e f = e ∙ ap (λ z. o +ℤ z) f

pub answer_more : (m : Market) (π : PriceLists) (n : ℕ) (flow : Flow) (a : Answered) (old new : Sums) →
    IsAnswerAt m π n flow a → length old.supply.items ≡ m.periods → length old.reserve.items ≡ m.periods
    → new.earned ≡ old.earned +ℤ a.earned
    → IsRaised old.supply.items new.supply.items (λ k. amount_of flow (slice_index (schedule_of a.response).power k))
    → IsRaised old.reserve.items new.reserve.items (λ k. reserve_in (schedule_of a.response) (suc k))
    → IsMore m π n old new
answer_more m π n flow a old new at ls lr earned supply reserve =
    let s = schedule_of a.response in
    record {
      schedule = s;
      fit = λ u is. subst (λ (v : AnyUnit). Fits v π s) (sym (same_item at.unit u (sym at.is ∙ is))) at.fit;
      earned = one_added new.earned old.earned a.earned (part_of m (λ u s. earnings u π s) n s) earned
          (at.earned ∙ sym (part_some m (λ u s. earnings u π s) n s at.unit at.is));
      supply = λ k less. one_added (int_at new.supply.items k) (int_at old.supply.items k) _
          (part_of m (λ u s. supply_in u s (suc k)) n s)
          (supply.each k (omega (arith, less, ls)))
          (sym (at.supply k) ∙ sym (part_some m (λ u s. supply_in u s (suc k)) n s at.unit at.is));
      reserve = λ k less. one_added (int_at new.reserve.items k) (int_at old.reserve.items k) _
          (part_of m (λ u s. reserve_in s (suc k)) n s)
          (reserve.each k (omega (arith, less, lr)))
          (sym (part_some m (λ u s. reserve_in s (suc k)) n s at.unit at.is));
    }

pub few_units : (m : Market) → IsMarket m → unit_count m ≤ 12288
few_units m limits =
    let t = limits.thermal_count in
    let f = limits.flat_count in
    let b = limits.bid_count in
    omega (arith, t, f, b)

earned_small : (e x : ℤ) → x ≡ e → IsEarned e → IsSmall 1 x
earned_small e x is h =
    let low = h.at_least in
    let high = h.at_most in
    record { at_least = omega (arith, ints, is, low); at_most = omega (arith, ints, is, high) }

supply_small : (u : AnyUnit) (s : Schedule) (k : ℕ) (x : ℤ) → GivesWithin u s k → supply_in u s (suc k) ≡ x →
    IsSmall 1 x
supply_small u s k x gives is =
    let low = gives.least in
    let high = gives.most in
    let a = most_at u in
    let b = least_at u in
    record { at_least = omega (arith, ints, is, low, b); at_most = omega (arith, ints, is, high, a) }
  where
    most_at : (u : AnyUnit) → most_given u ≤ℤ pos 1000000000
    most_at (Thermal g) = omega (arith, ints)
    most_at (Flat r) = omega (arith, ints)
    most_at (Bid b) = omega (arith, ints)

    least_at : (u : AnyUnit) → neg_ℤ (pos 1000000000) ≤ℤ least_given u
    least_at (Thermal g) = omega (arith, ints)
    least_at (Flat r) = omega (arith, ints)
    least_at (Bid b) = omega (arith, ints)

reserve_small : (s : Schedule) (k : ℕ) → reserve_in s (suc k) ≤ℤ pos 10000000 → IsSmall 1 (reserve_in s (suc k))
reserve_small s k high = record { at_least = omega (arith, ints); at_most = omega (arith, ints, high) }

pub answer_small : (m : Market) (π : PriceLists) (n : ℕ) (flow : Flow) (a : Answered) (old new : Sums) (count : ℕ) →
    UnitsAreWithin → OutputsAreWithin → EarningsAreWithin → IsMarket m → ArePrices π
    → IsAnswerAt m π n flow a → AreWithin m.periods count old
    → new.earned ≡ old.earned +ℤ a.earned
    → IsRaised old.supply.items new.supply.items (λ k. amount_of flow (slice_index (schedule_of a.response).power k))
    → IsRaised old.reserve.items new.reserve.items (λ k. reserve_in (schedule_of a.response) (suc k))
    → AreWithin m.periods (count + 1) new
answer_small m π n flow a old new count limited outputs earns limits are at w earned supply reserve =
    let s = schedule_of a.response in
    let own = item_of IsUnit (units m) n at.unit (limited m limits) at.is in
    let gives = outputs at.unit s (length π.energy) own at.fit.best.feasible in
    raised_within m.periods count 1 old new a.earned
    (λ k. amount_of flow (slice_index (schedule_of a.response).power k)) (λ k. reserve_in s (suc k)) w earned supply
    reserve
    (earned_small (earnings at.unit π s) a.earned at.earned (earns at.unit π s own are at.fit.best.feasible))
    (λ k less. supply_small at.unit s k _ (gives k) (at.supply k))
    (λ k less. reserve_small s k (gives k).reserve)
