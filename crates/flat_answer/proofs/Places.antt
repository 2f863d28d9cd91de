-- Where a unit's powers earn place by place, the least best power at each place makes the least best schedule.
use Rattle.flat_answer.proofs.Common.{◌≡◌, ℕ, zero, suc, ◌+◌, ◌*◌, ◌<◌, true, false, IsTrue, ℤ, pos, ◌+ℤ◌, ◌≤ℤ◌, List}
use Rattle.flat_answer.proofs.Common.{length, set, slice_index, slice_index_or, refl, ap, sym, subst, ◌∙◌, arith}
use Rattle.flat_answer.proofs.Common.{add-one, below_more, get_or-set_same, get_or-set_other, ints, length-set}
use Rattle.flat_answer.proofs.Common.{ext_get_or, AnyUnit, PriceLists, Schedule, earnings, IsBest, IsFeasible}
use Rattle.flat_answer.proofs.Common.{IsSchedule, sum_below, IsLeast, sum_below-le, sum_below-same, IsWithin}
use Rattle.flat_answer.proofs.Common.{sum_within, IsLeastBest, IsLeastChoice, with_power}
use Rattle.flat_answer.proofs.Ordered.{not_first}

-- on in each period, without reserve, and with an allowed power
pub record IsAlwaysOn (n : ℕ) (can : ℕ → ℕ → Type 0) (s : Schedule) : Type 0 where
  pub shape : IsSchedule n s
  pub on : (k : ℕ) → k < n → IsTrue (slice_index_or s.on k false)
  pub reserve : (k : ℕ) → k < n → slice_index s.reserve k ≡ 0
  pub allowed : (k : ℕ) → k < n → can k (slice_index s.power k)

-- these are the unit's feasible schedules, and it earns so much at each place
pub record IsByPlace (u : AnyUnit) (π : PriceLists) (can : ℕ → ℕ → Type 0) (earns : ℕ → ℕ → ℤ) : Type 0 where
  pub only : (s : Schedule) → IsFeasible u (length π.energy) s → IsAlwaysOn (length π.energy) can s
  pub each : (s : Schedule) → IsAlwaysOn (length π.energy) can s → IsFeasible u (length π.energy) s
  pub sum : (s : Schedule) → IsAlwaysOn (length π.energy) can s →
      earnings u π s ≡ sum_below (length π.energy) (λ k. earns k (slice_index s.power k))

-- sums that are equal, of terms that are at most those of the other, have equal terms
terms_same : (n : ℕ) (f g : ℕ → ℤ) → ((k : ℕ) → k < n → f k ≤ℤ g k) → sum_below n f ≡ sum_below n g → (k : ℕ) → k < n →
    f k ≡ g k
terms_same zero f g h e = λ k i. absurd (omega (arith, i))
terms_same (suc n) f g h e =
    let below = sum_below-le n f g (λ j i. h j (omega (arith, i))) in
    let last = h n (omega arith) in
    let rest : sum_below n f ≡ sum_below n g = omega (arith, ints, below, last, e) in
    let here : f n ≡ g n = omega (arith, ints, below, last, e) in
    let all_ = below_more (λ k. f k ≡ g k) n (terms_same n f g (λ j i. h j (omega (arith, i))) rest) here in
    λ k i. all_ k (omega (arith, i))

same_on : (n : ℕ) (can : ℕ → ℕ → Type 0) (a b : Schedule) → IsAlwaysOn n can a → IsAlwaysOn n can b → a.on ≡ b.on
same_on n can a b h i =
    let p = h.shape.on in
    let q = i.shape.on in
    ext_get_or false a.on b.on (p ∙ sym q) (λ k j. h.on k (omega (arith, j, p)) ∙ sym (i.on k (omega (arith, j, p))))

same_reserve : (n : ℕ) (can : ℕ → ℕ → Type 0) (a b : Schedule) → IsAlwaysOn n can a → IsAlwaysOn n can b →
    a.reserve ≡ b.reserve
same_reserve n can a b h i =
    let p = h.shape.reserve in
    let q = i.shape.reserve in
    ext_get_or 0 a.reserve b.reserve (p ∙ sym q)
    (λ k j. h.reserve k (omega (arith, j, p)) ∙ sym (i.reserve k (omega (arith, j, p))))

-- the powers are the least best ones
abbrev pub AreLeast : ℕ → (ℕ → ℕ → Type 0) → (ℕ → ℕ → ℤ) → Schedule → Type 0
AreLeast n can earns s = (k : ℕ) → k < n → IsLeastBest (can k) (earns k) (slice_index s.power k)

none_better : (n : ℕ) (can : ℕ → ℕ → Type 0) (earns : ℕ → ℕ → ℤ) (s other : Schedule) → AreLeast n can earns s →
    IsAlwaysOn n can other →
    sum_below n (λ k. earns k (slice_index other.power k)) ≤ℤ sum_below n (λ k. earns k (slice_index s.power k))
none_better n can earns s other best h =
    sum_below-le n (λ k. earns k (slice_index other.power k)) (λ k. earns k (slice_index s.power k))
    (λ k i. (best k i).greatest (slice_index other.power k) (h.allowed k i))

pub least_by_place : (u : AnyUnit) (π : PriceLists) (can : ℕ → ℕ → Type 0) (earns : ℕ → ℕ → ℤ) (s : Schedule) →
    IsByPlace u π can earns →
    IsAlwaysOn (length π.energy) can s → AreLeast (length π.energy) can earns s → IsLeast u π s
least_by_place u π can earns s by h best =
    let n = length π.energy in
    let own = by.sum s h in
    let is_best : IsBest u π s = record {
      feasible = by.each s h;
      greatest = λ other i.
          let j = by.only other i in
          let e = by.sum other j in
          let most = none_better n can earns s other best j in
          omega (arith, ints, own, e, most);
    } in
    record {
      best = is_best;
      first = λ other i before.
          let j = by.only other i.feasible in
          let e = by.sum other j in
          let back = i.greatest s is_best.feasible in
          let most = none_better n can earns s other best j in
          let even : sum_below n (λ k. earns k (slice_index other.power k)) ≡ sum_below n
          (λ k. earns k (slice_index s.power k)) = omega (arith, ints, own, e, back, most) in
          let each = terms_same n (λ k. earns k (slice_index other.power k)) (λ k. earns k (slice_index s.power k))
          (λ k within. (best k within).greatest (slice_index other.power k) (j.allowed k within)) even in
          let p = j.shape.power in
          let q = h.shape.power in
          not_first other s (same_on n can other s j h) (same_reserve n can other s j h) (p ∙ sym q)
          (λ k within. let l : k < n = omega (arith, within, p) in
          (best k l).least (slice_index other.power k) (j.allowed k l) (each k l)) before;
    }

-- ---- one place after another

-- the first places hold least best powers, and so much is earned there
pub record IsAnswered (n : ℕ) (can : ℕ → ℕ → Type 0) (earns : ℕ → ℕ → ℤ) (done : ℕ) (s : Schedule) (earned : ℤ) : Type
    0 where
  pub on_length : length s.on ≡ n
  pub power_length : length s.power ≡ n
  pub reserve_length : length s.reserve ≡ n
  pub on : (k : ℕ) → k < done → IsTrue (slice_index_or s.on k false)
  pub reserve : (k : ℕ) → k < done → slice_index s.reserve k ≡ 0
  pub best : AreLeast done can earns s
  pub earned_is : earned ≡ sum_below done (λ k. earns k (slice_index s.power k))
  pub bound : IsWithin (done * 20000000000000000) earned

pub answered_none : (n : ℕ) (can : ℕ → ℕ → Type 0) (earns : ℕ → ℕ → ℤ) (s : Schedule) → length s.on ≡ n →
    length s.power ≡ n → length s.reserve ≡ n → IsAnswered n can earns 0 s (pos 0)
answered_none n can earns s a b c = record {
  on_length = a;
  power_length = b;
  reserve_length = c;
  on = λ k i. absurd (omega (arith, i));
  reserve = λ k i. absurd (omega (arith, i));
  best = λ k i. absurd (omega (arith, i));
  earned_is = refl;
  bound = record { at_least = omega (arith, ints); at_most = omega (arith, ints) };
}

-- a list with its item at d written: those before stay
earlier : (xs : List ℕ) (d x k : ℕ) → k < d → slice_index (set xs d x) k ≡ slice_index xs k
earlier xs d x k h = get_or-set_other xs d k x 0 (λ e. omega (arith, h, e))

pub answered_more : (n : ℕ) (can : ℕ → ℕ → Type 0) (earns : ℕ → ℕ → ℤ) (d : ℕ) (s : Schedule) (earned : ℤ) (power : ℕ)
    (won : ℤ) →
    IsAnswered n can earns d s earned → d < n → IsLeastChoice (can d) (earns d) power won →
    IsAnswered n can earns (d + 1) (with_power s d power) (earned +ℤ won)
answered_more n can earns d s earned power won h within choice =
    let a = h.on_length in
    let b = h.power_length in
    let c = h.reserve_length in
    let here : slice_index (set s.power d power) d ≡ power =
    get_or-set_same s.power d power 0 (omega (arith, within, b)) in
    let sums : sum_below d (λ k. earns k (slice_index (set s.power d power) k)) ≡ sum_below d
    (λ k. earns k (slice_index s.power k)) =
    sum_below-same d (λ k. earns k (slice_index (set s.power d power) k)) (λ k. earns k (slice_index s.power k))
    (λ k i. ap (earns k) (earlier s.power d power k i)) in
    let last = ap (earns d) here in
    let is = choice.is in
    let before = h.earned_is in
    let one = add-one d in
    let whole = ap (λ (m : ℕ). sum_below m (λ k. earns k (slice_index (set s.power d power) k))) one in
    let size : d * 20000000000000000 + 20000000000000000 ≡ (d + 1) * 20000000000000000 = omega arith in
    record {
      on_length = length-set s.on d true ∙ a;
      power_length = length-set s.power d power ∙ b;
      reserve_length = length-set s.reserve d 0 ∙ c;
      on = below_more (λ k. IsTrue (slice_index_or (set s.on d true) k false)) d
          (λ k i. get_or-set_other s.on d k true false (λ e. omega (arith, i, e)) ∙ h.on k i)
          (get_or-set_same s.on d true false (omega (arith, within, a)));
      reserve = below_more (λ k. slice_index (set s.reserve d 0) k ≡ 0) d
          (λ k i. earlier s.reserve d 0 k i ∙ h.reserve k i)
          (get_or-set_same s.reserve d 0 0 (omega (arith, within, c)));
      best = below_more (λ k. IsLeastBest (can k) (earns k) (slice_index (set s.power d power) k)) d
          (λ k i. subst (λ (x : ℕ). IsLeastBest (can k) (earns k) x) (sym (earlier s.power d power k i)) (h.best k i))
          (subst (λ (x : ℕ). IsLeastBest (can d) (earns d) x) (sym here) choice.best);
      earned_is = omega (arith, ints, sums, last, is, before, whole);
      bound = subst (λ (m : ℕ). IsWithin m (earned +ℤ won)) size
          (sum_within (d * 20000000000000000) 20000000000000000 earned won h.bound choice.bound);
    }

pub answered_next : (n : ℕ) (can : ℕ → ℕ → Type 0) (earns : ℕ → ℕ → ℤ) (d : ℕ) (s : Schedule) (earned : ℤ) (power : ℕ)
    (won : ℤ) (s2 : Schedule) (e2 : ℤ) →
    IsAnswered n can earns d s earned → d < n → IsLeastChoice (can d) (earns d) power won → s2 ≡ with_power s d power →
    e2 ≡ earned +ℤ won → IsAnswered n can earns (d + 1) s2 e2
answered_next n can earns d s earned power won s2 e2 h within choice is won_is =
    subst (λ (x : Schedule). IsAnswered n can earns (d + 1) x e2) (sym is)
    (subst (λ (x : ℤ). IsAnswered n can earns (d + 1) (with_power s d power) x) (sym won_is)
    (answered_more n can earns d s earned power won h within choice))

always_on : (n : ℕ) (can : ℕ → ℕ → Type 0) (earns : ℕ → ℕ → ℤ) (s : Schedule) (earned : ℤ) →
    IsAnswered n can earns n s earned → IsAlwaysOn n can s
always_on n can earns s earned h = record {
  shape = record {
    on = h.on_length;
    power = h.power_length;
    reserve = h.reserve_length;
    off = λ k i off. let on = h.on k i in absurd (cc);
  };
  on = h.on;
  reserve = h.reserve;
  allowed = λ k i. (h.best k i).allowed;
}

-- all places answered
pub record IsDone (u : AnyUnit) (π : PriceLists) (s : Schedule) (earned : ℤ) : Type 0 where
  pub least : IsLeast u π s
  pub earned_is : earned ≡ earnings u π s

pub answered_all : (u : AnyUnit) (π : PriceLists) (can : ℕ → ℕ → Type 0) (earns : ℕ → ℕ → ℤ) (done : ℕ) (s : Schedule)
    (earned : ℤ) → IsByPlace u π can earns →
    done ≡ length π.energy → IsAnswered (length π.energy) can earns done s earned → IsDone u π s earned
answered_all u π can earns done s earned by all_ h =
    let whole = subst (λ (m : ℕ). IsAnswered (length π.energy) can earns m s earned) all_ h in
    let on = always_on (length π.energy) can earns s earned whole in
    record { least = least_by_place u π can earns s by on whole.best; earned_is = whole.earned_is ∙ sym (by.sum s on) }
