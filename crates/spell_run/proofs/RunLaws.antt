-- Runs of periods: one more period, the periods that two schedules share, and dispatches.
use Rattle.spell_run.proofs.Common
use Common.{◌≡◌, ℕ, zero, suc, ◌+◌, ◌-◌, ◌<◌, ◌≤◌, ◌≢◌, inl, inr, ℤ, pos, negsuc, ◌+ℤ◌, ◌-ℤ◌, ◌≤ℤ◌, Bool, true, false}
use Common.{cond, eqb, ltb, List, [], length, get_or, set, replicate, refl, sym, ap, ◌∙◌, subst, arith}
use Common.{get_or-set_same, get_or-set_other, cases_lt, lt-ltb, le-ltb, ltb-true, eqb-true, eq-eqb, get_or-replicate}
use Common.{get_or_past, length-replicate, ThermalUnit, PriceLists, Schedule, power_in, reserve_in, cap_of, sum_below}
use Common.{sum_below-same, over_min, IsDispatch, net_cost_at, net_cost, spell_cost, cap_at, IsMove, level, IsRun}
use Common.{IsThermalUnit, IsFrontier, Table, value_of, Some, length-set, bounded, signed}
use Rattle.spell_run.proofs.StepLaws.{IsUnder, under_cap, cap_over}

-- ---- the power before a period

pub level_before : (g : ThermalUnit) (first : ℕ) (d : Schedule) (t : ℕ) → t < first → level g first d t ≡ g.min_power
unfolding level
level_before g first d t h = ap (λ b. cond b g.min_power (over_min g d t +ℤ g.min_power)) (lt-ltb t first h)

pub level_within : (g : ThermalUnit) (first : ℕ) (d : Schedule) (t : ℕ) → first ≤ t →
    level g first d t ≡ over_min g d t +ℤ g.min_power
unfolding level
level_within g first d t h = ap (λ b. cond b g.min_power (over_min g d t +ℤ g.min_power)) (le-ltb t first h)

pub level_power : (g : ThermalUnit) (first : ℕ) (d : Schedule) (k : ℕ) → first ≤ suc k →
    level g first d (suc k) ≡ power_in d (suc k)
level_power g first d k h = let e = level_within g first d (suc k) h in omega signed

-- ---- schedules that share periods

-- d and d' have the same powers and reserves in periods 1 to t
pub record IsAlike (t : ℕ) (d d' : Schedule) : Type 0 where
  pub power : (j : ℕ) → j < t → power_in d' (suc j) ≡ power_in d (suc j)
  pub reserve : (j : ℕ) → j < t → reserve_in d' (suc j) ≡ reserve_in d (suc j)

pub move_same : {g : ThermalUnit} {starts stops : Bool} {q p r q' p' r' : ℤ} → q ≡ q' → p ≡ p' → r ≡ r' →
    IsMove g starts stops q p r → IsMove g starts stops q' p' r'
move_same {q' = q'} {p' = p'} e f i m = rw i at (rw f at (rw e at m))

-- what d does in period suc k is a move
abbrev pub MovesIn : ThermalUnit → ℕ → ℕ → Bool → Schedule → Type 0
MovesIn g first k stops d =
    IsMove g (eqb first (suc k)) stops (level g first d k) (power_in d (suc k)) (reserve_in d (suc k))

module _ (g : ThermalUnit) (first : ℕ) where
  level_alike : {t : ℕ} {d d' : Schedule} → IsAlike t d d' → (j : ℕ) → j ≤ t → level g first d' j ≡ level g first d j
  unfolding level
  level_alike same zero low = refl
  level_alike same (suc j) low =
      ap (λ p. cond (ltb (suc j) first) g.min_power ((p -ℤ g.min_power) +ℤ g.min_power))
      (same.power j (omega arith))

  pub level_same : {t : ℕ} {d d' : Schedule} → IsAlike t d d' → level g first d' t ≡ level g first d t
  level_same {t = t} same = level_alike same t (omega arith)

module _ {g : ThermalUnit} {first : ℕ} where
  pub run_alike : {t : ℕ} {d d' : Schedule} → IsAlike t d d' → IsRun g first t d → IsRun g first t d'
  run_alike same run k from until =
      move_same (sym (level_alike g first same k (omega arith))) (sym (same.power k (omega arith)))
      (sym (same.reserve k (omega arith))) (run k from until)

  -- one more period
  pub run_more : {k : ℕ} (d : Schedule) → IsRun g first k d → MovesIn g first k false d → IsRun g first (suc k) d
  run_more {k = k} d run move j from until = elim (cases_lt j k) [
    | inl less ↦ run j from (omega arith)
    | inr most ↦ let z : k ≡ j = omega arith in subst (λ i. MovesIn g first i false d) z move
  ]

  pub run_less : {k : ℕ} (d : Schedule) → IsRun g first (suc k) d → IsRun g first k d
  run_less d run j from until = run j from (omega arith)

-- ---- costs

module _ (g : ThermalUnit) (π : PriceLists) (first : ℕ) where
  net_alike : {t : ℕ} {d d' : Schedule} → IsAlike t d d' → (j : ℕ) → j ≤ t → net_cost g π d' j ≡ net_cost g π d j
  net_alike same zero low = refl
  net_alike {d = d} {d' = d'} same (suc j) low =
      ap (λ p. net_cost_at g π j p (reserve_in d' (suc j))) (same.power j (omega arith))
      ∙ ap (λ r. net_cost_at g π j (power_in d (suc j)) r) (same.reserve j (omega arith))

  pub cost_alike : {t : ℕ} {d d' : Schedule} → IsAlike t d d' → spell_cost g π first t d' ≡ spell_cost g π first t d
  cost_alike {t = t} same =
      sum_below-same (suc t - first) _ _ (λ k low. net_alike same (first + k) (omega arith))

  pub cost_more : (k : ℕ) (d : Schedule) → first ≤ suc k →
      spell_cost g π first (suc k) d ≡ spell_cost g π first k d +ℤ net_cost g π d (suc k)
  cost_more k d from =
      let count : suc (suc k) - first ≡ suc (suc k - first) = omega arith in
      let last : first + (suc k - first) ≡ suc k = omega arith in
      ap (λ n. sum_below n (λ k. net_cost g π d (first + k))) count ∙
      ap (λ t. sum_below (suc k - first) (λ k. net_cost g π d (first + k)) +ℤ net_cost g π d t) last

  pub cost_none : (t : ℕ) (d : Schedule) → t < first → spell_cost g π first t d ≡ pos 0
  cost_none t d h =
      let count : suc t - first ≡ 0 = omega arith in
      ap (λ n. sum_below n (λ k. net_cost g π d (first + k))) count

pub cost_zero : (g : ThermalUnit) (π : PriceLists) (d : Schedule) → spell_cost g π 0 0 d ≡ pos 0
cost_zero g π d = refl

-- ---- one period written

abbrev pub with_period : Schedule → ℕ → ℕ → ℕ → Schedule
with_period d k n m = record { on = d.on; power = set d.power k n; reserve = set d.reserve k m }

module _ (d : Schedule) (k n m : ℕ) where
  pub written_power : k < length d.power → power_in (with_period d k n m) (suc k) ≡ pos n
  written_power h = ap pos (get_or-set_same d.power k n 0 h)

  pub written_reserve : k < length d.reserve → reserve_in (with_period d k n m) (suc k) ≡ pos m
  written_reserve h = ap pos (get_or-set_same d.reserve k m 0 h)

  pub written_alike : IsAlike k d (with_period d k n m)
  written_alike = record {
    power = λ j low. (let ne : j ≢ k = omega arith in ap pos (get_or-set_other d.power k j n 0 ne));
    reserve = λ j low. (let ne : j ≢ k = omega arith in ap pos (get_or-set_other d.reserve k j m 0 ne));
  }

-- nothing in any period
abbrev zeros : ℕ → List ℕ
zeros periods = replicate periods 0

abbrev pub blank : ℕ → Schedule
blank periods = record { on = []; power = replicate periods 0; reserve = replicate periods 0 }

blank_at : (periods k : ℕ) → get_or (zeros periods) k 0 ≡ 0
blank_at periods k = elim (cases_lt k periods) [
  | inl low ↦ get_or-replicate periods k 0 0 low
  | inr past ↦ get_or_past (zeros periods) k 0
      (let e : length (zeros periods) ≡ periods = length-replicate periods 0 in omega arith)
]

pub blank_reserve : (periods k : ℕ) → reserve_in (blank periods) (suc k) ≡ pos 0
blank_reserve periods k = ap pos (blank_at periods k)

pub natural : (x : ℤ) → pos 0 ≤ℤ x → (n : ℕ) × (x ≡ pos n)
natural (pos n) h = (n, refl)
natural (negsuc n) h = absurd (omega signed)

pub reserve_not_negative : (d : Schedule) (k : ℕ) → pos 0 ≤ℤ reserve_in d (suc k)
reserve_not_negative d k = omega signed

-- a run up to k, and the period suc k after it
pub record IsBuilt (g : ThermalUnit) (π : PriceLists) (first k : ℕ) (y w x r : ℤ) : Type 0 where
  pub run : Schedule
  pub power_length : length run.power ≡ length π.energy
  pub reserve_length : length run.reserve ≡ length π.energy
  pub keeps : IsRun g first k run
  pub before : level g first run k ≡ y
  pub power : power_in run (suc k) ≡ x
  pub reserve : reserve_in run (suc k) ≡ r
  pub cost : spell_cost g π first (suc k) run ≡ w +ℤ net_cost_at g π k x r

pub build : {g : ThermalUnit} {π : PriceLists} {first k : ℕ} {f : Table} {w r : ℤ} → k < length π.energy →
    first ≤ suc k → IsFrontier g π first k f → (y x : ℤ) → value_of f y ≡ Some w → pos 0 ≤ℤ x → pos 0 ≤ℤ r →
    IsBuilt g π first k y w x r
build {g = g} {π = π} {first = first} {k = k} {w = w} {r = r} within from front y x there least kept =
    let reached = front.sound y w there in
    let n = natural x least in
    let m = natural r kept in
    let old = reached.run in
    let run = with_period old k n.0 m.0 in
    let same = written_alike old k n.0 m.0 in
    let in_power : k < length old.power = omega arith in
    let in_reserve : k < length old.reserve = omega arith in
    let power : power_in run (suc k) ≡ x = written_power old k n.0 m.0 in_power ∙ sym n.1 in
    let reserve : reserve_in run (suc k) ≡ r = written_reserve old k n.0 m.0 in_reserve ∙ sym m.1 in
    let more = cost_more g π first k run from in
    let net : net_cost g π run (suc k) ≡ net_cost_at g π k x r = cc in
    let before = cost_alike g π first same in
    record {
      run = run;
      power_length = length-set old.power k n.0 ∙ reached.power_length;
      reserve_length = length-set old.reserve k m.0 ∙ reached.reserve_length;
      keeps = run_alike same reached.keeps;
      before = level_same g first same ∙ reached.ends;
      power = power;
      reserve = reserve;
      cost = cc;
    }

-- ---- dispatches

-- the last period suc k of d may be before a stop, where one follows
pub record MayEnd (g : ThermalUnit) (periods k : ℕ) (d : Schedule) : Type 0 where
  pub stop : suc k < periods → (power_in d (suc k) +ℤ reserve_in d (suc k)) ≤ℤ g.stop_limit
  pub leave : suc k < periods → (power_in d (suc k) -ℤ g.min_power) ≤ℤ g.ramp_down

-- a move with its stop is one without and a right end
pub move_parts : {g : ThermalUnit} (first k periods : ℕ) (d : Schedule) → MovesIn g first k (ltb (suc k) periods) d →
    MovesIn g first k false d × MayEnd g periods k d
move_parts {g = g} first k periods d move =
    let u = under_cap g (eqb first (suc k)) (ltb (suc k) periods) move.greatest in (
      record {
        least = move.least;
        greatest = cap_over g (eqb first (suc k)) false (record { most = u.most; start = u.start; stop = λ e. cc });
        ramp_up = move.ramp_up;
        ramp_down = move.ramp_down;
        leave = λ e. cc;
      },
      record {
        stop = λ low. u.stop (lt-ltb (suc k) periods low);
        leave = λ low. move.leave (lt-ltb (suc k) periods low);
      },
    )

pub move_whole : {g : ThermalUnit} {k periods : ℕ} {d : Schedule} (first : ℕ) → MovesIn g first k false d →
    MayEnd g periods k d → MovesIn g first k (ltb (suc k) periods) d
move_whole {g = g} {k = k} {periods = periods} first move end =
    let u = under_cap g (eqb first (suc k)) false move.greatest in
    record {
      least = move.least;
      greatest = cap_over g (eqb first (suc k)) (ltb (suc k) periods)
          (record { most = u.most; start = u.start; stop = λ e. end.stop (ltb-true (suc k) periods e) });
      ramp_up = move.ramp_up;
      ramp_down = move.ramp_down;
      leave = λ e. end.leave (ltb-true (suc k) periods e);
    }

module _ {g : ThermalUnit} {periods first k : ℕ} (d : Schedule) (from : first ≤ suc k) (run : IsRun g first (suc k) d)
    (end : MayEnd g periods k d) where
  abbrev under : (j : ℕ) → first ≤ suc j → suc j ≤ suc k →
      IsUnder g (eqb first (suc j)) false (power_in d (suc j) +ℤ reserve_in d (suc j))
  under j low until = under_cap g (eqb first (suc j)) false (run j low until).greatest

  least_at : (t : ℕ) → 1 ≤ t → first ≤ t → t ≤ suc k → pos 0 ≤ℤ over_min g d t
  least_at zero one low until = absurd (omega arith)
  least_at (suc j) one low until = let m = (run j low until).least in omega signed

  greatest_at : (t : ℕ) → 1 ≤ t → first ≤ t → t ≤ suc k → (over_min g d t +ℤ reserve_in d t) ≤ℤ cap_of g false false
  greatest_at zero one low until = absurd (omega arith)
  greatest_at (suc j) one low until = let u = (under j low until).most in omega bounded

  start_at : (t : ℕ) → t ≡ first → 1 ≤ t → (over_min g d t +ℤ reserve_in d t) ≤ℤ cap_of g true false
  start_at zero is one = absurd (omega arith)
  start_at (suc j) is one =
      let u = under j (omega arith) (omega arith) in
      let b = u.start (eq-eqb first (suc j) (sym is)) in
      omega bounded

  enter_at : (t : ℕ) → t ≡ first → 1 ≤ t → (over_min g d t +ℤ reserve_in d t) ≤ℤ g.ramp_up
  enter_at zero is one = absurd (omega arith)
  enter_at (suc j) is one =
      let m = (run j (omega arith) (omega arith)).ramp_up in
      let l = level_before g first d j (omega arith) in
      omega signed

  pub dispatch_from_run : IsDispatch g periods first (suc k) d
  dispatch_from_run = record {
    least = least_at;
    greatest = greatest_at;
    start = start_at first refl;
    enter = enter_at first refl;
    ramp_up = λ j low until.
        let m = (run j (omega arith) until).ramp_up in
        let l = level_within g first d j low in
        omega signed;
    ramp_down = λ j low until.
        let m = (run j (omega arith) until).ramp_down in
        let l = level_within g first d j low in
        omega signed;
    stop = λ inside one.
        let u = (under k from (omega arith)).most in
        let b = end.stop inside in
        omega bounded;
    leave = end.leave;
    stop_at_once = λ inside none. absurd (omega arith);
    leave_at_once = λ inside none. absurd (omega arith);
  }

module _ {g : ThermalUnit} {periods first k : ℕ} {d : Schedule} (unit : IsThermalUnit g) (from : first ≤ suc k)
    (h : IsDispatch g periods first (suc k) d) where
  cap_here : (j : ℕ) → first ≤ suc j → suc j ≤ suc k →
      (power_in d (suc j) +ℤ reserve_in d (suc j)) ≤ℤ cap_at g (eqb first (suc j)) false
  cap_here j low until =
      let a = h.greatest (suc j) (omega arith) low until in
      cap_over g (eqb first (suc j)) false (record {
        most = omega bounded;
        start = λ e.
            let is = eqb-true first (suc j) e in
            let b = rw is at (h.start (omega arith)) in
            omega bounded;
        stop = λ e. cc;
      })

  pub run_from_dispatch : IsRun g first (suc k) d
  run_from_dispatch j low until =
      let least = h.least (suc j) (omega arith) low until in
      let fall = unit.ramp_down.at_least in
      elim (cases_lt j first) [
        | inr inside ↦
            let l = level_within g first d j inside in
            let up = h.ramp_up j inside until in
            let down = h.ramp_down j inside until in
            record {
              least = omega signed;
              greatest = cap_here j low until;
              ramp_up = omega signed;
              ramp_down = omega signed;
              leave = λ e. cc;
            }
        | inl before ↦
            let is : first ≡ suc j = omega arith in
            let l = level_before g first d j before in
            let up = rw is at (h.enter (omega arith)) in
            record {
              least = omega signed;
              greatest = cap_here j low until;
              ramp_up = omega signed;
              ramp_down = omega signed;
              leave = λ e. cc;
            }
      ]

  pub end_from_dispatch : MayEnd g periods k d
  end_from_dispatch = record {
    stop = λ inside. let s = h.stop inside (omega arith) in omega bounded;
    leave = h.leave;
  }
