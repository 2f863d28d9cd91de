-- What is built step by step is the generated case and schedule.
use Rattle.case_make.proofs.Common.{◌≡◌, ℕ, ◌*◌, ◌/◌, ◌≤◌, ℤ, pos, List, [], ◌++◌, replicate, length, ap, ◌∙◌, arith}
use Rattle.case_make.proofs.Common.{length-replicate, get_or-replicate, fill_by_all, Lcg, NamedThermalUnit, refl}
use Rattle.case_make.proofs.Common.{NamedRenewableUnit, NamedBidUnit, Schedule, Market, int_at, AreSums, IsSmall}
use Rattle.case_make.proofs.Common.{thermal_units, thermal_plan, renewable_units, renewable_plans, power_sum}
use Rattle.case_make.proofs.Common.{reserve_sum, demand_of, requirement_of, plan_from, market_from, moved_on}
use Rattle.std.specs.Prelude.{Result, Ok, Err, IfOk}
use Rattle.case_make.specs.Made.{market_for}
use Rattle.case_make.proofs.LaterLaws.{renewable_plans_later}

pub plan_made : (g h : Lcg) (before plan : List Schedule) → before ≡ thermal_plan g 73 →
    plan ≡ before ++ renewable_plans h 0 81 → h ≡ moved_on (9 * 73) g → plan ≡ plan_from g
unfolding plan_from
plan_made g h before plan thermal more moved =
    more ∙ ap (λ (xs : List Schedule). xs ++ renewable_plans h 0 81) thermal
    ∙ ap (λ (xs : List Schedule). thermal_plan g 73 ++ xs) (renewable_plans_later (9 * 73) 81 g h moved)

pub demand_made : (plan : List Schedule) (powers : List ℤ) (reserve : ℕ) → AreSums plan powers reserve →
    powers ≡ demand_of plan
unfolding demand_of
demand_made plan powers reserve h =
    fill_by_all (λ (k : ℕ). pos (power_sum plan k)) powers 48 (pos 0) h.count h.powers_are

pub requirement_made : (plan : List Schedule) (powers required : List ℤ) (reserve : ℕ) → AreSums plan powers reserve →
    required ≡ replicate 48 (pos (reserve * 9 / 10)) → required ≡ requirement_of plan
unfolding requirement_of
requirement_made plan powers required reserve h is =
    let part = pos (reserve * 9 / 10) in
    fill_by_all (λ (k : ℕ). pos (reserve_sum plan k * 9 / 10)) required 48 (pos 0)
    (ap length is ∙ length-replicate 48 part)
    (λ k low. ap (λ (xs : List ℤ). int_at xs k) is ∙ get_or-replicate 48 k part (pos 0) low ∙
    ap (λ (n : ℕ). pos (n * 9 / 10)) (h.reserve_is k low))

pub market_made : (plan : List Schedule) (demand reserves : List ℤ) (thermal : List NamedThermalUnit)
    (flat : List NamedRenewableUnit) (bids : List NamedBidUnit) →
    demand ≡ demand_of plan → reserves ≡ requirement_of plan → bids ≡ [] →
    (let m : Market = record {
      periods = 48;
      demand = demand;
      reserves = reserves;
      thermal = thermal;
      flat = flat;
      bids = bids;
    } in m ≡ market_for plan thermal flat)
market_made plan demand reserves thermal flat bids d r b = cc

pub market_for_is : (g : Lcg) (plan : List Schedule) (thermal : List NamedThermalUnit)
    (flat : List NamedRenewableUnit) → plan ≡ plan_from g → thermal ≡ thermal_units g 73 →
    flat ≡ renewable_units g (9 * 73) 81 → market_for plan thermal flat ≡ market_from g
unfolding market_from
market_for_is g plan thermal flat is t f = rw (is, t, f) refl

-- ---- what follows of a result, where there is one

pub if_made : {A E : Type 0} (P Q : A → Type 0) (r : Result A E) → ((x : A) → P x → Q x) → IfOk r P → IfOk r Q
if_made P Q (Ok x) f h = f x h
if_made P Q (Err e) f h = tt

pub if_both : {A E : Type 0} (P Q R : A → Type 0) (r : Result A E) → ((x : A) → P x → Q x → R x) → IfOk r P →
    IfOk r Q → IfOk r R
if_both P Q R (Ok x) f h k = f x h k
if_both P Q R (Err e) f h k = tt

pub reserve_low : (plan : List Schedule) (powers : List ℤ) (reserve : ℕ) → AreSums plan powers reserve →
    IsSmall 100000000 plan → reserve ≤ 1000000000
reserve_low plan powers reserve h small = let e = h.reserve_is 0 (omega arith) in let s = small.reserves 0 in
    omega (arith, e, s)
