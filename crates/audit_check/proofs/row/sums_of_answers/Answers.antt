use Rattle.audit_check.proofs.Common.{refl, arith, ◌≡◌, ℕ, List, length, map, sym, ap, ◌∙◌, subst, subst₂, pos, []}
use Rattle.audit_check.proofs.Common.{length-replicate, All, concat, IsPermutation, below, Schedule, units, market_of}
use Rattle.audit_check.proofs.Common.{prices_of, int_at, Answerer, AreWithin, AreAdded}
use Rattle.audit_check.proofs.Dealt.{all_runs, all_sums}
use Rattle.audit_check.proofs.Lemmas.{work_of, runs_of, spare_of, after, none_run, all_kept, all_within, all_for}
use Rattle.audit_check.proofs.Lemmas.{starts_within, zero_at}
use Rattle.audit_check.specs.Jobs.{AreFor}
use Rattle.audit_check.proofs.row.sums_of_answers.Goals as goal

pub add_sums_of_jobs-requires-clause-jobs : goal.add_sums_of_jobs-requires-clause-jobs
add_sums_of_jobs-requires-clause-jobs g c =
    let m = market_of c.args.case.now in
    let at = after m (prices_of c.args.prices.now) c.begin_proposal_on_job_list.new.jobs.items c.deal_all.new.jobs.items
    c.begin_proposal_on_job_list.ensures.begun c.in_ok-deal_all.ensures.dealt.jobs in
    let long : length c.in_ok-sums.sums.supply.items ≡ m.periods =
    ap length c.in_ok-sums.ensures.supply ∙ length-replicate m.periods (pos 0) in
    subst (λ (xs : List Answerer). All
    (λ (j : Answerer). AreWithin (length c.in_ok-sums.sums.supply.items) 12288 j.sums) xs)
    (sym c.as_slice.ensures.value)
    (all_within m (prices_of c.args.prices.now) (length c.in_ok-sums.sums.supply.items) c.deal_all.new.jobs.items at
    (sym long))

pub returns-clause-sums : goal.returns-clause-sums
returns-clause-sums g c =
    let m = market_of c.args.case.now in
    let π = prices_of c.args.prices.now in
    let old = c.begin_proposal_on_job_list.new.jobs.items in
    let new = c.deal_all.new.jobs.items in
    let begun = c.begin_proposal_on_job_list.ensures.begun in
    let dealt = c.in_ok-deal_all.ensures.dealt in
    let at = after m π old new begun dealt.jobs in
    let count : c.unit_count-units.result ≡ length (units m) =
    c.unit_count-units.ensures.value ∙ sym (c.unit_numbers_go_by_kind.ensures m).count in
    let runs = all_runs work_of runs_of spare_of old new dealt.jobs (none_run m π old begun) in
    let once : IsPermutation (below (length (units m))) (concat (map runs_of new)) =
    subst₂ (λ (n : ℕ) (ls : List (List ℕ)). IsPermutation (below n) (concat ls)) count runs dealt.once in
    let s = c.in_ok-sums.sums in
    let e = c.in_ok-sums.ensures in
    let more = c.add_sums_of_jobs.ensures in
    let added = subst (λ (xs : List Answerer). AreAdded (λ (j : Answerer). j.sums) xs s c.add_sums_of_jobs.new.sums)
    c.as_slice.ensures.value more.added in
    let ls : length s.supply.items ≡ m.periods = ap length e.supply ∙ length-replicate m.periods (pos 0) in
    let lr : length s.reserve.items ≡ m.periods = ap length e.reserve ∙ length-replicate m.periods (pos 0) in
    let d : Schedule = record { on = []; power = []; reserve = [] } in
    all_sums m π runs_of (λ (j : Answerer). j.sums) c.least_best_schedule_is_unique.ensures new once
    c.jobs_ran_exactly_the_tasks.ensures
    c.sums_over_jobs_equal_sum_over_tasks.ensures (all_kept m π new at) s c.add_sums_of_jobs.new.sums added d
    ls lr (more.supply_length ∙ ls) (more.reserve_length ∙ lr) e.earned
    (λ k. ap (λ l. int_at l k) e.supply ∙ zero_at m.periods k)
    (λ k. ap (λ l. int_at l k) e.reserve ∙ zero_at m.periods k)

pub returns-clause-jobs : goal.returns-clause-jobs
returns-clause-jobs g c =
    let m = market_of c.args.case.now in
    let at = after m (prices_of c.args.prices.now) c.begin_proposal_on_job_list.new.jobs.items c.deal_all.new.jobs.items
    c.begin_proposal_on_job_list.ensures.begun c.in_ok-deal_all.ensures.dealt.jobs in
    all_for m (prices_of c.args.prices.now) c.deal_all.new.jobs.items at

pub deal_all-requires-clause-spare : goal.deal_all-requires-clause-spare
deal_all-requires-clause-spare g c κs within = λ k d low. let left =
    (c.begin_proposal_on_job_list.ensures.begun k d low).left in
    let units = c.unit_count-units.ensures.value in omega (arith, left, units)

pub returns-in_err-sums-clause-jobs : goal.returns-in_err-sums-clause-jobs
returns-in_err-sums-clause-jobs g c = λ k d low. (c.begin_proposal_on_job_list.ensures.begun k d low).market

pub returns-in_err-deal_all-clause-jobs : goal.returns-in_err-deal_all-clause-jobs
returns-in_err-deal_all-clause-jobs g c = subst (AreFor (market_of c.args.case.now))
    (sym c.in_err-deal_all.ensures.refused) (λ k d low. (c.begin_proposal_on_job_list.ensures.begun k d low).market)

pub add_sums_of_jobs-requires-clause-none : goal.add_sums_of_jobs-requires-clause-none
add_sums_of_jobs-requires-clause-none g c =
    let periods = (market_of c.args.case.now).periods in
    let s = c.in_ok-sums.sums in
    let e = c.in_ok-sums.ensures in
    let supply : periods ≡ length s.supply.items = sym (ap length e.supply ∙ length-replicate periods (pos 0)) in
    starts_within (length s.supply.items) [] s periods periods refl supply supply e.earned e.supply e.reserve
