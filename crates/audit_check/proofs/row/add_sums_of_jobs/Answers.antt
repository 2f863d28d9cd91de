use Rattle.audit_check.proofs.Common.{◌≡◌, ℕ, ◌+◌, ◌*◌, sym, ◌∙◌, subst, length, arith, int_at, Answerer, AreWithin}
use Rattle.audit_check.proofs.Lemmas.{within_wider, within_over, raised_within, gather_more, small_at}
use Rattle.audit_check.proofs.row.add_sums_of_jobs.Goals as goal

pub add-requires-clause-within : goal.add-requires-clause-within
add-requires-clause-within c =
    let i = c.loop-job.job-index in
    let test = c.loop-job-test.true in
    let most = c.requires.count in
    let own = subst (λ (j : Answerer). AreWithin (length c.args.sums.now.supply.items) 12288 j.sums) (sym c.job-item.is)
    (c.requires.jobs i c.job-item.result test) in
    within_over (length c.args.sums.now.supply.items) _ 393216 c.loop-job.sums (sym own.supply_length)
    (within_wider (length c.args.sums.now.supply.items) (i * 12288) 393216 c.loop-job.sums (omega (arith, test, most))
    c.loop-job.invariant.within)

pub add-requires-clause-other : goal.add-requires-clause-other
add-requires-clause-other c =
    let i = c.loop-job.job-index in
    let test = c.loop-job-test.true in
    let own = subst (λ (j : Answerer). AreWithin (length c.args.sums.now.supply.items) 12288 j.sums) (sym c.job-item.is)
    (c.requires.jobs i c.job-item.result test) in
    within_over (length c.args.sums.now.supply.items) _ 12288 c.job-item.result.sums (sym own.supply_length) own

pub loop-job-preserved : goal.loop-job-preserved
loop-job-preserved c =
    let i = c.loop-job.job-index in
    let test = c.loop-job-test.true in
    let base = c.args.sums.now in
    let old = c.loop-job.sums in
    let new = c.add.new.self in
    let job = c.job-item.result in
    let known = c.loop-job.invariant in
    let e = c.add.ensures in
    let own = subst (λ (j : Answerer). AreWithin (length base.supply.items) 12288 j.sums) (sym c.job-item.is)
    (c.requires.jobs i job test) in
    let ls = known.within.supply_length in
    let lr = known.within.reserve_length in
    let lb = c.requires.none.reserve_length in
    let turn : (i + 1) * 12288 ≡ i * 12288 + 12288 = omega arith in
    record {
      earned = gather_more (λ (j : Answerer). j.sums.earned) c.args.jobs.now i job job new.earned old.earned base.earned
          test c.job-item.is known.earned e.earned;
      supply = λ k less. gather_more (λ (j : Answerer). int_at j.sums.supply.items k) c.args.jobs.now i job job
          (int_at new.supply.items k) (int_at old.supply.items k) (int_at base.supply.items k) test c.job-item.is
          (known.supply k less) (e.supply.each k (omega (arith, less, ls)));
      reserve = λ k less. gather_more (λ (j : Answerer). int_at j.sums.reserve.items k) c.args.jobs.now i job job
          (int_at new.reserve.items k) (int_at old.reserve.items k) (int_at base.reserve.items k) test c.job-item.is
          (known.reserve k less) (e.reserve.each k (omega (arith, less, lr, lb)));
      within = subst (λ (n : ℕ). AreWithin (length base.supply.items) n new) (sym turn)
          (raised_within (length base.supply.items) (i * 12288) 12288 old new job.sums.earned
          (int_at job.sums.supply.items) (int_at job.sums.reserve.items) known.within e.earned e.supply e.reserve
          own.earned
          (λ k less. small_at 12288 job.sums.supply.items k own.supply)
          (λ k less. small_at 12288 job.sums.reserve.items k own.reserve));
    }

pub returns-clause-reserve_length : goal.returns-clause-reserve_length
returns-clause-reserve_length c = c.loop-job.invariant.within.reserve_length ∙ sym c.requires.none.reserve_length
