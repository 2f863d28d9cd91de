use Rattle.audit_check.proofs.Common.{◌≡◌, ℕ, ◌*◌, ◌<◌, ◌+ℤ◌, map, take, length, int_at, total, Answerer, AreWithin}
use Rattle.audit_check.proofs.row.add_sums_of_jobs.Given as goal

abbrev pub invariant-loop-job : goal.invariant-loop-job
invariant-loop-job l = record {
  earned : l.sums.earned ≡ l.initial.sums.earned +ℤ total
      (map (λ (j : Answerer). j.sums.earned) (take l.job-index l.jobs));
  supply : (k : ℕ) → k < length l.initial.sums.supply.items →
      int_at l.sums.supply.items k ≡ int_at l.initial.sums.supply.items k +ℤ total
      (map (λ (j : Answerer). int_at j.sums.supply.items k) (take l.job-index l.jobs));
  reserve : (k : ℕ) → k < length l.initial.sums.reserve.items →
      int_at l.sums.reserve.items k ≡ int_at l.initial.sums.reserve.items k +ℤ total
      (map (λ (j : Answerer). int_at j.sums.reserve.items k) (take l.job-index l.jobs));
  within : AreWithin (length l.initial.sums.supply.items) (l.job-index * 12288) l.sums;
}
