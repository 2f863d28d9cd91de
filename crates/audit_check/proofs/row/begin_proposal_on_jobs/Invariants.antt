use Rattle.audit_check.proofs.Common.{◌≡◌, ℕ, ◌<◌, ◌≤◌, length, slice_index_or, market_of, prices_of, Answerer}
use Rattle.audit_check.proofs.Common.{HasBegun}
use Rattle.audit_check.proofs.row.begin_proposal_on_jobs.Given as goal

abbrev pub invariant-loop-job : goal.invariant-loop-job
invariant-loop-job l = record {
  begun : (k : ℕ) (d : Answerer) → k < l.job-index →
      HasBegun (market_of l.case) (prices_of l.prices) (slice_index_or l.jobs k d);
  waiting : (k : ℕ) (d : Answerer) → l.job-index ≤ k → k < length l.jobs →
      market_of (slice_index_or l.jobs k d).case.now ≡ market_of l.case;
}
