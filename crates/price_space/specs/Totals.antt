-- How a row's totals run while responses come in: each response adds to, or takes from, each
-- period's total once (this project's profile). Started from zeros, the totals are the net sums and
-- reserve sums of all responses.
use Rattle.std.specs.Prelude.{◌≡◌, ℕ, ◌<◌, ℤ, pos, neg_ℤ, ◌+ℤ◌, List, length}
use Rattle.plain_lists.specs.Ranges.{IsFrom}
use Rattle.plain_lists.specs.Sums.{int_at}

-- a total that has room in 128 bits for one more power
abbrev pub TakesPower : ℤ → Type 0
TakesPower x =
    IsFrom (neg_ℤ (pos 1000000000000000000000000000000)) (pos 1000000000000000000000000000000) x

-- the entry at each place k has risen by the amount for k, and no entry came or went
pub record IsRaised (old new : List ℤ) (amount : ℕ → ℤ) : Type 0 where
  pub same_length : length new ≡ length old
  pub each : (k : ℕ) → k < length old → int_at new k ≡ int_at old k +ℤ amount k
