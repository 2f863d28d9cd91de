-- Numbers of a board and their limits.
use Rattle.board_core.proofs.Common.{◌≡◌, ℕ, ◌+◌, ◌<◌, ◌≤◌, arith}

-- a proposal that is open is among the ledger's
pub open_within : (n o opened count : ℕ) → o ≡ opened → n ≤ o → opened ≤ count → n ≤ count
open_within n o opened count is h i = omega (arith, is, h, i)

-- the same of its place, which counts from 0
pub open_place : (k o opened budget count : ℕ) → k < o → o ≡ opened → opened ≤ budget → count ≡ budget → k < count
open_place k o opened budget count h is i e = omega (arith, h, is, i, e)

pub open_few : (k o opened budget most : ℕ) → k < o → o ≡ opened → opened ≤ budget → budget ≤ most → k + 1 ≤ most
open_few k o opened budget most h is i j = omega (arith, h, is, i, j)

-- a caller's number is within the limit of their count
pub caller_few : (c callers most : ℕ) → c < callers → callers ≤ most → c ≤ most
caller_few c callers most h i = omega (arith, h, i)
