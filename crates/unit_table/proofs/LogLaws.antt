-- How many entries of a log a period takes at most, and that there is room for them.
use Rattle.unit_table.proofs.Common.{◌≡◌, ℕ, suc, ◌+◌, ◌*◌, ◌^◌, ◌<◌, ◌≤◌, arith, mul-le}

next_square : (t : ℕ) → suc t * (suc t + 3) ≡ t * (t + 3) + 2 * suc (suc t)
next_square t = omega arith

pub entries_more : (n t m : ℕ) → 2 * n ≤ t * (t + 3) → m ≤ n + suc (suc t) → 2 * m ≤ suc t * (suc t + 3)
entries_more n t m few more = (let next = next_square t in omega arith)

pub entries_fit : (n spare t periods : ℕ) → t < periods → 2 * n ≤ t * (t + 3) →
    periods * (periods + 3) ≤ 2 * (n + spare) → suc (suc t) ≤ spare
entries_fit n spare t periods low few room =
    let next = next_square t in
    let whole = mul-le (suc t) (suc t + 3) periods (periods + 3) low (omega arith) in
    omega arith

pub entries_small : (n t : ℕ) → 2 * n ≤ t * (t + 3) → t ≤ 168 → n + suc (suc t) ≤ 2 ^ 32
entries_small n t few low =
    let whole = mul-le t (t + 3) 168 171 low (omega arith) in
    omega arith
