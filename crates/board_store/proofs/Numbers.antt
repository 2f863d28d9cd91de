-- How long the flat lists of a bid's blocks are.
use Rattle.board_store.proofs.Common.{◌≡◌, ℕ, suc, ◌*◌, ◌<◌, ◌≤◌, ℤ, List, [], ◌∷◌, length, get_or, refl, arith}
use Rattle.board_store.proofs.Common.{length-append, flat_map, block_numbers, period_numbers, Block, AreSame}

pub blocks_length : (xs : List Block) → length (flat_map block_numbers xs) ≡ 2 * length xs
blocks_length [] = refl
blocks_length (x ∷ xs) = let e = blocks_length xs in omega (arith, e)

pub periods_length : (ps : List (List Block)) →
    ((k : ℕ) (d : List Block) → k < length ps → length (get_or ps k d) ≤ 8) →
    length (flat_map period_numbers ps) ≤ 17 * length ps
periods_length [] h = omega arith
periods_length (p ∷ ps) h =
    let e = periods_length ps (λ k d lt. h (suc k) d (omega (arith, lt))) in
    let f = h 0 p (omega arith) in
    let g = blocks_length p in
    omega (arith, e, f, g, length-append (period_numbers p) (flat_map period_numbers ps))

-- none of the numbers is compared yet
pub none_same : (own given : List ℤ) → AreSame own given 0
none_same own given =
    record { own_long = omega arith; given_long = omega arith; same = λ i lt. absurd (omega (arith, lt)) }
