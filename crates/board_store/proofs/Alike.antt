-- Flat lists that begin alike, and those of bids whose first periods have the same blocks.
use Rattle.board_store.proofs.Common.{◌≡◌, ℕ, zero, suc, ◌+◌, ◌*◌, ◌<◌, ◌≤◌, ℤ, List, [], ◌∷◌, ◌++◌, length, map}
use Rattle.board_store.proofs.Common.{get_or}
use Rattle.board_store.proofs.Common.{refl, sym, subst, arith, flat_map, Reserved, items_in, period_numbers, Block}
use Rattle.board_store.proofs.Common.{AreSame}
use Rattle.plain_lists.specs.Sums.{int_at}
use Rattle.board_store.proofs.Numbers.{blocks_length, none_same}

pub same_cons : (x : ℤ) (own given : List ℤ) (n : ℕ) → AreSame own given n → AreSame (x ∷ own) (x ∷ given) (suc n)
same_cons x own given n S = record {
  own_long = let l = S.own_long in omega (arith, l);
  given_long = let l = S.given_long in omega (arith, l);
  same = at;
}
  where
    at : (i : ℕ) → i < suc n → int_at (x ∷ own) i ≡ int_at (x ∷ given) i
    at zero lt = refl
    at (suc i) lt = S.same i (omega (arith, lt))

pub same_under : (xs own given : List ℤ) (n k : ℕ) → k ≡ length xs + n → AreSame own given n →
    AreSame (xs ++ own) (xs ++ given) k
same_under [] own given n k e S = let f : n ≡ k = omega (arith, e) in subst (AreSame own given) f S
same_under (x ∷ xs) own given n k e S =
    let f : suc (length xs + n) ≡ k = omega (arith, e) in
    subst (AreSame (x ∷ xs ++ own) (x ∷ xs ++ given)) f
    (same_cons x (xs ++ own) (xs ++ given) (length xs + n) (same_under xs own given n (length xs + n) refl S))

abbrev pub numbers_of : List (Reserved Block) → List ℤ
numbers_of ps = flat_map period_numbers (map items_in ps)

-- how many numbers the first k periods have
abbrev pub count_in : List (Reserved Block) → ℕ → ℕ
count_in [] k = 0
count_in (p ∷ ps) zero = 0
count_in (p ∷ ps) (suc k) = length (period_numbers (items_in p)) + count_in ps k

pub count_none : (ps : List (Reserved Block)) → count_in ps 0 ≡ 0
count_none [] = refl
count_none (p ∷ ps) = refl

-- one period more
pub count_more : (ps : List (Reserved Block)) (k : ℕ) (d : Reserved Block) → k < length ps →
    count_in ps (suc k) ≡ count_in ps k + (1 + 2 * length (items_in (get_or ps k d)))
count_more [] k d lt = absurd (omega (arith, lt))
count_more (p ∷ ps) zero d lt = let e = blocks_length (items_in p) in let z = count_none ps in omega (arith, e, z)
count_more (p ∷ ps) (suc k) d lt = let e = count_more ps k d (omega (arith, lt)) in omega (arith, e)

-- periods with the same blocks have the same numbers
pub same_periods_alike : (ps qs : List (Reserved Block)) (k : ℕ) → k ≤ length ps → k ≤ length qs →
    ((j : ℕ) (d : Reserved Block) → j < k → items_in (get_or ps j d) ≡ items_in (get_or qs j d))
    → AreSame (numbers_of ps) (numbers_of qs) (count_in ps k)
same_periods_alike ps qs zero l m h =
    subst (AreSame (numbers_of ps) (numbers_of qs)) (sym (count_none ps)) (none_same (numbers_of ps) (numbers_of qs))
same_periods_alike [] qs (suc k) l m h = absurd (omega (arith, l))
same_periods_alike (a ∷ ps) [] (suc k) l m h = absurd (omega (arith, m))
same_periods_alike (a ∷ ps) (b ∷ qs) (suc k) l m h =
    let head : items_in a ≡ items_in b = h 0 a (omega arith) in
    let tail = same_periods_alike ps qs k (omega (arith, l)) (omega (arith, m))
    (λ j d lt. h (suc j) d (omega (arith, lt))) in
    subst (λ (xs : List Block). AreSame (period_numbers (items_in a) ++ numbers_of ps)
    (period_numbers xs ++ numbers_of qs) (length (period_numbers (items_in a)) + count_in ps k)) head
    (same_under (period_numbers (items_in a)) (numbers_of ps) (numbers_of qs) (count_in ps k)
    (length (period_numbers (items_in a)) + count_in ps k) refl tail)
