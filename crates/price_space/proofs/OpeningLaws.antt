-- Lists of opening prices.
use Rattle.price_space.proofs.Common.{◌≡◌, ℕ, suc, ◌+◌, ◌<◌, ◌≤◌, ℤ, pos, negsuc, neg_ℤ, ◌*ℤ◌, unsigned_abs, FitsSigned}
use Rattle.price_space.proofs.Common.{List, [], ◌∷◌, map, replicate, length, refl, ap, sym, ◌∙◌, arith, ints}
use Rattle.price_space.proofs.Common.{ext_get_or, length-replicate, get_or-replicate, w64, PriceLists, IsFrom}
use Rattle.price_space.proofs.Common.{price_limit, opening_prices_of, int_at, floor_div, clamped_from, opened}

pub opened_limits : (n : ℕ) (s : ℤ) → IsFrom (neg_ℤ price_limit) price_limit (opened n s)
unfolding opened
opened_limits n s = clamped_from (neg_ℤ price_limit) price_limit (floor_div (s *ℤ pos (7 + n)) 8) (omega (arith, ints))

pub map_by_places : (f : ℤ → ℤ) (xs ys : List ℤ) → length xs ≡ length ys →
    ((k : ℕ) → k < length xs → int_at xs k ≡ f (int_at ys k)) → xs ≡ map f ys
map_by_places f [] [] e h = refl
map_by_places f [] (y ∷ ys) e h = absurd (omega (arith, e))
map_by_places f (x ∷ xs) [] e h = absurd (omega (arith, e))
map_by_places f (x ∷ xs) (y ∷ ys) e h =
    ap (λ (z : ℤ). z ∷ xs) (h 0 (omega arith))
    ∙ ap (λ (zs : List ℤ). f y ∷ zs) (map_by_places f xs ys (omega (arith, e)) (λ k i. h (suc k) (omega (arith, i))))

pub zeros_by_places : (n : ℕ) (xs : List ℤ) → length xs ≡ n → ((k : ℕ) → k < length xs → int_at xs k ≡ pos 0) →
    xs ≡ replicate n (pos 0)
zeros_by_places n xs e h =
    ext_get_or (pos 0) xs (replicate n (pos 0)) (e ∙ sym (length-replicate n (pos 0)))
    (λ k i. h k i ∙ sym (get_or-replicate n k (pos 0) (pos 0) (omega (arith, i, e))))

pub opening_is : (n : ℕ) (start energy reserve : List ℤ) → energy ≡ map (opened n) start →
    reserve ≡ replicate (length start) (pos 0) →
    (let π : PriceLists = record { energy = energy; reserve = reserve } in π ≡ opening_prices_of start n)
unfolding opened
opening_is n start energy reserve e f =
    ap (λ (es : List ℤ). let π : PriceLists = record { energy = es; reserve = reserve } in π) e
    ∙ ap (λ (rs : List ℤ). let π : PriceLists = record { energy = map (opened n) start; reserve = rs } in π) f

-- a 64-bit number is at most 2^63 in magnitude
pub magnitude : (z : ℤ) → FitsSigned w64 z → unsigned_abs z ≤ 9223372036854775808
magnitude (pos n) h = let m = h.sfits in omega (arith, m)
magnitude (negsuc n) h = let m = h.sfits in omega (arith, m)
