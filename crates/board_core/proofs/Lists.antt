-- Numbers of tasks, lists over ranges, and the first of two that is there.
use Rattle.board_core.proofs.Common.{◌≡◌, ℕ, zero, suc, ◌+◌, ◌-◌, ◌*◌, ◌<◌, ◌≤◌, true, inl, inr, Option, Some, None}
use Rattle.board_core.proofs.Common.{List, [], ◌∷◌, map, refl, ap, ◌∙◌, subst, arith, false≢true, cases_lt, AllZip}
use Rattle.board_core.proofs.Common.{range_with_len, is_some, slice_get, sooner}

pub sooner_none : {X : Type 0} (o : Option X) → sooner o None ≡ o
sooner_none None = refl
sooner_none (Some x) = refl

pub some_of : {X : Type 0} (o : Option X) → is_some o ≡ true → (x : X) × (o ≡ Some x)
some_of None h = absurd (false≢true h)
some_of (Some x) h = (x, refl)

pub map_range_same : {X : Type 0} (f f2 : ℕ → X) (a n : ℕ) → ((k : ℕ) → a ≤ k → k < a + n → f k ≡ f2 k) →
    map f (range_with_len a n) ≡ map f2 (range_with_len a n)
map_range_same f f2 a zero each = refl
map_range_same {X} f f2 a (suc n) each =
    ap (λ (x : X). x ∷ map f (range_with_len (a + 1) n)) (each a (omega arith) (omega arith))
    ∙ ap (λ (xs : List X). f2 a ∷ xs)
    (map_range_same f f2 (a + 1) n (λ k low high. each k (omega (arith, low)) (omega (arith, high))))

pub place_before : (units k m v : ℕ) → 0 < m → m ≤ k → v < units → (m - 1) * units + v < k * units
place_before units k m v low high i =
    let e : suc (m - 1) ≤ k = omega (arith, low, high) in
    let p : suc (m - 1) * units ≤ k * units = grind (arith, e) in
    omega (arith, p, i)

pub place_same : (units m v n u : ℕ) → 0 < m → 0 < n → v < units → u < units →
    (m - 1) * units + v ≡ (n - 1) * units + u → (m ≡ n) × (v ≡ u)
place_same units m v n u a b i j h =
    elim (cases_lt m n) [
      | inl less ↦ let p = place_before units (n - 1) m v a (omega (arith, less)) i in absurd (omega (arith, p, h))
      | inr more ↦ elim (cases_lt n m) [
        | inl over ↦ let p = place_before units (m - 1) n u b (omega (arith, over)) j in absurd (omega (arith, p, h))
        | inr even ↦
            let e : m ≡ n = omega (arith, more, even) in
            let f = ap (λ (k : ℕ). (k - 1) * units) e in
            (e, omega (arith, h, f))
      ]
    ]

-- the item that goes with another
pub partner : {X Y : Type 0} (R : X → Y → Type 0) (xs : List X) (ys : List Y) (i : ℕ) (x : X) → AllZip R xs ys →
    slice_get xs i ≡ Some x → (y : Y) × R x y
partner R [] ys i x z e = (cc)
partner R (a ∷ xs) [] i x z e = absurd z
partner {X} {Y} R (a ∷ xs) (b ∷ ys) zero x z e = let s : a ≡ x = (cc) in (b, subst (λ (v : X). R v b) s z.0)
partner R (a ∷ xs) (b ∷ ys) (suc i) x z e = partner R xs ys i x z.1 e
