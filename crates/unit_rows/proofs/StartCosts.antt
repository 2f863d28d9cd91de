-- The cost of a start is within the limits of a lag's cost.
use Rattle.unit_rows.proofs.Common.{ℤ, ◌≡◌, ℕ, suc, ◌-◌, ◌<◌, ◌≤◌, Bool, true, false, cond, Option, Some, None, pos}
use Rattle.unit_rows.proofs.Common.{◌≤ℤ◌}
use Rattle.unit_rows.proofs.Common.{List, [], ◌∷◌, length, refl, sym, ap, ◌∙◌, subst, arith, ints, reverse, nat_le}
use Rattle.unit_rows.proofs.Common.{slice_get, slice_index_or, option_map_or, option_or, Lag, IsFrom, IsLag}
use Rattle.std.proofs.lemmas.List.{length-reverse, get_or-reverse}
use Rattle.std.proofs.lemmas.Bool.Decides.{nat_tests}
use Rattle.std.proofs.lemmas.Grind.{reverse_onto}
use Rattle.std.proofs.lemmas.List.Folds.{find-append}
use Rattle.std.specs.List.{All, find}
use Rattle.uc_model.specs.Earnings.{start_cost_of}

abbrev last_of : ℕ → List Lag → Option Lag
last_of down ls = find (λ (l : Lag). nat_le l.lag down) (reverse ls)

abbrev cost_or : Option Lag → ℤ → ℤ
cost_or o d = option_map_or (λ (l : Lag). l.cost) o d

abbrev reached : ℕ → Lag → Option Lag
reached down x = cond (nat_le x.lag down) (Some x) None

found_has : {X : Type 0} → (P : X → Type 0) (test : X → Bool) (xs : List X) → All P xs → (x : X) →
    find test xs ≡ Some x → P x
found_has P test [] h x is = cc
found_has P test (y ∷ ys) h x is =
    elim (test y) as (λ b. cond b (Some y) (find test ys) ≡ Some x → P x) [
      | true ↦ λ e. let same : y ≡ x = cc in subst P same (h 0 y (omega arith))
      | false ↦ λ e. found_has P test ys (λ k d low. h (suc k) d (omega arith)) x e
    ] is

reversed_has : {X : Type 0} → (P : X → Type 0) (xs : List X) → All P xs → All P (reverse xs)
reversed_has P xs h k d low =
    let n = length-reverse xs in
    subst P (sym (get_or-reverse xs k d (omega arith))) (h (length xs - 1 - k) d (omega arith))

first_has : {X : Type 0} → (P : X → Type 0) (xs : List X) → All P xs → (x : X) → slice_get xs 0 ≡ Some x → P x
first_has P [] h x is = cc
first_has P (y ∷ ys) h x is = let same : y ≡ x = cc in subst P same (h 0 y (omega arith))

pub start_cost-within : (lags : List Lag) (down : ℕ) → All IsLag lags →
    IsFrom (pos 0) (pos 10000000000000) (start_cost_of lags down)
start_cost-within lags down h =
    let limits = IsFrom (pos 0) (pos 10000000000000) in
    let none : limits (pos 0) = record { at_least = omega (arith, ints); at_most = omega (arith, ints) } in
    let first : limits (cost_or (slice_get lags 0) (pos 0)) =
    elim (slice_get lags 0) as (λ o. slice_get lags 0 ≡ o → limits (cost_or o (pos 0))) [
      | None ↦ λ _. none
      | Some l ↦ λ is. (first_has IsLag lags h l is).cost
    ] refl in
    elim (last_of down lags) as
    (λ o. last_of down lags ≡ o →
    limits (cost_or o (cost_or (slice_get lags 0) (pos 0)))) [
      | None ↦ λ _. first
      | Some l ↦ λ is. (found_has IsLag (λ (l : Lag). nat_le l.lag down) (reverse lags) (reversed_has IsLag lags h) l
          is).cost
    ] refl

-- ---- where each lag costs no less than the one before it

abbrev pub AreRising : List Lag → Type 0
AreRising ls = (k : ℕ) (d : Lag) → suc k < length ls →
    (slice_index_or ls k d).cost ≤ℤ (slice_index_or ls (suc k) d).cost

last_of-more : (down : ℕ) (x : Lag) (xs : List Lag) →
    last_of down (x ∷ xs) ≡ option_or (last_of down xs) (reached down x)
last_of-more down x xs = ap (find (λ (l : Lag). nat_le l.lag down)) (reverse_onto xs x []) ∙
    find-append (λ (l : Lag). nat_le l.lag down) (reverse xs) (x ∷ [])

last_of-from : (down : ℕ) (x : Lag) (xs : List Lag) (o : Option Lag) → last_of down xs ≡ o →
    last_of down (x ∷ xs) ≡ option_or o (reached down x)
last_of-from down x xs o is = last_of-more down x xs ∙ ap (λ (o : Option Lag). option_or o (reached down x)) is

-- the first costs no more than any that is reached
first_least : (down : ℕ) (x : Lag) (xs : List Lag) → AreRising (x ∷ xs) → (z : Lag) → last_of down xs ≡ Some z →
    x.cost ≤ℤ z.cost
first_least down x [] rising z is = cc
first_least down x (y ∷ ys) rising z is =
    let next = rising 0 x (omega arith) in
    elim (last_of down ys) as (λ o. last_of down ys ≡ o →
    option_or o (reached down y) ≡ Some z → x.cost ≤ℤ z.cost) [
      | Some w ↦ λ was e.
          let low = first_least down y ys (λ k d within. rising (suc k) d (omega arith)) w was in
          let same : w ≡ z = (cc) in
          let cost = ap (λ (l : Lag). l.cost) same in
          omega (arith, ints)
      | None ↦ λ was e.
          elim (nat_le y.lag down) as (λ b. cond b (Some y) None ≡ Some z → x.cost ≤ℤ z.cost) [
            | true ↦ λ e. (let same : y ≡ z = (cc) in let cost = ap (λ (l : Lag). l.cost) same in omega (arith, ints))
            | false ↦ λ e. cc
          ] e
    ] refl (sym (last_of-more down y ys) ∙ is)

-- the longer the time off, the dearer the lag that is reached
last_rises : (a b : ℕ) → a ≤ b → (ls : List Lag) → AreRising ls → (y : Lag) → last_of a ls ≡ Some y →
    (z : Lag) × (last_of b ls ≡ Some z) × (y.cost ≤ℤ z.cost)
last_rises a b low [] rising y is = cc
last_rises a b low (x ∷ xs) rising y is =
    let rest : AreRising xs = λ k d within. rising (suc k) d (omega arith) in
    elim (last_of a xs) as (λ o. last_of a xs ≡ o → option_or o (reached a x) ≡ Some y →
    (z : Lag) × (last_of b (x ∷ xs) ≡ Some z) × (y.cost ≤ℤ z.cost)) [
      | Some w ↦ λ was e.
          let r = last_rises a b low xs rest w was in
          let same : w ≡ y = (cc) in
          let cost = ap (λ (l : Lag). l.cost) same in (
            r.0,
            last_of-from b x xs _ r.1,
            omega (arith, ints),
          )
      | None ↦ λ was e.
          elim (nat_le x.lag a) as (λ t. nat_le x.lag a ≡ t → cond t (Some x) None ≡ Some y →
          (z : Lag) × (last_of b (x ∷ xs) ≡ Some z) × (y.cost ≤ℤ z.cost)) [
            | false ↦ λ no e. cc
            | true ↦ λ yes e.
                let reached : x.lag ≤ a = grind (arith, nat_tests) in
                let yes' : nat_le x.lag b ≡ true = grind (arith, nat_tests, reached, low) in
                let same : x ≡ y = (cc) in
                let cost = ap (λ (l : Lag). l.cost) same in
                elim (last_of b xs) as
                (λ o. last_of b xs ≡ o → (z : Lag) × (last_of b (x ∷ xs) ≡ Some z) × (y.cost ≤ℤ z.cost)) [
                  | Some z ↦ λ there.
                      let most = first_least b x xs rising z there in (
                        z,
                        last_of-from b x xs _ there,
                        omega (arith, ints),
                      )
                  | None ↦ λ none. (
                    x,
                    last_of-from b x xs _ none ∙
                        ap (λ (t : Bool). cond t (Some x) None) yes',
                    omega (arith, ints),
                  )
                ] refl
          ] refl e
    ] refl (sym (last_of-more a x xs) ∙ is)

-- and no lag that is reached costs less than the first
none_less : (b : ℕ) (ls : List Lag) → AreRising ls → (z : Lag) → last_of b ls ≡ Some z →
    cost_or (slice_get ls 0) (pos 0) ≤ℤ z.cost
none_less b [] rising z is = cc
none_less b (x ∷ xs) rising z is =
    elim (last_of b xs) as (λ o. last_of b xs ≡ o → option_or o (reached b x) ≡ Some z →
    x.cost ≤ℤ z.cost) [
      | Some w ↦ λ was e. (let low = first_least b x xs rising w was in let same : w ≡ z = (cc) in let cost = ap
          (λ (l : Lag). l.cost) same in omega (arith, ints))
      | None ↦ λ was e. elim (nat_le x.lag b) as (λ t. cond t (Some x) None ≡ Some z → x.cost ≤ℤ z.cost) [
        | true ↦ λ e. (let same : x ≡ z = (cc) in let cost = ap (λ (l : Lag). l.cost) same in omega (arith, ints))
        | false ↦ λ e. cc
      ] e
    ] refl (sym (last_of-more b x xs) ∙ is)

pub start_cost-rises : (ls : List Lag) → AreRising ls → (a b : ℕ) → a ≤ b → start_cost_of ls a ≤ℤ start_cost_of ls b
start_cost-rises ls rising a b low =
    let first = cost_or (slice_get ls 0) (pos 0) in
    elim (last_of a ls) as
    (λ o. last_of a ls ≡ o → cost_or o
    (cost_or (slice_get ls 0) (pos 0)) ≤ℤ start_cost_of ls b) [
      | Some y ↦ λ is.
          let r = last_rises a b low ls rising y is in
          let cost = ap (λ (o : Option Lag). cost_or o
          (cost_or (slice_get ls 0) (pos 0))) r.1 in
          omega (arith, ints)
      | None ↦ λ is.
          elim (last_of b ls) as
          (λ o. last_of b ls ≡ o → cost_or (slice_get ls 0) (pos 0) ≤ℤ cost_or o (cost_or (slice_get ls 0) (pos 0))) [
            | Some z ↦ λ there. none_less b ls rising z there
            | None ↦ λ none. omega (arith, ints)
          ] refl
    ] refl
