-- What the entries of a mixture earn, as often as their weights say, is at most what best schedules earn as often.
use Rattle.law_parts.proofs.Common.{◌≡◌, ℕ, suc, ℤ, pos, ◌+ℤ◌, ◌-ℤ◌, ◌*ℤ◌, ◌≤ℤ◌, List, [], ◌∷◌, map, length, sym, ap}
use Rattle.law_parts.proofs.Common.{◌∙◌, arith, ints, *ℤ-zero, *ℤ_comm, zero-*ℤ, All, AllZip, head_of, tail_of}
use Rattle.law_parts.proofs.Common.{mul-add, mul-sub, mul-mono_of, sum_below-same, sum_below-add, sum_below-zero}
use Rattle.law_parts.proofs.Common.{AnyUnit, Thermal, ThermalUnit, NamedThermalUnit, PriceLists, Schedule, cost_of}
use Rattle.law_parts.proofs.Common.{supply_in, earnings, revenue, IsTop, reserve_in, IsThermalFeasible, int_at, total}
use Rattle.law_parts.proofs.Common.{sum_below, zip_with, WeighedSchedule, AreMixed, weighed}
use Rattle.gap_proof.proofs.Bounds.{add-mul}
use Rattle.law_parts.proofs.Mean.{mul_assoc, sum_below-times}

-- a product's first two factors change places
pub swap_factors : (w l p : ℤ) → w *ℤ (l *ℤ p) ≡ l *ℤ (w *ℤ p)
swap_factors w l p = sym (mul_assoc w l p) ∙ ap (λ (z : ℤ). z *ℤ p) (*ℤ_comm w l) ∙ mul_assoc l w p

-- what power and reserve are paid in a period
abbrev pub paid : PriceLists → ℤ → ℤ → ℕ → ℤ
paid π power reserve k = (int_at π.energy k *ℤ power) +ℤ (int_at π.reserve k *ℤ reserve)

paid_times : (π : PriceLists) (w power reserve : ℤ) (k : ℕ) →
    w *ℤ paid π power reserve k ≡ paid π (w *ℤ power) (w *ℤ reserve) k
paid_times π w power reserve k =
    let e = mul-add w (int_at π.energy k *ℤ power) (int_at π.reserve k *ℤ reserve) in
    let f = swap_factors w (int_at π.energy k) power in
    let g = swap_factors w (int_at π.reserve k) reserve in
    omega (arith, ints, e, f, g)

paid_add : (π : PriceLists) (p q r s : ℤ) (k : ℕ) → paid π (p +ℤ q) (r +ℤ s) k ≡ paid π p r k +ℤ paid π q s k
paid_add π p q r s k =
    let e = mul-add (int_at π.energy k) p q in
    let f = mul-add (int_at π.reserve k) r s in
    omega (arith, ints, e, f)

paid_none : (π : PriceLists) (k : ℕ) → paid π (pos 0) (pos 0) k ≡ pos 0
paid_none π k = let e = *ℤ-zero (int_at π.energy k) in let f = *ℤ-zero (int_at π.reserve k) in omega (arith, ints, e, f)

module _ (π : PriceLists) where
  abbrev horizon : ℕ
  horizon = length π.energy

  -- ---- one unit

  module _ (g : ThermalUnit) (earned : ℤ) (top : IsTop (Thermal g) π earned) where
    -- the power and the reserve of a schedule at a place
    abbrev power_at : Schedule → ℕ → ℤ
    power_at s k = supply_in (Thermal g) s (suc k)

    abbrev reserve_at : Schedule → ℕ → ℤ
    reserve_at s k = reserve_in s (suc k)

    entry_earns : (w : ℤ) (s : Schedule) → pos 0 ≤ℤ w → IsThermalFeasible g horizon s →
        (sum_below horizon (λ k. paid π (w *ℤ power_at s k) (w *ℤ reserve_at s k) k) -ℤ (w *ℤ cost_of (Thermal g) s))
        ≤ℤ (w *ℤ earned)
    entry_earns w s low feasible =
        let most = top.best.greatest s feasible in
        let is = top.earns in
        let up : earnings (Thermal g) π s ≤ℤ earned = omega (arith, ints, most, is) in
        let times = mul-mono_of w (earnings (Thermal g) π s) earned low up in
        let pay : ℕ → ℤ = λ k. paid π (power_at s k) (reserve_at s k) k in
        let over : revenue (Thermal g) π s ≡ sum_below horizon pay =
        ap (λ (n : ℕ). sum_below n pay) feasible.schedule.on in
        let apart = mul-sub w (revenue (Thermal g) π s) (cost_of (Thermal g) s) in
        let moved = ap (λ (z : ℤ). w *ℤ z) over in
        let inside = sum_below-times w horizon pay in
        let same = sum_below-same horizon (λ k. w *ℤ pay k) (λ k. paid π (w *ℤ power_at s k) (w *ℤ reserve_at s k) k)
        (λ k lt. paid_times π w (power_at s k) (reserve_at s k) k) in
        omega (arith, ints, times, apart, moved, inside, same)

    entries_earn : (es : List WeighedSchedule) → All (λ (e : WeighedSchedule). pos 0 ≤ℤ e.weight) es →
        All (λ (e : WeighedSchedule). IsThermalFeasible g horizon e.schedule) es →
        (sum_below horizon (λ k. paid π (weighed (λ s. power_at s k) es) (weighed (λ s. reserve_at s k) es) k)
        -ℤ weighed (cost_of (Thermal g)) es) ≤ℤ (total (map (λ (e : WeighedSchedule). e.weight) es) *ℤ earned)
    entries_earn [] low feasible =
        let a = sum_below-same horizon (λ k. paid π (pos 0) (pos 0) k) (λ k. pos 0) (λ k lt. paid_none π k) in
        let b = sum_below-zero horizon in
        let c = zero-*ℤ earned in
        omega (arith, ints, a, b, c)
    entries_earn (e ∷ es) low feasible =
        let IsLow : WeighedSchedule → Type 0 = λ (q : WeighedSchedule). pos 0 ≤ℤ q.weight in
        let Feasible : WeighedSchedule → Type 0 = λ (q : WeighedSchedule). IsThermalFeasible g horizon q.schedule in
        let one = entry_earns e.weight e.schedule (head_of IsLow e es low) (head_of Feasible e es feasible) in
        let rest = entries_earn es (tail_of IsLow e es low) (tail_of Feasible e es feasible) in
        let here : ℕ → ℤ = λ k. paid π (e.weight *ℤ power_at e.schedule k) (e.weight *ℤ reserve_at e.schedule k) k in
        let behind : ℕ → ℤ = λ k. paid π (weighed (λ s. power_at s k) es) (weighed (λ s. reserve_at s k) es) k in
        let same = sum_below-same horizon
        (λ k. paid π (weighed (λ s. power_at s k) (e ∷ es)) (weighed (λ s. reserve_at s k) (e ∷ es)) k)
        (λ k. here k +ℤ behind k)
        (λ k lt. paid_add π (e.weight *ℤ power_at e.schedule k) (weighed (λ s. power_at s k) es)
        (e.weight *ℤ reserve_at e.schedule k) (weighed (λ s. reserve_at s k) es) k) in
        let sums = sum_below-add horizon here behind in
        let left = add-mul e.weight (total (map (λ (q : WeighedSchedule). q.weight) es)) earned in
        omega (arith, ints, one, rest, same, sums, left)

  -- ---- all thermal units

  abbrev pub over : (AnyUnit → Schedule → ℤ) → List NamedThermalUnit → List (List WeighedSchedule) → ℤ
  over f ns ess =
      total (zip_with (λ (n : NamedThermalUnit) (es : List WeighedSchedule). weighed (f (Thermal n.unit)) es) ns ess)

  abbrev pub powers : List NamedThermalUnit → List (List WeighedSchedule) → ℕ → ℤ
  powers ns ess k = over (λ u s. supply_in u s (suc k)) ns ess

  abbrev pub reserves : List NamedThermalUnit → List (List WeighedSchedule) → ℕ → ℤ
  reserves ns ess k = over (λ u s. reserve_in s (suc k)) ns ess

  pub mixture_earns : (whole : ℤ) (ns : List NamedThermalUnit) (ess : List (List WeighedSchedule)) (tops : List ℤ) →
      AllZip (λ (n : NamedThermalUnit) (es : List WeighedSchedule). AreMixed horizon whole n.unit es) ns ess →
      AllZip (λ (u : AnyUnit) (e : ℤ). IsTop u π e) (map (λ (n : NamedThermalUnit). Thermal n.unit) ns) tops →
      (sum_below horizon (λ k. paid π (powers ns ess k) (reserves ns ess k) k) -ℤ over cost_of ns ess)
      ≤ℤ (whole *ℤ total tops)
  mixture_earns whole [] [] [] h t =
      let a = sum_below-same horizon (λ k. paid π (pos 0) (pos 0) k) (λ k. pos 0) (λ k lt. paid_none π k) in
      let b = sum_below-zero horizon in
      let c = *ℤ-zero whole in
      omega (arith, ints, a, b, c)
  mixture_earns whole [] [] (e ∷ es) h t = absurd t
  mixture_earns whole [] (es ∷ ess) tops h t = absurd h
  mixture_earns whole (n ∷ ns) [] tops h t = absurd h
  mixture_earns whole (n ∷ ns) (es ∷ ess) [] h t = absurd t
  mixture_earns whole (n ∷ ns) (es ∷ ess) (e ∷ tops) h t =
      let shares = h.0.shares in
      let one = entries_earn n.unit e t.0 es shares.from_zero h.0.feasible in
      let is = ap (λ (z : ℤ). z *ℤ e) shares.whole_is in
      let rest = mixture_earns whole ns ess tops h.1 t.1 in
      let here : ℕ → ℤ = λ k. paid π (weighed (λ s. supply_in (Thermal n.unit) s (suc k)) es)
      (weighed (λ s. reserve_in s (suc k)) es) k in
      let behind : ℕ → ℤ = λ k. paid π (powers ns ess k) (reserves ns ess k) k in
      let same = sum_below-same horizon (λ k. paid π (powers (n ∷ ns) (es ∷ ess) k) (reserves (n ∷ ns) (es ∷ ess) k) k)
      (λ k. here k +ℤ behind k)
      (λ k lt. paid_add π (weighed (λ s. supply_in (Thermal n.unit) s (suc k)) es) (powers ns ess k)
      (weighed (λ s. reserve_in s (suc k)) es) (reserves ns ess k) k) in
      let sums = sum_below-add horizon here behind in
      let apart = mul-add whole e (total tops) in
      omega (arith, ints, one, is, rest, same, sums, apart)
