-- The flat list of a task isn't long, and a walk along two of them finds where they differ.
use Rattle.board_core.proofs.Common.{inl, inr, ◌≡◌, ℕ, ◌+◌, ◌*◌, ◌≤◌, ℤ, pos, Option, Some, None, List, []}
use Rattle.board_core.proofs.Common.{◌∷◌, ◌++◌, map, length, get_or, refl, sym, ap, ◌∙◌, arith, length-append}
use Rattle.board_core.proofs.Common.{length-map, get_or_from_slice_get, slice_get_within, slice_get-get_or, cases_lt}
use Rattle.board_core.proofs.Common.{flat_map, option_map_or, slice_get, Setup, ListsDifferAtFirstUnequalNumber}
use Rattle.board_core.proofs.Common.{differs_from}
use Rattle.board_core.proofs.Common.{difference, IsOver, IsTask, AnyUnit, PriceLists, Thermal, Flat, Bid, units}
use Rattle.board_core.proofs.Common.{chosen_unit, task_unit, prices_of, items_in, int_at, lag_numbers, point_numbers}
use Rattle.board_core.proofs.Common.{mark_number, fixed_numbers, list_numbers}
use Rattle.board_core.proofs.Common.{unit_numbers, task_numbers, Task, UnitKind, differs_of, AreSame}
use Rattle.board_store.proofs.Numbers.{periods_length}
use Rattle.uc_model.specs.Limits.{IsUnit}
use Rattle.uc_model.specs.declared.units.Lag.{Lag}
use Rattle.uc_model.specs.declared.units.Point.{Point}
use Rattle.uc_model.specs.declared.units.UnitKind.TheVariants as kinds
use Rattle.board_core.specs.declared.replies.Differs.TheVariants as differs

-- ---- a task of the program is one over its horizon

over_of : (k : UnitKind) (t : Task) → IsOver (length t.prices.energy.items) (chosen_unit k t.thermal t.flat t.bid)
over_of kinds.Thermal t = t.thermal_horizon
over_of kinds.Flat t = (t.flat_horizon, sym t.flat.valid.lengths ∙ t.flat_horizon)
over_of kinds.Bid t = length-map t.bid.blocks.items items_in ∙ t.bid_horizon

limited_of : (k : UnitKind) (t : Task) → IsUnit (chosen_unit k t.thermal t.flat t.bid)
limited_of kinds.Thermal t = t.thermal.valid
limited_of kinds.Flat t = t.flat.valid
limited_of kinds.Bid t = t.bid.valid

pub is_task : (t : Task) → IsTask (prices_of t.prices) (task_unit t)
is_task t = record { reserve = sym t.prices.valid.lengths; over = over_of t.kind t }

-- ---- lengths

lags_length : (xs : List Lag) → length (flat_map lag_numbers xs) ≡ 2 * length xs
lags_length [] = refl
lags_length (x ∷ xs) = let e = lags_length xs in omega (arith, e)

points_length : (xs : List Point) → length (flat_map point_numbers xs) ≡ 2 * length xs
points_length [] = refl
points_length (x ∷ xs) = let e = points_length xs in omega (arith, e)

unit_few : (n : ℕ) (u : AnyUnit) → n ≤ 168 → IsUnit u → IsOver n u → length (unit_numbers u) ≤ 2900
unit_few n (Thermal g) few limits over =
    let a = lags_length g.lags in
    let b = points_length g.points in
    let l = limits.lag_count in
    let p = limits.point_count in
    let points = flat_map point_numbers g.points ++ map mark_number g.window in
    let whole = flat_map lag_numbers g.lags ++ pos (length g.points) ∷ points in
    omega (
      arith,
      a,
      b,
      l,
      p,
      few,
      over,
      length-append (fixed_numbers g) (list_numbers g),
      length-append (flat_map lag_numbers g.lags) (pos (length g.points) ∷ points),
      length-append (flat_map point_numbers g.points) (map mark_number g.window),
      length-map g.window mark_number,
    )
unit_few n (Flat r) few limits over = let a = over.0 in let b = over.1 in
    omega (arith, a, b, few, length-append r.least r.most)
unit_few n (Bid b) few limits over =
    let e = periods_length b.blocks (λ k d lt. (limits.blocks k d lt).count) in
    omega (arith, e, over, few)

pub numbers_few : (t : Task) → length (task_numbers (prices_of t.prices) (task_unit t)) ≤ 4000
numbers_few t =
    let n = length t.prices.energy.items in
    let few = t.prices.valid.horizon.at_most in
    let both = t.prices.valid.lengths in
    let e = unit_few n (task_unit t) few (limited_of t.kind t) (over_of t.kind t) in
    omega (
      arith,
      few,
      both,
      e,
      length-append t.prices.energy.items
          (t.prices.reserve.items ++ unit_numbers (task_unit t)),
      length-append t.prices.energy.items t.prices.reserve.items,
      length-append (t.prices.energy.items ++ t.prices.reserve.items) (unit_numbers (task_unit t)),
      length-append t.prices.reserve.items (unit_numbers (task_unit t)),
    )

-- ---- the walk

past_end : (xs : List ℤ) (k : ℕ) → slice_get xs k ≡ None → length xs ≤ k
past_end xs k e = elim (cases_lt k (length xs)) [
  | inl less ↦ let f = slice_get-get_or xs k (pos 0) less in (cc)
  | inr more ↦ more
]

pub no_more : ListsDifferAtFirstUnequalNumber → (own given : List ℤ) (k : ℕ) → AreSame own given k → length own ≤ k →
    differs_of (difference own given) ≡ None
no_more means own given k S e = ap differs_of ((means own given).none (λ i a b. S.same i (omega (arith, a, e))))

pub own_ends : ListsDifferAtFirstUnequalNumber → (own given : List ℤ) (k : ℕ) → AreSame own given k → slice_get own k ≡
    None →
    differs_of (difference own given) ≡ None
own_ends means own given k S e = no_more means own given k S (past_end own k e)

pub given_ends : ListsDifferAtFirstUnequalNumber → (own given : List ℤ) (k : ℕ) → AreSame own given k → slice_get given
    k ≡ None →
    differs_of (difference own given) ≡ None
given_ends means own given k S e = let f = past_end given k e in
    ap differs_of ((means own given).none (λ i a b. S.same i (omega (arith, b, f))))

pub differ_here : ListsDifferAtFirstUnequalNumber → (own given : List ℤ) (k : ℕ) (y z : ℤ) → AreSame own given k →
    slice_get own k ≡ Some y → slice_get given k ≡ Some z → (y ≡ z → ⊥) →
    differs_of (difference own given) ≡ Some (differs.Content k y z)
differ_here means own given k y z S e f other =
    let a = get_or_from_slice_get own k y (pos 0) e in
    let b = get_or_from_slice_get given k z (pos 0) f in
    ap differs_of ((means own given).at k (slice_get_within own k y e) (slice_get_within given k z f) S.same
    (λ i. other (sym a ∙ i ∙ b)))
    ∙ ap (λ (v : ℤ). Some (differs.Content k v (int_at given k))) a ∙ ap (λ (v : ℤ). Some (differs.Content k y v)) b

pub one_more : (own given : List ℤ) (k : ℕ) (y z : ℤ) → AreSame own given k → slice_get own k ≡ Some y →
    slice_get given k ≡ Some z → y ≡ z → AreSame own given (k + 1)
one_more own given k y z S e f same =
    let v = slice_get_within own k y e in
    let w = slice_get_within given k z f in
    record {
      own_long = omega (arith, v);
      given_long = omega (arith, w);
      same = λ i lt. elim (cases_lt i k) [
        | inl less ↦ S.same i less
        | inr last ↦
            let j : i ≡ k = omega (arith, last, lt) in
            ap (int_at own) j ∙ get_or_from_slice_get own k y (pos 0) e ∙ same ∙
            sym (get_or_from_slice_get given k z (pos 0) f) ∙ ap (int_at given) (sym j)
      ];
    }

-- the board's own task differs in nothing
pub no_difference : ListsDifferAtFirstUnequalNumber → (b : Setup) (u : ℕ) (π ρ : PriceLists) (x : AnyUnit) → π ≡ ρ →
    slice_get (units b.market) u ≡ Some x → differs_of (differs_from b u ρ x π) ≡ None
no_difference means b u π ρ x prices is =
    ap (λ (σ : PriceLists). differs_of (differs_from b u ρ x σ)) prices
    ∙ ap (λ (o : Option AnyUnit). differs_of (difference (option_map_or (task_numbers ρ) o []) (task_numbers ρ x))) is
    ∙ ap differs_of ((means (task_numbers ρ x) (task_numbers ρ x)).none (λ i a b. refl))
