-- What is noted of the last step of a spell.
use Rattle.spell_run.proofs.Common
use Common.{◌≡◌, ℕ, suc, ◌<◌, ltb, eqb, ◌⊎◌, ℤ, pos, ◌≤ℤ◌, Bool, true, false, length, Option, Some, None, sym, ◌∙◌}
use Common.{arith, IfSome, IfNone, MatchOption, lt-ltb, le-ltb, IsCostCurve, IsLeast, IsLeastIn, Table, value_of}
use Common.{IsEmpty, HasNone, Lowest, IsTurn, Curve, ThermalUnit, PriceLists, IsThermalUnit, int_at, Note, IsFrontier}
use Common.{IsNoted, IsEndNoted, level, end_cost, IsSpellWithin, cap_at, step_at, IsStepped, IsLeastCost}
use Common.{IsLeastCostIn}
use Rattle.slope_list.specs.declared.read.Spot.{Spot}
use Rattle.spell_run.proofs.CutLaws.{cut, stepped_cut, least_cut, turn_alike}
use Rattle.spell_run.proofs.FrontierLaws.{frontier_same}
use Rattle.spell_run.proofs.RunLaws.{run_less}
use Rattle.spell_run.proofs.StepLaws.{step_sound}

-- ---- costs of ends

-- an end and the least value that it was made of
abbrev pub IsEndOf : Option Spot → ℤ → Option Lowest → Type 0
IsEndOf spot turn end = IfNone end (spot ≡ None) × IfSome end
    (λ r. (spot ≡ Some (record { at = r.at; value = r.value })) × (r.turn ≡ turn))

pub end_least : (f : Table) (spot : Option Spot) (turn : ℤ) (end : Option Lowest) →
    MatchOption spot (IsEmpty f) (λ r. IsLeast f r.value r.at) → IsEndOf spot turn end → IsLeastCost f (end_cost end)
end_least f spot turn None least is = rw is.0 at least
end_least f spot turn (Some r) least is = (r.at, rw is.1.0 at least)

pub end_least_in : (lo hi : ℤ) (f : Table) (spot : Option Spot) (turn : ℤ) (end : Option Lowest) →
    MatchOption spot (HasNone lo hi f) (λ r. IsLeastIn lo hi f r.value r.at) → IsEndOf spot turn end →
    IsLeastCostIn lo hi f (end_cost end)
end_least_in lo hi f spot turn None least is = rw is.0 at least
end_least_in lo hi f spot turn (Some r) least is = (r.at, rw is.1.0 at least)

pub end_least_after : (f : Table) (P : Lowest → Type 0) (end : Option Lowest) →
    MatchOption end (IsEmpty f) (λ r. IsLeast f r.value r.at × P r) → IsLeastCost f (end_cost end)
end_least_after f P None h = h
end_least_after f P (Some r) h = (r.at, h.0)

pub end_within : (first last : ℕ) (end : Option Lowest) → IfSome (end_cost end) (IsSpellWithin first last) →
    IfSome end (λ e. IsSpellWithin first last e.value)
end_within first last None h = tt
end_within first last (Some e) h = h

-- ---- what is noted of the last step

turned : {g : ThermalUnit} {π : PriceLists} {first k : ℕ} {stops : Bool} {n : Note} {turn : ℤ} {after : Table} →
    turn ≡ n.turn → IsNoted g π first k stops n after →
    IsNoted g π first k stops (record { turn = turn; first = n.first; last = n.last }) after
turned e noted = rw e noted

module _ {g : ThermalUnit} {π : PriceLists} {first k : ℕ} {n : Note} {f h : Table} (front : IsFrontier g π first k f)
    (next : IsFrontier g π first (suc k) h)
    (noted : (x v : ℤ) → value_of f x ≡ Some v → IsNoted g π first k false n h) where
  -- before a period that is reached there was a power
  noted_at : (x v : ℤ) → value_of h x ≡ Some v → IsNoted g π first k false n h
  noted_at x v there =
      let r = next.sound x v there in
      let c = front.complete r.run (run_less r.run r.keeps) in
      noted (level g first r.run k) c.0 c.1

  -- where the horizon ends
  pub ended_last : suc k ≡ length π.energy → (spot : Option Spot) (turn : ℤ) → turn ≡ n.turn →
      MatchOption spot (IsEmpty h) (λ r. IsLeast h r.value r.at) → (end : Option Lowest) → IsEndOf spot turn end →
      IfSome end (IsEndNoted g π first k n)
  ended_last last spot turn same least None is = tt
  ended_last last spot turn same least (Some e) is =
      let here : IsLeast h e.value e.at = rw is.1.0 at least in
      let stop : false ≡ ltb (suc k) (length π.energy) = sym (le-ltb (suc k) (length π.energy) (omega arith)) in
      (h, rw stop at (turned (is.1.1 ∙ same) (noted_at e.at e.value here.there)), here)

  module _ (before : suc k < length π.energy) (unit : IsThermalUnit g) (price : pos 0 ≤ℤ int_at π.reserve k) where
    abbrev starts : Bool
    starts = eqb first (suc k)

    abbrev high : ℤ
    high = (step_at g π k starts true).most

    stop_is : true ≡ ltb (suc k) (length π.energy)
    stop_is = sym (lt-ltb (suc k) (length π.energy) before)

    -- where a stop only cuts
    pub ended_alike : (int_at π.reserve k ≡ pos 0) ⊎ (cap_at g starts true ≡ cap_at g starts false) →
        (spot : Option Spot) (turn : ℤ) → turn ≡ n.turn →
        MatchOption spot (HasNone g.min_power high h) (λ r. IsLeastIn g.min_power high h r.value r.at) →
        (end : Option Lowest) → IsEndOf spot turn end → IfSome end (IsEndNoted g π first k n)
    ended_alike alike spot turn same least None is = tt
    ended_alike alike spot turn same least (Some e) is =
        let least : IsLeastIn g.min_power high h e.value e.at = rw is.1.0 at least in
        let m = noted_at e.at e.value least.there in
        let here : IsNoted g π first k true n (cut h high) = record {
          curve = m.curve;
          is_curve = m.is_curve;
          before = m.before;
          frontier = m.frontier;
          stepped = stepped_cut g π k starts alike m.stepped;
          turn = turn_alike g π k starts alike m.before n.turn m.turn;
          value = m.value;
          begins = m.begins;
          ends = m.ends;
        } in (
          cut h high,
          rw stop_is at (turned (is.1.1 ∙ same) here),
          least_cut g π k starts alike unit price m.is_curve m.stepped least,
        )

    -- by a step beside, from the same frontier
    pub ended_beside : {c : Curve} → IsCostCurve g.points c → {after : Table} →
        IsStepped (step_at g π k starts true) c f after → (end : Option Lowest) →
        MatchOption end (IsEmpty after)
        (λ r. IsLeast after r.value r.at × IsTurn (step_at g π k starts true) f r.turn) →
        IfSome end (IsEndNoted g π first k n)
    ended_beside curve stepped None is = tt
    ended_beside {c = c} curve {after = after} stepped (Some e) is =
        let b = step_sound π k unit price curve starts true stepped e.at is.0.there in
        let m = noted b.before b.old b.there in
        let back = frontier_same front m.frontier in
        let here : IsNoted g π first k true (record { turn = e.turn; first = n.first; last = n.last }) after = record {
          curve = c;
          is_curve = curve;
          before = f;
          frontier = front;
          stepped = stepped;
          turn = is.1;
          value = m.value;
          begins = record {
            there = frontier_same m.frontier front n.first m.value m.begins.there;
            first = λ y w there. m.begins.first y w (back y w there);
          };
          ends = record {
            value = m.ends.value;
            there = frontier_same m.frontier front n.last m.ends.value m.ends.there;
            last = λ y w there. m.ends.last y w (back y w there);
          };
        } in
        (after, rw stop_is at here, is.0)
