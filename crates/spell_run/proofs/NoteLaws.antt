-- Backtracking by what the steps noted: the power nearest to the turn is the cheapest power before, and the periods
-- that are written for it are a way on.
use Rattle.spell_run.proofs.Common
use Common.{bounded, signed, ◌≡◌, ℕ, zero, suc, ◌-◌, ◌<◌, ◌≤◌, ltb, eqb, ◌⊎◌, inl, inr, ℤ, pos, ◌+ℤ◌, ◌-ℤ◌, ◌≤ℤ◌}
use Common.{Bool, false, length, Some, sym, ap, ◌∙◌, subst, arith, option_map, int_min, int_max, by_lt_z}
use Common.{EnvelopeIsWithinCostLimit, reserve_term, IsPoint, IsLeast, IsLeastIn, Reaches, same_some, Table, value_of}
use Common.{Step}
use Common.{IsBottom, IsTurn, IsFirst, IsLast, ThermalUnit, PriceLists, Schedule, IsOutput, IsThermalUnit, ArePrices}
use Common.{int_at, Lowest, Note, IsOnFromTo, IsSameOutside, IsFrontier, IsWritten, IsChosen, IsWayFrom, best_reserve}
use Common.{IsNoted, IsSpellNoted, IsCheapest, IsBestDispatch, IsFirstDispatch, spell_cost, cap_at, step_at, level}
use Common.{IsStepped}
use Rattle.spell_run.specs.declared.notes.Passed.{Passed}
use Rattle.plain_lists.proofs.SignedLaws.{stored}
use Rattle.spell_run.proofs.CutLaws.{between_powers}
use Rattle.spell_run.proofs.FairLaws.{cap_out, output_stored}
use Rattle.spell_run.proofs.FrontierLaws.{frontier_more, frontier_same}
use Rattle.spell_run.proofs.OnLaws.{on_last, on_more}
use Rattle.spell_run.proofs.RunLaws.{level_before, level_within, cost_none, cost_zero}
use Rattle.spell_run.proofs.StepLaws.{step_sound}
use Rattle.spell_run.proofs.SumLaws.{added}
use Rattle.spell_run.proofs.TieLaws.{of_way}
use Rattle.spell_run.proofs.WayLaws.{stops_before, stops_last, onward_end, onward_more, way_of_choice}

-- ---- the power nearest to the turn

module _ {k : Table} {m a b va vb lo hi y w : ℤ} (bottom : IsBottom k m) (first : value_of k a ≡ Some va)
    (last : value_of k b ≡ Some vb) (from : (y w : ℤ) → value_of k y ≡ Some w → a ≤ℤ y)
    (to : (y w : ℤ) → value_of k y ≡ Some w → y ≤ℤ b) (there : value_of k y ≡ Some w) (low : lo ≤ℤ y) (high : y ≤ℤ hi)
  where
    abbrev near : ℤ
    near = int_max (int_max lo a) (int_min (int_min hi b) m)

    near_value : (v : ℤ) × (value_of k near ≡ Some v)
    near_value =
        let p = to m bottom.value bottom.there in
        let q = from y w there in
        let r = to y w there in
        between_powers k a b near va vb first last (omega bounded) (omega bounded)

    pub near_least : (v : ℤ) × IsLeastIn lo hi k v near
    near_least =
        let v = near_value.0 in
        let at_near = near_value.1 in
        let q = from y w there in
        let r = to y w there in (
          v,
          record {
            inside = (omega bounded, omega bounded);
            there = at_near;
            least = λ z u at above below.
                let za = from z u at in
                let zb = to z u at in
                by_lt_z z near
                (λ l. let s = bottom.falls z near u v at at_near l (omega bounded) in
                omega signed)
                (λ l. by_lt_z near m
                (λ s. let e : near ≡ z = omega bounded in
                let same = same_some at_near (ap (value_of k) e ∙ at) in omega signed)
                (λ s. bottom.rises near z v u at_near at s l));
            first = λ z at above below.
                let za = from z v at in
                by_lt_z z near
                (λ l. let s = bottom.falls z near v v at at_near l (omega bounded) in
                absurd (omega signed))
                (λ l. l);
          },
        )

-- the same of the function before the kink
pub cheapest_near : {s : Step} {f : Table} {m a b va x y w z : ℤ} → IsTurn s f m → IsFirst f a va → IsLast f b →
    value_of f y ≡ Some w → Reaches s.ramp_up s.ramp_down x y →
    z ≡ int_max (int_max (x -ℤ s.ramp_up) a) (int_min (int_min (x +ℤ s.ramp_down) b) m) → IsCheapest s f x z
cheapest_near {s = s} {f = f} {a = a} {b = b} {va = va} {y = y} {w = w} turn first last there reach is =
    let kinked = turn.0 in
    let term : ℤ → ℤ = reserve_term s.reserve_price s.cap s.ramp_up in
    let raised : (p v : ℤ) → value_of f p ≡ Some v → value_of kinked p ≡ Some (v +ℤ term p) = λ p v at. turn.1 p ∙
    ap (option_map (λ v. v +ℤ term p)) at in
    let lowered : (p v : ℤ) → value_of kinked p ≡ Some v →
    (u : ℤ) × (value_of f p ≡ Some u) × (v ≡ u +ℤ term p) = λ p v at.
    added term p (turn.1 p) at in
    let least = near_least turn.2 (raised a va first.there) (raised b last.value last.there)
    (λ p v at. let u = lowered p v at in first.first p u.0 u.1)
    (λ p v at. let u = lowered p v at in last.last p u.0 u.1) (raised y w there) reach.0 reach.1 in
    record { kinked = kinked; is_kinked = turn.1; value = least.0; least = rw is least.1 }

-- ---- a way on from a frontier is one from any of the same periods

way_moved : {g : ThermalUnit} {π : PriceLists} {first t last : ℕ} {f h : Table} {d : Schedule} {y c : ℤ} →
    IsFrontier g π first t f → IsFrontier g π first t h → IsWayFrom g π first t last f d y c →
    IsWayFrom g π first t last h d y c
way_moved {y = y} front other way = record {
  before = way.before;
  there = frontier_same front other y way.before way.there;
  completes = way.completes;
  least = way.least;
  rest = way.rest;
  first_before = way.first_before;
  first_after = way.first_after;
}

-- ---- a period that is written by a note

module _ {g : ThermalUnit} {π : PriceLists} {first k : ℕ} (unit : IsThermalUnit g) (prices : ArePrices π)
    (within : k < length π.energy) (from : first ≤ suc k) where
  abbrev starts : Bool
  starts = eqb first (suc k)

  price : pos 0 ≤ℤ int_at π.reserve k
  price = (prices.reserve k (pos 0) (omega arith)).at_least

  module _ {stops : Bool} {n : Note} {after : Table} (noted : IsNoted g π first k stops n after) (x : ℤ) {v : ℤ}
      (there : value_of after x ≡ Some v) where
    -- some power before leads to a power that is reached
    reached : (y w : ℤ) × (value_of noted.before y ≡ Some w) × Reaches g.ramp_up g.ramp_down x y
    reached =
        let m = step_sound π k unit price noted.is_curve starts stops noted.stepped x there in
        (m.before, m.old, m.there, (omega signed, omega signed))

    -- and the power is one of the step
    pub power_range : IsOutput x × (x ≤ℤ cap_at g starts stops)
    power_range =
        let m = step_sound π k unit price noted.is_curve starts stops noted.stepped x there in
        let cap = cap_out g starts stops unit in
        (record { at_least = omega signed; at_most = omega signed }, omega signed)

    module _ {s : Step} {begins : Bool} {y : ℤ} (is : s ≡ step_at g π k begins stops) (same : begins ≡ starts)
        (near : (f : Table) (va p w : ℤ) → IsTurn s f n.turn → IsFirst f n.first va → IsLast f n.last →
        value_of f p ≡ Some w → Reaches s.ramp_up s.ramp_down x p → IsCheapest s f x y) where
      step_is : s ≡ step_at g π k starts stops
      step_is = cc

      cheapest_noted : IsCheapest (step_at g π k starts stops) noted.before x y
      cheapest_noted =
          let r = reached in
          subst (λ s. IsCheapest s noted.before x y) step_is
          (near noted.before noted.value r.0 r.1 (rw step_is noted.turn) noted.begins noted.ends r.2 (rw step_is r.3))

      pub before_out : IsOutput y
      before_out =
          let c = cheapest_noted in
          let u = added (reserve_term (int_at π.reserve k) (cap_at g starts stops) g.ramp_up) y
          (c.is_kinked y) c.least.there in
          noted.frontier.powers y u.0 u.1

      pub before_rise : (x -ℤ y) ≤ℤ s.ramp_up
      before_rise =
          let c = cheapest_noted in
          let e = ap (λ s. s.ramp_up) step_is in
          omega signed

      pub before_under : x ≤ℤ s.cap
      before_under =
          let r = power_range.1 in
          let e = ap (λ s. s.cap) step_is in
          omega signed

      pub chosen_noted : {d d' : Schedule} → IsWritten k (stored x)
          (best_reserve s.reserve_price s.cap s.ramp_up (stored y) (stored x)) d d' →
          IsChosen (step_at g π k starts stops) noted.before k x (stored y) d d'
      chosen_noted {d = d} {d' = d'} written =
          let c = cheapest_noted in
          record {
            kinked = c.kinked;
            is_kinked = c.is_kinked;
            value = c.value;
            least = rw (output_stored before_out) c.least;
            written = rw step_is at (rw (output_stored power_range.0) at written);
          }

  module _ {d d' : Schedule} {x y cost : ℤ} {n : Note} {after : Table} where
    -- the last one
    pub way_end : (noted : IsNoted g π first k (ltb (suc k) (length π.energy)) n after) → IsLeast after cost x →
        IsChosen (step_at g π k starts (ltb (suc k) (length π.energy))) noted.before k x y d d' →
        IsWayFrom g π first k (suc k) noted.before d' y cost
    way_end noted least chosen =
        let e = sym (stops_last (length π.energy) k) in
        let step = rw e at noted.stepped in
        way_of_choice unit prices noted.is_curve within from (omega arith) noted.frontier step
        (onward_end unit prices noted.is_curve within from noted.frontier step d least) (rw e at chosen)

    -- an earlier one
    pub way_more : {last : ℕ} (noted : IsNoted g π first k false n after) → EnvelopeIsWithinCostLimit → suc k < last →
        {f : Table} → IsFrontier g π first (suc k) f → IsWayFrom g π first (suc k) last f d x cost →
        IsChosen (step_at g π k starts false) noted.before k x y d d' →
        IsWayFrom g π first k last noted.before d' y cost
    way_more {last = last} noted law low front way chosen =
        let e = sym (stops_before last (length π.energy) k low) in
        let step = subst (λ b. IsStepped (step_at g π k starts b) noted.curve noted.before after) e
        noted.stepped in
        let choice = subst (λ b. IsChosen (step_at g π k starts b) noted.before k x y d d') e chosen in
        let next = frontier_more unit prices noted.is_curve law within from noted.frontier noted.stepped in
        way_of_choice unit prices noted.is_curve within from (omega arith) noted.frontier step
        (onward_more from low (way_moved front next way)) choice

  -- the power that an earlier one is written for is one after the step
  pub there_after : {n : Note} {after : Table} → IsNoted g π first k false n after → EnvelopeIsWithinCostLimit →
      {last : ℕ}
      {f : Table} {d : Schedule} {x cost : ℤ} → IsFrontier g π first (suc k) f →
      IsWayFrom g π first (suc k) last f d x cost → (v : ℤ) × (value_of after x ≡ Some v)
  there_after noted law {x = x} front way =
      let next = frontier_more unit prices noted.is_curve law within from noted.frontier noted.stepped in
      (way.before, frontier_same front next x way.before way.there)

-- ---- the whole spell

-- before a spell its frontier is one power
point_from_frontier : {g : ThermalUnit} {π : PriceLists} {first b : ℕ} {base : ℤ} {f : Table} →
    IsFrontier g π first b f → ((k : ℕ) → first ≤ suc k → suc k ≤ b → ⊥) →
    ((d : Schedule) → level g first d b ≡ base) → ((d : Schedule) → spell_cost g π first b d ≡ pos 0) → Schedule →
    IsPoint base (pos 0) f
point_from_frontier {base = base} {f = f} front none at free some =
    let c = front.complete some (λ k from until. absurd (none k from until)) in
    let there : value_of f base ≡ Some c.0 = ap (value_of f) (sym (at some)) ∙ c.1 in
    let r = front.sound base c.0 there in
    let zero : c.0 ≡ pos 0 = (let j = free r.run in omega signed) in
    record {
      there = there ∙ ap Some zero;
      only = λ x v is. let r = front.sound x v is in sym r.ends ∙ at r.run;
    }

module _ {g : ThermalUnit} {π : PriceLists} {last : ℕ} {f : Table} {d : Schedule} {y c : ℤ} (unit : IsThermalUnit g)
    (prices : ArePrices π) (end : last ≤ length π.energy) where
  -- a way on from before the spell is the first dispatch of least cost
  pub whole_way : (first : ℕ) → IsFrontier g π first (first - 1) f → IsWayFrom g π first (first - 1) last f d y c →
      IsBestDispatch g π (length π.energy) first last d c × IsFirstDispatch g π (length π.energy) first last d c
  whole_way zero front way =
      let z : 0 - 1 ≡ 0 = omega arith in
      let here = rw z at front in
      let none : (k : ℕ) → 0 ≤ suc k → suc k ≤ 0 → ⊥ = λ k from until. absurd (omega arith) in
      let at : (d : Schedule) → level g 0 d 0 ≡ g.power0 = λ d.
      (let e = level_within g 0 d 0 (omega arith) in omega signed) in
      of_way unit prices (point_from_frontier here none at (cost_zero g π) d) none (λ k from. omega arith) (at d)
      (cost_zero g π d) end (rw z at way)
  whole_way (suc b) front way =
      let z : suc b - 1 ≡ b = omega arith in
      let here = rw z at front in
      let none : (k : ℕ) → suc b ≤ suc k → suc k ≤ b → ⊥ = λ k from until. absurd (omega arith) in
      let at : (d : Schedule) → level g (suc b) d b ≡ g.min_power = λ d. level_before g (suc b) d b (omega arith) in
      let free : (d : Schedule) → spell_cost g π (suc b) b d ≡ pos 0 = λ d. cost_none g π (suc b) b d (omega arith) in
      of_way unit prices (point_from_frontier here none at free d) none (λ k from. omega arith) (at d) (free d) end
      (rw z at way)

-- ---- period by period

-- the periods after k are written, and are a way on from power y
pub record IsWrittenFrom (g : ThermalUnit) (π : PriceLists) (first k last : ℕ) (old d : Schedule) (y : ℤ) : Type 0 where
  pub before : Table
  pub frontier : IsFrontier g π first k before
  pub cost : ℤ
  pub way : IsWayFrom g π first k last before d y cost
  pub on : IsOnFromTo (suc k) last d
  pub outside : IsSameOutside (suc k) last old d

pub outside_more : {k last : ℕ} {old d d' : Schedule} → suc k ≤ last → IsSameOutside (suc k) (suc k) d d' →
    IsSameOutside (suc (suc k)) last old d → IsSameOutside (suc k) last old d'
outside_more {k = k} {last = last} low here rest = record {
  on_length = cc;
  power_length = cc;
  reserve_length = cc;
  on = λ j out. here.on j (apart j out) ∙ rest.on j (far j out);
  power = λ j out. here.power j (apart j out) ∙ rest.power j (far j out);
  reserve = λ j out. here.reserve j (apart j out) ∙ rest.reserve j (far j out);
}
  where
    apart : (j : ℕ) → (suc j < suc k) ⊎ (last < suc j) → (suc j < suc k) ⊎ (suc k < suc j)
    apart j (inl h) = inl h
    apart j (inr h) = inr (omega arith)

    far : (j : ℕ) → (suc j < suc k) ⊎ (last < suc j) → (suc j < suc (suc k)) ⊎ (last < suc j)
    far j (inl h) = inl (omega arith)
    far j (inr h) = inr h

module _ {g : ThermalUnit} {π : PriceLists} {first k last : ℕ} (unit : IsThermalUnit g) (prices : ArePrices π)
    (until : last ≤ length π.energy) (from : first ≤ suc k) {d d' : Schedule} {x y : ℤ} {n : Note} {after : Table} where
  -- the last period
  pub written_end : (noted : IsNoted g π first k (ltb (suc k) (length π.energy)) n after) {cost : ℤ} → suc k ≡ last →
      IsLeast after cost x →
      IsChosen (step_at g π k (eqb first (suc k)) (ltb (suc k) (length π.energy))) noted.before k x y d d' →
      IsWrittenFrom g π first k last d d' y
  written_end noted {cost = cost} is least chosen = record {
    before = noted.before;
    frontier = noted.frontier;
    cost = cost;
    way = rw is at (way_end unit prices (omega arith) from noted least chosen);
    on = on_last is chosen.written;
    outside = rw (← is) chosen.written.outside;
  }

  -- an earlier one
  pub written_more : {old : Schedule} (noted : IsNoted g π first k false n after) → EnvelopeIsWithinCostLimit →
      suc k < last → IsWrittenFrom g π first (suc k) last old d x →
      IsChosen (step_at g π k (eqb first (suc k)) false) noted.before k x y d d' →
      IsWrittenFrom g π first k last old d' y
  written_more noted law low rest chosen = record {
    before = noted.before;
    frontier = noted.frontier;
    cost = rest.cost;
    way = way_more unit prices (omega arith) from noted law low rest.frontier rest.way chosen;
    on = on_more chosen.written rest.on;
    outside = outside_more (omega arith) chosen.written.outside rest.outside;
  }

-- ---- the end that is noted

-- the note of the end of a spell
abbrev pub end_note : Passed → Lowest → Note
end_note p e = record { turn = e.turn; first = p.note.first; last = p.note.last }

pub end_of_noted : {g : ThermalUnit} {π : PriceLists} {first last : ℕ} {passed : ℕ → Passed} {e : Lowest} → 1 ≤ last →
    IsSpellNoted g π first last passed → (passed (last - 1)).end ≡ Some e →
    (after : Table) × IsNoted g π first (last - 1) (ltb last (length π.energy)) (end_note (passed (last - 1)) e) after ×
    IsLeast after e.value e.at
end_of_noted {last = last} {e = e} one noted is =
    let same : noted.lowest ≡ e = cc in
    let here = rw same at noted.end in
    let z : suc (last - 1) ≡ last = omega arith in
    (here.0, rw z at here.1, here.2)

-- ---- the numbers as they are stored

abbrev pub stored_note : Note → Note
stored_note n = record { turn = stored n.turn; first = stored n.first; last = stored n.last }

module _ {g : ThermalUnit} {π : PriceLists} {first k : ℕ} {stops : Bool} {n : Note} {after : Table}
    (noted : IsNoted g π first k stops n after) where
  turn_out : IsOutput n.turn
  turn_out =
      let t = noted.turn in
      let u = added (reserve_term (int_at π.reserve k) (cap_at g (eqb first (suc k)) stops) g.ramp_up) n.turn
      (t.1 n.turn) t.2.there in
      noted.frontier.powers n.turn u.0 u.1

  pub noted_stored : IsNoted g π first k stops (stored_note n) after
  noted_stored =
      let a = output_stored turn_out in
      let b = output_stored (noted.frontier.powers n.first noted.value noted.begins.there) in
      let c = output_stored (noted.frontier.powers n.last noted.ends.value noted.ends.there) in
      rw (a, b, c) noted

module _ {g : ThermalUnit} {π : PriceLists} {first last : ℕ} (unit : IsThermalUnit g) (prices : ArePrices π)
    (order : first ≤ last) (one : 1 ≤ last) (until : last ≤ length π.energy) {passed : ℕ → Passed} {e : Lowest}
    (noted : IsSpellNoted g π first last passed) (is : (passed (last - 1)).end ≡ Some e) where
  abbrev note : Note
  note = stored_note (end_note (passed (last - 1)) e)

  -- what is noted of the end, as it is handed on
  pub end_stored : (after : Table) × IsNoted g π first (last - 1) (ltb last (length π.energy)) note after ×
      IsLeast after e.value (stored e.at)
  end_stored =
      let here = end_of_noted one noted is in
      let out = (power_range unit prices (omega arith) (omega arith) here.1 e.at here.2.there).0 in
      (here.0, noted_stored here.1, rw (output_stored out) here.2)

  -- and the last period is written for it
  pub written_last : {d d' : Schedule} {y : ℤ} →
      ((after : Table) (v : ℤ) (n : IsNoted g π first (last - 1) (ltb last (length π.energy)) note after) →
      value_of after (stored e.at) ≡ Some v →
      IsChosen (step_at g π (last - 1) (eqb first (suc (last - 1))) (ltb last (length π.energy))) n.before (last - 1)
      (stored e.at) y d d') → IsWrittenFrom g π first (last - 1) last d d' y
  written_last {d = d} {d' = d'} {y = y} chosen =
      let here = end_stored in
      let z : suc (last - 1) ≡ last = omega arith in
      let P : ℕ → Type 0 = λ l. (noted : IsNoted g π first (last - 1) (ltb l (length π.energy)) note here.0) →
      IsChosen (step_at g π (last - 1) (eqb first (suc (last - 1))) (ltb l (length π.energy))) noted.before
      (last - 1) (stored e.at) y d d' → IsWrittenFrom g π first (last - 1) last d d' y in
      subst P z (λ noted choice. written_end unit prices until (omega arith) noted z here.2 choice) here.1
      (chosen here.0 e.value here.1 here.2.there)

-- ---- all periods

module _ {g : ThermalUnit} {π : PriceLists} {first last : ℕ} {old d : Schedule} {y : ℤ} where
  pub written_best : IsThermalUnit g → ArePrices π → last ≤ length π.energy →
      IsWrittenFrom g π first (first - 1) last old d y →
      (c : ℤ) × IsBestDispatch g π (length π.energy) first last d c ×
      IsFirstDispatch g π (length π.energy) first last d c
  written_best unit prices until from =
      let w = whole_way unit prices until first from.frontier from.way in
      (from.cost, w.0, w.1)

  pub written_on : IsWrittenFrom g π first (first - 1) last old d y → IsOnFromTo first last d
  written_on from k low high = from.on k (omega arith) high

  pub written_outside : IsWrittenFrom g π first (first - 1) last old d y → IsSameOutside first last old d
  written_outside from = record {
    on_length = from.outside.on_length;
    power_length = from.outside.power_length;
    reserve_length = from.outside.reserve_length;
    on = λ k out. from.outside.on k (apart k out);
    power = λ k out. from.outside.power k (apart k out);
    reserve = λ k out. from.outside.reserve k (apart k out);
  }
    where
      apart : (k : ℕ) → (suc k < first) ⊎ (last < suc k) → (suc k < suc (first - 1)) ⊎ (last < suc k)
      apart k (inl h) = inl (omega arith)
      apart k (inr h) = inr h
