-- What a case file is read as is within the limits of a case.
use Rattle.law_parts.proofs.ReaderNames.{AllUnits, HorizonNeeds, all_units, horizon, needs, keyed_case, at_item, few}
use Rattle.law_parts.proofs.ReaderNames.{full}
use Rattle.law_parts.proofs.ReaderNames.{AreUnitLists, AreNeeds, AreAllUnits, UnitLists, lag_in, point_in, block_in}
use Rattle.law_parts.proofs.ReaderNames.{window_items, window, unit_lists, keyed_unit, keyed_renewable, ◌≡◌, ℕ, ◌≤◌}
use Rattle.law_parts.proofs.ReaderNames.{◌==◌}
use Rattle.law_parts.proofs.ReaderNames.{false, List, [], length, map, Option, Some, None, Result, Ok, Err, refl, subst}
use Rattle.law_parts.proofs.ReaderNames.{◌∙◌}
use Rattle.law_parts.proofs.ReaderNames.{arith, nat_tests, ltb-false, ℤ, codes, int_lt, nat_lt, replicate}
use Rattle.law_parts.proofs.ReaderNames.{length-replicate}
use Rattle.law_parts.proofs.ReaderNames.{All, All-nil, All-push, Lag, Point, Block, IsPower, IsLag, IsPoint, IsBlock}
use Rattle.law_parts.proofs.ReaderNames.{IsBlockList, IsThermalUnit, IsRenewableUnit, IsBidUnit, IsMarket, ThermalUnit}
use Rattle.law_parts.proofs.ReaderNames.{RenewableUnit, BidUnit, NamedThermalUnit, NamedRenewableUnit, NamedBidUnit}
use Rattle.law_parts.proofs.ReaderNames.{Market}
use Rattle.law_parts.proofs.ReaderNames.{Value, Pair, Keys, keys, key, key_or_none, part, amount, cost, time_within}
use Rattle.law_parts.proofs.ReaderNames.{flag}
use Rattle.law_parts.proofs.ReaderNames.{need, position, last_is, Site, item_at, IsRange, AreRamps, IsPast, AreLags}
use Rattle.law_parts.proofs.ReaderNames.{ArePoints, AreBlocks, IsPointList, lag, startup, point, piecewise, commitment}
use Rattle.law_parts.proofs.ReaderNames.{mark}
use Rattle.law_parts.proofs.ReaderNames.{output, ramps, past, at_least_one, thermal_unit, one_power, powers}
use Rattle.law_parts.proofs.ReaderNames.{first_crossed}
use Rattle.law_parts.proofs.ReaderNames.{renewable_unit, block, period_blocks, blocks, bid_unit, thermal, renewable}
use Rattle.law_parts.proofs.ReaderNames.{bid}
use Rattle.law_parts.proofs.ReaderNames.{units, bids, case_of, whole, reading_of, IsThermalOf, IsRenewableOf, IsBidOf}
use Rattle.plain_lists.specs.Sums.{total}
use Rattle.uc_text.specs.ValueParts.{list_in}
use Rattle.uc_text.specs.declared.fault.TextFault.{TextFault}
use Rattle.uc_model.specs.declared.limits.TheConstants.{MOST_PERIODS, MOST_TIME, MOST_LAGS, MOST_POINTS, MOST_BLOCKS}
use Rattle.uc_model.specs.declared.limits.TheConstants.{MOST_OF_A_KIND, POWER_LIMIT}
use Rattle.uc_model.specs.declared.units.Mark.{Mark}
use Rattle.uc_model.specs.declared.units.Mark.TheVariants.{Free}
use Rattle.uc_field.specs.Forms.{object}
use Rattle.uc_text.specs.Magnitudes.{most_power, most_output, most_price}
use Rattle.uc_case.specs.declared.parts.Output.{Output}
use Rattle.uc_case.specs.declared.parts.Ramps.{Ramps}
use Rattle.uc_case.specs.declared.parts.Past.{Past}
use Rattle.law_parts.proofs.Passed.{ok_same, bind_ok, passed, same_count, each_keeps, items_count, part_ok, key_ok}
use Rattle.law_parts.proofs.Passed.{amount_ok, power_ok, start_cost_ok, cost_ok, time_ok, units_ok, of_value_ok}
use Rattle.law_parts.proofs.Passed.{few_ok}
use Rattle.law_parts.proofs.Passed.{full_ok}
use Rattle.uc_case.proofs.Limited.{thermal_fits, renewable_fits, market_fits}
use Rattle.uc_field.proofs.Ordered.{int_not_below, no_lags, lags_push, no_points, points_push, no_blocks, blocks_push}
use Rattle.uc_field.proofs.Ordered.{is_point_list}
use Rattle.uc_model.specs.declared.kinds.Kind.TheVariants as kinds
use Rattle.uc_field.specs.declared.fault.Field.TheVariants as fields

-- ---- start costs

lag_ok : (at : Site) (before : List Lag) (v : Value) (l : Lag) → lag at before v ≡ Ok l →
    IsLag l × (last_is (λ (b : Lag). nat_lt l.lag b.lag) before ≡ false)
unfolding lag lag_in
lag_ok at before v l e =
    let o = bind_ok (object at v) _ l e in
    let n = bind_ok (part at (codes "lag") (time_within MOST_TIME) o.0) _ l o.2 in
    let d = bind_ok (part at (codes "cost") (amount 6 _) o.0) _ l n.2 in
    let order = passed _ _ _ l d.2 in
    let time = part_ok at (codes "lag") (time_within MOST_TIME) o.0 n.0 n.1 in
    let money = part_ok at (codes "cost") (amount 6 _) o.0 d.0 d.1 in
    subst (λ (k : Lag). IsLag k × (last_is (λ (b : Lag). nat_lt k.lag b.lag) before ≡ false)) (ok_same _ l order.1)
    (record { lag = time_ok MOST_TIME at time.0 n.0 time.1; cost = start_cost_ok at money.0 d.0 money.1 }, order.0)

startup_ok : (at : Site) (v : Value) (ls : List Lag) → startup at v ≡ Ok ls → (length ls ≤ MOST_LAGS) × AreLags ls
unfolding startup
startup_ok at v ls e = few_ok AreLags (at_item lag) MOST_LAGS at v ls no_lags
    (λ front w l kept is. (let h = lag_ok _ front w l is in lags_push front l kept h.0 h.1)) e

-- ---- the points of a cost

point_ok : (at : Site) (before : List Point) (v : Value) (p : Point) → point at before v ≡ Ok p →
    IsPoint p × (last_is (λ (b : Point). int_lt p.at b.at) before ≡ false)
unfolding point point_in
point_ok at before v p e =
    let o = bind_ok (object at v) _ p e in
    let mw = bind_ok (part at (codes "mw") (amount 3 most_power) o.0) _ p o.2 in
    let d = bind_ok (part at (codes "cost") cost o.0) _ p mw.2 in
    let order = passed _ _ _ p d.2 in
    let power = part_ok at (codes "mw") (amount 3 most_power) o.0 mw.0 mw.1 in
    let money = part_ok at (codes "cost") cost o.0 d.0 d.1 in
    subst (λ (q : Point). IsPoint q × (last_is (λ (b : Point). int_lt q.at b.at) before ≡ false)) (ok_same _ p order.1)
    (record { at = power_ok at power.0 mw.0 power.1; cost = cost_ok at money.0 d.0 money.1 }, order.0)

piecewise_ok : (low high : ℤ) (at : Site) (v : Value) (ps : List Point) → piecewise low high at v ≡ Ok ps →
    IsPointList ps low high
unfolding piecewise
piecewise_ok low high at v ps e =
    let read = bind_ok (few (at_item point) MOST_POINTS at v) _ ps e in
    let reached = passed _ _ _ ps read.2 in
    let kept = few_ok ArePoints (at_item point) MOST_POINTS at v read.0 no_points
    (λ front w p old is. (let h = point_ok _ front w p is in points_push front p old h.0 h.1)) read.1 in
    subst (λ (qs : List Point). IsPointList qs low high) (ok_same read.0 ps reached.1)
    (is_point_list low high read.0 kept.0 kept.1 reached.0)

-- ---- windows

all_free : (n : ℕ) → length (replicate n Free) ≡ n
all_free n = length-replicate n Free

commitment_ok : (periods : ℕ) (at : Site) (v : Option Value) (ms : List Mark) → commitment periods at v ≡ Ok ms →
    length ms ≡ periods
unfolding commitment window window_items
commitment_ok periods at None ms e = subst (λ (l : List Mark). length l ≡ periods) (ok_same _ ms e) (all_free periods)
commitment_ok periods at (Some v) ms e =
    let vs = bind_ok (window_items periods at v) _ ms e in
    let found = bind_ok (need _ (list_in v)) _ vs.0 vs.1 in
    let sized = passed _ _ _ vs.0 found.2 in
    items_count mark at vs.0 ms vs.2 ∙ subst (λ (ws : List Value). length ws ≡ periods)
    (ok_same found.0 vs.0 sized.1) (same_count (length found.0) periods sized.0)

-- ---- a thermal unit

output_ok : (u : Keys) (o : Output) → output u ≡ Ok o → IsRange o
unfolding output
output_ok u o e =
    let must = bind_ok (key u fields.MustRun flag) _ o e in
    let least = bind_ok (key u fields.PowerOutputMinimum (amount 3 most_power)) _ o must.2 in
    let most = bind_ok (key u fields.PowerOutputMaximum (amount 3 most_output)) _ o least.2 in
    let order = passed _ _ _ o most.2 in
    let low = key_ok u fields.PowerOutputMinimum (amount 3 most_power) least.0 least.1 in
    let high = key_ok u fields.PowerOutputMaximum (amount 3 most_output) most.0 most.1 in
    subst (λ (p : Output). IsRange p) (ok_same _ o order.1)
    (record {
      least = power_ok _ low.0 least.0 low.1;
      most = amount_ok 3 most_output _ high.0 most.0 high.1;
      range =
          int_not_below most.0 least.0 order.0;
    })

power_key : (u : Keys) (f : _) (n : ℤ) → key u f (amount 3 most_power) ≡ Ok n → IsPower n
power_key u f n e = let at = key_ok u f (amount 3 most_power) n e in power_ok _ at.0 n at.1

ramps_ok : (u : Keys) (r : Ramps) → ramps u ≡ Ok r → AreRamps r
unfolding ramps
ramps_ok u r e =
    let up = bind_ok (key u fields.RampUpLimit (amount 3 most_power)) _ r e in
    let down = bind_ok (key u fields.RampDownLimit (amount 3 most_power)) _ r up.2 in
    let start = bind_ok (key u fields.RampStartupLimit (amount 3 most_power)) _ r down.2 in
    let stop = bind_ok (key u fields.RampShutdownLimit (amount 3 most_power)) _ r start.2 in
    subst (λ (s : Ramps). AreRamps s) (ok_same _ r stop.2)
    (record {
      up = power_key u fields.RampUpLimit up.0 up.1;
      down = power_key u fields.RampDownLimit down.0 down.1;
      start = power_key u fields.RampStartupLimit start.0 start.1;
      stop = power_key u fields.RampShutdownLimit stop.0 stop.1;
    })

time_key : (u : Keys) (f : _) (n : ℕ) → key u f (time_within MOST_TIME) ≡ Ok n → n ≤ MOST_TIME
time_key u f n e = let at = key_ok u f (time_within MOST_TIME) n e in time_ok MOST_TIME _ at.0 n at.1

minimum : (n : ℕ) → n ≤ MOST_TIME → (at_least_one n ≤ MOST_TIME) × (1 ≤ at_least_one n)
minimum n le = (grind (arith, nat_tests), grind (arith, nat_tests))

past_ok : (u : Keys) (p : Past) → past u ≡ Ok p → IsPast p
unfolding past
past_ok u p e =
    let min_up = bind_ok (key u fields.TimeUpMinimum (time_within MOST_TIME)) _ p e in
    let min_down = bind_ok (key u fields.TimeDownMinimum (time_within MOST_TIME)) _ p min_up.2 in
    let power = bind_ok (key u fields.PowerOutputT0 (amount 3 most_output)) _ p min_down.2 in
    let on = bind_ok (key u fields.UnitOnT0 flag) _ p power.2 in
    let up = bind_ok (key u fields.TimeUpT0 (time_within MOST_TIME)) _ p on.2 in
    let down = bind_ok (key u fields.TimeDownT0 (time_within MOST_TIME)) _ p up.2 in
    let most = key_ok u fields.PowerOutputT0 (amount 3 most_output) power.0 power.1 in
    let least_up = minimum min_up.0 (time_key u fields.TimeUpMinimum min_up.0 min_up.1) in
    let least_down = minimum min_down.0 (time_key u fields.TimeDownMinimum min_down.0 min_down.1) in
    subst (λ (q : Past). IsPast q) (ok_same _ p down.2)
    (record {
      min_up = least_up.0;
      some_up = least_up.1;
      min_down = least_down.0;
      some_down = least_down.1;
      power = amount_ok 3 most_output _ most.0 power.0 most.1;
      up = time_key u fields.TimeUpT0 up.0 up.1;
      down = time_key u fields.TimeDownT0 down.0 down.1;
    })

module _ (periods : ℕ) (some : 1 ≤ periods) (horizon : periods ≤ MOST_PERIODS) where
  lists_ok : (o : Output) (u : Keys) (l : UnitLists) → unit_lists periods o u ≡ Ok l → AreUnitLists o periods l
  unfolding unit_lists
  lists_ok o u l e =
      let lags = bind_ok (key u fields.Startup startup) _ l e in
      let points = bind_ok (key u fields.PiecewiseProduction (piecewise o.least o.most)) _ l lags.2 in
      let window = bind_ok (key_or_none u fields.Commitment (commitment periods)) _ l points.2 in
      let lags_at = key_ok u fields.Startup startup lags.0 lags.1 in
      let starts = startup_ok _ lags_at.0 lags.0 lags_at.1 in
      let points_at = key_ok u fields.PiecewiseProduction (piecewise o.least o.most) points.0 points.1 in
      subst (λ (k : UnitLists). AreUnitLists o periods k) (ok_same _ l window.2)
      (record {
        lag_count = starts.0;
        lags = starts.1;
        points = piecewise_ok o.least o.most _ points_at.0 points.0 points_at.1;
        window = commitment_ok periods _ _ window.0 window.1;
      })

  thermal_unit_ok : (at : Site) (v : Value) (g : ThermalUnit) → thermal_unit periods at v ≡ Ok g →
      IsThermalUnit g × (length g.window ≡ periods)
  unfolding thermal_unit keyed_unit
  thermal_unit_ok at v g e =
      let ms = bind_ok (object at v) _ g e in
      let u = keys at ms.0 in
      let o = bind_ok (output u) _ g ms.2 in
      let r = bind_ok (ramps u) _ g o.2 in
      let p = bind_ok (past u) _ g r.2 in
      let l = bind_ok (unit_lists periods o.0 u) _ g p.2 in
      let lists = lists_ok o.0 u l.0 l.1 in
      subst (λ (h : ThermalUnit). IsThermalUnit h × (length h.window ≡ periods)) (ok_same _ g l.2) (
        thermal_fits o.0 r.0 p.0 l.0 periods (output_ok u o.0 o.1) (ramps_ok u r.0 r.1) (past_ok u p.0 p.1) lists some
            horizon,
        lists.window,
      )

  -- ---- a renewable unit, and the lists of the case

  pub powers_ok : (at : Site) (v : Value) (ns : List ℤ) → powers periods at v ≡ Ok ns →
      (length ns ≡ periods) × All IsPower ns
  unfolding powers
  powers_ok at v ns e =
      let vs = bind_ok (full periods at v) _ ns e in (
        items_count one_power at vs.0 ns vs.2 ∙ full_ok periods at v vs.0 vs.1,
        each_keeps (All IsPower) (λ before. one_power (item_at at (position before)) before)
            (λ front w n kept is. All-push IsPower front n kept (power_ok _ w n is)) vs.0 [] ns (All-nil IsPower) vs.2,
      )

  renewable_unit_ok : (at : Site) (v : Value) (r : RenewableUnit) → renewable_unit periods at v ≡ Ok r →
      IsRenewableUnit r × (length r.least ≡ periods)
  unfolding renewable_unit keyed_renewable
  renewable_unit_ok at v r e =
      let ms = bind_ok (object at v) _ r e in
      let u = keys at ms.0 in
      let least = bind_ok (key u fields.PowerOutputMinimum (powers periods)) _ r ms.2 in
      let most = bind_ok (key u fields.PowerOutputMaximum (powers periods)) _ r least.2 in
      let order = passed _ _ _ r most.2 in
      let least_at = key_ok u fields.PowerOutputMinimum (powers periods) least.0 least.1 in
      let most_at = key_ok u fields.PowerOutputMaximum (powers periods) most.0 most.1 in
      let low = powers_ok _ least_at.0 least.0 least_at.1 in
      let high = powers_ok _ most_at.0 most.0 most_at.1 in
      subst (λ (s : RenewableUnit). IsRenewableUnit s × (length s.least ≡ periods)) (ok_same _ r order.1) (
        renewable_fits least.0 most.0 periods (first_crossed 1 least.0 most.0) low.0 high.0 some horizon low.1 high.1
            refl (ltb-false 0 _ order.0),
        low.0,
      )

  -- ---- a bid

  block_ok : (at : Site) (before : List Block) (v : Value) (b : Block) → block at before v ≡ Ok b →
      IsBlock b × (last_is (λ (a : Block). int_lt a.price b.price) before ≡ false)
  unfolding block block_in
  block_ok at before v b e =
      let o = bind_ok (object at v) _ b e in
      let mw = bind_ok (part at (codes "mw") (amount 3 most_power) o.0) _ b o.2 in
      let d = bind_ok (part at (codes "price") (amount 3 most_price) o.0) _ b mw.2 in
      let order = passed _ _ _ b d.2 in
      let power = part_ok at (codes "mw") (amount 3 most_power) o.0 mw.0 mw.1 in
      let money = part_ok at (codes "price") (amount 3 most_price) o.0 d.0 d.1 in
      subst (λ (c : Block). IsBlock c × (last_is (λ (a : Block). int_lt a.price c.price) before ≡ false))
      (ok_same _ b order.1) (
        record { width = power_ok at power.0 mw.0 power.1; price = amount_ok 3 most_price at money.0 d.0 money.1 },
        order.0,
      )

  period_ok : (at : Site) (before : List (List Block)) (v : Value) (bs : List Block) →
      period_blocks at before v ≡ Ok bs → IsBlockList bs
  unfolding period_blocks
  period_ok at before v bs e =
      let read = bind_ok (few block MOST_BLOCKS at v) _ bs e in
      let wide = passed _ _ _ bs read.2 in
      let kept = few_ok AreBlocks block MOST_BLOCKS at v read.0 no_blocks
      (λ front w b old is. (let h = block_ok at front w b is in blocks_push front b old h.0 h.1)) read.1 in
      subst (λ (cs : List Block). IsBlockList cs) (ok_same read.0 bs wide.1)
      (record {
        count = kept.0;
        blocks = kept.1.blocks;
        width =
            int_not_below POWER_LIMIT (total (map (λ (b : Block). b.width) read.0)) wide.0;
        falling = kept.1.falling;
      })

  blocks_ok : (at : Site) (v : Value) (bs : List (List Block)) → blocks periods at v ≡ Ok bs →
      (length bs ≡ periods) × All IsBlockList bs
  unfolding blocks
  blocks_ok at v bs e =
      let vs = bind_ok (full periods at v) _ bs e in (
        items_count period_blocks at vs.0 bs vs.2 ∙ full_ok periods at v vs.0 vs.1,
        each_keeps (All IsBlockList) (λ before. period_blocks (item_at at (position before)) before)
            (λ front w b kept is. All-push IsBlockList front b kept (period_ok _ front w b is)) vs.0 [] bs
            (All-nil IsBlockList) vs.2,
      )

  bid_unit_ok : (at : Site) (v : Value) (b : BidUnit) → bid_unit periods at v ≡ Ok b →
      IsBidUnit b × (length b.blocks ≡ periods)
  unfolding bid_unit
  bid_unit_ok at v b e =
      let ms = bind_ok (object at v) _ b e in
      let u = keys at ms.0 in
      let all = bind_ok (key u fields.Blocks (blocks periods)) _ b ms.2 in
      let found = key_ok u fields.Blocks (blocks periods) all.0 all.1 in
      let h = blocks_ok _ found.0 all.0 found.1 in
      let count = h.0 in
      subst (λ (c : BidUnit). IsBidUnit c × (length c.blocks ≡ periods)) (ok_same _ b all.2) (
        record {
          horizon = record { at_least = omega (arith, count, some); at_most = omega (arith, count, horizon) };
          blocks = h.1;
        },
        count,
      )

  -- ---- the units by name

  thermal_ok : (at : Site) (m : Pair) (n : NamedThermalUnit) → thermal periods at m ≡ Ok n → IsThermalOf periods n
  unfolding thermal
  thermal_ok at m n e =
      let u = bind_ok (thermal_unit periods at m.value) _ n e in
      subst (λ (k : NamedThermalUnit). IsThermalOf periods k) (ok_same _ n u.2) (thermal_unit_ok at m.value u.0 u.1)

  renewable_ok : (at : Site) (m : Pair) (n : NamedRenewableUnit) → renewable periods at m ≡ Ok n →
      IsRenewableOf periods n
  unfolding renewable
  renewable_ok at m n e =
      let u = bind_ok (renewable_unit periods at m.value) _ n e in
      subst (λ (k : NamedRenewableUnit). IsRenewableOf periods k) (ok_same _ n u.2)
      (renewable_unit_ok at m.value u.0 u.1)

  bid_ok : (at : Site) (m : Pair) (n : NamedBidUnit) → bid periods at m ≡ Ok n → IsBidOf periods n
  unfolding bid
  bid_ok at m n e =
      let u = bind_ok (bid_unit periods at m.value) _ n e in
      subst (λ (k : NamedBidUnit). IsBidOf periods k) (ok_same _ n u.2) (bid_unit_ok at m.value u.0 u.1)

  bids_ok : (at : Site) (v : Option Value) (ns : List NamedBidUnit) → bids periods at v ≡ Ok ns →
      (length ns ≤ MOST_OF_A_KIND) × All (IsBidOf periods) ns
  unfolding bids
  bids_ok at None ns e = subst (λ (ks : List NamedBidUnit). (length ks ≤ MOST_OF_A_KIND) × All (IsBidOf periods) ks)
      (ok_same [] ns e) (omega arith, All-nil (IsBidOf periods))
  bids_ok at (Some v) ns e = units_ok (IsBidOf periods) fields.DemandBids kinds.Bid (bid periods) bid_ok at v ns e

  -- ---- the case

  all_units_ok : (c : Keys) (us : AllUnits) → all_units periods c ≡ Ok us → AreAllUnits periods us
  unfolding all_units
  all_units_ok c us e =
      let g = bind_ok (key c fields.ThermalGenerators (units fields.ThermalGenerators kinds.Thermal (thermal periods)))
      _ us e in
      let f = bind_ok (key c fields.RenewableGenerators
      (units fields.RenewableGenerators kinds.Renewable (renewable periods))) _ us g.2 in
      let b = bind_ok (key_or_none c fields.DemandBids (bids periods)) _ us f.2 in
      let g_at = key_ok c fields.ThermalGenerators (units fields.ThermalGenerators kinds.Thermal (thermal periods)) g.0
      g.1 in
      let f_at = key_ok c fields.RenewableGenerators
      (units fields.RenewableGenerators kinds.Renewable (renewable periods)) f.0 f.1 in
      let gs = units_ok (IsThermalOf periods) fields.ThermalGenerators kinds.Thermal (thermal periods) thermal_ok _
      g_at.0 g.0 g_at.1 in
      let fs = units_ok (IsRenewableOf periods) fields.RenewableGenerators kinds.Renewable (renewable periods)
      renewable_ok _ f_at.0 f.0 f_at.1 in
      let bs = bids_ok _ _ b.0 b.1 in
      subst (λ (k : AllUnits). AreAllUnits periods k) (ok_same _ us b.2)
      (record {
        thermal_count = gs.0;
        flat_count = fs.0;
        bid_count = bs.0;
        thermal = gs.1;
        flat = fs.1;
        bids = bs.1;
      })

  needs_ok : (c : Keys) (n : HorizonNeeds) → needs periods c ≡ Ok n → AreNeeds periods n
  unfolding needs
  needs_ok c n e =
      let demand = bind_ok (key c fields.Demand (powers periods)) _ n e in
      let reserves = bind_ok (key c fields.Reserves (powers periods)) _ n demand.2 in
      let demand_at = key_ok c fields.Demand (powers periods) demand.0 demand.1 in
      let reserves_at = key_ok c fields.Reserves (powers periods) reserves.0 reserves.1 in
      let d = powers_ok _ demand_at.0 demand.0 demand_at.1 in
      let r = powers_ok _ reserves_at.0 reserves.0 reserves_at.1 in
      subst (λ (k : HorizonNeeds). AreNeeds periods k) (ok_same _ n reserves.2)
      (record { demand_count = d.0; demand = d.1; reserves_count = r.0; reserves = r.1 })

not_none : (n : ℕ) → (n == 0) ≡ false → 1 ≤ n
not_none n e = grind (arith, nat_tests)

horizon_ok : (c : Keys) (n : ℕ) → horizon c ≡ Ok n → (1 ≤ n) × (n ≤ MOST_PERIODS)
unfolding horizon
horizon_ok c n e =
    let periods = bind_ok (key c fields.TimePeriods (time_within MOST_PERIODS)) _ n e in
    let some = passed _ _ _ n periods.2 in
    let at = key_ok c fields.TimePeriods (time_within MOST_PERIODS) periods.0 periods.1 in
    subst (λ k. (1 ≤ k) × (k ≤ MOST_PERIODS)) (ok_same periods.0 n some.1)
    (not_none periods.0 some.0, time_ok MOST_PERIODS _ at.0 periods.0 at.1)

case_ok : (v : Value) (m : Market) → case_of v ≡ Ok m → IsMarket m
unfolding case_of keyed_case
case_ok v m e =
    let ms = bind_ok (object whole v) _ m e in
    let c = keys whole ms.0 in
    let periods = bind_ok (horizon c) _ m ms.2 in
    let n = bind_ok (needs periods.0 c) _ m periods.2 in
    let us = bind_ok (all_units periods.0 c) _ m n.2 in
    let some = passed _ _ _ m us.2 in
    let limits = horizon_ok c periods.0 periods.1 in
    subst (λ (k : Market). IsMarket k) (ok_same _ m some.1)
    (market_fits periods.0 n.0 us.0 limits.0 limits.1 (needs_ok periods.0 limits.0 limits.1 c n.0 n.1)
    (all_units_ok periods.0 limits.0 limits.1 c us.0 us.1) some.0)

pub market_ok : (found : Result Value TextFault) (m : Market) → reading_of case_of found ≡ Ok m → IsMarket m
market_ok (Ok v) m e = case_ok v m (of_value_ok (case_of v) m e)
market_ok (Err f) m e = absurd cc
