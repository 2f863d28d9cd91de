use Rattle.uc_model.proofs.Common.{length, length-map, ap, sym, ◌∙◌, ThermalUnit, RenewableUnit, BidUnit, Flat}
use Rattle.uc_model.proofs.Common.{items_in}
use Rattle.std.proofs.lemmas.List.{length-replicate}
use Rattle.uc_model.proofs.cases.Task.make.Goals as goal

pub invariant_of-result : goal.invariant_of-result
invariant_of-result c =
    let energy = ap length c.in_ok-prices.ensures.energy ∙ length-replicate _ _ in
    record {
      thermal_horizon = ap (λ (u : ThermalUnit). length u.window) c.in_ok-thermal.ensures.unit ∙ length-replicate _ _ ∙
          sym energy;
      flat_horizon = ap (λ (r : RenewableUnit). length r.least) c.in_ok-flat.ensures ∙ length-replicate _ _ ∙
          sym energy;
      bid_horizon = sym (length-map c.in_ok-bid.bid.blocks.items items_in) ∙
          ap (λ (b : BidUnit). length b.blocks) c.in_ok-bid.ensures.bid ∙ length-replicate _ _ ∙ sym energy;
    }

pub returns-clause-energy : goal.returns-clause-energy
returns-clause-energy c = c.in_ok-prices.ensures.energy

pub returns-clause-reserve : goal.returns-clause-reserve
returns-clause-reserve c = c.in_ok-prices.ensures.reserve

pub returns-clause-unit : goal.returns-clause-unit
returns-clause-unit c = ap Flat c.in_ok-flat.ensures

pub returns-clause-thermal : goal.returns-clause-thermal
returns-clause-thermal c = c.in_ok-thermal.ensures.unit

pub returns-clause-bid : goal.returns-clause-bid
returns-clause-bid c = c.in_ok-bid.ensures.bid

pub returns-clause-room : goal.returns-clause-room
returns-clause-room c = record {
  horizon = ap length c.in_ok-prices.ensures.energy ∙ length-replicate _ _;
  lags = c.in_ok-thermal.ensures.lags;
  points = c.in_ok-thermal.ensures.points;
  blocks = c.in_ok-bid.ensures.room;
}
