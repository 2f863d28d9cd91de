-- Bids and commitment windows, at numbers that were worked out by hand.
use Rattle.uc_model.proofs.Common.{◌≡◌, ℕ, pos, neg_ℤ, true, false, List, [], ◌∷◌, refl, Mark, Free, MustOff, MustOn}
use Rattle.uc_model.proofs.Common.{ThermalUnit, BidUnit, Bid, Schedule, Market, earnings, worth_of, supply_in, envelope}
use Rattle.uc_model.proofs.Common.{start_prices, is_settled, Window, MustRun, BidRange, Balance, refusals}
use Rattle.uc_model.proofs.Common.{thermal_refusals, plan_cost, total_power, unit_numbers, units}
use Rattle.uc_model.specs.declared.kinds.Kind.TheVariants as kinds
use Rattle.uc_model.proofs.WorkedSystems.{two_units, block_unit, one_period, energy_only}

-- ---- a bid of 50 kW at 40 beside the two units

abbrev buyer : BidUnit
buyer = record { blocks = (record { width = pos 50; price = pos 40 } ∷ []) ∷ [] }

abbrev with_buyer : Market
with_buyer = record two_units { bids = record { name = 88 ∷ []; unit = buyer } ∷ [] }

abbrev met_plan : ℕ → List Schedule
met_plan bought = one_period true 100 0 ∷ one_period true 100 0 ∷ one_period true bought 0 ∷ []

pub buyer_worth : worth_of (record { width = pos 50; price = pos 40 } ∷ record { width = pos 10; price = pos 7 } ∷ [])
    (pos 53) ≡ pos 2021
buyer_worth = refl

pub buyer_earns : earnings (Bid buyer) (energy_only (pos 30)) (one_period true 50 0) ≡ pos 500
buyer_earns = refl

pub buyer_supplies : supply_in (Bid buyer) (one_period true 50 0) 1 ≡ neg_ℤ (pos 50)
buyer_supplies = refl

pub with_buyer_cost : plan_cost with_buyer (met_plan 50) ≡ pos 2000
unfolding envelope
with_buyer_cost = refl

pub with_buyer_total : total_power (units with_buyer) (met_plan 50) 0 ≡ pos 150
with_buyer_total = refl

pub met_is_settled : is_settled with_buyer (pos 2000)
    (record { prices = energy_only (pos 30); value = pos 2000; supply = pos 50 ∷ []; reserve = pos 0 ∷ [] }) ≡ true
met_is_settled = refl

-- bids don't change the start price
pub with_buyer_start : start_prices with_buyer ≡ pos 30 ∷ []
unfolding envelope
with_buyer_start = refl

pub met_refusals : refusals with_buyer (met_plan 50) ≡ []
met_refusals = refl

pub bought_too_much : refusals with_buyer (met_plan 60)
    ≡ record { rule = BidRange; kind = kinds.Bid; unit = 1; period = 1; left = pos 60; right = pos 50 }
    ∷ record { rule = Balance; kind = kinds.Case; unit = 0; period = 1; left = pos 140; right = pos 150 } ∷ []
bought_too_much = refl

pub buyer_numbers : unit_numbers (Bid buyer) ≡ pos 2 ∷ pos 1 ∷ pos 50 ∷ pos 40 ∷ []
buyer_numbers = refl

-- ---- windows

abbrev marked : Mark → ThermalUnit
marked m = record block_unit { window = m ∷ [] }

pub must_be_off : thermal_refusals 1 2 (marked MustOff) (one_period true 100 0)
    ≡ record { rule = Window; kind = kinds.Thermal; unit = 2; period = 1; left = pos 1; right = pos 0 } ∷ []
must_be_off = refl

pub must_be_on : thermal_refusals 1 2 (marked MustOn) (one_period false 0 0)
    ≡ record { rule = Window; kind = kinds.Thermal; unit = 2; period = 1; left = pos 0; right = pos 1 } ∷ []
must_be_on = refl

pub may_be_off : thermal_refusals 1 2 (marked Free) (one_period false 0 0) ≡ []
may_be_off = refl

-- a must-run unit that must be off has no feasible schedule
abbrev torn : ThermalUnit
torn = record block_unit { must_run = true; window = MustOff ∷ [] }

pub torn_off : thermal_refusals 1 1 torn (one_period false 0 0)
    ≡ record { rule = MustRun; kind = kinds.Thermal; unit = 1; period = 1; left = pos 0; right = pos 1 } ∷ []
torn_off = refl

pub torn_on : thermal_refusals 1 1 torn (one_period true 100 0)
    ≡ record { rule = Window; kind = kinds.Thermal; unit = 1; period = 1; left = pos 1; right = pos 0 } ∷ []
torn_on = refl
