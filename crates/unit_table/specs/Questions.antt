-- What a question says, in the words of the definitions (this project's profile).
use Rattle.std.specs.Prelude.{ℕ, ℤ, ◌+◌, length}
use Rattle.plain_lists.specs.Sums.{int_at}
use Rattle.uc_model.specs.Data.{ThermalUnit, PriceLists}
use Rattle.uc_model.specs.PlainUnits.{thermal_of, prices_of}
use Rattle.unit_table.specs.declared.question.Question.{Question}
use Rattle.unit_table.specs.declared.question.Period.{Period}

abbrev pub unit_of : Question → ThermalUnit
unit_of q = thermal_of q.unit.now

abbrev pub prices_in : Question → PriceLists
prices_in q = prices_of q.prices.now

abbrev pub periods_in : Question → ℕ
periods_in q = length (prices_in q).energy

-- how many pieces more a period may make of a function
abbrev pub charge_of : Question → ℕ
charge_of q = length q.curve.now.blocks.items + 3

-- what all up to a period may cost
abbrev pub limits_in : Question → ℕ → ℤ
limits_in q = int_at q.limits.now.items

-- what is asked at an index of the horizon: of which unit, at which prices, within which limits, and
-- with how many pieces more for a period
pub record Asked : Type 0 where
  pub unit : ThermalUnit
  pub prices : PriceLists
  pub limits : ℕ → ℤ
  pub charge : ℕ
  pub index : ℕ

abbrev pub periods_of : Asked → ℕ
periods_of a = length a.prices.energy

abbrev pub asked_at : Question → ℕ → Asked
asked_at q t = record {
  unit = unit_of q;
  prices = prices_in q;
  limits = limits_in q;
  charge = charge_of q;
  index = t;
}

abbrev pub asked : Period → Asked
asked p = asked_at p.question.now p.index
