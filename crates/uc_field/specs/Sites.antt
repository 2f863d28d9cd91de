-- The keys of a case file, and the fault of a test at a site.
use Rattle.std.specs.Prelude.{ℕ, List, codes}
use Rattle.uc_model.specs.declared.kinds.Kind.{Kind}
use Rattle.uc_field.specs.declared.fault.CaseCode.{CaseCode}
use Rattle.uc_field.specs.declared.fault.CaseCode.TheVariants.{Missing, WrongKind, NotWhole}
use Rattle.uc_field.specs.declared.fault.CaseCode.TheVariants.{Negative, TooLarge, WrongLength}
use Rattle.uc_field.specs.declared.fault.CaseCode.TheVariants.{CurveOrder, CurveEnds, LagOrder}
use Rattle.uc_field.specs.declared.fault.CaseCode.TheVariants.{NotFlag, RangeOrder, NoUnits}
use Rattle.uc_field.specs.declared.fault.CaseCode.TheVariants.{WindowShape, NoPeriods, BlockOrder}
use Rattle.uc_field.specs.declared.fault.Site.{Site}
use Rattle.uc_field.specs.declared.fault.FieldFault.{FieldFault}
use Rattle.uc_field.specs.declared.fault.Field.{Field}
use Rattle.uc_field.specs.declared.fault.Field.TheVariants.{Whole, TimePeriods, Demand, Reserves}
use Rattle.uc_field.specs.declared.fault.Field.TheVariants.{ThermalGenerators, RenewableGenerators}
use Rattle.uc_field.specs.declared.fault.Field.TheVariants.{DemandBids, MustRun, PowerOutputMinimum}
use Rattle.uc_field.specs.declared.fault.Field.TheVariants.{PowerOutputMaximum, RampUpLimit}
use Rattle.uc_field.specs.declared.fault.Field.TheVariants.{RampDownLimit, RampStartupLimit}
use Rattle.uc_field.specs.declared.fault.Field.TheVariants.{RampShutdownLimit, TimeUpMinimum}
use Rattle.uc_field.specs.declared.fault.Field.TheVariants.{TimeDownMinimum, PowerOutputT0}
use Rattle.uc_field.specs.declared.fault.Field.TheVariants.{UnitOnT0, TimeUpT0, TimeDownT0, Startup}
use Rattle.uc_field.specs.declared.fault.Field.TheVariants.{PiecewiseProduction, Commitment, Blocks}

-- the number under which a fault is printed (this project's profile)
abbrev pub code_number : CaseCode → ℕ
code_number Missing = 20
code_number WrongKind = 21
code_number NotWhole = 22
code_number Negative = 23
code_number TooLarge = 24
code_number WrongLength = 25
code_number CurveOrder = 26
code_number CurveEnds = 27
code_number LagOrder = 28
code_number NotFlag = 29
code_number RangeOrder = 30
code_number NoUnits = 31
code_number WindowShape = 33
code_number NoPeriods = 34
code_number BlockOrder = 37

-- the keys of pglib-uc; commitment, demand_bids and blocks are this project's profile
abbrev pub key_of : Field → List ℕ
key_of Whole = codes "whole"
key_of TimePeriods = codes "time_periods"
key_of Demand = codes "demand"
key_of Reserves = codes "reserves"
key_of ThermalGenerators = codes "thermal_generators"
key_of RenewableGenerators = codes "renewable_generators"
key_of DemandBids = codes "demand_bids"
key_of MustRun = codes "must_run"
key_of PowerOutputMinimum = codes "power_output_minimum"
key_of PowerOutputMaximum = codes "power_output_maximum"
key_of RampUpLimit = codes "ramp_up_limit"
key_of RampDownLimit = codes "ramp_down_limit"
key_of RampStartupLimit = codes "ramp_startup_limit"
key_of RampShutdownLimit = codes "ramp_shutdown_limit"
key_of TimeUpMinimum = codes "time_up_minimum"
key_of TimeDownMinimum = codes "time_down_minimum"
key_of PowerOutputT0 = codes "power_output_t0"
key_of UnitOnT0 = codes "unit_on_t0"
key_of TimeUpT0 = codes "time_up_t0"
key_of TimeDownT0 = codes "time_down_t0"
key_of Startup = codes "startup"
key_of PiecewiseProduction = codes "piecewise_production"
key_of Commitment = codes "commitment"
key_of Blocks = codes "blocks"

abbrev pub site : Field → Kind → ℕ → Site
site field kind unit = record { field = field; kind = kind; unit = unit; item = 0 }

abbrev pub field_at : Site → Field → Site
field_at at f = record at { field = f }

abbrev pub item_at : Site → ℕ → Site
item_at at k = record at { item = k }

abbrev pub fault : Site → CaseCode → FieldFault
fault at code = record {
  code = code;
  field = at.field;
  kind = at.kind;
  unit = at.unit;
  item = at.item;
}
