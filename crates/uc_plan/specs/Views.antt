-- What the reader's own types say.
use Rattle.std.specs.Prelude.{◌≡◌, ℕ, length}
use Rattle.uc_text.specs.View.{members_in, items_in}
use Rattle.uc_plan.specs.Plans as plain
use Rattle.uc_plan.specs.declared.shapes.Groups.{Groups}
use Rattle.uc_plan.specs.declared.shapes.ThermalLists.{ThermalLists}

abbrev pub groups_of : Groups → plain.Groups
groups_of g = record {
  thermal = members_in g.thermal;
  renewable = members_in g.renewable;
  bids = members_in g.bids;
}

abbrev pub lists_of : ThermalLists → plain.ThermalLists
lists_of l = record {
  on = items_in l.on;
  power = items_in l.power;
  reserve = items_in l.reserve;
}

-- an item for each period in each list
pub record AreFull (periods : ℕ) (l : plain.ThermalLists) : Type 0 where
  pub on : length l.on ≡ periods
  pub power : length l.power ≡ periods
  pub reserve : length l.reserve ≡ periods
