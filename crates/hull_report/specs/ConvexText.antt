-- What `hull convex` tells of the prices that it found (this project's profile).
use Rattle.std.specs.Prelude.{ℕ, ℤ, ◌-ℤ◌, List, map}
use Rattle.gap_proof.specs.MixtureLaws.{least_paid}
use Rattle.gap_proof.specs.Mixtures.{WeighedSchedule, MixtureLists}
use Rattle.plain_lists.specs.Sums.{zip_with}
use Rattle.price_settle.specs.Settled.{Settled}
use Rattle.uc_model.specs.Data.{Market, thermal_names}
use Rattle.report_form.specs.ConvexText.{ShareLine, MixtureLine, ConvexReport}
use Rattle.hull_report.specs.SettledText.{settlement_of}

abbrev pub share_line : WeighedSchedule → ShareLine
share_line e = record { weight = e.weight; schedule = e.schedule }

-- the mixture of the unit of a name
abbrev pub mixture_line : List ℕ → List WeighedSchedule → MixtureLine
mixture_line name entries = record { name = name; entries = map share_line entries }

-- those of all thermal units, in the order of their numbers
abbrev pub mixture_lines : Market → MixtureLists → List MixtureLine
mixture_lines m x = zip_with mixture_line (thermal_names m) x.entries

-- A plan that costs so much, settled at the prices found, with the mixture and the bound that it
-- proves; of the search the distance within which it ends, the most rounds, and those made.
unfoldable pub convex_of : Market → (cost : ℤ) → Settled → MixtureLists → (within : ℤ) →
    (rounds made : ℕ) → (bound : ℤ) → ConvexReport
convex_of m cost s x within rounds made bound = record {
  within = within;
  rounds = rounds;
  made = made;
  settled = settlement_of m cost s;
  weight = x.whole;
  mixture = mixture_lines m x;
  bound = bound;
  distance = bound -ℤ s.row.value;
  least = least_paid cost bound;
}
