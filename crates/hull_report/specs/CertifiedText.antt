-- What `hull certify` tells of prices and a bound round them (this project's profile).
use Rattle.std.specs.Prelude.{ℕ, ℤ, ◌-ℤ◌}
use Rattle.gap_proof.specs.MixtureLaws.{least_paid}
use Rattle.price_settle.specs.Settled.{Settled}
use Rattle.report_form.specs.CertificateText.{Certificate}
use Rattle.uc_model.specs.Data.{Market, unit_count}

-- the certificate of prices that a plan of this cost is settled at, where the bound holds of all
-- prices within the radius
unfoldable pub certificate_of : Market → (cost : ℤ) → Settled → (radius : ℕ) → (bound : ℤ) →
    Certificate
certificate_of m cost s radius bound = record {
  periods = m.periods;
  units = unit_count m;
  cost = cost;
  value = s.row.value;
  surplus = s.surplus;
  payments = s.sum;
  gap = cost -ℤ s.row.value;
  radius = radius;
  bound = bound;
  distance = bound -ℤ s.row.value;
  least = least_paid cost bound;
}
