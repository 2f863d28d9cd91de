use Rattle.gap_proof.proofs.Common.{◌≡◌, List, ◌*◌, suc, pos, take, total, zip_with, IsFrom, Thermal}
use Rattle.gap_proof.proofs.Common.{NamedThermalUnit, supply_in, reserve_in, WeighedSchedule, weighed, market_of}
use Rattle.gap_proof.specs.Mixtures.{mixture_of}
use Rattle.gap_proof.proofs.mixture_sums.weighted_output_of_mixture.Given as goal

abbrev pub invariant-loop-unit : goal.invariant-loop-unit
invariant-loop-unit l = record {
  power : l.given.power ≡ total
      (zip_with (λ (n : NamedThermalUnit) (es : List WeighedSchedule). weighed
      (λ s. supply_in (Thermal n.unit) s (suc l.index)) es) (take l.unit (market_of l.case).thermal)
      (mixture_of l.mixture).entries);
  reserve : l.given.reserve ≡ total
      (zip_with (λ (n : NamedThermalUnit) (es : List WeighedSchedule). weighed (λ s. reserve_in s (suc l.index)) es)
      (take l.unit (market_of l.case).thermal) (mixture_of l.mixture).entries);
  power_limit : IsFrom (pos 0) (pos (4294967296000000000000 * l.unit)) l.given.power;
  reserve_limit : IsFrom (pos 0) (pos (4294967296000000000000 * l.unit)) l.given.reserve;
}
