-- The mixtures that a search keeps: for each thermal unit as many entries, of which most have no
-- weight (this project's profile).
use Rattle.std.specs.Prelude.{◌≡◌, ℕ, List, length}
use Rattle.std.specs.List.{All, AllZip}
use Rattle.uc_model.specs.Data.{ThermalUnit, NamedThermalUnit, Schedule, Market}
use Rattle.gap_proof.specs.Mixtures.{WeighedSchedule, MixtureLists, AreShares, AreMixed, most_whole}

-- so many entries of one schedule, whose weights sum to the greatest whole
pub record AreOfOne (places : ℕ) (s : Schedule) (entries : List WeighedSchedule) : Type 0 where
  pub count : length entries ≡ places
  pub shares : AreShares most_whole entries
  pub same : All (λ (e : WeighedSchedule). e.schedule ≡ s) entries

-- so many entries of a unit, whose weights sum to the greatest whole
pub record AreKept (periods places : ℕ) (g : ThermalUnit) (entries : List WeighedSchedule) : Type 0
  where
    pub count : length entries ≡ places
    pub mixed : AreMixed periods most_whole g entries

-- so many for each thermal unit
pub record IsKept (m : Market) (places : ℕ) (x : MixtureLists) : Type 0 where
  pub whole : x.whole ≡ most_whole
  pub kept : AllZip (λ (n : NamedThermalUnit) (entries : List WeighedSchedule).
      AreKept m.periods places n.unit entries) m.thermal x.entries
