-- What can be copied into room that is there (this project's profile).
use Rattle.std.specs.Prelude.{◌≡◌, List, length}
use Rattle.std.specs.List.{AllZip}
use Rattle.gap_proof.specs.Mixtures.{WeighedSchedule}

-- as many entries over as many periods
abbrev pub AreAlike : List WeighedSchedule → List WeighedSchedule → Type 0
AreAlike =
    AllZip (λ (a : WeighedSchedule) (b : WeighedSchedule).
    length a.schedule.on ≡ length b.schedule.on)
