-- What an entry that was read keeps.
use Rattle.std.specs.Prelude.{◌≤◌, pos, List}
use Rattle.std.specs.List.{All}
use Rattle.gap_proof.specs.Mixtures.{WeighedSchedule, IsOver, most_whole}
use Rattle.plain_lists.specs.Ranges.{IsFrom}
use Rattle.uc_model.specs.declared.limits.TheConstants.{MOST_PERIODS}
use Rattle.uc_mixture.specs.declared.entries.Frame.{Frame}

-- a horizon and a whole within their limits
pub record IsFrame (frame : Frame) : Type 0 where
  pub periods : frame.periods ≤ MOST_PERIODS
  pub whole : IsFrom (pos 1) most_whole frame.whole

-- a weight from 0 to the whole, and lists over the horizon
pub record IsEntryIn (frame : Frame) (e : WeighedSchedule) : Type 0 where
  pub weight : IsFrom (pos 0) frame.whole e.weight
  pub over : IsOver frame.periods e.schedule

-- no weight is below 0 or above the greatest whole
abbrev pub AreLow : List WeighedSchedule → Type 0
AreLow entries = All (λ (e : WeighedSchedule). IsFrom (pos 0) most_whole e.weight) entries
