-- The numbers that words ask for are within their ranges (this project's profile).
use Rattle.std.specs.Prelude.{⊤}
use Rattle.gap_proof.specs.PlaneSums.{IsRadius}
use Rattle.hull_words.specs.Asked.{Asked, price, check, try, bound, fixed, audit, settle}
use Rattle.hull_words.specs.Asked.{certify, convex}
use Rattle.hull_input.specs.Sizes.{IsWorkers, IsRunSize, IsSearchSize}

abbrev pub HasSizes : Asked → Type 0
HasSizes (price a) = IsRunSize a.proposals a.ahead a.workers
HasSizes (try a) = IsRunSize a.proposals a.ahead a.workers
HasSizes (bound a) = IsRunSize a.run.proposals a.run.ahead a.run.workers × IsRadius a.radius
HasSizes (fixed a) = IsRunSize a.proposals a.ahead a.workers
HasSizes (check a) = ⊤
HasSizes (audit a) = IsWorkers a.workers
HasSizes (settle a) = ⊤
HasSizes (certify a) = IsRadius a.radius
HasSizes (convex a) = IsSearchSize a.within a.rounds
