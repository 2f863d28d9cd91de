use Rattle.law_parts.proofs.Common.{[], no_prices, row_of, rules_of, posts}
use Rattle.law_parts.proofs.Calls.{posts_mean, steps_agree, calls_stay_legal}
use Rattle.law_parts.proofs.Words.{means}
use Rattle.law_parts.proofs.board.machine_means.Goals as goal

pub returns : goal.returns
returns c = record {
  words = λ b h. means (rules_of b) (posts h) (row_of b.market no_prices []);
  posts = posts_mean;
  steps = steps_agree;
  calls = calls_stay_legal;
}
