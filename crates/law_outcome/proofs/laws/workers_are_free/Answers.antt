use Rattle.law_outcome.proofs.Common.{refl, AreAlike, Command}
use Rattle.law_outcome.proofs.laws.workers_are_free.Goals as goal

same : (c : Command) → AreAlike c c
same c = record { names = refl; due = λ reads found due. due; text = λ reads i text is. is }

pub returns : goal.returns
returns c n = (λ a. same _, λ a. same _, λ a. same _, λ a. same _, λ a. same _)
