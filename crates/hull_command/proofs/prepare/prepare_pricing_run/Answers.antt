use Rattle.hull_command.proofs.Lemmas.{completes_run}
use Rattle.hull_command.proofs.prepare.prepare_pricing_run.Goals as goal

pub returns-in-Ok-clause-prepared : goal.returns-in-Ok-clause-prepared
returns-in-Ok-clause-prepared g c =
    let h = c.in-Ok.ensures.answers in (
      h.0,
      h.1,
      completes_run c.in-Ok.terms c.args.words.now c.args.purpose h.0 c.requires.input
          c.in-Ok.ensures.numbers h.2,
    )
