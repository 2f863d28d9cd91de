use Rattle.spell_run.proofs.Common.{add-one, Logged}
use Rattle.spell_run.proofs.Lemmas.{logged_kept, left_kept, more_logged, more_before}
use Rattle.spell_run.proofs.notes.push_spell_log_entry.Goals as goal

pub returns-clause-trace : goal.returns-clause-trace
returns-clause-trace c =
    let e : Logged = record { passed = c.args.passed; before = c.args.trace.last } in
    rw (c.push.ensures.items, c.len-last.ensures, add-one)
    (more_logged c.args.log.now.items e c.args.trace.count c.requires.trace)

pub returns-clause-earlier : goal.returns-clause-earlier
returns-clause-earlier c = λ k other.
    let e : Logged = record { passed = c.args.passed; before = c.args.trace.last } in
    rw (c.push.ensures.items, c.len-last.ensures, add-one)
    (more_before c.args.log.now.items e c.args.trace.count k c.requires.trace other)

pub returns-clause-others : goal.returns-clause-others
returns-clause-others c = λ other there.
    let e : Logged = record { passed = c.args.passed; before = c.args.trace.last } in
    rw c.push.ensures.items (
      logged_kept c.args.log.now.items e other.last other.count there,
      λ k. left_kept c.args.log.now.items e other.last other.count k there,
    )
