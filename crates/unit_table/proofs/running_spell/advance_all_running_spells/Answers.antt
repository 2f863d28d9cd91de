use Rattle.unit_table.proofs.Common.{suc, refl, sym, ap, ◌∙◌, arith, going_of, unit_of, asked}
use Rattle.unit_table.proofs.Lemmas.{none_run, run_before, one_run, run_whole, run_begins, run_over, may_next}
use Rattle.unit_table.proofs.running_spell.advance_all_running_spells.Goals as goal

pub loop-index-init : goal.loop-index-init
loop-index-init c =
    let a = asked c.args.period.now in
    record {
      run = none_run a c.args.table.now.items c.args.spells.now c.args.log.now
          c.args.roster.now
          (suc (suc c.args.period.now.index))
          (run_begins a c.args.table.now.items c.args.spells.now c.args.log.now
          c.requires.within c.requires.none c.requires.log.traces);
      space = refl;
    }

pub advance_spell_of_first_period-requires-clause-ready : goal.advance_spell_of_first_period-requires-clause-ready
advance_spell_of_first_period-requires-clause-ready c = λ r is.
    let first = c.get-first.result.now in
    let run = run_before (asked c.args.period.now)
    c.args.table.now.items c.args.spells.now c.args.log.now c.requires.room c.args.roster.now
    (suc (suc c.args.period.now.index))
    c.requires.roster
    c.loop-index.index c.loop-index.table.items c.loop-index.spells c.loop-index.log c.loop-index.invariant.run
    c.loop-index-test.true
    first
    c.get-first.ensures.item in
    let same = ap going_of (run.rest first (omega arith)) in
    let running_spell = c.requires.now.1.right first r (sym same ∙ is) in
    record {
      order = omega arith;
      frontier = running_spell.1.frontier;
      may = may_next (unit_of c.args.period.now.question.now) first c.args.period.now.index c.requires.open
          running_spell.1.may;
      within = running_spell.1.within;
    }

pub advance_spell_of_first_period-requires-clause-room : goal.advance_spell_of_first_period-requires-clause-room
advance_spell_of_first_period-requires-clause-room c = λ r is.
    let first = c.get-first.result.now in
    let run = run_before (asked c.args.period.now)
    c.args.table.now.items c.args.spells.now c.args.log.now c.requires.room c.args.roster.now
    (suc (suc c.args.period.now.index))
    c.requires.roster
    c.loop-index.index c.loop-index.table.items c.loop-index.spells c.loop-index.log c.loop-index.invariant.run
    c.loop-index-test.true
    first
    c.get-first.ensures.item in
    c.requires.room first r (sym (run.rest first (omega arith)) ∙ is)

pub advance_spell_of_first_period-requires-clause-alike : goal.advance_spell_of_first_period-requires-clause-alike
advance_spell_of_first_period-requires-clause-alike c = λ r is.
    let first = c.get-first.result.now in
    let run = run_before (asked c.args.period.now)
    c.args.table.now.items c.args.spells.now c.args.log.now c.requires.room c.args.roster.now
    (suc (suc c.args.period.now.index))
    c.requires.roster
    c.loop-index.index c.loop-index.table.items c.loop-index.spells c.loop-index.log c.loop-index.invariant.run
    c.loop-index-test.true
    first
    c.get-first.ensures.item in
    c.loop-index.invariant.space ∙ c.requires.have first r (sym (run.rest first (omega arith)) ∙ is)

pub advance_spell_of_first_period-requires-clause-log : goal.advance_spell_of_first_period-requires-clause-log
advance_spell_of_first_period-requires-clause-log c =
    let first = c.get-first.result.now in
    let run = run_before (asked c.args.period.now)
    c.args.table.now.items c.args.spells.now c.args.log.now c.requires.room c.args.roster.now
    (suc (suc c.args.period.now.index))
    c.requires.roster
    c.loop-index.index c.loop-index.table.items c.loop-index.spells c.loop-index.log c.loop-index.invariant.run
    c.loop-index-test.true
    first
    c.get-first.ensures.item in
    let below = c.requires.roster.below c.loop-index.index first (omega arith) c.get-first.ensures.item in
    let few = run.entries in
    let same = run.log_same in
    let spare = c.requires.log.spare in
    let small = c.requires.log.small in
    record { traces = run.traces; spare = omega arith; small = omega arith }

pub loop-index-preserved : goal.loop-index-preserved
loop-index-preserved c = record {
  run = one_run (asked c.args.period.now)
      c.args.table.now.items c.args.spells.now c.args.log.now c.requires.room c.args.roster.now
      (suc (suc c.args.period.now.index))
      c.requires.roster
      c.loop-index.index c.loop-index.table.items c.loop-index.spells c.loop-index.log c.loop-index.invariant.run
      c.loop-index-test.true
      c.get-first.result.now c.get-first.ensures.item
      c.advance_spell_of_first_period.new.table.items c.advance_spell_of_first_period.new.spells
      c.advance_spell_of_first_period.new.log c.advance_spell_of_first_period.ensures.run;
  space = c.advance_spell_of_first_period.ensures.spare ∙ c.loop-index.invariant.space;
}

pub returns-clause-run : goal.returns-clause-run
returns-clause-run c =
    let a = asked c.args.period.now in
    let rows = c.args.table.now.items in
    let spells = c.args.spells.now in
    let log = c.args.log.now in
    run_over a rows spells log c.loop-index.table.items c.loop-index.spells
    c.loop-index.log
    (run_whole a rows spells log c.requires.room c.args.roster.now
    (suc (suc c.args.period.now.index)) c.requires.roster
    c.loop-index.index c.loop-index.table.items c.loop-index.spells c.loop-index.log c.loop-index.invariant.run
    c.loop-index-test.false)
    (λ f r is. (c.requires.now.1.right f r is).0) c.requires.room

pub advance_spell_of_first_period-requires-clause-spells : goal.advance_spell_of_first_period-requires-clause-spells
advance_spell_of_first_period-requires-clause-spells c =
    let below = c.requires.roster.below c.loop-index.index c.get-first.result.now (omega arith)
    c.get-first.ensures.item in
    omega arith
