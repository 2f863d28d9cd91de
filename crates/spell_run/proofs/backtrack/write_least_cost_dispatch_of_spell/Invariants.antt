use Rattle.spell_run.proofs.Common.{◌≡◌, ◌-◌, thermal_of, prices_of, schedule_of}
use Rattle.spell_run.proofs.Lemmas.{IsWrittenFrom, IsRest}
use Rattle.spell_run.proofs.backtrack.write_least_cost_dispatch_of_spell.Given as goal

abbrev pub invariant-loop-back : goal.invariant-loop-back
invariant-loop-back l = record {
  from : IsWrittenFrom (thermal_of l.unit) (prices_of l.prices) l.first (l.last - l.back) l.last
      (schedule_of l.fn.into.response) (schedule_of l.into.response) l.power;
  earned : l.into.earned ≡ l.fn.into.earned;
  rest : IsRest l.left.log.now l.left.trace l.at ((l.last - (l.first - 1)) - l.back);
}
