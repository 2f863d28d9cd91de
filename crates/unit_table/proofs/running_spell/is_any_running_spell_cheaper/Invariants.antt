use Rattle.unit_table.proofs.running_spell.is_any_running_spell_cheaper.Given as goal

abbrev pub invariant-loop-index : goal.invariant-loop-index
invariant-loop-index l = Unit {0}
