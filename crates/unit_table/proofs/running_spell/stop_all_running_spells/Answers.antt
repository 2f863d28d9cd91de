use Rattle.unit_table.proofs.Common.{arith, inl, inr, cases_eq}
use Rattle.unit_table.proofs.Lemmas.{kept_none, kept_then, fewer_off, all_off}
use Rattle.unit_table.proofs.running_spell.stop_all_running_spells.Goals as goal

pub loop-index-init : goal.loop-index-init
loop-index-init c = record { off = λ f low. absurd (omega arith); kept = kept_none c.args.spells.now }

pub loop-index-preserved : goal.loop-index-preserved
loop-index-preserved c = record {
  off = λ f low. elim (cases_eq f (c.loop-index.index)) [
    | inl z ↦ cc
    | inr other ↦ fewer_off _ _ c.stop_running_spell_at.ensures.fewer f (c.loop-index.invariant.off f (omega arith))
  ];
  kept = kept_then _ _ _ c.loop-index.invariant.kept c.stop_running_spell_at.ensures.kept;
}

pub returns-clause-off : goal.returns-clause-off
returns-clause-off c = all_off c.loop-index.spells c.loop-index.index c.loop-index.invariant.off (omega arith)
