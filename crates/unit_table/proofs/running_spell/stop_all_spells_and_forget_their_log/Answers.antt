use Rattle.unit_table.proofs.Common.{arith, inl, inr, cases_eq, ap, sym, ◌∙◌, going_of, slice_get, slice_get_within, ℕ}
use Rattle.unit_table.proofs.Lemmas.{room_one, rooms_then, all_off}
use Rattle.unit_table.proofs.running_spell.stop_all_spells_and_forget_their_log.Goals as goal

pub loop-index-init : goal.loop-index-init
loop-index-init c = record {
  off = λ f low. absurd (omega arith);
  none = λ f r low. absurd (omega arith);
  rooms = room_one c.args.spells.now;
}

pub loop-index-preserved : goal.loop-index-preserved
loop-index-preserved c = record {
  off = λ f low. elim (cases_eq f (c.loop-index.index)) [
    | inl z ↦ cc
    | inr other ↦ ap going_of (c.stop_spell_at_and_forget_its_log.ensures.others f other) ∙ c.loop-index.invariant.off
        f (omega arith)
  ];
  none = λ f r low is. elim (cases_eq f (c.loop-index.index)) [
    | inl z ↦ c.stop_spell_at_and_forget_its_log.ensures.none r
        (sym (ap (λ (k : ℕ). slice_get c.stop_spell_at_and_forget_its_log.new.spells k) z)
        ∙ is)
    | inr other ↦ c.loop-index.invariant.none f r (omega arith)
        (sym (c.stop_spell_at_and_forget_its_log.ensures.others f other) ∙ is)
  ];
  rooms = rooms_then _ _ _ c.loop-index.invariant.rooms c.stop_spell_at_and_forget_its_log.ensures.rooms;
}

pub returns-clause-off : goal.returns-clause-off
returns-clause-off c = all_off c.loop-index.spells c.loop-index.index c.loop-index.invariant.off (omega arith)

pub returns-clause-none : goal.returns-clause-none
returns-clause-none c = λ f r is.
    let low = slice_get_within c.loop-index.spells f r is in
    c.loop-index.invariant.none f r (omega arith) is
