use Rattle.unit_table.proofs.Common.{◌≡◌, ◌+◌, ◌-◌, ◌<◌, ◌≤◌, ℕ, Some, arith, slice_get, live_at, Going}
use Rattle.unit_table.proofs.Lemmas.{if_some_more, fewer_none, fewer_then, fewer_small, kept_none, kept_then}
use Rattle.unit_table.proofs.running_spell.stop_dominated_spells.Goals as goal

pub loop-back-preserved : goal.loop-back-preserved
loop-back-preserved c =
    let list = c.requires.roster in
    let roster = c.args.roster.now in
    let first = c.get-first.result.now in
    record {
      fewer = fewer_then _ _ _ c.loop-back.invariant.fewer c.stop_spell_if_dominated-late.ensures.fewer;
      kept = kept_then _ _ _ c.loop-back.invariant.kept c.stop_spell_if_dominated-late.ensures.kept;
      late = if_some_more (λ l. (first ≤ l) × (l ≤ c.args.period) ×
          ((r : Going) × (live_at c.stop_spell_if_dominated-late.new.spells l ≡ Some r)))
          (λ l. ((j h : ℕ) → j + (c.loop-back.back + 1) < roster.count → slice_get roster.firsts.items j ≡ Some h →
          h < l) × (l ≤ c.args.period) × ((r : Going) × (live_at c.stop_spell_if_dominated-late.new.spells l ≡ Some
          r)))
          (λ l h. (
            (λ j f before is. (let earlier = list.rising j (roster.count - c.loop-back.back - 1) f
                first (omega arith) (omega arith) is c.get-first.ensures.item in omega arith)),
            h.1,
            h.2,
          )) c.stop_spell_if_dominated-late.result c.stop_spell_if_dominated-late.ensures.late;
      stands = λ π limits ends n now. c.stop_spell_if_dominated-late.ensures.stands π limits ends n
          (c.loop-back.invariant.stands π limits ends n now);
    }

pub loop-back-init : goal.loop-back-init
loop-back-init c = record {
  fewer = fewer_none (live_at c.args.spells.now);
  kept = kept_none c.args.spells.now;
  late = tt;
  stands = λ π limits ends n now. now;
}

pub stop_spell_if_dominated-late-requires-clause-early : goal.stop_spell_if_dominated-late-requires-clause-early
stop_spell_if_dominated-late-requires-clause-early c =
    let below = c.requires.roster.below (c.args.roster.now.count - c.loop-back.back - 1) c.get-first.result.now
    (omega arith) c.get-first.ensures.item in
    omega arith

pub stop_spell_if_dominated-late-requires-clause-late : goal.stop_spell_if_dominated-late-requires-clause-late
stop_spell_if_dominated-late-requires-clause-late c =
    let roster = c.args.roster.now in
    let first = c.get-first.result.now in
    if_some_more (λ l. ((j h : ℕ) → j + c.loop-back.back < roster.count → slice_get roster.firsts.items j ≡ Some h →
    h < l) × (l ≤ c.args.period) × ((r : Going) × (live_at c.loop-back.spells l ≡ Some r)))
    (λ l. (first < l) × (l ≤ c.args.period) × ((r : Going) × (live_at c.loop-back.spells l ≡ Some r)))
    (λ l h. (h.0 (roster.count - c.loop-back.back - 1) first (omega arith) c.get-first.ensures.item, h.1, h.2))
    c.loop-back.late c.loop-back.invariant.late

pub stop_spell_if_dominated-late-requires-clause-small : goal.stop_spell_if_dominated-late-requires-clause-small
stop_spell_if_dominated-late-requires-clause-small c = fewer_small _ _ c.loop-back.invariant.fewer c.requires.small
