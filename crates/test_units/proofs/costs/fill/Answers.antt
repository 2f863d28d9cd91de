use Rattle.test_units.proofs.Common.{◌≡◌, ℕ, suc, ◌+◌, ◌<◌, ◌≢◌, length, Option, ℤ, ap, ◌∙◌, subst, inl, inr}
use Rattle.test_units.proofs.Common.{arith, length-set, thermal_of, prices_of, IsFrontier, spell_first, IsSpellCost}
use Rattle.test_units.proofs.Lemmas.{entry_other, entries_more, never_both, one_more}
use Rattle.test_units.proofs.costs.fill.Goals as goal

pub returns-in_err-cost-clause-frame : goal.returns-in_err-cost-clause-frame
returns-in_err-cost-clause-frame g c =
    c.frames_join.ensures _ _ _ _ _ _ c.loop-index.invariant.frame c.pass.ensures.frame

pub loop-index-preserved : goal.loop-index-preserved
loop-index-preserved g c =
    let unit = thermal_of c.args.unit.now in
    let prices = prices_of c.args.prices.now in
    let first = spell_first c.args.started c.args.first in
    let index = c.loop-index.index in
    let entries = c.loop-index.into.items in
    let same = c.loop-index.invariant.same_length in
    let room : index < length entries = omega (arith, same) in
    let next : suc index ≡ index + 1 = omega arith in
    let within : index < length c.args.prices.now.energy.items = omega arith in
    record {
      here = c.pass.ensures.here;
      frontier = subst (λ (t : ℕ). IsFrontier unit prices first t
          (g.S.Shape.function c.pass.new.home c.pass.new.running)) next c.in_ok-cost.ensures.ok;
      answers = entries_more entries c.set.new.self.items index c.in_ok-cost.cost c.set.ensures.items
          (λ (k : ℕ) (e : Option ℤ). IsSpellCost unit prices first (suc k) e) c.args.first room
          c.loop-index.invariant.answers c.in_ok-cost.ensures.answer;
      others = λ k out.
          let ne : k ≢ index = λ z. elim out [
            | inl low ↦ absurd (omega (arith, low, z))
            | inr high ↦
                absurd (omega (arith, high, z, within))
          ] in
          entry_other entries c.set.new.self.items index c.in_ok-cost.cost c.set.ensures.items k ne ∙
          c.loop-index.invariant.others k out;
      same_length = ap length c.set.ensures.items ∙ length-set entries index c.in_ok-cost.cost ∙ same;
      frame = c.frames_join.ensures _ _ _ _ _ _ c.loop-index.invariant.frame c.pass.ensures.frame;
      balance = λ counts. omega (arith, c.pass.ensures.balance.sum counts, c.loop-index.invariant.balance counts);
      most = λ counts. omega (arith, c.pass.ensures.balance.most counts, c.loop-index.invariant.most counts);
    }

pub returns-in_err-cost-clause-sure : goal.returns-in_err-cost-clause-sure
returns-in_err-cost-clause-sure g c = λ counts one enough.
    let index = c.loop-index.index in
    let blocks = length c.args.curve.now.blocks.items + 5 in
    let low : index < length c.args.prices.now.energy.items = omega arith in
    let more = one_more index (length c.args.prices.now.energy.items) blocks low in
    let most = c.loop-index.invariant.most counts in
    let balance = c.loop-index.invariant.balance counts in
    absurd (never_both c.pass.result _ c.in_err-cost.was
    (c.pass.ensures.sure counts (omega (arith, one, enough, more, most, balance))))
