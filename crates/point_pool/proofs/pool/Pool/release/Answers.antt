use Rattle.point_pool.proofs.Common.{◌≡◌, ℕ, ◌+◌, ◌-◌, ◌<◌, arith, ap, ◌∙◌, refl, List, ◌∷◌, inl, get_or_read, walk}
use Rattle.point_pool.proofs.Common.{slot_at, no_slot, Slot, inside_if_used}
use Rattle.point_pool.proofs.Lemmas.{Releasing, releasing_more, walk_more}
use Rattle.point_pool.proofs.pool.Pool.release.Goals as goal

-- the slots still to be given back begin with the next one
first : (slots now : List Slot) (own : List ℕ) (at n : ℕ) → 0 < n → Releasing slots now own (walk now at n) →
    Releasing slots now own (at ∷ walk now (slot_at now at).next (n - 1))
first slots now own at n some r = rw (← walk_more now n at some) r

pub index-requires : goal.index-requires
index-requires c =
    let r = first _ _ _ _ _ (omega arith) c.loop-done.invariant.releasing in
    omega (
      arith,
      inside_if_used c.loop-done.self.slots.items c.loop-done.at (r.used.used c.loop-done.at (inl refl)),
      c.loop-done.self.slots.ok.0,
    )

pub put-requires : goal.put-requires
put-requires c =
    let r = first _ _ _ _ _ (omega arith) c.loop-done.invariant.releasing in
    record { used = r.used.used _ (inl refl) }

pub loop-done-preserved : goal.loop-done-preserved
loop-done-preserved c =
    let now = c.loop-done.self.slots.items in
    let at = c.loop-done.at in
    let r = first _ _ _ _ _ (omega arith) c.loop-done.invariant.releasing in
    let read : c.index.result.now ≡ slot_at now at =
    get_or_read now at _ (inside_if_used c.loop-done.self.slots.items c.loop-done.at
    (r.used.used c.loop-done.at (inl refl))) c.index.ensures no_slot in
    let less : c.args.count - (c.loop-done.done + 1) ≡ (c.args.count - c.loop-done.done) - 1 = omega arith in
    record {
      releasing = rw (c.put.ensures.slots, ap (λ s. s.next) read, less) (releasing_more _ now _ at _ r _ refl);
      spare = omega (arith, c.put.ensures.spare, c.loop-done.invariant.spare);
      work = c.put.ensures.work ∙ c.loop-done.invariant.work;
    }
