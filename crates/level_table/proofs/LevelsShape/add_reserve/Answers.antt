use Rattle.level_table.proofs.Common.{rules, ◌≡◌, ℕ, ◌<◌, length, arith, ap, to_z, of_z, get_or, ◌++◌, List, take, drop}
use Rattle.level_table.proofs.Common.{Option, Some, refl, ℤ, pos, ◌+ℤ◌, w64, to_z-of_z, take_at, reserve_term, IsSum}
use Rattle.level_table.proofs.Common.{value-from_index, table, within_limits}
use Rattle.level_table.proofs.Lemmas.{AreWithin-from_limits, IsSum-from_index}
use Rattle.level_table.proofs.LevelsShape.add_reserve.Goals as goal
use Rattle.level_table.proofs.LevelsShape.add_reserve.Goals.{After-add_term}

pub add_term-requires-clause-fits : goal.add_term-requires-clause-fits
add_term-requires-clause-fits c = λ k h.
    let own : to_z w64 (of_z w64 c.args.self.now.lo) ≡ c.args.self.now.lo = to_z-of_z w64 _ (search rules) in
    let mu : to_z w64 (of_z w64 c.args.mu) ≡ c.args.mu = to_z-of_z w64 _ c.ranges.mu in
    let cap : to_z w64 (of_z w64 c.args.cap) ≡ c.args.cap = to_z-of_z w64 _ c.ranges.cap in
    let up : to_z w64 (of_z w64 c.args.up) ≡ c.args.up = to_z-of_z w64 _ c.ranges.up in
    let items = c.deref_mut.ensures.value in
    let inside : k < length c.args.self.now.values.items = omega (arith, ap length items) in
    let fit = c.requires.fits _ _ (value-from_index (table c.args.self.now.lo c.args.self.now.values.items) k inside) in
    rw (own, mu, cap, up, items) (reserve_term c.args.mu c.args.cap c.args.up (c.args.self.now.lo +ℤ pos k), refl, fit)

-- the new values, as they are written back, and what is added to each
record Raised (lo : ℤ) (added : ℤ → Option ℤ) (old new written : List ℤ) : Type 0 where
  same : written ≡ new
  len : length new ≡ length old
  each : (k : ℕ) → k < length old → (t : ℤ) × (added (lo +ℤ pos k) ≡ Some t) ×
      (get_or new k (pos 0) ≡ get_or old k (pos 0) +ℤ t)

raised : (c : After-add_term) → Raised c.args.self.now.lo (λ x. Some (reserve_term c.args.mu c.args.cap c.args.up x))
    c.args.self.now.values.items c.add_term.new.values
    (take c.args.self.now.values.len
    (c.add_term.new.values ++ drop (length c.add_term.new.values) c.args.self.now.values.items))
raised c =
    let own : to_z w64 (of_z w64 c.args.self.now.lo) ≡ c.args.self.now.lo = to_z-of_z w64 _ (search rules) in
    let mu : to_z w64 (of_z w64 c.args.mu) ≡ c.args.mu = to_z-of_z w64 _ c.ranges.mu in
    let cap : to_z w64 (of_z w64 c.args.cap) ≡ c.args.cap = to_z-of_z w64 _ c.ranges.cap in
    let up : to_z w64 (of_z w64 c.args.up) ≡ c.args.up = to_z-of_z w64 _ c.ranges.up in
    let items = c.deref_mut.ensures.value in
    let len : length c.add_term.new.values ≡ length c.args.self.now.values.items = omega (arith, ap length items) in
    record {
      same = take_at c.add_term.new.values _ _ (omega (arith, c.args.self.now.values.ok.0));
      len = len;
      each = rw (own, mu, cap, up, items) at c.add_term.ensures;
    }

sum : (c : After-add_term) → IsSum (reserve_term c.args.mu c.args.cap c.args.up)
    (table c.args.self.now.lo c.args.self.now.values.items) (table c.args.self.now.lo c.add_term.new.values)
sum c = let r = raised c in IsSum-from_index (reserve_term c.args.mu c.args.cap c.args.up) c.args.self.now.lo
    c.args.self.now.values.items c.add_term.new.values r.len r.each

pub invariant_of-self-clause-convex : goal.invariant_of-self-clause-convex
invariant_of-self-clause-convex c =
    let after = (goal.at.invariant_of-self-clause-convex c).After-add_term in
    rw (raised after).same (c.operations_keep_convexity.ensures.reserve c.args.mu c.args.cap c.args.up _ _ c.requires.mu
    (sum after) c.args.self.now.convex)

pub invariant_of-self-clause-within : goal.invariant_of-self-clause-within
invariant_of-self-clause-within c =
    let after = (goal.at.invariant_of-self-clause-within c).After-add_term in
    let old = within_limits c.args.self.now.lo c.args.self.now.values.items c.args.self.now.within in
    rw (raised after).same (AreWithin-from_limits c.args.self.now.lo c.add_term.new.values
    (c.operations_keep_limits.ensures.sum (reserve_term c.args.mu c.args.cap c.args.up) _ _ (sum after) c.requires.fits
    old))

pub returns-clause-ok : goal.returns-clause-ok
returns-clause-ok c =
    let after = (goal.at.returns-clause-ok c).After-add_term in
    rw (raised after).same (sum after)
