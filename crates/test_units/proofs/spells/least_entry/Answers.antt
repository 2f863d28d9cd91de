use Rattle.test_units.proofs.Common.{◌≡◌, suc, ◌+◌, ◌*◌, ◌⊎◌, Some, None, ℤ, refl, arith, IfSome, IfNone, ints}
use Rattle.test_units.proofs.Common.{thermal_of, IsLeastEntry, IsEntry, Entry, cost_at, IsWithinTimes}
use Rattle.test_units.proofs.Lemmas.{one_more_way, least_of_all, none_of_all, if_some}
use Rattle.test_units.proofs.spells.least_entry.Goals as goal

pub loop-last-init : goal.loop-last-init
loop-last-init c = record {
  of_ways = record {
    sound = λ r is. cc;
    complete = λ k v low way. (let from = c.earliest_allowed_last_on_period-last.ensures.no k way.2.off in absurd
        (omega (arith, low, from)));
    inside = λ r is. cc;
    earliest = λ r is k low way. cc;
  };
  bound = λ r is. cc;
}

pub loop-last-preserved : goal.loop-last-preserved
loop-last-preserved c =
    one_more_way (thermal_of c.args.unit.now) (cost_at c.args.rows.now) c.args.before c.loop-last.last c.loop-last.least
    c.lesser_spell_entry-least.result c.entry_after.result
    c.loop-last.invariant c.entry_after.ensures.some c.entry_after.ensures.none
    (λ e is. (let w = if_some (IsWithinTimes (2 * c.loop-last.last + 3)) c.entry_after.result e is
    c.entry_after.ensures.bound in
    record {
      at_least = omega (arith, ints, c.loop-last-test.true);
      at_most =
          omega (arith, ints, c.loop-last-test.true);
    }))
    (λ r is. if_some (λ (r : Entry). (c.loop-last.least ≡ Some r) ⊎
    ((c.entry_after.result ≡ Some r.cost) × (r.last ≡ c.loop-last.last))) c.lesser_spell_entry-least.result r is
    c.lesser_spell_entry-least.ensures.from)
    c.lesser_spell_entry-least.ensures.old c.lesser_spell_entry-least.ensures.added
    c.lesser_spell_entry-least.ensures.kept

pub returns-clause-some : goal.returns-clause-some
returns-clause-some c =
    elim (c.loop-last.least) as (λ o. c.loop-last.least ≡ o →
    IfSome o (λ e. IsLeastEntry (thermal_of c.args.unit.now) (cost_at c.args.rows.now) (suc c.args.before) e.last
    e.cost)) [
      | None ↦ λ is. tt
      | Some r ↦ λ is. least_of_all (thermal_of c.args.unit.now) (cost_at c.args.rows.now) c.args.before
          c.loop-last.last r c.loop-last.least (omega arith) c.loop-last.invariant is
    ] refl

pub returns-clause-none : goal.returns-clause-none
returns-clause-none c =
    elim (c.loop-last.least) as (λ o. c.loop-last.least ≡ o →
    IfNone o ((e : ℤ) → IsEntry (thermal_of c.args.unit.now) (cost_at c.args.rows.now) (suc c.args.before) e → ⊥)) [
      | None ↦ λ is. none_of_all (thermal_of c.args.unit.now) (cost_at c.args.rows.now) c.args.before c.loop-last.last
          c.loop-last.least (omega arith) c.loop-last.invariant is
      | Some r ↦ λ is. tt
    ] refl

pub returns-clause-bound : goal.returns-clause-bound
returns-clause-bound c =
    elim (c.loop-last.least) as (λ o. c.loop-last.least ≡ o →
    IfSome o (λ e. IsWithinTimes (2 * c.args.before + 3) e.cost)) [
      | None ↦ λ is. tt
      | Some r ↦ λ is. c.loop-last.invariant.bound r is
    ] refl
