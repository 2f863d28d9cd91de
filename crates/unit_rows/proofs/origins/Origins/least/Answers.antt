use Rattle.unit_rows.proofs.Common.{rules, ◌≡◌, ◌⊎◌, inl, inr, ℕ, suc, ◌+◌, ◌*◌, ◌+ℤ◌, Option, Some, None, ℤ, refl}
use Rattle.unit_rows.proofs.Common.{arith, FitsSigned, IfSome, IfNone, w64, ints, to_z-of_z, thermal_of}
use Rattle.unit_rows.proofs.Common.{Entry, AreOrigins, HasEntryAtMost, IsWithinTimes, start_cost_after, IsEntry}
use Rattle.unit_rows.proofs.Common.{IsLeastEntry}
use Rattle.unit_rows.proofs.Lemmas.{if_some, one_more, least_of_origins, none_of_origins}
use Rattle.unit_rows.proofs.origins.Origins.least.Goals as goal

pub sum_of_costs-cost-requires-clause-a : goal.sum_of_costs-cost-requires-clause-a
sum_of_costs-cost-requires-clause-a c =
    let o = c.get-origin.result.now in
    let fits : FitsSigned w64 o.cost = search rules in
    let within = c.requires.within.cost c.loop-index.index o c.loop-index-test.true c.get-origin.ensures.item in
    let last = c.requires.within.last c.loop-index.index o c.loop-index-test.true c.get-origin.ensures.item in
    let r : IsWithinTimes 400 o.cost = record
    { at_least = omega (arith, ints); at_most = omega (arith, ints) } in
    simp to_z-of_z r

pub loop-index-preserved : goal.loop-index-preserved
loop-index-preserved c =
    let u = thermal_of c.args.unit.now in
    let o = c.get-origin.result.now in
    let x = c.sum_of_costs-cost.result in
    let start = c.cost_of_start_after.result in
    let least' = c.lesser_spell_entry-least.result in
    let fits : FitsSigned w64 o.cost = search rules in
    let fits_start : FitsSigned w64 start = search rules in
    let fits_sum : FitsSigned w64 x = search rules in
    let sum : x ≡ o.cost +ℤ start = simp to_z-of_z at c.sum_of_costs-cost.ensures in
    let started : start ≡ start_cost_after u o.last c.args.period = c.cost_of_start_after.ensures.value in
    let within = c.requires.within.cost c.loop-index.index o c.loop-index-test.true c.get-origin.ensures.item in
    let last = c.requires.within.last c.loop-index.index o c.loop-index-test.true c.get-origin.ensures.item in
    let from : IfSome least'
    (λ (r : Entry). (c.loop-index.least ≡ Some r) ⊎ ((Some x ≡ Some r.cost) × (r.last ≡ o.last))) = simp to_z-of_z
    at c.lesser_spell_entry-least.ensures.from in
    let added : (v : ℤ) → Some x ≡ Some v → HasEntryAtMost least' v = simp to_z-of_z at
    c.lesser_spell_entry-least.ensures.added in
    one_more u c.args.period c.args.self.now c.requires.order c.loop-index.index c.loop-index-test.true o
    c.get-origin.ensures.item x (cc)
    (record {
      at_least = omega (arith, ints);
      at_most = omega (arith, ints);
    })
    c.loop-index.least least' c.loop-index.invariant
    (λ r is. elim (if_some (λ (r : Entry). (c.loop-index.least ≡ Some r) ⊎ ((Some x ≡ Some r.cost) × (r.last ≡ o.last)))
    least' r is from) [
      | inl h ↦ inl h
      | inr h ↦ inr ((cc), h.1)
    ])
    c.lesser_spell_entry-least.ensures.old (added x refl) c.lesser_spell_entry-least.ensures.kept

pub returns-clause-some : goal.returns-clause-some
returns-clause-some c =
    let u = thermal_of c.args.unit.now in
    let end : c.loop-index.index ≡ c.args.self.now.count = omega arith in
    let all = rw end at c.loop-index.invariant in
    elim (c.loop-index.least) as (λ o. c.loop-index.least ≡ o →
    IfSome o (λ e. (ends : ℕ → Option ℤ) → AreOrigins u ends c.args.period c.args.self.now →
    IsLeastEntry u ends (suc c.args.period) e.last e.cost)) [
      | None ↦ λ is. tt
      | Some r ↦ λ is. (λ ends now. least_of_origins u c.args.period c.args.self.now ends now c.loop-index.least all r
          is)
    ] refl

pub returns-clause-none : goal.returns-clause-none
returns-clause-none c =
    let u = thermal_of c.args.unit.now in
    let end : c.loop-index.index ≡ c.args.self.now.count = omega arith in
    let all = rw end at c.loop-index.invariant in
    elim (c.loop-index.least) as (λ o. c.loop-index.least ≡ o →
    IfNone o ((ends : ℕ → Option ℤ) (e : ℤ) → AreOrigins u ends c.args.period c.args.self.now →
    IsEntry u ends (suc c.args.period) e → ⊥)) [
      | None ↦ λ is. (λ ends e now entry. none_of_origins u c.args.period c.args.self.now ends now c.loop-index.least
          all is e entry)
      | Some r ↦ λ is. tt
    ] refl

pub returns-clause-bound : goal.returns-clause-bound
returns-clause-bound c =
    elim (c.loop-index.least) as (λ o. c.loop-index.least ≡ o →
    IfSome o (λ e. IsWithinTimes (2 * c.args.period + 3) e.cost)) [
      | None ↦ λ is. tt
      | Some r ↦ λ is. c.loop-index.invariant.bound r is
    ] refl
