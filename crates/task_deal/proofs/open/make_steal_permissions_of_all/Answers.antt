use Rattle.task_deal.proofs.Common.{rules, ◌≡◌, ◌∙◌, ◌∷◌, ◌++◌, [], ap, length, length-append, arith, sum_of, AreParts}
use Rattle.task_deal.proofs.Common.{taken_by, refl, sym, subst, All, Each, Stands}
use Rattle.task_deal.proofs.Lemmas.{sum_of_push, all_push}
use Rattle.task_deal.proofs.open.make_steal_permissions_of_all.Goals as goal

pub loop-out-preserved : goal.loop-out-preserved
loop-out-preserved c = let inv = c.loop-out.invariant in let p = c.in_ok-purse.purse in
    let e : c.push.new.self.items ≡ c.loop-out.purses.items ++ p ∷ [] = search rules in (
      c.in_ok-purse.ensures.count,
      c.in_ok-purse.ensures.owns,
      (λ h. (
        omega (arith, (inv.2 h).0, (c.in_ok-purse.ensures.books h).0),
        (c.in_ok-purse.ensures.books h).1 ∙
            (inv.2 h).1,
      )),
      omega (arith, inv.3, ap length e, length-append c.loop-out.purses.items (p ∷ [])),
      all_push (λ p. AreParts c.args.shared.now.thieves.items p.items) c.loop-out.purses.items p _ e inv.4
          c.in_ok-purse.ensures.purse.0,
      (λ h. omega (
        arith,
        inv.5 h,
        c.in_ok-purse.ensures.purse.1 h,
        ap (sum_of (λ p. taken_by h p.items)) e,
        sum_of_push (λ p. taken_by h p.items) c.loop-out.purses.items p,
      )),
    )

pub loop-out-init : goal.loop-out-init
loop-out-init c = let none = c.new-purses.ensures.items in (
  c.requires.count,
  c.requires.owns,
  (λ h. (omega arith, refl)),
  ap length none,
  subst (All (λ p. AreParts c.args.shared.now.thieves.items p.items)) (sym none)
      (λ k d le. absurd (omega (arith, le))),
  (λ h. ap (sum_of (λ p. taken_by h p.items)) none),
)

pub make_steal_permissions_of_worker-requires-clause-count : goal.make_steal_permissions_of_worker-requires-clause-count
make_steal_permissions_of_worker-requires-clause-count c = c.loop-out.invariant.0

pub make_steal_permissions_of_worker-requires-clause-owns : goal.make_steal_permissions_of_worker-requires-clause-owns
make_steal_permissions_of_worker-requires-clause-owns c = c.loop-out.invariant.1

pub returns-clause-count : goal.returns-clause-count
returns-clause-count c = c.loop-out.invariant.0

pub returns-clause-owns : goal.returns-clause-owns
returns-clause-owns c =
    let all : c.loop-out.out ≡ c.args.count = omega (arith, c.loop-out-test.false, c.loop-out.auto.out-end) in
    subst (λ k. Each (Stands c.args.shared.now.thieves.items k) 0 (length c.args.shared.now.thieves.items)
    c.loop-out.owns.items) all c.loop-out.invariant.1

pub returns-clause-books : goal.returns-clause-books
returns-clause-books c = c.loop-out.invariant.2

pub returns-clause-purses : goal.returns-clause-purses
returns-clause-purses c =
    let all : c.loop-out.out ≡ c.args.count = omega (arith, c.loop-out-test.false, c.loop-out.auto.out-end) in
    (c.loop-out.invariant.3 ∙ all, c.loop-out.invariant.4, c.loop-out.invariant.5)
