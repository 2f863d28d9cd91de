use Rattle.task_deal.proofs.Common.{rules, ◌≡◌, ◌∷◌, ◌++◌, [], subst, sym, ap, length, length-append, arith, AreOpen}
use Rattle.task_deal.proofs.Lemmas.{opened_on}
use Rattle.task_deal.proofs.open.open_deques.Goals as goal

pub loop-preserved : goal.loop-preserved
loop-preserved c =
    let e : c.push.new.self.items ≡ c.loop.thieves.items ++ c.in_ok-thief.thief ∷ [] = search rules in
    let f : c.push-in-loop.new.self.items ≡ c.loop.owns.items ++ c.in_ok-own.own ∷ [] = search rules in (
      omega (arith, c.loop.invariant.0, ap length f, length-append c.loop.owns.items (c.in_ok-own.own ∷ [])),
      subst (λ l. AreOpen l c.push-in-loop.new.self.items) (sym e)
          (subst (λ l. AreOpen (c.loop.thieves.items ++ c.in_ok-thief.thief ∷ []) l) (sym f)
          (opened_on c.loop.thieves.items c.loop.owns.items c.in_ok-thief.thief c.in_ok-own.own
          c.in_ok-own.ensures.1 c.in_ok-own.ensures.2 c.in_ok-own.ensures.4 c.in_ok-thief.ensures.0
          c.loop.invariant.1)),
    )
