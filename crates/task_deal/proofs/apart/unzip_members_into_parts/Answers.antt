use Rattle.task_deal.proofs.Common.{rules, ◌≡◌, ◌+◌, ◌∙◌, ◌∷◌, [], ap, length, length-append, arith, injector_view}
use Rattle.task_deal.proofs.Common.{Account, sum_of, HasPart, source_taken}
use Rattle.task_deal.proofs.Lemmas.{merges, all_last, all_rest, sum_of_push, sum_of-append, over, over_all}
use Rattle.task_deal.proofs.apart.unzip_members_into_parts.Goals as goal

pub loop-member-preserved : goal.loop-member-preserved
loop-member-preserved g c = let inv = c.loop-member.invariant in
    let e = c.in-Some.ensures.items in
    let rest = c.pop.new.self.items in
    let m = c.in-Some.member in
    let part = all_last (λ m. HasPart c.args.source.now m.seat) c.loop-member.members.items rest m e inv.1 in
    let len : length c.loop-member.members.items ≡ length rest + 1 = ap length e ∙ length-append rest (m ∷ []) in (
      (
        c.absorb.ensures.same.0,
        c.absorb.ensures.same.1 ∙ inv.0.1,
        omega (arith, ap (λ (u : Account). u.parts) c.absorb.ensures.rule, inv.0.2, part.1, len),
        ap (λ (u : Account). u.put) c.absorb.ensures.rule ∙ inv.0.3,
      ),
      all_rest (λ m. HasPart c.args.source.now m.seat) c.loop-member.members.items rest m e inv.1,
      (
        omega (arith, inv.2.0, len, c.push_reserved.ensures.len, c.push_reserved.ensures.capacity),
        omega (arith, inv.2.1, len, c.push_reserved-in-Some.ensures.len, c.push_reserved-in-Some.ensures.capacity),
        omega (arith, inv.2.2, len, c.push_reserved-in-Some-2.ensures.len, c.push_reserved-in-Some-2.ensures.capacity),
      ),
      over (λ m. m.job) c.loop-member.members.items rest m _ _ _ e inv.3 c.push_reserved.ensures.items,
      over (λ m. m.seat.own) c.loop-member.members.items rest m _ _ _ e inv.4 c.push_reserved-in-Some.ensures.items,
      over (λ m. m.seat.purse) c.loop-member.members.items rest m _ _ _ e inv.5 c.push_reserved-in-Some-2.ensures.items,
      (λ h.
          let t = ap (sum_of (source_taken h)) e ∙ sum_of_push (source_taken h) rest m in
          let a : sum_of h (injector_view c.absorb.new.pass).taken ≡ sum_of h
          (injector_view c.loop-member.owner).taken + sum_of h (injector_view m.seat.source).taken =
          ap (λ (u : Account). sum_of h u.taken) c.absorb.ensures.rule ∙
          sum_of-append h (injector_view c.loop-member.owner).taken (injector_view m.seat.source).taken in
          omega (arith, inv.6 h, t, a)),
    )

pub absorb-requires-clause-queue : goal.absorb-requires-clause-queue
absorb-requires-clause-queue g c = (
  c.loop-member.invariant.0.0,
  (all_last (λ m. HasPart c.args.source.now m.seat) c.loop-member.members.items c.pop.new.self.items c.in-Some.member
      c.in-Some.ensures.items c.loop-member.invariant.1).0,
)

pub absorb-requires-clause-rule : goal.absorb-requires-clause-rule
absorb-requires-clause-rule g c = merges _ _ _ _ c.loop-member.invariant.0.1

pub returns : goal.returns
returns g c = let inv = c.loop-member.invariant in
    let ms = c.loop-member.members.items in
    let none : ms ≡ [] = search rules in
    record {
      jobs = over_all (λ m. m.job) ms _ _ none inv.3;
      owns = over_all (λ m. m.seat.own) ms _ _ none inv.4;
      purses = over_all (λ m. m.seat.purse) ms _ _ none inv.5;
      owner = (inv.0.0, inv.0.1, inv.0.2 ∙ ap length none, inv.0.3);
      books = λ h. omega (arith, inv.6 h, ap (sum_of (source_taken h)) none);
    }
