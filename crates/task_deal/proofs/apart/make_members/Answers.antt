use Rattle.task_deal.proofs.Common.{rules, ◌≡◌, ◌+◌, ◌∙◌, ◌∷◌, ◌++◌, [], ap, sym, subst, length, length-append, arith}
use Rattle.task_deal.proofs.Common.{injector_view, Account, Member, account, sum_of, HasPart, source_taken, All}
use Rattle.task_deal.proofs.Common.{append-nil, backwards, refl}
use Rattle.task_deal.proofs.Lemmas.{forks, all_push, no_items, sum_of_push, under}
use Rattle.task_deal.proofs.apart.make_members.Goals as goal

pub loop-job-preserved : goal.loop-job-preserved
loop-job-preserved g c = let inv = c.loop-job.invariant in
    let p = c.another-pass in
    let m : Member g.row.J.Denot = record {
      job = c.in-Some.job;
      seat =
          record { source = p.result; own = c.unwrap-own.result; purse = c.unwrap-purse.result };
    } in
    let e : c.push_reserved.new.self.items ≡ c.loop-job.members.items ++ m ∷ [] = c.push_reserved.ensures.items in
    let n : length c.push_reserved.new.self.items ≡ length c.loop-job.members.items + 1 =
    ap length e ∙ length-append c.loop-job.members.items (m ∷ []) in
    let j : c.loop-job.jobs.items ≡ c.pop.new.self.items ++ c.in-Some.job ∷ [] = c.in-Some.ensures.items in
    let o : c.loop-job.owns.items ≡ c.pop-in-Some.new.self.items ++ c.unwrap-own.result ∷ [] = search rules in
    let q : c.loop-job.purses.items ≡ c.pop-in-Some-2.new.self.items ++ c.unwrap-purse.result ∷ [] = search rules in
    let lj = ap length j ∙ length-append c.pop.new.self.items (c.in-Some.job ∷ []) in
    let lo = ap length o ∙ length-append c.pop-in-Some.new.self.items (c.unwrap-own.result ∷ []) in
    let lq = ap length q ∙ length-append c.pop-in-Some-2.new.self.items (c.unwrap-purse.result ∷ []) in (
      (
        p.ensures.same.0,
        p.ensures.same.1 ∙ inv.0.1,
        subst (λ k. injector_view p.new.pass ≡ account k (injector_view c.args.owner.now).put
            (injector_view c.args.owner.now).taken) (sym n)
            (p.ensures.rule.0 ∙ ap (λ (u : Account). account (u.parts + 1) u.put u.taken) inv.0.2),
      ),
      (
        all_push (λ m. HasPart c.args.source.now m.seat) c.loop-job.members.items m _ e inv.1.0
            (p.ensures.same.2, ap (λ (u : Account). u.parts) p.ensures.rule.1),
        (λ h. omega (
          arith,
          ap (sum_of (source_taken h)) e,
          sum_of_push (source_taken h) c.loop-job.members.items m,
          inv.1.1 h,
          ap (λ (u : Account). sum_of h u.taken) p.ensures.rule.1,
        )),
      ),
      (
        omega (arith, inv.2.0, lj, lo),
        omega (arith, inv.2.1, lj, lq),
        omega (arith, inv.2.2, lj, n, c.push_reserved.ensures.capacity),
      ),
      under (λ m. m.job) c.loop-job.members.items _ m _ _ _ j e inv.3,
      under (λ m. m.seat.own) c.loop-job.members.items _ m _ _ _ o e inv.4,
      under (λ m. m.seat.purse) c.loop-job.members.items _ m _ _ _ q e inv.5,
      (
        c.in-Some.ensures.capacity ∙ inv.6.0,
        c.pop-in-Some.ensures.capacity ∙ inv.6.1,
        c.pop-in-Some-2.ensures.capacity ∙ inv.6.2,
      ),
    )

pub another-pass-requires-clause-queue : goal.another-pass-requires-clause-queue
another-pass-requires-clause-queue g c = c.loop-job.invariant.0.0

pub another-pass-requires-clause-rule : goal.another-pass-requires-clause-rule
another-pass-requires-clause-rule g c = forks _ _ c.loop-job.invariant.0.1

pub loop-job-init : goal.loop-job-init
loop-job-init g c = let none = c.requires.empty in
    let v = injector_view c.args.owner.now in (
      (
        c.requires.owner.0,
        c.requires.owner.1,
        ap (λ k. account k v.put v.taken) (c.requires.owner.2 ∙ sym (ap length none)),
      ),
      (
        subst (All (λ (m : Member g.row.J.Denot). HasPart c.args.source.now m.seat)) (sym none)
            (λ k d le. absurd (omega (arith, le))),
        (λ h. ap (sum_of (source_taken h)) none),
      ),
      (c.requires.owns, c.requires.purses, omega (arith, c.requires.room, ap length none)),
      ap (λ l. c.args.jobs.now.items ++ backwards (λ m. m.job) l) none ∙ append-nil c.args.jobs.now.items,
      ap (λ l. c.args.owns.now.items ++ backwards (λ m. m.seat.own) l) none ∙ append-nil c.args.owns.now.items,
      ap (λ l. c.args.purses.now.items ++ backwards (λ m. m.seat.purse) l) none ∙ append-nil c.args.purses.now.items,
      (refl, refl, refl),
    )

pub returns-clause-jobs : goal.returns-clause-jobs
returns-clause-jobs g c = let none : c.loop-job.jobs.items ≡ [] = search rules in
    ap (λ l. l ++ backwards (λ m. m.job) c.loop-job.members.items) (sym none) ∙ c.loop-job.invariant.3

pub returns-clause-owns : goal.returns-clause-owns
returns-clause-owns g c = let none : c.loop-job.jobs.items ≡ [] = search rules in
    let all = no_items c.loop-job.owns.items (c.loop-job.invariant.2.0 ∙ ap length none) in
    ap (λ l. l ++ backwards (λ m. m.seat.own) c.loop-job.members.items) (sym all) ∙ c.loop-job.invariant.4

pub returns-clause-purses : goal.returns-clause-purses
returns-clause-purses g c = let none : c.loop-job.jobs.items ≡ [] = search rules in
    let all = no_items c.loop-job.purses.items (c.loop-job.invariant.2.1 ∙ ap length none) in
    ap (λ l. l ++ backwards (λ m. m.seat.purse) c.loop-job.members.items) (sym all) ∙ c.loop-job.invariant.5

pub returns-clause-members : goal.returns-clause-members
returns-clause-members g c = c.loop-job.invariant.1

pub returns-clause-owner : goal.returns-clause-owner
returns-clause-owner g c = c.loop-job.invariant.0
