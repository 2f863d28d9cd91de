use Rattle.ramp_step.proofs.Common.{ℕ, ◌+◌, ◌-◌, ap, sym, subst, arith, inl, inr, slice_set, w64, ints, to_z-of_z, Knot}
use Rattle.ramp_step.proofs.Common.{knot, IsOnLine, AreWithin, IsBetween, IsSplit, IsLimited, AreBelow, spaced}
use Rattle.ramp_step.proofs.Lemmas.{IsSplit-still, IsSplit-inserted, IsLimited-inserted, on_line_between}
use Rattle.ramp_step.proofs.Lemmas.{within_between, spaced_before, spaced_after, IsInserted-put, AreBelow-put}
use Rattle.ramp_step.proofs.spaced.fill.Goals as goal

pub returns-then-front-eq0-clause-split : goal.returns-then-front-eq0-clause-split
returns-then-front-eq0-clause-split c =
    IsSplit-still (spaced c.args.knots.now c.args.front c.args.room) (c.args.total - c.args.room) c.args.front c.args.x
    c.requires.stand c.requires.below (inl (omega arith))

pub returns-then-back-total-clause-split : goal.returns-then-back-total-clause-split
returns-then-back-total-clause-split c =
    IsSplit-still (spaced c.args.knots.now c.args.front c.args.room) (c.args.total - c.args.room) c.args.front c.args.x
    c.requires.stand c.requires.below (inr (inl (omega arith)))

pub returns-then-knots-back-clause-split : goal.returns-then-knots-back-clause-split
returns-then-knots-back-clause-split c =
    let at = ap (λ (q : Knot). q.at)
    (spaced_after c.args.knots.now c.args.front c.args.room c.args.front (omega arith) (omega arith)) in
    IsSplit-still (spaced c.args.knots.now c.args.front c.args.room) (c.args.total - c.args.room) c.args.front c.args.x
    c.requires.stand c.requires.below (inr (inr (omega (arith, ints))))

pub between-knot-requires : goal.between-knot-requires
between-knot-requires c =
    let ks = c.args.knots.now in
    let front = c.args.front in
    let room = c.args.room in
    let b = c.requires.below in
    let low = b.before (front - 1) (omega arith) in
    let high = b.after (omega arith) in
    let left = spaced_before ks front room (front - 1) (omega arith) (omega arith) in
    let right = spaced_after ks front room front (omega arith) (omega arith) in
    let line = on_line_between (spaced ks front room) (c.args.total - room) front c.requires.stand.0 c.requires.stand.1
    (omega arith) (omega arith) c.args.x (omega (arith, ints)) high in
    let within = within_between (spaced ks front room) (c.args.total - room) front c.requires.limits (omega arith)
    (omega arith) in
    record {
      line = rw (to_z-of_z w64 c.args.x c.ranges.x)
          (subst (λ (q : Knot). IsOnLine (knot ks (front - 1)) q c.args.x) right
          (subst (λ (p : Knot). IsOnLine p (knot (spaced ks front room) front) c.args.x) left line));
      within = subst (λ (q : Knot). AreWithin (knot ks (front - 1)) q) right
          (subst (λ (p : Knot). AreWithin p (knot (spaced ks front room) front)) left within);
    }

pub returns : goal.returns
returns c =
    let ks = c.args.knots.now in
    let front = c.args.front in
    let room = c.args.room in
    let n = c.args.total - room in
    let q : Knot = c.between-knot.result in
    let x = c.args.x in
    let left = spaced_before ks front room (front - 1) (omega arith) (omega arith) in
    let right = spaced_after ks front room front (omega arith) (omega arith) in
    let is : IsBetween (knot ks (front - 1)) (knot ks (front + room)) x q =
    rw (to_z-of_z w64 x c.ranges.x) at c.between-knot.ensures in
    let between : IsBetween (knot (spaced ks front room) (front - 1)) (knot (spaced ks front room) front) x q =
    subst (λ (b : Knot). IsBetween (knot (spaced ks front room) (front - 1)) b x q) (sym right)
    (subst (λ (a : Knot). IsBetween a (knot ks (front + room)) x q) (sym left) is) in
    let new = slice_set ks ((front + room) - 1) q in
    let put = IsInserted-put ks front room n q c.requires.some (omega arith) in
    let at = ap (λ (p : Knot). p.at) right in
    let low = c.requires.below.before (front - 1) (omega arith) in
    let high = c.requires.below.after (omega arith) in
    let p0 = (c.requires.limits.powers (front - 1) (omega arith)).0 in
    let q1 = (c.requires.limits.powers front (omega arith)).1 in
    record {
      split = subst (λ (m : ℕ). IsSplit x (spaced ks front room) n (spaced new front (room - 1)) m) (omega arith)
          (IsSplit-inserted (spaced ks front room) (spaced new front (room - 1)) n front x q c.requires.stand
          c.requires.below (omega arith) (omega arith) (λ same. omega (arith, ints)) between put);
      limits = subst (λ (m : ℕ). IsLimited (spaced new front (room - 1)) m) (omega arith)
          (IsLimited-inserted (spaced ks front room) (spaced new front (room - 1)) n front q c.requires.limits
          (omega arith) put (omega (arith, ints), omega (arith, ints)) is.amount);
      below = subst (λ (m : ℕ). AreBelow (spaced new front (room - 1)) m x front) (omega arith)
          (AreBelow-put ks front room n q c.requires.some (omega arith) x is.at c.requires.below);
      at_most = omega arith;
      charge = omega arith;
    }
