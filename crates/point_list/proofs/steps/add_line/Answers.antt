use Rattle.point_list.proofs.Common.{◌≡◌, ℕ, ◌<◌, List, ◌++◌, length, take, drop, sym, ap, ◌∙◌, arith, to_z, of_z, ℤ}
use Rattle.point_list.proofs.Common.{◌*ℤ◌, w64, to_z-of_z, Knot, knot}
use Rattle.point_list.proofs.ListLaws.{written_back, written_length, IsKept, breaks, can_add, kept_breaks, sum}
use Rattle.point_list.proofs.steps.add_line.Goals as goal
use Rattle.point_list.proofs.steps.add_line.Goals.{After-deref_mut, After-line_step}

-- the knots and their count, as the step sees them
begins : (c : After-deref_mut) → (k : ℕ) → k < length c.args.knots.now.items →
    knot c.deref_mut.result.now k ≡ knot c.args.knots.now.items k
begins c k h = ap (λ (l : List Knot). knot l k) c.deref_mut.ensures.value

counted : (c : After-deref_mut) → c.len-used.result ≡ length c.args.knots.now.items
counted c = c.len-used.ensures ∙ c.args.knots.now.ok.0

kept : (c : After-line_step) → After-deref_mut →
    IsKept c.line_step.new.knots (take c.args.knots.now.len
    (c.line_step.new.knots ++ drop (length c.line_step.new.knots) c.args.knots.now.items)) c.len-used.result
kept c before =
    let ks = c.args.knots.now.items in
    let k2 = c.line_step.new.knots in
    let m = c.args.knots.now.len in
    let same : m ≡ length ks = c.args.knots.now.ok.0 in
    let used = c.len-used.ensures in
    let long : length k2 ≡ m = c.line_step.auto.knots ∙ c.deref_mut.ensures.len in
    let few = c.requires.breaks.count in
    record {
      len = written_length k2 ks m (omega arith) ∙ sym used;
      count = omega arith;
      after = λ k h. written_back k2 ks m k (omega arith) (omega arith);
    }

pub line_step-requires-clause-breaks : goal.line_step-requires-clause-breaks
line_step-requires-clause-breaks c =
    let before = (goal.at.line_step-requires-clause-breaks c).After-deref_mut in
    breaks c.knots_decide.ensures.same c.args.knots.now.items c.deref_mut.result.now c.len-used.result c.requires.breaks
    (counted before) (begins before)

pub line_step-requires-clause-fits : goal.line_step-requires-clause-fits
line_step-requires-clause-fits c =
    let before = (goal.at.line_step-requires-clause-fits c).After-deref_mut in
    let e : to_z w64 (of_z w64 c.args.slope) ≡ c.args.slope = to_z-of_z w64 _ c.ranges.slope in
    rw e (can_add c.knots_decide.ensures.same c.args.knots.now.items c.deref_mut.result.now c.len-used.result
    c.requires.breaks (counted before) (begins before) (λ (x : ℤ). c.args.slope *ℤ x) c.requires.fits)

pub returns-clause-sum : goal.returns-clause-sum
returns-clause-sum c =
    let before = (goal.at.returns-clause-sum c).After-deref_mut in
    let e : to_z w64 (of_z w64 c.args.slope) ≡ c.args.slope = to_z-of_z w64 _ c.ranges.slope in
    sum c.knots_decide.ensures.same c.args.knots.now.items c.deref_mut.result.now c.len-used.result c.requires.breaks
    (counted before) (begins before)
    c.line_step.new.knots _ c.len-used.result c.line_step.ensures.breaks
    (kept (goal.at.returns-clause-sum c).After-line_step before)
    c.operations_depend_on_values_alone.ensures.sum (λ (x : ℤ). c.args.slope *ℤ x) (rw e at c.line_step.ensures.sum)

pub returns-clause-breaks : goal.returns-clause-breaks
returns-clause-breaks c =
    let before = (goal.at.returns-clause-breaks c).After-deref_mut in
    kept_breaks c.knots_decide.ensures.same c.args.knots.now.items c.deref_mut.result.now c.len-used.result
    c.requires.breaks (counted before) (begins before)
    c.line_step.new.knots _ c.len-used.result c.line_step.ensures.breaks
    (kept (goal.at.returns-clause-breaks c).After-line_step before)
