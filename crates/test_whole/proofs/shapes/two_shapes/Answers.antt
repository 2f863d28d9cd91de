use Rattle.test_whole.proofs.Common.{[]}
use Rattle.test_whole.proofs.shapes.two_shapes.Goals as goal
use Rattle.test_whole.proofs.shapes.two_shapes.Goals.{After-window, After-window-2, After-give_back}

-- the first shape stays in the home while the second one is made and changed
first_stays : (g : _) (c : After-window g) → g.S.Shape.is_in c.window.new.home c.expect-first.result
first_stays g c =
    let stay = c.others_stay.ensures in
    let one = stay [] _ _ _ (rw c.expect-second.ensures at c.copy.ensures.frame) c.expect-first.result
    (rw c.expect-first.ensures at c.point.ensures.here) (λ n mine theirs. absurd mine) in
    let first = stay _ _ _ _ c.window.ensures.frame c.expect-first.result one.here one.apart in
    first.here

-- the second shape stays in it while the first one is changed
second_stays : (g : _) (c : After-window-2 g) → g.S.Shape.is_in c.window-2.new.home c.window.new.self
second_stays g c =
    let stay = c.others_stay.ensures in
    let one = stay [] _ _ _ (rw c.expect-second.ensures at c.copy.ensures.frame) c.expect-first.result
    (rw c.expect-first.ensures at c.point.ensures.here) (λ n mine theirs. absurd mine) in
    let first = stay _ _ _ _ c.window.ensures.frame c.expect-first.result one.here one.apart in
    let second = stay _ _ _ _ c.window-2.ensures.frame c.window.new.self c.window.ensures.here
    (λ n mine theirs. first.apart n theirs mine) in
    second.here

-- and while the first one is given back
last_stays : (g : _) (c : After-give_back g) → g.S.Shape.is_in c.give_back.new.home c.window.new.self
last_stays g c =
    let stay = c.others_stay.ensures in
    let one = stay [] _ _ _ (rw c.expect-second.ensures at c.copy.ensures.frame) c.expect-first.result
    (rw c.expect-first.ensures at c.point.ensures.here) (λ n mine theirs. absurd mine) in
    let first = stay _ _ _ _ c.window.ensures.frame c.expect-first.result one.here one.apart in
    let second = stay _ _ _ _ c.window-2.ensures.frame c.window.new.self c.window.ensures.here
    (λ n mine theirs. first.apart n theirs mine) in
    (stay _ _ _ _ c.give_back.ensures.frame c.window.new.self second.here second.apart).here

pub has_values-requires-clause-here : goal.has_values-requires-clause-here
has_values-requires-clause-here g c = first_stays g (goal.at.has_values-requires-clause-here g c).After-window

pub window-requires-2-clause-here : goal.window-requires-2-clause-here
window-requires-2-clause-here g c = first_stays g (goal.at.window-requires-2-clause-here g c).After-window

pub has_values-requires-2-clause-here : goal.has_values-requires-2-clause-here
has_values-requires-2-clause-here g c = second_stays g (goal.at.has_values-requires-2-clause-here g c).After-window-2

pub has_values-requires-3-clause-here : goal.has_values-requires-3-clause-here
has_values-requires-3-clause-here g c = last_stays g (goal.at.has_values-requires-3-clause-here g c).After-give_back

pub give_back-requires-2 : goal.give_back-requires-2
give_back-requires-2 g c = last_stays g (goal.at.give_back-requires-2 g c).After-give_back
