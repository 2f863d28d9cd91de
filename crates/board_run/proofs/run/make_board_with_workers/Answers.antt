use Rattle.board_run.proofs.Common.{◌≡◌, sym, ap, ◌∙◌, length, subst, ◌≤◌, All, Setup, Content, view_of, View}
use Rattle.board_run.proofs.Common.{NamedThermalUnit, IsCrew, setup_of}
use Rattle.board_run.proofs.run.make_board_with_workers.Goals as goal

pub hire_workers-requires-clause-points : goal.hire_workers-requires-clause-points
hire_workers-requires-clause-points c =
    let named : (view_of c.in_ok-board-2.owner).setup ≡ setup_of c.args.terms = ap (λ (v : View). v.setup)
    c.in_ok-board-2.ensures.view ∙ ap (λ (s : Content). s.setup) c.in_ok-board.ensures in
    subst (λ (b : Setup). All (λ (n : NamedThermalUnit). length n.unit.points ≤
    c.most_cost_points_in_case-points.result)
    b.market.thermal) (sym named) c.most_cost_points_in_case-points.ensures.each

pub returns : goal.returns
returns c =
    let named : (view_of c.in_ok-board-2.owner).setup ≡ setup_of c.args.terms = ap (λ (v : View). v.setup)
    c.in_ok-board-2.ensures.view ∙ ap (λ (s : Content). s.setup) c.in_ok-board.ensures in
    subst (λ (b : Setup). IsCrew b c.in_ok-board-2.board c.in_ok-workers.workers.items) named
    c.in_ok-workers.ensures.crew
