use Rattle.board_run.proofs.Common.{◌≡◌, sym, ◌∙◌, subst, Setup, market_of, IsFeasiblePlan}
use Rattle.plan_settle.specs.FixedCase.{fixed_market}
use Rattle.plan_settle.specs.Compared.{IsPaidSide}
use Rattle.board_run.proofs.fixed.run_with_fixed_commitments.Goals as goal

pub fixed_report_side_of_fixed_run-requires-clause-feasible :
    goal.fixed_report_side_of_fixed_run-requires-clause-feasible
fixed_report_side_of_fixed_run-requires-clause-feasible g c =
    subst (λ (b : Setup). IsFeasiblePlan (market_of c.args.given.now) b.plan)
    (sym (c.run_board.ensures.setup ∙ c.in_ok-opened.ensures)) c.requires.feasible

pub fixed_report_side_of_fixed_run-requires-clause-held : goal.fixed_report_side_of_fixed_run-requires-clause-held
fixed_report_side_of_fixed_run-requires-clause-held g c =
    subst (λ (b : Setup). b.market ≡ fixed_market (market_of c.args.given.now) b.plan)
    (sym (c.run_board.ensures.setup ∙ c.in_ok-opened.ensures)) c.requires.held

pub returns : goal.returns
returns g c =
    subst (λ (b : Setup). IsPaidSide (market_of c.args.given.now) b c.fixed_report_side_of_fixed_run.result)
    (c.run_board.ensures.setup ∙ c.in_ok-opened.ensures) c.fixed_report_side_of_fixed_run.ensures
