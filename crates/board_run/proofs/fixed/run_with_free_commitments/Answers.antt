use Rattle.board_run.proofs.Common.{◌∙◌, ap, sym, length, length-replicate, subst, Setup}
use Rattle.plan_settle.specs.Compared.{IsOwnSide}
use Rattle.board_run.proofs.fixed.run_with_free_commitments.Goals as goal

pub returns-clause-side : goal.returns-clause-side
returns-clause-side g c =
    subst (λ (b : Setup). IsOwnSide b c.fixed_report_side_of_free_run.result.0)
    (c.run_board.ensures.setup ∙ c.in_ok-opened.ensures)
    c.fixed_report_side_of_free_run.ensures.side

pub returns-clause-terms : goal.returns-clause-terms
returns-clause-terms g c = c.fixed_report_side_of_free_run.ensures.terms ∙ c.run_board.ensures.setup ∙
    c.in_ok-opened.ensures

pub fixed_report_side_of_free_run-requires-clause-horizon : goal.fixed_report_side_of_free_run-requires-clause-horizon
fixed_report_side_of_free_run-requires-clause-horizon g c = ap length c.in_ok-room.ensures.energy ∙ length-replicate _
    _ ∙ sym
    (ap (λ (b : Setup). b.market.periods) (c.run_board.ensures.setup ∙ c.in_ok-opened.ensures))
