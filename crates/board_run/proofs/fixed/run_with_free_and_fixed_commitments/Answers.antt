use Rattle.board_run.proofs.Common.{rules, sym, ap, ◌∙◌, subst, Setup, IsSetup, setup_of, market_of, w128, to_z-of_z}
use Rattle.board_run.proofs.Lemmas.{held_setup_is, held_feasible, held_market, fixed_side_is}
use Rattle.board_run.proofs.fixed.run_with_free_and_fixed_commitments.Goals as goal

pub fix_commitments_of_run-requires : goal.fix_commitments_of_run-requires
fix_commitments_of_run-requires g c = subst IsSetup (sym c.in_ok-hull.ensures.terms) c.requires

pub run_with_fixed_commitments-requires-clause-setup : goal.run_with_fixed_commitments-requires-clause-setup
run_with_fixed_commitments-requires-clause-setup g c κs lives =
    held_setup_is c.plan_stays_feasible_with_fixed_commitments.ensures (setup_of c.args.terms)
    (setup_of c.in_ok-hull.terms)
    (setup_of c.in_ok-case.held) (market_of c.in_ok-case.case) c.requires
    c.in_ok-hull.ensures.terms c.in_ok-case.ensures.given c.in_ok-case.ensures.held

pub run_with_fixed_commitments-requires-clause-feasible : goal.run_with_fixed_commitments-requires-clause-feasible
run_with_fixed_commitments-requires-clause-feasible g c κs lives =
    held_feasible c.plan_stays_feasible_with_fixed_commitments.ensures (setup_of c.args.terms)
    (setup_of c.in_ok-hull.terms)
    (setup_of c.in_ok-case.held) (market_of c.in_ok-case.case) c.requires
    c.in_ok-hull.ensures.terms c.in_ok-case.ensures.given c.in_ok-case.ensures.held

pub run_with_fixed_commitments-requires-clause-held : goal.run_with_fixed_commitments-requires-clause-held
run_with_fixed_commitments-requires-clause-held g c κs lives =
    held_market c.plan_stays_feasible_with_fixed_commitments.ensures (setup_of c.args.terms)
    (setup_of c.in_ok-hull.terms)
    (setup_of c.in_ok-case.held) (market_of c.in_ok-case.case) c.requires
    c.in_ok-hull.ensures.terms c.in_ok-case.ensures.given c.in_ok-case.ensures.held

pub returns : goal.returns
returns g c = record {
  case = c.in_ok-case.ensures.given ∙ ap (λ (b : Setup). b.market) c.in_ok-hull.ensures.terms;
  cost = to_z-of_z w128 c.args.terms.cost (search rules);
  hull = c.in_ok-hull.ensures.side;
  fixed =
      fixed_side_is c.plan_stays_feasible_with_fixed_commitments.ensures (setup_of c.args.terms)
      (setup_of c.in_ok-hull.terms)
      (setup_of c.in_ok-case.held) (market_of c.in_ok-case.case) c.requires
      c.in_ok-hull.ensures.terms c.in_ok-case.ensures.given c.in_ok-case.ensures.held c.in_ok-fixed.fixed
      c.in_ok-fixed.ensures;
}
