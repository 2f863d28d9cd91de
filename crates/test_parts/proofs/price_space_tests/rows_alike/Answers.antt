use Rattle.test_parts.proofs.Common.{◌≡◌, ℤ, pos, ◌≤ℤ◌, [], ◌∷◌, ◌++◌, length, sym, ap, ◌∙◌, subst, arith}
use Rattle.test_parts.proofs.Common.{length-append, All-push, All-same, IsRowBelow, IsWorth, market_of, proposal_of}
use Rattle.test_parts.proofs.Common.{Row}
use Rattle.test_parts.proofs.price_space_tests.rows_alike.Goals as goal

pub loop-preserved : goal.loop-preserved
loop-preserved c =
    let m = market_of c.args.case.now in
    let row = c.in_ok-row.row in
    let is = c.in_ok-row.ensures in
    let known = c.loop.invariant in
    let pushed : c.push.new.self.items ≡ c.loop.rows.items ++ row ∷ [] = c.in_ok-push.ensures.items in
    let long = ap (length {A = Row}) pushed ∙ length-append c.loop.rows.items (row ∷ []) in
    let was = known.count in
    let test = c.loop-test.true in
    let below : IsRowBelow m (pos 0) (proposal_of row) = record {
      row = record { horizon = is.horizon ∙ sym c.requires.case; supply = is.supply; reserve = is.reserve };
      value = subst IsWorth (sym is.value) (omega arith);
      at_most = subst (λ (v : ℤ). v ≤ℤ pos 0) (sym is.value) (omega arith);
    } in
    record {
      count = omega (arith, long, was);
      within = omega (arith, test);
      rows = All-same (λ (r : Row). IsRowBelow m (pos 0) (proposal_of r)) _ _ pushed
          (All-push (λ (r : Row). IsRowBelow m (pos 0) (proposal_of r)) c.loop.rows.items row known.rows below);
    }
