use Rattle.price_space.proofs.Common.{◌≤◌, arith, pow-le-pow_right}
use Rattle.price_space.proofs.step.step_halving_factor.Goals as goal

pub returns-clause-high : goal.returns-clause-high
returns-clause-high c =
    let few : c.min.result ≤ 20 = omega (arith, c.min.ensures) in
    let most = pow-le-pow_right {n = 2} (omega arith) {i = c.min.result} {j = 20} few in
    omega (arith, c.pow.ensures, most)
