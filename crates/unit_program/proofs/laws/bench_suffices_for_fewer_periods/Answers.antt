use Rattle.unit_program.proofs.Common.{◌+◌, ◌*◌, ◌≤◌, arith, mul-le-mul_left, mul-le-mul_right, mul-le}
use Rattle.unit_program.proofs.laws.bench_suffices_for_fewer_periods.Goals as goal

pub returns : goal.returns
returns c = λ periods points fewer less b few low h.
    let wide : fewer * (2 * less + 3) ≤ fewer * (2 * points + 3) = mul-le-mul_left fewer (omega arith) in
    let long : fewer * (2 * points + 3) ≤ periods * (2 * points + 3) = mul-le-mul_right (2 * points + 3) few in
    let entries = mul-le fewer (fewer + 3) periods (periods + 3) few (omega arith) in
    record {
      blocks = omega (arith, low);
      count = omega (arith, few);
      space = omega (arith, wide, long, h.space);
      room = h.room;
      log = omega (arith, entries, h.log);
      rows = omega (arith, few);
      origins = omega (arith, few);
      roster = omega (arith, few);
      limits = omega (arith, few);
    }
