use Rattle.slope_list.proofs.Common.{arith, rules, FitsSigned, pos, w64, ints, clamps, to_z-of_z, by_lt_z}
use Rattle.slope_list.proofs.kink.piece_less_reserve.Goals as goal

pub returns : goal.returns
returns c =
    let f : FitsSigned w64 c.power_where_reserve_is_capped-bend.result = search rules in
    let e = to_z-of_z w64 c.power_where_reserve_is_capped-bend.result f in
    record {
      below = λ paid low. let b = c.power_where_reserve_is_capped-bend.ensures.paid paid in
          (omega (arith, ints, clamps), omega (arith, ints));
      above = λ high. by_lt_z (pos 0) c.args.step.reserve_price
          (λ paid. let b = c.power_where_reserve_is_capped-bend.ensures.paid paid in
          absurd (omega (arith, ints))) (λ free. let b = c.power_where_reserve_is_capped-bend.ensures.free free in
          absurd (omega (arith, ints)));
      free = λ none. let b = c.power_where_reserve_is_capped-bend.ensures.free none in absurd (omega (arith, ints));
    }
