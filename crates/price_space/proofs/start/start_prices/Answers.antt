use Rattle.price_space.proofs.Common.{rules, ℤ, ◌++◌, [], ◌∷◌, List, FitsSigned, map, ap, sym, ◌∙◌, arith, to_z-of_z}
use Rattle.price_space.proofs.Common.{w64, range_with_len, market_of, start_price}
use Rattle.std.proofs.lemmas.List.FromFn.{map-range_with_len_more}
use Rattle.price_space.proofs.start.start_prices.Goals as goal

pub loop-k-preserved : goal.loop-k-preserved
loop-k-preserved c =
    let m = market_of c.args.case.now in
    let k = c.loop-k.k in
    let a : FitsSigned w64 c.start_price_of_period.result = search rules in
    let items = simp to_z-of_z at c.push.ensures.items in
    let more = map-range_with_len_more (start_price m) 0 c.loop-k.k c.loop-k.k (omega arith) in
    let room = c.loop-k.invariant.room in
    let spare = c.push.ensures.spare in
    record {
      so_far = items
          ∙ ap (λ (xs : List ℤ). xs ++ c.start_price_of_period.result ∷ []) c.loop-k.invariant.so_far
          ∙ ap (λ (z : ℤ). map (start_price m) (range_with_len 0 c.loop-k.k) ++ z ∷ []) c.start_price_of_period.ensures
          ∙ sym more;
      room = omega (arith, room, spare);
    }
