use Rattle.uc_prices.proofs.Common.{◌≡◌, ◌++◌, ◌∷◌, [], sym, subst, List, ℤ, arith, rules, w64, FitsSigned, to_z-of_z}
use Rattle.uc_prices.proofs.Common.{err_from_is_err_and, All, IsPriceOf, All-nil, All-push, counted}
use Rattle.uc_prices.proofs.Loops.{price_goes_on, price_ends, prices_done, prices_begin}
use Rattle.uc_prices.proofs.entries.read_entries.Goals as goal

pub loop-branch-init : goal.loop-branch-init
loop-branch-init c = record {
  count = rw c.in_ok-numbers.ensures.empty (omega arith);
  room = omega (arith, c.in_ok-numbers.ensures.room);
  fits = subst (λ (xs : List ℤ). All (IsPriceOf c.args.at.field) xs) (sym c.in_ok-numbers.ensures.empty)
      (All-nil (IsPriceOf c.args.at.field));
  so_far = rw c.in_ok-numbers.ensures.empty (prices_begin c.args.at c.args.branches.now);
}

pub returns-in_err-number-clause-value : goal.returns-in_err-number-clause-value
returns-in_err-number-clause-value c =
    let p = err_from_is_err_and c.from_residual-in_err-number.result c.from_residual-in_err-number.ensures.1 in
    rw (p.1, p.2) (price_ends c.in_err-number.field-0.0 c.args.at c.item-site.result c.args.branches.now
    c.loop-branch.branch-index c.branch-item.result c.loop-branch.numbers.items c.len.result c.loop-branch-test.true
    c.branch-item.is c.item-site.ensures c.len.ensures c.in_err-number.ensures.value c.loop-branch.invariant.so_far)

pub loop-branch-preserved : goal.loop-branch-preserved
loop-branch-preserved c =
    let fits : FitsSigned w64 c.in_ok-number.number = search rules in
    let pushed : c.push.new.self.items ≡ c.loop-branch.numbers.items ++ c.in_ok-number.number ∷ [] =
    rw (to_z-of_z w64 c.in_ok-number.number fits) at c.push.ensures.items in
    record {
      count = counted c.loop-branch.numbers.items c.push.new.self.items c.in_ok-number.number c.loop-branch.branch-index
          pushed c.loop-branch.invariant.count;
      room = omega (arith, c.push.ensures.spare, c.loop-branch.invariant.room);
      fits = rw pushed (All-push (IsPriceOf c.args.at.field) c.loop-branch.numbers.items c.in_ok-number.number
          c.loop-branch.invariant.fits (rw c.item-site.ensures at c.in_ok-number.ensures.bound));
      so_far = rw pushed (price_goes_on c.args.at c.item-site.result c.args.branches.now c.loop-branch.branch-index
          c.branch-item.result c.loop-branch.numbers.items c.len.result c.in_ok-number.number c.loop-branch-test.true
          c.branch-item.is c.item-site.ensures c.len.ensures c.in_ok-number.ensures.value
          c.loop-branch.invariant.so_far);
    }

pub returns-clause-value : goal.returns-clause-value
returns-clause-value c = prices_done c.args.at c.args.branches.now c.loop-branch.branch-index
    c.loop-branch.numbers.items c.loop-branch-test.false c.loop-branch.invariant.so_far
