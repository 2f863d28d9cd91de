use Rattle.price_space.proofs.Common.{◌+◌, List, get_or, subst, ◌∙◌, arith, IsPermutation, Priced}
use Rattle.price_space.proofs.Lemmas.{rising_from, not_under, units_same}
use Rattle.price_space.proofs.start.units_by_rising_full_load_price.Goals as goal

pub returns : goal.returns
returns c =
    let sorted = c.sort_unstable.new.self.items in
    let e = c.in_ok-units.ensures in
    record {
      permutation = subst (λ (xs : List Priced). IsPermutation xs c.sort_unstable.new.self.items)
          (e ∙ units_same c.args.case.now.thermal.items) c.sort_unstable.ensures.permutation;
      rising = rising_from c.sort_unstable.new.self.items (λ k d l.
          not_under (get_or c.sort_unstable.new.self.items k d) (get_or c.sort_unstable.new.self.items (k + 1) d)
          (c.sort_unstable.ensures.sorted k d (omega arith) l));
    }
