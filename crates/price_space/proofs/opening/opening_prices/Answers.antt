use Rattle.price_space.proofs.Common.{ℕ, pos, replicate, ap, sym, ◌∙◌}
use Rattle.price_space.proofs.Lemmas.{opening_is}
use Rattle.price_space.proofs.opening.opening_prices.Goals as goal

pub returns : goal.returns
returns c =
    opening_is c.args.n c.args.start.now.items c.write_opening_energy.new.into.items c.write_zeros.new.into.items
    c.write_opening_energy.ensures.prices
    (c.write_zeros.ensures.zeros ∙ ap (λ (n : ℕ). replicate n (pos 0))
    (sym c.args.into.now.valid.lengths ∙ c.requires.lengths))
