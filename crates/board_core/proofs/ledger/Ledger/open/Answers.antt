use Rattle.board_core.proofs.Common.{◌≡◌, ◌<◌, length, map, sym, ap, ◌∙◌, subst, refl, slice_index_or, slice_set}
use Rattle.board_core.proofs.Common.{proposal_of, prices_of, Proposal, LedgerValue, with_prices, IsFirstUpTo, values_of}
use Rattle.board_core.proofs.Common.{ℕ, ◌+◌, length-map}
use Rattle.board_core.proofs.Lemmas.{at_mapped, set_mapped, same_values}
use Rattle.board_core.proofs.ledger.Ledger.open.Goals as goal

pub index_mut-requires : goal.index_mut-requires
index_mut-requires c =
    let s = c.self.inside in
    subst (λ (n : ℕ). s.opened < n) (length-map s.proposals.items proposal_of ∙ sym s.proposals.ok.0)
    (subst (λ (v : LedgerValue). v.opened < length v.proposals) (sym c.self.view_is) c.requires.place)

pub returns-clause-earned : goal.returns-clause-earned
returns-clause-earned c = ap (λ (v : LedgerValue). v.earned) c.self.view_is

pub returns-clause-closed : goal.returns-clause-closed
returns-clause-closed c = ap (λ (v : LedgerValue). v.closed) c.self.view_is

pub returns-clause-opened : goal.returns-clause-opened
returns-clause-opened c = ap (λ (v : LedgerValue). v.opened + 1) c.self.view_is

pub set_prices_of_row-requires : goal.set_prices_of_row-requires
set_prices_of_row-requires c =
    let s = c.self.inside in
    let r = c.index_mut.result.now in
    let place = subst (λ (v : LedgerValue). v.opened < length v.proposals) (sym c.self.view_is) c.requires.place in
    let over = subst (λ (v : LedgerValue). (d : Proposal) →
    length c.args.prices.now.energy.items ≡ length (slice_index_or v.proposals v.opened d).prices.energy)
    (sym c.self.view_is) c.requires.horizon in
    over (proposal_of r) ∙ ap (λ (p : Proposal). length p.prices.energy)
    (at_mapped s.proposals.items s.opened r (proposal_of r) place c.index_mut.ensures.value)

pub returns-clause-proposals : goal.returns-clause-proposals
returns-clause-proposals c =
    let s = c.self.inside in
    let r = c.index_mut.result.now in
    let π = prices_of c.args.prices.now in
    let place = subst (λ (v : LedgerValue). v.opened < length v.proposals) (sym c.self.view_is) c.requires.place in
    subst (λ (v : LedgerValue). (d : Proposal) →
    map proposal_of (slice_set s.proposals.items s.opened c.set_prices_of_row.new.row) ≡ slice_set v.proposals v.opened
    (with_prices (slice_index_or v.proposals v.opened d) π)) c.self.view_is
    (λ d. set_mapped (λ (p : Proposal). with_prices p π) s.proposals.items s.opened r c.set_prices_of_row.new.row d
    place
    c.index_mut.ensures.value c.set_prices_of_row.ensures)

pub invariant_of-self : goal.invariant_of-self
invariant_of-self c = λ some.
    let s = c.self.inside in
    let r = c.index_mut.result.now in
    let d = proposal_of r in
    let π = prices_of c.args.prices.now in
    let place = subst (λ (v : LedgerValue). v.opened < length v.proposals) (sym c.self.view_is) c.requires.place in
    let set_is = set_mapped (λ (p : Proposal). with_prices p π) s.proposals.items s.opened r
    c.set_prices_of_row.new.row d
    place c.index_mut.ensures.value c.set_prices_of_row.ensures in
    let same = same_values (map proposal_of s.proposals.items) s.opened
    (with_prices (slice_index_or (map proposal_of s.proposals.items) s.opened d) π) d refl in
    subst (λ values. IsFirstUpTo values s.closed s.best) (sym (ap values_of set_is ∙ same)) (c.self.invariant some)
