use Rattle.board_core.proofs.Common.{rules, ◌≡◌, ◌+◌, ◌<◌, List, length, map, sym, ap, subst, ◌∙◌, FitsSigned}
use Rattle.board_core.proofs.Common.{to_z-of_z, w128, slice_index_or, slice_set, proposal_of, Proposal, Row}
use Rattle.board_core.proofs.Common.{LedgerValue, with_value, IsFirstUpTo, values_of, ℕ, length-map}
use Rattle.board_core.proofs.Lemmas.{set_mapped, kept_first}
use Rattle.board_core.proofs.ledger.Ledger.close.Goals as goal

pub index_mut-requires : goal.index_mut-requires
index_mut-requires c =
    let s = c.self.inside in
    subst (λ (n : ℕ). s.closed < n) (length-map s.proposals.items proposal_of ∙ sym s.proposals.ok.0)
    (subst (λ (v : LedgerValue). v.closed < length v.proposals) (sym c.self.view_is) c.requires)

pub returns-clause-earned : goal.returns-clause-earned
returns-clause-earned c = ap (λ (v : LedgerValue). v.earned) c.self.view_is

pub returns-clause-opened : goal.returns-clause-opened
returns-clause-opened c = ap (λ (v : LedgerValue). v.opened) c.self.view_is

pub returns-clause-closed : goal.returns-clause-closed
returns-clause-closed c = ap (λ (v : LedgerValue). v.closed + 1) c.self.view_is

pub returns-clause-proposals : goal.returns-clause-proposals
returns-clause-proposals c =
    let s = c.self.inside in
    let r = c.index_mut.result.now in
    let place = subst (λ (v : LedgerValue). v.closed < length v.proposals) (sym c.self.view_is) c.requires in
    let f : FitsSigned w128 c.args.value = search rules in
    let made = simp to_z-of_z at c.set_dual_value_of_row.ensures in
    subst (λ (v : LedgerValue). (d : Proposal) →
    map proposal_of (slice_set s.proposals.items s.closed c.set_dual_value_of_row.new.row) ≡ slice_set v.proposals
    v.closed
    (with_value (slice_index_or v.proposals v.closed d) c.args.value)) c.self.view_is
    (λ d. set_mapped (λ (p : Proposal). with_value p c.args.value) s.proposals.items s.closed r
    c.set_dual_value_of_row.new.row d
    place c.index_mut.ensures.value made)

pub row_of_greatest_dual_value_up_to-best-requires-clause-best :
    goal.row_of_greatest_dual_value_up_to-best-requires-clause-best
row_of_greatest_dual_value_up_to-best-requires-clause-best c = λ some.
    let s = c.self.inside in
    let r = c.index_mut.result.now in
    let place = subst (λ (v : LedgerValue). v.closed < length v.proposals) (sym c.self.view_is) c.requires in
    let f : FitsSigned w128 c.args.value = search rules in
    let made = simp to_z-of_z at c.set_dual_value_of_row.ensures in
    let d = proposal_of r in
    let set_is = set_mapped (λ (p : Proposal). with_value p c.args.value) s.proposals.items s.closed r
    c.set_dual_value_of_row.new.row d place c.index_mut.ensures.value made in
    subst (λ ps. IsFirstUpTo (values_of ps) s.closed s.best)
    (sym (ap (λ (xs : List Row). map proposal_of xs) c.deref.ensures.value ∙ set_is))
    (kept_first (map proposal_of s.proposals.items) s.closed s.best
    (with_value (slice_index_or (map proposal_of s.proposals.items) s.closed d) c.args.value)
    (c.self.invariant some))

pub invariant_of-self : goal.invariant_of-self
invariant_of-self c =
    λ _. subst (λ (xs : List Row). IsFirstUpTo (values_of (map proposal_of xs)) (c.self.inside.closed + 1)
    c.row_of_greatest_dual_value_up_to-best.result) c.deref.ensures.value
    c.row_of_greatest_dual_value_up_to-best.ensures
