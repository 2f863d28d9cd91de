use Rattle.board_core.proofs.Common.{◌≡◌, ◌<◌, length, map, sym, ap, ◌∙◌, subst, refl, All, slice_index_or, slice_set}
use Rattle.board_core.proofs.Common.{IsTotal, proposal_of, task_unit, schedule_of, Proposal, LedgerValue, with_schedule}
use Rattle.board_core.proofs.Common.{IsFirstUpTo, values_of, ℕ, length-map, ℤ, List, pos, get_or, ◌+ℤ◌, rules}
use Rattle.board_core.proofs.Common.{FitsSigned, w64}
use Rattle.board_core.proofs.Common.{w128, to_z-of_z, int_at, IsSum}
use Rattle.std.proofs.lemmas.List.{get_or_read}
use Rattle.board_core.proofs.Lemmas.{at_mapped, set_mapped, same_values}
use Rattle.board_core.proofs.ledger.Ledger.add.Goals as goal

pub index_mut-requires : goal.index_mut-requires
index_mut-requires c =
    let s = c.self.inside in
    subst (λ (n : ℕ). c.args.place < n) (length-map s.proposals.items proposal_of ∙ sym s.proposals.ok.0)
    (subst (λ (v : LedgerValue). c.args.place < length v.proposals) (sym c.self.view_is) c.requires.place)

pub add_answer-requires-clause-feasible : goal.add_answer-requires-clause-feasible
add_answer-requires-clause-feasible c = c.requires.feasible

pub index-requires : goal.index-requires
index-requires c =
    subst (λ (n : ℕ). c.args.place < n) (sym c.self.inside.earned.ok.0)
    (subst (λ (v : LedgerValue). c.args.place < length v.earned) (sym c.self.view_is) c.requires.earned_place)

pub index_mut-requires-2 : goal.index_mut-requires-2
index_mut-requires-2 c =
    subst (λ (n : ℕ). c.args.place < n) (sym c.self.inside.earned.ok.0)
    (subst (λ (v : LedgerValue). c.args.place < length v.earned) (sym c.self.view_is) c.requires.earned_place)

pub returns-clause-closed : goal.returns-clause-closed
returns-clause-closed c = ap (λ (v : LedgerValue). v.closed) c.self.view_is

pub returns-clause-opened : goal.returns-clause-opened
returns-clause-opened c = ap (λ (v : LedgerValue). v.opened) c.self.view_is

pub add_answer-requires-clause-horizon : goal.add_answer-requires-clause-horizon
add_answer-requires-clause-horizon c =
    let s = c.self.inside in
    let r = c.index_mut.result.now in
    let place = subst (λ (v : LedgerValue). c.args.place < length v.proposals) (sym c.self.view_is) c.requires.place in
    let over = subst (λ (v : LedgerValue). (d : Proposal) →
    length c.args.answer.now.response.on.items ≡ length
    (slice_index_or v.proposals c.args.place d).prices.energy) (sym c.self.view_is) c.requires.horizon in
    over (proposal_of r) ∙ ap (λ (p : Proposal). length p.prices.energy)
    (at_mapped s.proposals.items c.args.place r (proposal_of r) place c.index_mut.ensures.value)

pub add_answer-requires-clause-supply : goal.add_answer-requires-clause-supply
add_answer-requires-clause-supply c =
    let s = c.self.inside in
    let r = c.index_mut.result.now in
    let place = subst (λ (v : LedgerValue). c.args.place < length v.proposals) (sym c.self.view_is) c.requires.place in
    let small = subst (λ (v : LedgerValue). (d : Proposal) →
    All IsTotal (slice_index_or v.proposals c.args.place d).supply) (sym c.self.view_is) c.requires.supply in
    subst (λ (p : Proposal). All IsTotal p.supply)
    (at_mapped s.proposals.items c.args.place r (proposal_of r) place c.index_mut.ensures.value)
    (small (proposal_of r))

pub add_answer-requires-clause-reserve : goal.add_answer-requires-clause-reserve
add_answer-requires-clause-reserve c =
    let s = c.self.inside in
    let r = c.index_mut.result.now in
    let place = subst (λ (v : LedgerValue). c.args.place < length v.proposals) (sym c.self.view_is) c.requires.place in
    let small = subst (λ (v : LedgerValue). (d : Proposal) →
    All IsTotal (slice_index_or v.proposals c.args.place d).reserve) (sym c.self.view_is) c.requires.reserve in
    subst (λ (p : Proposal). All IsTotal p.reserve)
    (at_mapped s.proposals.items c.args.place r (proposal_of r) place c.index_mut.ensures.value)
    (small (proposal_of r))

pub returns-clause-proposals : goal.returns-clause-proposals
returns-clause-proposals c =
    let s = c.self.inside in
    let r = c.index_mut.result.now in
    let u = task_unit c.args.task.now in
    let t = schedule_of c.args.answer.now.response in
    let place = subst (λ (v : LedgerValue). c.args.place < length v.proposals) (sym c.self.view_is) c.requires.place in
    subst (λ (v : LedgerValue). (d : Proposal) →
    map proposal_of (slice_set s.proposals.items c.args.place c.add_answer.new.row) ≡ slice_set v.proposals
    c.args.place (with_schedule (slice_index_or v.proposals c.args.place d) u t)) c.self.view_is
    (λ d. set_mapped (λ (p : Proposal). with_schedule p u t) s.proposals.items c.args.place r c.add_answer.new.row d
    place c.index_mut.ensures.value c.add_answer.ensures)

pub invariant_of-self : goal.invariant_of-self
invariant_of-self c = λ some.
    let s = c.self.inside in
    let r = c.index_mut.result.now in
    let d = proposal_of r in
    let u = task_unit c.args.task.now in
    let t = schedule_of c.args.answer.now.response in
    let place = subst (λ (v : LedgerValue). c.args.place < length v.proposals) (sym c.self.view_is) c.requires.place in
    let set_is = set_mapped (λ (p : Proposal). with_schedule p u t) s.proposals.items c.args.place r
    c.add_answer.new.row d place c.index_mut.ensures.value c.add_answer.ensures in
    let same = same_values (map proposal_of s.proposals.items) c.args.place
    (with_schedule (slice_index_or (map proposal_of s.proposals.items) c.args.place d) u t) d refl in
    subst (λ values. IsFirstUpTo values s.closed s.best) (sym (ap values_of set_is ∙ same)) (c.self.invariant some)

-- what is earned so far, as the code read it
read_is : (items : List ℤ) (place : ℕ) (read : ℤ) (v : LedgerValue) → items ≡ v.earned → place < length v.earned →
    read ≡ get_or items place read → read ≡ int_at items place
read_is items place read v is lt e =
    get_or_read items place read (subst (λ (xs : List ℤ). place < length xs) (sym is) lt) e (pos 0)

pub earned_with_answer-requires : goal.earned_with_answer-requires
earned_with_answer-requires c =
    let s = c.self.inside in
    let x = c.index.result.now in
    let f : FitsSigned w128 x = search rules in
    let read = read_is s.earned.items c.args.place x c.args.self.now (ap (λ (v : LedgerValue). v.earned) c.self.view_is)
    c.requires.earned_place c.index.ensures in
    subst IsSum (sym (to_z-of_z w128 x f ∙ read))
    (subst (λ (v : LedgerValue). IsSum (int_at v.earned c.args.place)) (sym c.self.view_is) c.requires.earned)

pub returns-clause-earned : goal.returns-clause-earned
returns-clause-earned c =
    let s = c.self.inside in
    let x = c.index.result.now in
    let r = c.earned_with_answer.result in
    let f : FitsSigned w128 x = search rules in
    let h : FitsSigned w128 r = search rules in
    let a : FitsSigned w64 c.args.answer.now.earned = search rules in
    let read = read_is s.earned.items c.args.place x c.args.self.now (ap (λ (v : LedgerValue). v.earned) c.self.view_is)
    c.requires.earned_place c.index.ensures in
    let made = simp to_z-of_z at c.earned_with_answer.ensures in
    ap (λ (z : ℤ). slice_set s.earned.items c.args.place z)
    (to_z-of_z w128 r h ∙ made ∙ ap (λ (z : ℤ). z +ℤ c.args.answer.now.earned) read)
    ∙ ap (λ (v : LedgerValue). slice_set v.earned c.args.place
    (int_at v.earned c.args.place +ℤ c.args.answer.now.earned)) c.self.view_is
