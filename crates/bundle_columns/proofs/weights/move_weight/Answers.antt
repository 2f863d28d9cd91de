use Rattle.bundle_columns.proofs.Common.{arith, ints, ◌≡◌, ◌<◌, ℕ, ℤ, pos, ◌+ℤ◌, ◌-ℤ◌, length, List, Entry, IsFrom}
use Rattle.bundle_columns.proofs.Common.{entries_of, entry_of, length-map, weight_at, reweighed}
use Rattle.bundle_columns.proofs.Common.{ap, ◌∙◌, sym, subst, map}
use Rattle.bundle_columns.proofs.Common.{WeighedSchedule, most_whole, AreShares, rules, w64, FitsSigned, to_z-of_z}
use Rattle.bundle_columns.proofs.Weighing.{same_count, giver_within, taker_within, moved_shares, moved_stays, moved}
use Rattle.bundle_columns.proofs.weights.move_weight.Goals as goal
use Rattle.bundle_columns.proofs.weights.move_weight.Goals.{After-set_weight, After-set_weight-2}

less : (xs : List Entry) (k : ℕ) → k < length xs → k < length (map entry_of xs)
less xs k lt = let same = length-map xs entry_of in omega (arith, lt, same)

-- the entries after the first weight was written
given : (c : After-set_weight) → entries_of c.set_weight.new.entries ≡ moved (entries_of c.args.entries.now)
    c.args.from c.args.amount
given c =
    let fits : FitsSigned w64 c.weight_at.result = search rules in
    let amount_fits : FitsSigned w64 c.args.amount = search rules in
    let is = rw (to_z-of_z w64 c.weight_at.result fits, to_z-of_z w64 c.args.amount amount_fits)
    at c.difference_of_weights-given.ensures in
    let less_fits : FitsSigned w64 c.difference_of_weights-given.result = search rules in
    c.set_weight.ensures ∙ ap (λ (w : ℤ). reweighed (entries_of c.args.entries.now) c.args.from w)
    (to_z-of_z w64 c.difference_of_weights-given.result less_fits ∙ is ∙ ap (λ (w : ℤ). w -ℤ c.args.amount)
    c.weight_at.ensures)

count : (c : After-set_weight) → length c.set_weight.new.entries.items ≡ length c.args.entries.now.items
count c =
    let before = length-map c.args.entries.now.items entry_of in
    let after = length-map c.set_weight.new.entries.items entry_of in
    let same = ap length (given c) ∙ same_count (entries_of c.args.entries.now) c.args.from
    (weight_at (entries_of c.args.entries.now) c.args.from -ℤ c.args.amount) in
    omega (arith, before, after, same)

pub difference_of_weights-given-requires : goal.difference_of_weights-given-requires
difference_of_weights-given-requires c =
    let within = giver_within (entries_of c.args.entries.now) c.args.from c.requires.shares in
    let fits : FitsSigned w64 c.weight_at.result = search rules in
    let is = to_z-of_z w64 c.weight_at.result fits ∙ c.weight_at.ensures in
    let amount_fits : FitsSigned w64 c.args.amount = search rules in
    let same = to_z-of_z w64 c.args.amount amount_fits in
    let most = within.at_most in
    let a = c.requires.amount.at_least in
    let b = c.requires.amount.at_most in
    record {
      weight = omega (arith, ints, is, most);
      amount = record { at_least = omega (arith, ints, same, a); at_most = omega (arith, ints, same, is, b) };
    }

pub weight_at-requires-2 : goal.weight_at-requires-2
weight_at-requires-2 c =
    let same = count (goal.at.weight_at-requires-2 c).After-set_weight in
    let to = c.requires.to in
    omega (arith, same, to)

pub sum_of_two_weights-taken-requires : goal.sum_of_two_weights-taken-requires
sum_of_two_weights-taken-requires c =
    let es = entries_of c.args.entries.now in
    let lt = less c.args.entries.now.items c.args.from c.requires.from in
    let within = taker_within es c.args.from c.args.to c.args.amount lt c.requires.shares c.requires.amount in
    let fits : FitsSigned w64 c.weight_at-2.result = search rules in
    let amount_fits : FitsSigned w64 c.args.amount = search rules in
    let same = to_z-of_z w64 c.args.amount amount_fits in
    let is = to_z-of_z w64 c.weight_at-2.result fits ∙ c.weight_at-2.ensures ∙ ap (λ (l : List
    WeighedSchedule). weight_at l c.args.to)
    (given (goal.at.sum_of_two_weights-taken-requires c).After-set_weight) in
    let giver = giver_within es c.args.from c.requires.shares in
    let a = c.requires.amount.at_least in
    let b = c.requires.amount.at_most in
    let d = giver.at_most in
    record {
      weight = subst (IsFrom (pos 0) most_whole) (sym is) within;
      amount = record { at_least = omega (arith, ints, a, same); at_most = omega (arith, ints, b, d, same) };
    }

pub set_weight-requires-2 : goal.set_weight-requires-2
set_weight-requires-2 c =
    let same = count (goal.at.set_weight-requires-2 c).After-set_weight in
    let to = c.requires.to in
    omega (arith, same, to)

-- and after the second
taken : (c : After-set_weight-2) → entries_of c.set_weight.new.entries ≡ moved (entries_of c.args.entries.now)
    c.args.from c.args.amount →
    entries_of c.set_weight-2.new.entries ≡ reweighed
    (moved (entries_of c.args.entries.now) c.args.from c.args.amount) c.args.to
    (weight_at (moved (entries_of c.args.entries.now) c.args.from c.args.amount) c.args.to +ℤ c.args.amount)
taken c at =
    let fits : FitsSigned w64 c.weight_at-2.result = search rules in
    let amount_fits : FitsSigned w64 c.args.amount = search rules in
    let is = rw (to_z-of_z w64 c.weight_at-2.result fits, to_z-of_z w64 c.args.amount amount_fits)
    at c.sum_of_two_weights-taken.ensures in
    let more_fits : FitsSigned w64 c.sum_of_two_weights-taken.result = search rules in
    c.set_weight-2.ensures ∙
    ap (λ (w : ℤ). reweighed (entries_of c.set_weight.new.entries) c.args.to w)
    (to_z-of_z w64 c.sum_of_two_weights-taken.result more_fits) ∙
    ap (λ (l : List WeighedSchedule). reweighed l c.args.to c.sum_of_two_weights-taken.result) at ∙
    ap (λ (w : ℤ). reweighed (moved (entries_of c.args.entries.now) c.args.from c.args.amount) c.args.to w)
    (is ∙ ap (λ (w : ℤ). w +ℤ c.args.amount) (c.weight_at-2.ensures ∙
    ap (λ (l : List WeighedSchedule). weight_at l c.args.to) at))

pub returns-clause-stays : goal.returns-clause-stays
returns-clause-stays c =
    moved_stays (entries_of c.args.entries.now) (entries_of c.set_weight-2.new.entries) c.args.from c.args.to
    c.args.amount
    (less c.args.entries.now.items c.args.from c.requires.from) (less c.args.entries.now.items c.args.to c.requires.to)
    c.requires.shares c.requires.amount (taken c (given (goal.at.returns-clause-stays c).After-set_weight))

pub returns-clause-shares : goal.returns-clause-shares
returns-clause-shares c =
    subst (AreShares most_whole) (sym (taken c (given (goal.at.returns-clause-shares c).After-set_weight)))
    (moved_shares (entries_of c.args.entries.now) c.args.from c.args.to c.args.amount
    (less c.args.entries.now.items c.args.from c.requires.from) (less c.args.entries.now.items c.args.to c.requires.to)
    c.requires.shares c.requires.amount)

pub returns-clause-count : goal.returns-clause-count
returns-clause-count c =
    let first = count (goal.at.returns-clause-count c).After-set_weight in
    let before = length-map c.set_weight.new.entries.items entry_of in
    let after = length-map c.set_weight-2.new.entries.items entry_of in
    let same = ap length c.set_weight-2.ensures ∙ same_count (entries_of c.set_weight.new.entries) c.args.to _ in
    omega (arith, first, before, after, same)
