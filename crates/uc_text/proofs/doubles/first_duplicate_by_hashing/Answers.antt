use Rattle.uc_text.proofs.Common.{ℕ, List, sym, subst, Contains, names_said}
use Rattle.std.specs.List.Sorted.{IsNonDecreasing}
use Rattle.std.proofs.lemmas.List.Sorted.{Contains-permutation, IsNonDecreasingBy-from_sort}
use Rattle.uc_text.specs.Known.{key_at}
use Rattle.uc_text.proofs.doubles.first_duplicate_by_hashing.Goals as goal

pub first_duplicate_by_hash_keys-requires-clause-keys : goal.first_duplicate_by_hash_keys-requires-clause-keys
first_duplicate_by_hash_keys-requires-clause-keys c = λ i lt.
    let key = key_at (names_said c.args.names.now) i in
    subst (λ (keys : List ℕ). Contains keys key) (sym c.deref.ensures.value)
    (Contains-permutation _ _ key c.sort_unstable.ensures.permutation (c.in_ok-keys.ensures i lt))

pub first_duplicate_by_hash_keys-requires-clause-sorted : goal.first_duplicate_by_hash_keys-requires-clause-sorted
first_duplicate_by_hash_keys-requires-clause-sorted c =
    subst IsNonDecreasing (sym c.deref.ensures.value)
    (IsNonDecreasingBy-from_sort (λ (x : ℕ). x) _ c.sort_unstable.ensures.sorted)
