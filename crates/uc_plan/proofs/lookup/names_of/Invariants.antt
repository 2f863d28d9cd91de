use Rattle.uc_plan.proofs.Common.{◌≡◌, ℕ, ◌-◌, List, length, drop, map, bytes_eq, contains_by, is_among}
use Rattle.uc_plan.proofs.lookup.names_of.Given as goal

abbrev pub invariant-loop-done : goal.invariant-loop-done
invariant-loop-done g l = (q : List ℕ) → contains_by (λ k. bytes_eq q k.now) l.names.set ≡ is_among q
    (map g.N.Named.name_of (drop (length l.units - l.done) l.units))
