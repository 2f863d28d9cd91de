use Rattle.uc_plan.proofs.Common.{◌≡◌, ℕ, ◌+◌, List, drop, bytes_eq, contains_by, member_views, is_among, first_unknown}
use Rattle.uc_plan.proofs.lookup.first_unknown_name.Given as goal

abbrev pub invariant-loop-member : goal.invariant-loop-member
invariant-loop-member l = record {
  count : l.position ≡ l.member-index;
  so_far : (ns : List (List ℕ)) → ((q : List ℕ) → contains_by (λ k. bytes_eq q k.now) l.names.set ≡ is_among q ns) →
      first_unknown ns (l.member-index + 1) (member_views (drop l.member-index l.known)) ≡ first_unknown ns 1
      (member_views l.known);
}
