use Rattle.uc_plan.proofs.Common.{◌≡◌, ◌+◌, true, false, sym, ◌∙◌, ap, is_among, member_view}
use Rattle.uc_plan.proofs.Lemmas.{unknown_here, unknown_later, unknown_none}
use Rattle.uc_plan.proofs.lookup.first_unknown_name.Goals as goal

pub returns-then-not-contains : goal.returns-then-not-contains
returns-then-not-contains c = λ ns known.
    let strange : is_among (member_view c.member-item.result).name ns ≡ false =
    rw (← c.in_ok-name.ensures, ← c.as_str.ensures.value)
    (sym (known c.as_str.result.now) ∙ sym c.if-not-contains.ensures) in
    rw c.loop-member.invariant.count
    (unknown_here ns c.args.known.now (c.loop-member.member-index + 1) c.loop-member.member-index _
    c.member-item.result c.loop-member-test.true c.member-item.is strange (c.loop-member.invariant.so_far ns known))

pub loop-member-preserved : goal.loop-member-preserved
loop-member-preserved c = record {
  count = ap (λ n. n + 1) c.loop-member.invariant.count;
  so_far = λ ns known.
      let there : is_among (member_view c.member-item.result).name ns ≡ true =
      rw (← c.in_ok-name.ensures, ← c.as_str.ensures.value)
      (sym (known c.as_str.result.now) ∙ sym c.if-not-contains.ensures) in
      unknown_later ns c.args.known.now (c.loop-member.member-index + 1) c.loop-member.member-index _
      c.member-item.result c.loop-member-test.true c.member-item.is there (c.loop-member.invariant.so_far ns known);
}

pub returns : goal.returns
returns c = λ ns known. unknown_none ns c.args.known.now (c.loop-member.member-index + 1) c.loop-member.member-index _
    c.loop-member-test.false (c.loop-member.invariant.so_far ns known)
