use Rattle.uc_mixture.proofs.Common.{List, map, sym, subst, arith, err_from_is_err_and, All, All-nil, All-push}
use Rattle.uc_mixture.proofs.Common.{map_push, counted, WeighedSchedule, entry_of, IsEntryIn}
use Rattle.gap_proof.specs.declared.mixtures.Entry.{Entry}
use Rattle.uc_mixture.proofs.Loops.{entry_goes_on, entry_ends, entries_done, entries_begin}
use Rattle.uc_mixture.proofs.entries.read_entries.Goals as goal

pub loop-branch-init : goal.loop-branch-init
loop-branch-init c = record {
  count = rw c.in_ok-entries.ensures.empty (omega arith);
  room = omega (arith, c.in_ok-entries.ensures.room);
  fits = subst (λ (es : List Entry). All (λ (e : WeighedSchedule). IsEntryIn c.args.frame e) (map entry_of es))
      (sym c.in_ok-entries.ensures.empty) (All-nil (λ (e : WeighedSchedule). IsEntryIn c.args.frame e));
  so_far = rw c.in_ok-entries.ensures.empty (entries_begin c.args.frame c.args.at c.args.branches.now);
}

pub returns-in_err-entry-clause-value : goal.returns-in_err-entry-clause-value
returns-in_err-entry-clause-value c =
    let p = err_from_is_err_and c.from_residual-in_err-entry.result c.from_residual-in_err-entry.ensures.1 in
    rw (p.1, p.2) (entry_ends c.in_err-entry.field-0.0 c.args.frame c.args.at c.entry-site.result c.args.branches.now
    c.loop-branch.branch-index c.branch-item.result c.loop-branch.entries.items c.len.result c.loop-branch-test.true
    c.branch-item.is c.entry-site.ensures c.len.ensures c.in_err-entry.ensures.value c.loop-branch.invariant.so_far)

pub loop-branch-preserved : goal.loop-branch-preserved
loop-branch-preserved c = record {
  count = counted c.loop-branch.entries.items c.push.new.self.items c.in_ok-entry.entry c.loop-branch.branch-index
      c.push.ensures.items c.loop-branch.invariant.count;
  room = omega (arith, c.push.ensures.spare, c.loop-branch.invariant.room);
  fits = rw (c.push.ensures.items, map_push entry_of c.loop-branch.entries.items c.in_ok-entry.entry)
      (All-push (λ (e : WeighedSchedule). IsEntryIn c.args.frame e) (map entry_of c.loop-branch.entries.items)
      (entry_of c.in_ok-entry.entry) c.loop-branch.invariant.fits c.in_ok-entry.ensures.fits);
  so_far = rw c.push.ensures.items (entry_goes_on c.args.frame c.args.at c.entry-site.result c.args.branches.now
      c.loop-branch.branch-index c.branch-item.result c.loop-branch.entries.items c.len.result c.in_ok-entry.entry
      c.loop-branch-test.true c.branch-item.is c.entry-site.ensures c.len.ensures c.in_ok-entry.ensures.value
      c.loop-branch.invariant.so_far);
}

pub returns-clause-value : goal.returns-clause-value
returns-clause-value c = entries_done c.args.frame c.args.at c.args.branches.now c.loop-branch.branch-index
    c.loop-branch.entries.items c.loop-branch-test.false c.loop-branch.invariant.so_far
