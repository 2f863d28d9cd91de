use Rattle.gap_proof.proofs.Common.{◌≡◌, ℕ, suc, ◌+◌, List, [], ◌∷◌, ◌++◌, map, drop, length, ap}
use Rattle.gap_proof.proofs.Common.{◌∙◌, arith, slice_get, thermal_of, WeighedSchedule}
use Rattle.plan_check.proofs.Common.{err_from_is_err_and}
use Rattle.plan_check.proofs.ToldLaws.{first_left}
use Rattle.plain_lists.proofs.ListLaws.{item_of}
use Rattle.gap_proof.specs.Mixtures.{entry_of, IsOver}
use Rattle.gap_proof.specs.MixtureRefused.{EntryRefusal, entry_refusals}
use Rattle.gap_proof.proofs.MixtureSumLaws.{entry_at}
use Rattle.gap_proof.proofs.RefusedLaws.{drop_from, refusals_split}
use Rattle.gap_proof.proofs.mixture_check.check_unit_schedules_of_mixture.Goals as goal

pub check_schedule_of_mixture-requires : goal.check_schedule_of_mixture-requires
check_schedule_of_mixture-requires c =
    record {
      over = item_of (λ (e : WeighedSchedule). IsOver (length c.args.unit.now.window.items) e.schedule)
          (map entry_of c.args.entries.now) c.loop-index.index (entry_of c.index-entries-index.result) c.requires.over
          (entry_at c.args.entries.now c.loop-index.index c.index-entries-index.result c.loop-index-test.true
          c.index-entries-index.is);
    }

pub returns-in_err-check_schedule_of_mixture : goal.returns-in_err-check_schedule_of_mixture
returns-in_err-check_schedule_of_mixture c =
    let T = length c.args.unit.now.window.items in
    let g = thermal_of c.args.unit.now in
    let k = c.loop-index.index in
    let es = map entry_of c.args.entries.now in
    let x = entry_of c.index-entries-index.result in
    let at = entry_at c.args.entries.now k c.index-entries-index.result c.loop-index-test.true
    c.index-entries-index.is in
    let p = err_from_is_err_and c.from_residual.result c.from_residual.ensures.1 in
    rw (p.1, p.2)
    (ap (λ (l : List EntryRefusal). slice_get l 0)
    (c.loop-index.invariant ∙ ap (λ (l : List WeighedSchedule). entry_refusals T c.args.number g (k + 1) l)
    (drop_from es k x at) ∙ refusals_split T c.args.number g (k + 1) x (drop (k + 1) es))
    ∙ first_left (entry_refusals T c.args.number g (k + 1) (x ∷ []))
    (entry_refusals T c.args.number g (suc (k + 1)) (drop (k + 1) es)) _ c.in_err-check_schedule_of_mixture.ensures)

pub loop-index-preserved : goal.loop-index-preserved
loop-index-preserved c =
    let T = length c.args.unit.now.window.items in
    let g = thermal_of c.args.unit.now in
    let k = c.loop-index.index in
    let es = map entry_of c.args.entries.now in
    let x = entry_of c.index-entries-index.result in
    let at = entry_at c.args.entries.now k c.index-entries-index.result c.loop-index-test.true
    c.index-entries-index.is in
    let next : suc (k + 1) ≡ k + 1 + 1 = omega arith in
    c.loop-index.invariant ∙ ap (λ (l : List WeighedSchedule). entry_refusals T c.args.number g (k + 1) l)
    (drop_from es k x at) ∙ refusals_split T c.args.number g (k + 1) x (drop (k + 1) es)
    ∙ ap (λ (l : List EntryRefusal). l ++ entry_refusals T c.args.number g (suc (k + 1)) (drop (k + 1) es))
    c.in_ok-check_schedule_of_mixture.ensures
    ∙ ap (λ (j : ℕ). entry_refusals T c.args.number g j (drop (k + 1) es)) next
