use Rattle.hull_report.proofs.Common.{map, arith, length-map, market_of, named_thermal_of, mixture_of, entry_of}
use Rattle.hull_report.proofs.Common.{entries_of, mixture_text, mixture_line, mixture_lines}
use Rattle.hull_report.proofs.Common.{NamedThermalUnit, AreEntries}
use Rattle.hull_report.proofs.Common.{List, WeighedSchedule}
use Rattle.hull_report.proofs.Lemmas.{gains_at_item, exit_at_item, all_items, mixture_at, no_more_mixtures}
use Rattle.plain_lists.proofs.ListLaws.{length_same}
use Rattle.hull_report.proofs.convex.write_mixture.Goals as goal

pub get-requires-in-loop-index : goal.get-requires-in-loop-index
get-requires-in-loop-index g c =
    let m = market_of c.args.case.now in
    let x = mixture_of c.args.mixture.now in
    let same = length_same (λ (n : NamedThermalUnit) (es : List WeighedSchedule). AreEntries m.periods x.whole es)
    m.thermal x.entries c.requires.entries in
    let a = length-map c.args.case.now.thermal.items named_thermal_of in
    let b = length-map c.args.mixture.now.thermal.items entries_of in
    let test = c.loop-index-test.true in
    let end = c.len-index-end.ensures in
    omega (arith, same, a, b, test, end)

pub returns-in_err-write_unit_mixture : goal.returns-in_err-write_unit_mixture
returns-in_err-write_unit_mixture g c =
    let case = c.args.case.now in
    let x = c.args.mixture.now in
    let name = c.as_str-name.result.now in
    let es = c.as_slice-entries.result.now in
    let here = mixture_at case x c.loop-index.index c.get.result.now c.get-in-loop-index.result.now name es
    c.get.ensures.item c.get-in-loop-index.ensures.item c.as_str-name.ensures c.as_slice-entries.ensures in
    exit_at_item c.texts_written_in_turn_add_up.ensures mixture_text (mixture_lines (market_of case) (mixture_of x))
    c.loop-index.index
    (mixture_line name (map entry_of es)) _ c.from_residual.ensures.0 here.inside here.is
    c.in_err-write_unit_mixture.ensures.err c.loop-index.invariant

pub loop-index-preserved : goal.loop-index-preserved
loop-index-preserved g c =
    let case = c.args.case.now in
    let x = c.args.mixture.now in
    let name = c.as_str-name.result.now in
    let es = c.as_slice-entries.result.now in
    let here = mixture_at case x c.loop-index.index c.get.result.now c.get-in-loop-index.result.now name es
    c.get.ensures.item c.get-in-loop-index.ensures.item c.as_str-name.ensures c.as_slice-entries.ensures in
    gains_at_item c.texts_written_in_turn_add_up.ensures mixture_text (mixture_lines (market_of case) (mixture_of x))
    c.loop-index.index
    (mixture_line name (map entry_of es)) here.inside here.is c.in_ok-write_unit_mixture.ensures.ok
    c.loop-index.invariant

pub returns : goal.returns
returns g c =
    let case = c.args.case.now in
    let x = c.args.mixture.now in
    let long = no_more_mixtures case x c.requires in
    let end = c.len-index-end.ensures in
    all_items mixture_text (mixture_lines (market_of case) (mixture_of x)) c.loop-index.index (omega (arith, long, end))
    c.loop-index.invariant
