use Rattle.uc_model.proofs.Common.{arith, ◌-◌, ◌*◌, ◌<◌, ◌^◌, pos, Some, List, map, length, ap, sym, ◌∙◌, to_z_pos, w64}
use Rattle.uc_model.proofs.Common.{flat_map, Lag, Point, Mark, thermal_of, lag_numbers, point_numbers, mark_number}
use Rattle.std.specs.List.{slice_get}
use Rattle.uc_model.proofs.Lemmas.{list_numbers-lags, list_numbers-count, list_numbers-points, list_numbers-marks}
use Rattle.uc_model.proofs.task_numbers.flattened_unit_lists_number_at.Goals as goal

pub returns-then-place-lags : goal.returns-then-place-lags
returns-then-place-lags c =
    let same = ap (λ (ls : List Lag). length ls) c.as_slice-lags.ensures in
    let i = c.args.place - 1 in
    c.flattened_lag_number_at.ensures
    ∙ ap (λ (ls : List Lag). slice_get (flat_map lag_numbers ls) i) c.as_slice-lags.ensures
    ∙ sym (list_numbers-lags (thermal_of c.args.u.now) c.args.place i (omega (arith, c.if-place-eq0.false))
    (omega (arith, c.if-place-eq0.false, c.if-place-lags.true, same)))

pub returns-then-place-lags-2 : goal.returns-then-place-lags-2
returns-then-place-lags-2 c =
    let same = ap (λ (ls : List Lag). length ls) c.as_slice-lags.ensures in
    let points = ap (λ (ps : List Point). length ps) c.as_slice-points.ensures in
    let few = c.args.u.now.valid.point_count in
    let fits : length c.as_slice-points.result.now < 2 ^ 63 = omega (arith, points, few) in
    ap Some (to_z_pos w64 (length c.as_slice-points.result.now) fits ∙ ap pos points)
    ∙ sym (list_numbers-count (thermal_of c.args.u.now) c.args.place (omega (arith, c.if-place-lags-2.true, same)))

pub returns-then-place-lags-3 : goal.returns-then-place-lags-3
returns-then-place-lags-3 c =
    let same = ap (λ (ls : List Lag). length ls) c.as_slice-lags.ensures in
    let points = ap (λ (ps : List Point). length ps) c.as_slice-points.ensures in
    let i = c.args.place - 2 * length c.as_slice-lags.result.now - 2 in
    c.flattened_cost_point_number_at.ensures
    ∙ ap (λ (ps : List Point). slice_get (flat_map point_numbers ps) i) c.as_slice-points.ensures
    ∙ sym (list_numbers-points (thermal_of c.args.u.now) c.args.place i
    (omega (arith, c.if-place-lags.false, c.if-place-lags-2.false, same))
    (omega (arith, c.if-place-lags.false, c.if-place-lags-2.false, c.if-place-lags-3.true, same, points)))

pub returns : goal.returns
returns c =
    let same = ap (λ (ls : List Lag). length ls) c.as_slice-lags.ensures in
    let points = ap (λ (ps : List Point). length ps) c.as_slice-points.ensures in
    let i = c.args.place - 2 * length c.as_slice-lags.result.now - 2 - 2 * length c.as_slice-points.result.now in
    c.flattened_window_mark_at.ensures
    ∙ ap (λ (ms : List Mark). slice_get (map mark_number ms) i) c.as_slice.ensures
    ∙ sym (list_numbers-marks (thermal_of c.args.u.now) c.args.place i
    (omega (arith, c.if-place-lags.false, c.if-place-lags-2.false, c.if-place-lags-3.false, same, points)))
