-- A walk over the blocks of a curve.
use Rattle.slope_list.proofs.Common.{◌≡◌, ℕ, suc, ◌<◌, length, Some, sym, ap, ◌∙◌, arith, ℤ, ◌+ℤ◌, ◌-ℤ◌, ◌*ℤ◌, ◌≤ℤ◌}
use Rattle.slope_list.proofs.Common.{◌<ℤ◌, FitsSigned, w64, ints, Curve, curve_value, end_of, IsLimitedCurve, width_to}
use Rattle.slope_list.proofs.Common.{CanGo, rise_at, block, IsTotal}
use Rattle.slope_list.proofs.BlockLaws.{rise_to, wide_of, width_to-next, rise_to-next, value_in_block, block_power}
use Rattle.slope_list.proofs.BlockLaws.{end_of-width, rise_at_end, curve_value_is, width_to-positive}
use Rattle.slope_list.proofs.WrapLaws.{coded, total_fits, coded_is}
use Rattle.slope_list.proofs.LineLaws.{times_none}

module _ (c : Curve) (limited : IsLimitedCurve c) (k : ℕ) (inside : k < length c.blocks.items) (from value : ℤ)
    (from_is : from ≡ c.at +ℤ width_to c.blocks.items k) (value_is : value ≡ rise_to c.blocks.items k +ℤ c.value) where
  stop_is : from +ℤ (block c.blocks.items k).width ≡ c.at +ℤ width_to c.blocks.items (suc k)
  stop_is = let n = width_to-next c.blocks.items k inside in omega (arith, ints)

  width_total : IsTotal (block c.blocks.items k).width
  width_total =
      let p = block_power c limited k (omega arith) in
      let q = block_power c limited (suc k) inside in
      let n = width_to-next c.blocks.items k inside in
      let pa = p.0 in let pb = p.1 in let qa = q.0 in let qb = q.1 in
      record { at_least = omega (arith, ints); at_most = omega (arith, ints) }

  stop_total : IsTotal (from +ℤ (block c.blocks.items k).width)
  stop_total =
      let q = block_power c limited (suc k) inside in
      let s = stop_is in
      let qa = q.0 in let qb = q.1 in
      record { at_least = omega (arith, ints); at_most = omega (arith, ints) }

  pub fits_stop : FitsSigned w64 (from +ℤ coded (block c.blocks.items k).width)
  fits_stop = rw (coded_is (block c.blocks.items k).width width_total)
      (total_fits (from +ℤ (block c.blocks.items k).width) stop_total)

  once : coded (from +ℤ coded (block c.blocks.items k).width) ≡ from +ℤ (block c.blocks.items k).width
  once = rw (coded_is (block c.blocks.items k).width width_total)
      (coded_is (from +ℤ (block c.blocks.items k).width) stop_total)

  pub coded_stop : coded (coded (from +ℤ coded (block c.blocks.items k).width)) ≡ c.at +ℤ width_to c.blocks.items
      (suc k)
  coded_stop = rw once (coded_is (from +ℤ (block c.blocks.items k).width) stop_total ∙ stop_is)

  pub block_rises : from ≤ℤ (c.at +ℤ width_to c.blocks.items (suc k))
  block_rises = let n = width_to-next c.blocks.items k inside in let w = wide_of c limited k inside in
      omega (arith, ints)

  pub rise_on : value +ℤ (block c.blocks.items k).price *ℤ ((c.at +ℤ width_to c.blocks.items (suc k)) -ℤ from) ≡ rise_to
      c.blocks.items (suc k) +ℤ c.value
  rise_on =
      let s = stop_is in
      let e = ap (λ (z : ℤ). (block c.blocks.items k).price *ℤ z)
      {x = (c.at +ℤ width_to c.blocks.items (suc k)) -ℤ from} {y = (block c.blocks.items k).width}
      (omega (arith, ints)) in
      let n = rise_to-next c.blocks.items k inside in
      omega (arith, ints)

  module _ (x : ℤ) (low : from ≤ℤ x) (high : x ≤ℤ (c.at +ℤ width_to c.blocks.items (suc k))) where
    pub value_to : curve_value c x ≡ Some (value +ℤ (block c.blocks.items k).price *ℤ (x -ℤ from))
    value_to =
        let v = value_in_block c (wide_of c limited) k inside x (omega (arith, ints)) high in
        let e = ap (λ (z : ℤ). (block c.blocks.items k).price *ℤ (x -ℤ z)) from_is in
        v ∙ ap Some (omega (arith, ints))

    pub may_go : CanGo value (block c.blocks.items k).price from x
    may_go =
        let w = width_to-next c.blocks.items k inside in
        let wide = wide_of c limited k inside in
        let p = block_power c limited k (omega arith) in
        let q = block_power c limited (suc k) inside in
        let pa = p.0 in let pb = p.1 in let qa = q.0 in let qb = q.1 in
        let here = limited.values x (value +ℤ (block c.blocks.items k).price *ℤ (x -ℤ from)) value_to in
        let v = value_in_block c (wide_of c limited) k inside from (omega (arith, ints)) (omega (arith, ints)) in
        let first = limited.values from _ v in
        let none = times_none (block c.blocks.items k).price (from -ℤ (c.at +ℤ width_to c.blocks.items k))
        (omega (arith, ints)) in
        let ha = here.0 in let hb = here.1 in let fa = first.0 in let fb = first.1 in
        record {
          from_power = (omega (arith, ints), omega (arith, ints));
          to_power = (omega (arith, ints), omega (arith, ints));
          product = record { at_least = omega (arith, ints); at_most = omega (arith, ints) };
          sum = record { at_least = omega (arith, ints); at_most = omega (arith, ints) };
        }

-- the last power of a curve
pub value_at_end : (c : Curve) → IsLimitedCurve c → (n : ℕ) → n ≡ length c.blocks.items → (from value x : ℤ) →
    from ≡ c.at +ℤ width_to c.blocks.items n → value ≡ rise_to c.blocks.items n +ℤ c.value
    → from ≤ℤ x → x ≤ℤ end_of c.at c.blocks.items → curve_value c x ≡ Some value
value_at_end c limited n is from value x from_is value_is low high =
    let e = end_of-width c.at c.blocks.items in
    let n_is = ap (width_to c.blocks.items) is in
    let p = width_to-positive c.blocks.items (wide_of c limited) n (omega arith) in
    let r = rise_at_end c.blocks.items (wide_of c limited) n (omega arith) in
    let off : rise_at c.blocks.items (x -ℤ c.at) ≡ Some (rise_to c.blocks.items n) =
    ap (rise_at c.blocks.items) {x = x -ℤ c.at} {y = width_to c.blocks.items n} (omega (arith, ints)) ∙ r in
    curve_value_is c x (rise_to c.blocks.items n) (omega (arith, ints)) off ∙ ap Some (sym value_is)

pub before_end_of : (c : Curve) (n : ℕ) → n ≡ length c.blocks.items → (from x : ℤ) →
    from ≡ c.at +ℤ width_to c.blocks.items n → from ≤ℤ x → end_of c.at c.blocks.items ≤ℤ x
before_end_of c n is from x from_is low =
    let e = end_of-width c.at c.blocks.items in
    let n_is = ap (width_to c.blocks.items) is in
    omega (arith, ints)

pub lt_le : (x y : ℤ) → x <ℤ y → x ≤ℤ y
lt_le x y h = omega (arith, ints)
