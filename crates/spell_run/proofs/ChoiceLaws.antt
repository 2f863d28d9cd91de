-- The powers and the reserve of a period as they are stored, and that they stay within limits.
use Rattle.spell_run.proofs.Common
use Common.{◌≡◌, ℕ, ℤ, pos, nat_abs, ◌+ℤ◌, ◌-ℤ◌, ◌≤ℤ◌, ◌<ℤ◌, sym, ◌∙◌, w64, FitsSigned, int_min, to_z-of_z, Schedule}
use Common.{IsOutput, signed, Step, IsWritten, best_reserve, IsFairStep}
use Rattle.plain_lists.proofs.SignedLaws.{stored, stored_is}
use Rattle.spell_run.proofs.FairLaws.{output_stored, power_stored}
use Rattle.spell_run.proofs.ReserveLaws.{best_where_paid, best_may}

module _ {s : Step} {p q : ℤ} (fair : IsFairStep s) (p_out : IsOutput p) (q_out : IsOutput q) where
  pub reserve_is : (result : ℤ) → FitsSigned w64 result → pos 0 <ℤ s.reserve_price →
      result ≡ int_min (stored (stored s.cap -ℤ stored p))
      (stored (stored (stored s.ramp_up +ℤ stored q) -ℤ stored p)) →
      stored result ≡ best_reserve s.reserve_price s.cap s.ramp_up q p
  reserve_is result fits paid is =
      let under : stored (s.cap -ℤ p) ≡ s.cap -ℤ p = stored_is _
      (record { at_least = omega signed; at_most = omega signed }) in
      let ahead : stored (s.ramp_up +ℤ q) ≡ s.ramp_up +ℤ q = stored_is _
      (record { at_least = omega signed; at_most = omega signed }) in
      let rise : stored ((s.ramp_up +ℤ q) -ℤ p) ≡ (s.ramp_up +ℤ q) -ℤ p = stored_is _
      (record { at_least = omega signed; at_most = omega signed }) in
      let most = rw (
        output_stored fair.cap,
        output_stored p_out,
        power_stored fair.ramp_up,
        output_stored q_out,
        under,
        ahead,
        rise,
      ) at is in
      to_z-of_z w64 result fits ∙ most ∙ sym (best_where_paid s.reserve_price s.cap s.ramp_up q p paid)

  pub reserve_out : p ≤ℤ s.cap → (p -ℤ q) ≤ℤ s.ramp_up → IsOutput (best_reserve s.reserve_price s.cap s.ramp_up q p)
  reserve_out under rise =
      let may = best_may s.reserve_price s.cap s.ramp_up q p under rise in
      record { at_least = may.least; at_most = omega signed }

-- ---- what is written

cast_is : {z : ℤ} → IsOutput z → pos (nat_abs (stored z)) ≡ z
cast_is {z = z} h = rw (output_stored h) (abs_is z h.at_least)
  where
    abs_is : (z : ℤ) → pos 0 ≤ℤ z → pos (nat_abs z) ≡ z
    abs_is z a = omega signed

pub written_cast : {k : ℕ} {p r b : ℤ} {d d' : Schedule} → IsOutput p → IsOutput r → r ≡ b →
    IsWritten k (pos (nat_abs (stored p))) (pos (nat_abs (stored r))) d d' → IsWritten k p b d d'
written_cast p_out r_out is w = rw (cast_is p_out, cast_is r_out ∙ is) at w

pub best_stored : (s : Step) {q p : ℤ} → IsOutput q → IsOutput p →
    best_reserve s.reserve_price s.cap s.ramp_up (stored q) (stored p) ≡ best_reserve s.reserve_price s.cap s.ramp_up q
    p
best_stored s q_out p_out = rw (output_stored q_out, output_stored p_out)
