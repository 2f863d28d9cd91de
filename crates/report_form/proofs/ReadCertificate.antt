-- A certificate, read back from its text line by line.
use Rattle.report_form.proofs.Common.{codes, refl, certificate_text, TextDeterminesCertificate}
use Rattle.report_form.proofs.ReadBack.{after_count, after_amount}

pub certificate_determined : TextDeterminesCertificate
unfolding certificate_text
certificate_determined a b same =
    let periods = after_count (codes "hull-certificate 1\nperiods ") a.periods b.periods _ _ same refl refl in
    let units = after_count (codes "\nunits ") a.units b.units _ _ periods.1 refl refl in
    let cost = after_amount (codes "\ncost ") a.cost b.cost _ _ units.1 refl refl in
    let value = after_amount (codes "\nvalue ") a.value b.value _ _ cost.1 refl refl in
    let surplus = after_amount (codes "\nsurplus ") a.surplus b.surplus _ _ value.1 refl refl in
    let payments = after_amount (codes "\npayments ") a.payments b.payments _ _ surplus.1 refl refl in
    let gap = after_amount (codes "\ngap ") a.gap b.gap _ _ payments.1 refl refl in
    let radius = after_count (codes "\nradius ") a.radius b.radius _ _ gap.1 refl refl in
    let bound = after_amount (codes "\nbound ") a.bound b.bound _ _ radius.1 refl refl in
    let distance = after_amount (codes "\ndistance ") a.distance b.distance _ _ bound.1 refl refl in
    let least = after_amount (codes "\nleast ") a.least b.least _ _ distance.1 refl refl in
    λ i. record {
      periods = periods.0 i;
      units = units.0 i;
      cost = cost.0 i;
      value = value.0 i;
      surplus = surplus.0 i;
      payments = payments.0 i;
      gap = gap.0 i;
      radius = radius.0 i;
      bound = bound.0 i;
      distance = distance.0 i;
      least = least.0 i;
    }
