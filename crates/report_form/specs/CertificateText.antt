-- The text of `hull certify` (this project's profile).
use Rattle.std.specs.Prelude.{◌≡◌, ℕ, ℤ, List, [], ◌∷◌, codes}
use Rattle.std.specs.List.{concat}
use Rattle.report_form.specs.Numerals.{numeral, signed_numeral}
use Rattle.report_form.specs.declared.certificate.CertificateLines.{CertificateLines}

-- What is told of a certificate: what the plan costs, the dual value of the given prices, what
-- surplus reserve is worth there, the sum of the payments and the gap; the radius round these
-- prices, the bound on the dual value of all prices within it, how far it is above the value, and
-- what payments and surplus sum to at least at any of these prices.
pub record Certificate : Type 0 where
  pub periods : ℕ
  pub units : ℕ
  pub cost : ℤ
  pub value : ℤ
  pub surplus : ℤ
  pub payments : ℤ
  pub gap : ℤ
  pub radius : ℕ
  pub bound : ℤ
  pub distance : ℤ
  pub least : ℤ

unfoldable pub certificate_text : Certificate → List ℕ
certificate_text c = concat (
    codes "hull-certificate 1\nperiods " ∷ numeral c.periods ∷ codes "\nunits " ∷ numeral c.units
    ∷ codes "\ncost " ∷ signed_numeral c.cost ∷ codes "\nvalue " ∷ signed_numeral c.value
    ∷ codes "\nsurplus " ∷ signed_numeral c.surplus
    ∷ codes "\npayments " ∷ signed_numeral c.payments ∷ codes "\ngap " ∷ signed_numeral c.gap
    ∷ codes "\nradius " ∷ numeral c.radius ∷ codes "\nbound " ∷ signed_numeral c.bound
    ∷ codes "\ndistance " ∷ signed_numeral c.distance ∷ codes "\nleast " ∷ signed_numeral c.least
    ∷ codes "\nend\n" ∷ [])

-- what the program keeps of it
abbrev pub certificate_in : CertificateLines → Certificate
certificate_in l = record {
  periods = l.periods;
  units = l.units;
  cost = l.cost;
  value = l.value;
  surplus = l.surplus;
  payments = l.payments;
  gap = l.gap;
  radius = l.radius;
  bound = l.bound;
  distance = l.distance;
  least = l.least;
}

-- the text determines the certificate
abbrev pub TextDeterminesCertificate : Type 0
TextDeterminesCertificate =
    (a b : Certificate) → certificate_text a ≡ certificate_text b → a ≡ b
