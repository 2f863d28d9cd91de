use Rattle.report_form.proofs.ReadCertificate.{certificate_determined}
use Rattle.report_form.proofs.laws.text_determines_the_certificate.Goals as goal

pub returns : goal.returns
returns c = certificate_determined
