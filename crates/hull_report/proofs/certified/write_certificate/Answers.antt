use Rattle.hull_report.proofs.Common.{rules, w128, to_z-of_z}
use Rattle.hull_report.proofs.certified.write_certificate.Goals as goal

pub returns : goal.returns
returns g c =
    rw (c.certificate_lines-lines.ensures, to_z-of_z w128 c.args.cost (search rules)) at
    c.write_certificate_lines.ensures
