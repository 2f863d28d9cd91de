-- What the words of a command ask for.
use Rattle.hull_words.specs.Asked.{TryAsked, BoundAsked, AuditAsked, CertifyAsked, price_asked}
use Rattle.hull_words.specs.Asked.{settle_asked}
use Rattle.hull_words.specs.declared.command.TryWords.{TryWords}
use Rattle.hull_words.specs.declared.command.BoundWords.{BoundWords}
use Rattle.hull_words.specs.declared.command.AuditWords.{AuditWords}
use Rattle.hull_words.specs.declared.command.CertifyWords.{CertifyWords}

abbrev pub try_asked : TryWords → TryAsked
try_asked w =
    record { number = w.number; proposals = w.proposals; workers = w.workers; ahead = w.ahead }

abbrev pub bound_asked : BoundWords → BoundAsked
bound_asked w = record { run = price_asked w.run; radius = w.radius }

abbrev pub audit_asked : AuditWords → AuditAsked
audit_asked w = record {
  case_name = w.case_name.items;
  schedule_name = w.schedule_name.items;
  report_name = w.report_name.items;
  workers = w.workers;
}

abbrev pub certify_asked : CertifyWords → CertifyAsked
certify_asked w = record {
  names = settle_asked w.names;
  mixture_name = w.mixture_name.items;
  radius = w.radius;
}
