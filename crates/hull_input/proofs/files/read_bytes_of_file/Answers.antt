use Rattle.hull_input.proofs.Common.{None, Err, inl, inr, refl, ap, arith}
use Rattle.hull_input.proofs.Lemmas.{unread, unread_is, was_read, was_too_big}
use Rattle.hull_input.proofs.files.read_bytes_of_file.Goals as goal

pub returns-in-Ok-clause-answers : goal.returns-in-Ok-clause-answers
returns-in-Ok-clause-answers g c = was_read _ _ c.args.file c.in-Ok.bytes.items c.in-Ok.ensures.bytes
    (omega (arith, c.in-Ok.bytes.ok.0, c.in-Ok.ensures.fits))

pub returns-in-Err-Failed-clause-answers : goal.returns-in-Err-Failed-clause-answers
returns-in-Err-Failed-clause-answers g c =
    (None, c.in-Err-Failed.ensures.failed (ap Err c.in-Err-Failed.field-0-is), inl refl)

pub returns-in-Err-TooBig-clause-answers : goal.returns-in-Err-TooBig-clause-answers
returns-in-Err-TooBig-clause-answers g c =
    let h = was_too_big (g.F.Shelf.told c.args.shelf.now c.args.name.now) _ c.args.file
    (c.in-Err-TooBig.ensures.too_big (ap Err c.in-Err-TooBig.field-0-is)) in
    (h.0, h.1, inl h.2)

pub returns-in-Err-Memory-clause-answers : goal.returns-in-Err-Memory-clause-answers
returns-in-Err-Memory-clause-answers g c =
    let told = g.F.Shelf.told c.args.shelf.now c.args.name.now in
    (unread told, unread_is told _, inr refl)
