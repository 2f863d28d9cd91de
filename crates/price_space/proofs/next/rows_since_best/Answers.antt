use Rattle.price_space.proofs.Common.{arith, length-map, proposal_of}
use Rattle.price_space.proofs.Lemmas.{number_is}
use Rattle.price_space.proofs.next.rows_since_best.Goals as goal

pub returns : goal.returns
returns c =
    let number = number_is c.args.rows.now c.args.best c.requires in
    let lengths = length-map c.args.rows.now proposal_of in
    let within = c.requires.within in
    omega (arith, number, lengths, within)
