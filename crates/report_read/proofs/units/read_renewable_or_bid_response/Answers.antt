use Rattle.report_read.proofs.Common.{List, Bool, ℕ, length, sym, ap, ◌∙◌, codes, refl, true}
use Rattle.report_read.proofs.Lemmas.{powers_are, length-replicate}
use Rattle.report_read.proofs.units.read_renewable_or_bid_response.Goals as goal

pub invariant_of-result : goal.invariant_of-result
invariant_of-result c =
    let power = powers_are (codes "power") c.args.periods c.args.reader.now.rest.now c.in_ok-power.power.items
    c.read_list_line.new.reader.rest.now refl c.in_ok-power.ensures in
    let on = ap (λ (xs : List Bool). length xs) c.in_ok-on.ensures ∙ length-replicate c.args.periods true in
    let reserve = ap (λ (xs : List ℕ). length xs) c.in_ok-reserve.ensures ∙ length-replicate c.args.periods 0 in
    record { valid = record { power = power.length_is ∙ sym on; reserve = reserve ∙ sym on } }
