use Rattle.hull_words.proofs.Common.{sym, true, false, found_so_far}
use Rattle.hull_words.proofs.Lemmas.{set_is}
use Rattle.hull_words.proofs.given.Given.set.Goals as goal

pub returns-then-is_set : goal.returns-then-is_set
returns-then-is_set c =
    set_is true c.args.option c.args.text.now (found_so_far c.args.self) (found_so_far c.with_option_text-given.result)
    c.with_option_text-given.ensures (sym c.if-is_set.ensures)

pub returns-else-is_set : goal.returns-else-is_set
returns-else-is_set c =
    set_is false c.args.option c.args.text.now (found_so_far c.args.self) (found_so_far c.with_option_text-given.result)
    c.with_option_text-given.ensures (sym c.if-is_set.ensures)
