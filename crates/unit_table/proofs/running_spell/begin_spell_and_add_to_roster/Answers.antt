use Rattle.unit_table.proofs.Common.{List, ℕ, length, ap, ◌∙◌, arith, length-set, live_at}
use Rattle.unit_table.proofs.Lemmas.{one_listed}
use Rattle.unit_table.proofs.running_spell.begin_spell_and_add_to_roster.Goals as goal

pub returns-clause-list : goal.returns-clause-list
returns-clause-list c = ap (λ (xs : List ℕ). length xs) c.add.ensures.firsts ∙
    length-set c.args.roster.now.firsts.items c.args.roster.now.count c.args.first

pub returns-clause-roster : goal.returns-clause-roster
returns-clause-roster c =
    one_listed (live_at c.args.spells.now) (live_at c.begin_running_spell_at.new.spells) c.args.first
    c.args.roster.now
    c.add.new.self
    c.requires.roster (omega arith) c.add.ensures.count c.add.ensures.firsts
    (ap (λ (xs : List ℕ). length xs) c.add.ensures.firsts ∙
    length-set c.args.roster.now.firsts.items c.args.roster.now.count c.args.first)
    c.begin_running_spell_at.ensures.others
