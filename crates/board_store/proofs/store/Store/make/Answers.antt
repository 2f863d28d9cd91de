use Rattle.board_store.proofs.Common.{ℤ, List, length, ap, sym, ◌∙◌, length-replicate, pos}
use Rattle.board_store.proofs.Lemmas.{counted, least_same}
use Rattle.board_store.proofs.Answers.{length-answers_in}
use Rattle.board_store.proofs.store.Store.make.Goals as goal

pub make-requires-clause-few : goal.make-requires-clause-few
make-requires-clause-few c = c.requires.few

pub make-requires-clause-size : goal.make-requires-clause-size
make-requires-clause-size c = c.requires.size

pub make-requires-2-clause-few : goal.make-requires-2-clause-few
make-requires-2-clause-few c = c.requires.few

pub make-requires-2-clause-size : goal.make-requires-2-clause-size
make-requires-2-clause-size c = c.requires.size

pub make-requires-3-clause-few : goal.make-requires-3-clause-few
make-requires-3-clause-few c = c.requires.few

pub make-requires-3-clause-size : goal.make-requires-3-clause-size
make-requires-3-clause-size c = c.requires.size

pub invariant_of-result : goal.invariant_of-result
invariant_of-result c =
    let earned = c.in_ok-earned.earned.items in
    let n = c.args.count in
    record {
      on_count = counted c.in_ok-on.on.rows earned n _ c.in_ok-on.ensures.rows c.in_ok-earned.ensures;
      power_count = counted c.in_ok-power.power.rows earned n _ c.in_ok-power.ensures.rows c.in_ok-earned.ensures;
      reserve_count = counted c.in_ok-reserve.reserve.rows earned n _ c.in_ok-reserve.ensures.rows
          c.in_ok-earned.ensures;
      power_long = c.in_ok-power.ensures.long ∙ sym c.in_ok-on.ensures.long;
      reserve_long = c.in_ok-reserve.ensures.long ∙ sym c.in_ok-on.ensures.long;
    }

pub returns-clause-count : goal.returns-clause-count
returns-clause-count c =
    length-answers_in _ _ _ _ ∙ ap (λ (xs : List ℤ). length xs) c.in_ok-earned.ensures
    ∙ length-replicate c.args.count (pos 0)

pub returns-clause-periods : goal.returns-clause-periods
returns-clause-periods c = c.in_ok-on.ensures.long

pub returns-clause-left : goal.returns-clause-left
returns-clause-left c =
    least_same c.in_ok-on.on.left c.in_ok-power.power.left c.in_ok-reserve.reserve.left c.args.count
    c.in_ok-on.ensures.left c.in_ok-power.ensures.left c.in_ok-reserve.ensures.left
