use Rattle.board_store.proofs.Common.{List, ◌∷◌, [], ◌++◌, replicate, ap, sym, ◌∙◌, arith, append-nil, append_assoc}
use Rattle.board_store.proofs.Common.{replicate_more}
use Rattle.board_store.proofs.table.push_copies_of_value.Goals as goal

pub loop-init : goal.loop-init
loop-init g c = record { so_far = sym (append-nil c.args.into.now.items); room = omega arith }

pub loop-preserved : goal.loop-preserved
loop-preserved g c = record {
  so_far =
      c.push.ensures.items ∙ ap (λ (xs : List _). xs ++ c.args.value ∷ []) c.loop.invariant.so_far
      ∙ append_assoc c.args.into.now.items (replicate c.loop.counter c.args.value) (c.args.value ∷ [])
      ∙ ap (λ (xs : List _). c.args.into.now.items ++ xs) (replicate_more c.loop.counter c.args.value);
  room = omega (arith, c.loop.invariant.room, c.push.ensures.spare);
}
