use Rattle.board_store.proofs.Common.{◌≡◌, ◌≤◌, ◌<◌, ℕ, length, get_or, All, Reserved, items_in, Block}
use Rattle.plain_lists.specs.Reserved.{room_of}
use Rattle.board_store.proofs.tasks.copy_blocks.Given as goal

abbrev pub invariant-loop-k : goal.invariant-loop-k
invariant-loop-k l = record {
  count : length l.into.items ≡ length l.from.items;
  room : All (λ bs. 8 ≤ room_of bs) l.into.items;
  so_far : (k : ℕ) (d : Reserved Block) → k < l.k →
      items_in (get_or l.into.items k d) ≡ items_in (get_or l.from.items k d);
}
