-- A call that changes only its own cells leaves the shapes that are apart from them.
use Rattle.point_pool.proofs.Common.{◌≡◌, ℕ, List, sym, ap, ◌∙◌, subst, IsAmong, Frame, Slot, IsBreakList}
use Rattle.point_pool.proofs.Common.{same_by_slots, same_cell, slot_if_used, cells_of, numbers_of, IsIn, slot_at}
use Rattle.point_pool.proofs.Common.{AreUsed, Changes}
use Rattle.point_pool.specs.declared.pool.Pool.{Pool}

pub Frame-changes : (p p' : Pool) (own own' : List ℕ) → Changes p.slots.items p'.slots.items own own' →
    Frame cells_of IsIn numbers_of own own' p p'
Frame-changes p p' own own' c =
    let slots = p.slots.items in
    let slots' = p'.slots.items in
    record {
      changes = λ n used out. let u = slot_if_used slots n used in same_cell slots slots' n u (c.kept n u out);
      gains = λ n a out used. c.gains n a out (slot_if_used slots n used);
      stays = λ other here apart.
          let same : (n : ℕ) → IsAmong n (numbers_of p other) → slot_at slots' n ≡ slot_at slots n =
          λ n a. c.kept n (here.used.used n a) (λ mine. apart n mine a) in
          let r = same_by_slots slots slots' other.head other.count same in
          record {
            used = subst (λ xs. AreUsed slots' xs) (sym r.numbers)
                (record {
                  used = λ n a. ap (λ (s : Slot). s.in_use) (same n a) ∙ here.used.used n a;
                  distinct =
                      here.used.distinct;
                });
            breaks = subst IsBreakList (sym r.knots) here.breaks;
          };
    }
