use Rattle.point_pool.proofs.Common.{◌≡◌, ℕ, ◌+◌, ◌<◌, ◌≤◌, false, length, arith, ◌∙◌, sym, subst, refl, ◌^◌, List, set}
use Rattle.point_pool.proofs.Common.{pos, length-set, walk, Slot, length-walk}
use Rattle.point_pool.proofs.Lemmas.{free_cons, length_if_free}
use Rattle.point_pool.proofs.pool.Pool.put.Goals as goal

pub overflow_add-self : goal.overflow_add-self
overflow_add-self c =
    let slots = c.args.self.now.slots.items in
    let s : Slot = record {
      in_use = false;
      next = c.args.self.now.free;
      knot =
          record { at = pos 0; value = pos 0 };
    } in
    let list = free_cons slots c.args.self.now.free c.args.self.now.spare c.args.number s c.args.self.now.free_list
    c.requires.used refl refl in
    let slots' : List Slot = set slots c.args.number s in
    let most : length (walk slots' c.args.number (c.args.self.now.spare + 1)) ≤ length slots' =
    length_if_free _ _ list in
    let is : length (walk slots' c.args.number (c.args.self.now.spare + 1)) ≡ c.args.self.now.spare + 1 =
    length-walk slots' _ _ in
    let len : length slots' ≡ length slots = length-set slots c.args.number s in
    omega (arith, c.args.self.now.few)

pub invariant_of-self-clause-free_list : goal.invariant_of-self-clause-free_list
invariant_of-self-clause-free_list c = free_cons c.args.self.now.slots.items c.args.self.now.free c.args.self.now.spare
    c.args.number _ c.args.self.now.free_list c.requires.used refl refl

pub invariant_of-self-clause-room : goal.invariant_of-self-clause-room
invariant_of-self-clause-room c = c.args.self.now.room ∙ sym (length-set c.args.self.now.slots.items _ _)

pub invariant_of-self-clause-few : goal.invariant_of-self-clause-few
invariant_of-self-clause-few c =
    subst (λ (n : ℕ). n < 2 ^ 32) (sym (length-set c.args.self.now.slots.items _ _)) c.args.self.now.few
