use Rattle.point_pool.proofs.Common.{◌≡◌, ℕ, ◌+◌, ◌-◌, ◌<◌, ◌≤◌, length, arith, ap, ◌∙◌, sym, refl, List, [], ◌∷◌, ◌++◌}
use Rattle.point_pool.proofs.Common.{take, inl, inr, append_assoc, get_or_read, take_more_set, walk, slot_at, knots_at}
use Rattle.point_pool.proofs.Common.{no_slot, AreUsed, Slot, inside_if_used, length-walk}
use Rattle.point_pool.proofs.Lemmas.{walk_more, length_if_used, lists_fit}
use Rattle.point_pool.proofs.pool.Pool.load.Goals as goal

-- a list of used slots is no longer than the slots
most : (slots : List Slot) (head count : ℕ) → AreUsed slots (walk slots head count) → count ≤ length slots
most slots head count used = let l = length_if_used slots (walk slots head count) used in
    omega (arith, length-walk slots count head)

first : (slots : List Slot) (at n : ℕ) → 0 < n → AreUsed slots (walk slots at n) →
    AreUsed slots (at ∷ walk slots (slot_at slots at).next (n - 1))
first slots at n some r = rw (← walk_more slots n at some) r

pub index-slot-requires : goal.index-slot-requires
index-slot-requires c =
    let u = first _ _ _ (omega arith) c.loop-k.invariant.rest in
    let inside = inside_if_used c.args.self.now.slots.items c.loop-k.at (u.used c.loop-k.at (inl refl)) in
    omega (arith, inside, ap length c.loop-k.invariant.slots, c.loop-k.self.slots.ok.0)

pub index_mut-requires : goal.index_mut-requires
index_mut-requires c =
    let m = most c.args.self.now.slots.items c.args.head c.args.count c.requires in
    omega (arith, m, ap length c.loop-k.invariant.slots, c.loop-k.self.work.ok.0, c.loop-k.self.room)

pub returns-clause-room : goal.returns-clause-room
returns-clause-room c =
    let old = c.args.self.now in
    let m = lists_fit old.slots.items c.args.head c.args.count old.free old.spare c.requires old.free_list in
    omega (arith, m, ap length c.loop-k.invariant.slots, c.loop-k.invariant.spare, c.loop-k.self.room)

pub loop-k-preserved : goal.loop-k-preserved
loop-k-preserved c =
    let slots = c.args.self.now.slots.items in
    let work = c.loop-k.self.work.items in
    let at = c.loop-k.at in
    let k = c.loop-k.k in
    let n = c.args.count - k in
    let some : 0 < n = omega arith in
    let u = first slots at n some c.loop-k.invariant.rest in
    let inside : at < length c.loop-k.self.slots.items =
    omega (arith, inside_if_used slots at (u.used at (inl refl)), ap length c.loop-k.invariant.slots) in
    let read : c.index-slot.result.now ≡ slot_at slots at =
    get_or_read c.loop-k.self.slots.items at _ inside c.index-slot.ensures no_slot ∙
    ap (λ xs. slot_at xs at) c.loop-k.invariant.slots in
    let m = most slots c.args.head c.args.count c.requires in
    let k_in : k < length work = omega (arith, m, ap length c.loop-k.invariant.slots, c.loop-k.self.room) in
    let knot : c.index-slot.result.now.knot ≡ (slot_at slots at).knot = ap (λ s. s.knot) read in
    let next : c.index-slot.result.now.next ≡ (slot_at slots at).next = ap (λ s. s.next) read in
    let less : c.args.count - (k + 1) ≡ n - 1 = omega arith in
    let v = (slot_at slots at).knot in
    let rest = knots_at slots (walk slots (slot_at slots at).next (n - 1)) in
    record {
      rest = rw (next, less) (record { used = λ j a. u.used j (inr a); distinct = u.distinct.1 });
      knots = rw (knot, next, less) (ap (λ xs. xs ++ rest) (take_more_set work k v k_in) ∙
          append_assoc (take k work) (v ∷ []) rest ∙
          ap (λ xs. take k work ++ knots_at slots xs) (sym (walk_more slots n at some)) ∙ c.loop-k.invariant.knots);
      slots = c.loop-k.invariant.slots;
      spare = c.loop-k.invariant.spare;
    }
