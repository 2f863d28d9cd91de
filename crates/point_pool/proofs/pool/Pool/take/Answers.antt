use Rattle.point_pool.proofs.Common.{◌≡◌, ℕ, ◌-◌, ◌<◌, arith, ap, ◌∙◌, sym, subst, inl, refl, ◌^◌, ◌∷◌, List, walk}
use Rattle.point_pool.proofs.Common.{slot_at, AreFree, no_slot, Slot, get_or_read, length-set}
use Rattle.point_pool.proofs.Lemmas.{walk_more, free_tail}
use Rattle.point_pool.proofs.pool.Pool.take.Goals as goal

-- the free list begins with its head
first_free : (slots : List Slot) (free spare : ℕ) → 0 < spare → AreFree slots (walk slots free spare) →
    AreFree slots (free ∷ walk slots (slot_at slots free).next (spare - 1))
first_free slots free spare some list = rw (← walk_more slots spare free some) list

pub index-requires : goal.index-requires
index-requires c =
    let f = first_free _ _ _ c.requires c.args.self.now.free_list in
    omega (arith, f.inside _ (inl refl), c.args.self.now.slots.ok.0)

pub index_mut-requires : goal.index_mut-requires
index_mut-requires c =
    let f = first_free _ _ _ c.requires c.args.self.now.free_list in
    omega (arith, f.inside _ (inl refl), c.args.self.now.slots.ok.0)

pub returns-clause-inside : goal.returns-clause-inside
returns-clause-inside c =
    let f = first_free _ _ _ c.requires c.args.self.now.free_list in
    f.inside _ (inl refl)

pub invariant_of-self-clause-free_list : goal.invariant_of-self-clause-free_list
invariant_of-self-clause-free_list c =
    let f = first_free _ _ _ c.requires c.args.self.now.free_list in
    let read : c.index.result.now ≡ slot_at c.args.self.now.slots.items c.args.self.now.free =
    get_or_read _ _ _ (f.inside _ (inl refl)) c.index.ensures no_slot in
    rw (ap (λ s. s.next) read)
    (free_tail c.args.self.now.slots.items c.args.self.now.free (c.args.self.now.spare - 1) _ f)

pub invariant_of-self-clause-room : goal.invariant_of-self-clause-room
invariant_of-self-clause-room c = c.args.self.now.room ∙ sym (length-set c.args.self.now.slots.items _ _)

pub invariant_of-self-clause-few : goal.invariant_of-self-clause-few
invariant_of-self-clause-few c =
    subst (λ (n : ℕ). n < 2 ^ 32) (sym (length-set c.args.self.now.slots.items _ _)) c.args.self.now.few
