use Rattle.point_pool.proofs.Common.{◌≡◌, ℕ, ◌+◌, ◌-◌, ◌<◌, ◌≤◌, length, arith, ap, ◌∙◌, refl, List, ◌∷◌, take, drop}
use Rattle.point_pool.proofs.Common.{get_or, get_or-take, length-take, pos, Knot, get_or_read, drop_more, walk, AreFree}
use Rattle.point_pool.proofs.Common.{Slot, length-walk}
use Rattle.point_pool.proofs.Lemmas.{stored_more, length_if_free}
use Rattle.point_pool.proofs.pool.Pool.store.Goals as goal

nothing : Knot
nothing = record { at = pos 0; value = pos 0 }

abbrev front : List Knot → ℕ → Knot
front work k = get_or work k nothing

-- one breakpoint more at the front of the part that is stored
longer : (work : List Knot) (count done : ℕ) → count ≤ length work → done < count
    → drop (count - (done + 1)) (take count work) ≡ front work (count - (done + 1)) ∷ drop (count - done)
    (take count work)
longer work count done fits lt =
    let i = count - (done + 1) in
    let inside : i < length (take count work) = omega (arith, length-take count work) in
    let below : i < count = omega arith in
    drop_more (take count work) i nothing inside
    ∙ ap (λ v. v ∷ drop (i + 1) (take count work)) (get_or-take count work i nothing below)
    ∙ ap (λ k. get_or work i nothing ∷ drop k (take count work)) (omega arith)

-- the work list is as long as the pool, which has the spare cells
fits : (slots : List Slot) (free spare count : ℕ) → AreFree slots (walk slots free spare) → count ≤ spare →
    count ≤ length slots
fits slots free spare count list few = let most = length_if_free slots (walk slots free spare) list in
    omega (arith, most, length-walk slots spare free)

pub index-knot-requires : goal.index-knot-requires
index-knot-requires c =
    let old = c.args.self.now in
    let most = fits old.slots.items old.free old.spare c.args.count old.free_list c.requires in
    omega (arith, most, old.room, ap length c.loop-done.invariant.work, c.loop-done.self.work.ok.0)

pub loop-done-preserved : goal.loop-done-preserved
loop-done-preserved c =
    let old = c.args.self.now in
    let done = c.loop-done.done in
    let count = c.args.count in
    let work = old.work.items in
    let now_work = c.loop-done.invariant.work in
    let most = fits old.slots.items old.free old.spare count old.free_list c.requires in
    let at : count - 1 - done ≡ count - (done + 1) = omega arith in
    let inside : count - 1 - done < length c.loop-done.self.work.items =
    omega (arith, most, old.room, ap length now_work) in
    let read : c.index-knot.result.now ≡ front work (count - (done + 1)) =
    get_or_read _ _ _ inside c.index-knot.ensures nothing ∙ ap (λ k. front c.loop-done.self.work.items k) at ∙
    ap (λ xs. front xs (count - (done + 1))) now_work in
    record {
      stored = rw (c.take-head.ensures.slots, longer work count done (omega (arith, most, old.room)) (omega arith))
          (stored_more _ _ c.loop-done.head done c.take-head.result _ _ c.loop-done.invariant.stored
          c.take-head.ensures.inside c.take-head.ensures.was_free _ refl refl read);
      spare = omega (arith, c.take-head.ensures.spare, c.loop-done.invariant.spare);
      work = c.take-head.ensures.work ∙ now_work;
    }
