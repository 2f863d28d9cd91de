-- What a bench is made for stays.
use Rattle.unit_program.proofs.Common.{◌≡◌, ℕ, zero, suc, ◌+◌, ◌-◌, ◌*◌, ◌≤◌, ◌⊎◌, inl, inr, Some, List, [], ◌∷◌, ◌++◌}
use Rattle.unit_program.proofs.Common.{length, sym, ap, ◌∙◌, subst, arith, slice_get, mul-le-mul_left, RunningSpell}
use Rattle.unit_program.proofs.Common.{AreTraces, HaveRoom, room_of, space_of}
use Rattle.unit_program.specs.declared.bench.Bench.{Bench}
use Rattle.unit_program.proofs.Common.{◌<◌, Option, None, IfSome, ThermalUnit, PriceLists, Entry, IsEndWithin}
use Rattle.unit_program.proofs.Common.{CanBacktrack, cost_at, first_at, left_at}
use Rattle.unit_program.specs.Benches.{IsBenchFor, HasWayFrom}

-- a curve of so many points asks for no more
pub charge_less : (periods points blocks : ℕ) → blocks ≤ 2 * (points - 1) →
    periods * (blocks + 3) ≤ periods * (2 * points + 3)
charge_less periods points blocks few = mul-le-mul_left periods (omega (arith, few))

pub bench_kept : (periods points : ℕ) (old new : Bench) →
    length old.curve.blocks.items + old.curve.blocks.spare ≡ length new.curve.blocks.items + new.curve.blocks.spare →
    length new.spells.items ≡ length old.spells.items →
    ((room : ℕ) → HaveRoom room old.spells.items → HaveRoom room new.spells.items) →
    space_of new.shared.spare ≡ space_of old.shared.spare →
    length new.shared.log.items + new.shared.log.spare ≡ length old.shared.log.items + old.shared.log.spare →
    length new.table.items ≡ length old.table.items →
    length new.origins.list.items ≡ length old.origins.list.items →
    length new.roster.firsts.items ≡ length old.roster.firsts.items →
    length new.limits.items ≡ length old.limits.items → IsBenchFor periods points old → IsBenchFor periods points new
bench_kept periods points old new curve count keeps spare log rows list firsts each b =
    record {
      blocks = omega (arith, curve);
      count = omega (arith, count);
      space = omega (arith, spare, b.space);
      room = rw spare (keeps (space_of old.shared.spare) b.room);
      log = omega (arith, log, b.log);
      rows = omega (arith, rows);
      origins = omega (arith, list);
      roster = omega (arith, firsts);
      limits = omega (arith, each);
    }

-- ---- backtracking from an end that is found

pub way_found : (u : ThermalUnit) (π : PriceLists) (b : Bench) (found : Option Entry) →
    IfSome found (λ e. IsEndWithin u π b.table.items e.last e.cost) →
    CanBacktrack u π (length π.energy) (cost_at b.table.items) (first_at b.table.items)
    (left_at b.shared.log.items b.spells.items) → AreTraces b.shared.log.items b.spells.items →
    length π.energy < length b.table.items → length π.energy < length b.spells.items →
    IfSome found (λ e. HasWayFrom u π e b)
way_found u π b None least backtracks traces rows spells = tt
way_found u π b (Some e) least backtracks traces rows spells =
    record { least = least; backtracks = backtracks; traces = traces; rows = rows; spells = spells }

-- ---- running spells made one by one

get_append : {X : Type 0} (xs : List X) (r : X) (i : ℕ) (x : X) → slice_get (xs ++ r ∷ []) i ≡ Some x →
    (slice_get xs i ≡ Some x) ⊎ (r ≡ x)
get_append [] r zero x h = inr (cc)
get_append [] r (suc i) x h = cc
get_append (y ∷ ys) r zero x h = inl h
get_append (y ∷ ys) r (suc i) x h = get_append ys r i x h

pub room_more : (most : ℕ) (spells spells' : List RunningSpell) (r : RunningSpell) →
    spells' ≡ spells ++ r ∷ [] → most ≡ room_of r.running → HaveRoom most spells → HaveRoom most spells'
room_more most spells spells' r is fits have f x there =
    elim (get_append spells r f x (ap (λ xs. slice_get xs f) (sym is) ∙ there)) [
      | inl before ↦ have f x before
      | inr same ↦ subst (λ x. most ≡ room_of x.running) same fits
    ]
