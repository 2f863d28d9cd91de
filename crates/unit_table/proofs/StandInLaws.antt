-- A running spell that stands for a run goes on standing for it: a period more, a start that isn't begun, a spell
-- that goes.
use Rattle.unit_table.proofs.Common.{◌≡◌, ◌≢◌, ℕ, zero, suc, ◌<◌, ◌≤◌, ◌==◌, false, inl, inr, Option, Some, None, ℤ}
use Rattle.unit_table.proofs.Common.{pos, ◌+ℤ◌, ◌≤ℤ◌, length, refl, sym, ap, ◌∙◌, subst, arith, ints, cases_lt}
use Rattle.unit_table.proofs.Common.{cases_eq, lt-ltb, Table, value_of, MustOff, ThermalUnit, PriceLists, Schedule}
use Rattle.unit_table.proofs.Common.{mark_in, IsFrontier, RunsMeetingAtPowerContinueAlike, net_cost, spell_cost, level}
use Rattle.unit_table.proofs.Common.{IsRun, AreLimits}
use Rattle.unit_table.proofs.Common.{on_time, IsEntry, IsLeastEntry, Going, MayBeOn, IsRunningSpell}
use Rattle.unit_table.proofs.Common.{HasStandIn, AreRunningSpells}
use Rattle.unit_table.proofs.Common.{IsGoneOn}
use Rattle.unit_table.proofs.RangeLaws.{move_in_range, before_low}
use Rattle.unit_table.proofs.SumLaws.{sum_from_to-more, sum_from_to-none}

-- a start comes from the least power
pub level_start : (g : ThermalUnit) (d : Schedule) (t : ℕ) → level g (suc t) d t ≡ g.min_power
unfolding level
level_start g d t = rw (lt-ltb t (suc t) (omega arith))

pub may_less : (g : ThermalUnit) (first t u : ℕ) → u ≤ t → MayBeOn g first t → MayBeOn g first u
may_less g first t u low may = record
    { goes_on = may.goes_on; marks = λ k one from until. may.marks k one from (omega arith) }

-- a period more, which isn't marked `MustOff`
pub may_next : (g : ThermalUnit) (first t : ℕ) → (mark_in g.window (suc t) ≡ MustOff → ⊥) → MayBeOn g first t →
    MayBeOn g first (suc t)
may_next g first t open_next may = record {
  goes_on = may.goes_on;
  marks = λ k one from until mark. elim (cases_lt k (suc t)) [
    | inl less ↦ may.marks k one from (omega arith) mark
    | inr most ↦ let z : k ≡ suc t = omega arith in open_next
        (rw z at mark)
  ];
}

-- of two spells the earlier has been on for at least as long
pub longer_on : (g : ThermalUnit) (early late l : ℕ) → early ≤ late → late ≤ l → on_time g late l ≤ on_time g early l
longer_on g zero zero l low until = omega arith
longer_on g zero (suc b) l low until = omega arith
longer_on g (suc a) zero l low until = absurd (omega arith)
longer_on g (suc a) (suc b) l low until = omega arith

-- and it grows by the period
pub on_time_rises : (g : ThermalUnit) (first l m : ℕ) → l ≤ m → on_time g first l ≤ on_time g first m
on_time_rises g zero l m low = omega arith
on_time_rises g (suc a) l m low = omega arith

-- where a spell has begun, another period of it is another cost
pub one_more_cost : (g : ThermalUnit) (π : PriceLists) (first t : ℕ) (d : Schedule) → first ≤ suc t →
    spell_cost g π first (suc t) d ≡ spell_cost g π first t d +ℤ net_cost g π d (suc t)
one_more_cost g π first t d from = sum_from_to-more (net_cost g π d) first t from

run_less : (g : ThermalUnit) (first t : ℕ) (d : Schedule) → IsRun g first (suc t) d → IsRun g first t d
run_less g first t d run k from until = run k from (omega arith)

-- where the running spell that stands for it is the same one
still_stands : {g : ThermalUnit} {π : PriceLists} {live live' : ℕ → Option Going} {t f : ℕ} {e : ℤ} {d : Schedule} →
    (s : HasStandIn g π live t f e d) → live' s.other ≡ Some s.going → HasStandIn g π live' t f e d
still_stands s on = record {
  other = s.other;
  going = s.going;
  value = s.value;
  on = on;
  there = s.there;
  cheap = s.cheap;
  later = s.later;
  long = s.long;
  begun = s.begun;
}

module _ (g : ThermalUnit) (π : PriceLists) (limits : ℕ → ℤ) (ends : ℕ → Option ℤ) (t : ℕ) (live live' : ℕ →
    Option Going) where
  -- ---- a start in period suc t

  module _ (now : AreRunningSpells g π limits ends live t (suc t)) where
    -- something stands for each run of one period
    stood_for : ((e : ℤ) (d : Schedule) → IsEntry g ends (suc t) e → (e +ℤ spell_cost g π (suc t) t d) ≤ℤ limits t →
        HasStandIn g π live t (suc t) e d) → AreRunningSpells g π limits ends live t (suc (suc t))
    stood_for new = record {
      right = λ f r is. (let h = now.right f r is in let low = h.0 in (omega arith, h.1));
      all = λ f e d low may entry run under. elim (cases_lt f (suc t)) [
        | inl less ↦ now.all f e d less may entry run under
        | inr most ↦
            let z : suc t ≡ f = omega arith in
            subst (λ (f : ℕ). IsEntry g ends f e → (e +ℤ spell_cost g π f t d) ≤ℤ limits t →
            HasStandIn g π live t f e d) z (new e d) entry under
      ];
    }

    -- no spell may begin there
    pub none_starts : ((e : ℤ) → IsEntry g ends (suc t) e → ⊥) → AreRunningSpells g π limits ends live t (suc (suc t))
    none_starts none = stood_for (λ e d entry under. absurd (none e entry))

    -- a running spell at the least power costs less than the least entry
    pub start_undercut : (last : ℕ) (e : ℤ) → IsLeastEntry g ends (suc t) last e → (other : ℕ) (r : Going) (v : ℤ) →
        live other ≡ Some r → value_of r.function g.min_power ≡ Some v →
        ((r.cost +ℤ v) +ℤ pos 1) ≤ℤ e → AreRunningSpells g π limits ends live t (suc (suc t))
    start_undercut last e least other r v on there cheap = stood_for (λ e' d entry under.
        (let bound = least.least e' entry in
        let begun = (now.right other r on).0 in
        let nothing : spell_cost g π (suc t) t d ≡ pos 0 = sum_from_to-none (net_cost g π d) t in
        record {
          other = other;
          going = r;
          value = v;
          on = on;
          there = ap (value_of r.function) (level_start g d t) ∙ there;
          cheap = omega (arith, ints);
          later = inr (omega (arith, ints));
          long = λ l above up. (let longer = longer_on g other (suc t) l (omega arith) (omega arith) in omega arith);
          begun = inl (omega arith);
        }))

    -- or its own running spell begins
    pub start_begun : (r : Going) → live' (suc t) ≡ Some r → ((f : ℕ) → f ≢ suc t → live' f ≡ live f) →
        IsRunningSpell g π ends t (suc t) r → AreRunningSpells g π limits ends live' t (suc (suc t))
    start_begun r begins same running_spell = record {
      right = λ f x is. elim (cases_eq f (suc t)) [
        | inl z ↦
            let here : r ≡ x = (let a = ap live' z in cc) in (
              omega arith,
              rw here at (subst (λ (f : ℕ). IsRunningSpell g π ends t f r) (sym z) running_spell),
            )
        | inr other ↦ (let h = now.right f x (sym (same f other) ∙ is) in let low = h.0 in (omega arith, h.1))
      ];
      all = λ f e' d low may entry run under. elim (cases_lt f (suc t)) [
        | inl less ↦
            let s = now.all f e' d less may entry run under in
            let begun = (now.right s.other s.going s.on).0 in
            still_stands s (same s.other (λ z. omega arith) ∙ s.on)
        | inr most ↦
            let z : suc t ≡ f = omega arith in
            subst (λ (f : ℕ). IsEntry g ends f e' → HasStandIn g π live' t f e' d) z
            (λ entry. (
            let bound = running_spell.entry.least e' entry in
            let v = running_spell.frontier.complete d (λ k from until. absurd (omega arith)) in
            record {
              other = suc t;
              going = r;
              value = v.0;
              on = begins;
              there = v.1;
              cheap = omega (arith, ints);
              later = inl (omega arith);
              long = λ l above up. up;
              begun = inr refl;
            })) entry
      ];
    }

    -- or each entry is above the limit
    pub starts_beyond : ((e : ℤ) → IsEntry g ends (suc t) e → (limits t +ℤ pos 1) ≤ℤ e) →
        AreRunningSpells g π limits ends live t (suc (suc t))
    starts_beyond beyond = stood_for (λ e d entry under.
        (let above = beyond e entry in
        let nothing : spell_cost g π (suc t) t d ≡ pos 0 = sum_from_to-none (net_cost g π d) t in
        absurd (omega (arith, ints))))

    -- as they are where the least one is
    pub start_beyond : (last : ℕ) (e : ℤ) → IsLeastEntry g ends (suc t) last e → (limits t +ℤ pos 1) ≤ℤ e →
        AreRunningSpells g π limits ends live t (suc (suc t))
    start_beyond last e least beyond = starts_beyond
        (λ e' entry. (let bound = least.least e' entry in omega (arith, ints)))

  -- ---- a running spell goes

  -- all that it stands for is above the limit
  module _ (n gone_first : ℕ) (a : Going) (now : AreRunningSpells g π limits ends live t n)
      (on : live gone_first ≡ Some a)
      (beyond : (x v : ℤ) → value_of a.function x ≡ Some v → (limits t +ℤ pos 1) ≤ℤ (a.cost +ℤ v))
      (gone : live' gone_first ≡ None) (same : (f : ℕ) → f ≢ gone_first → live' f ≡ live f) where
    pub beyond_goes : AreRunningSpells g π limits ends live' t n
    beyond_goes = record {
      right = λ f x is. elim (cases_eq f gone_first) [
        | inl z ↦ (let none = ap live' z in cc)
        | inr other ↦ now.right f x (sym (same f other) ∙ is)
      ];
      all = λ f e d low may entry run under.
          let s = now.all f e d low may entry run under in
          elim (cases_eq s.other gone_first) [
            | inr other ↦ still_stands s (same s.other other ∙ s.on)
            | inl z ↦
                let here : s.going ≡ a = (let j = ap live z in cc) in
                let cost : s.going.cost ≡ a.cost = cc in
                let there : value_of a.function (level g f d t) ≡ Some s.value = rw here at s.there in
                let above = beyond (level g f d t) s.value there in
                absurd (omega (arith, ints))
          ];
    }

  -- a later one stands for all that an earlier one stands for
  module _ (n early late : ℕ) (a b : Going) (now : AreRunningSpells g π limits ends live t n)
      (on_early : live early ≡ Some a) (on_late : live late ≡ Some b) (order : early < late) (begun : late ≤ t)
      (long : g.min_up ≤ on_time g late (suc t))
      (below : (x v : ℤ) → value_of a.function x ≡ Some v →
      (u : ℤ) × (value_of b.function x ≡ Some u) × ((b.cost +ℤ u) ≤ℤ (a.cost +ℤ v)))
      (gone : live' early ≡ None) (same : (f : ℕ) → f ≢ early → live' f ≡ live f) where
    pub early_goes : AreRunningSpells g π limits ends live' t n
    early_goes = record {
      right = λ f x is. elim (cases_eq f early) [
        | inl z ↦ (let none = ap live' z in cc)
        | inr other ↦ now.right f x (sym (same f other) ∙ is)
      ];
      all = λ f e d low may entry run under.
          let s = now.all f e d low may entry run under in
          elim (cases_eq s.other early) [
            | inr other ↦ still_stands s (same s.other other ∙ s.on)
            | inl z ↦
                let here : s.going ≡ a = (let j = ap live z in cc) in
                let cost : s.going.cost ≡ a.cost = cc in
                let there : value_of a.function (level g f d t) ≡ Some s.value = rw here at s.there in
                let u = below (level g f d t) s.value there in
                record {
                  other = late;
                  going = b;
                  value = u.0;
                  on = same late (λ w. omega arith) ∙ on_late;
                  there = u.1;
                  cheap = omega (arith, ints);
                  later = elim (s.later) [
                    | inl from ↦ inl (omega arith)
                    | inr less ↦ inr (omega (arith, ints))
                  ];
                  long = λ l above up.
                      (let more = on_time_rises g late (suc t) l (omega arith) in omega arith);
                  begun = inl begun;
                }
          ];
    }

  -- ---- a period more

  module _ (most : ℤ) (limits_right : AreLimits g π most limits) (go : RunsMeetingAtPowerContinueAlike)
      (within : t < length π.energy)
      (now : AreRunningSpells g π limits ends live t (suc (suc t))) (open_next : mark_in g.window (suc t) ≡ MustOff → ⊥)
      (goes : (f : ℕ) (r : Going) → live f ≡ Some r → IsGoneOn g π t f r (live' f))
      (only : (f : ℕ) → live f ≡ None → live' f ≡ None) where
    right_more : (f : ℕ) (x : Going) → live' f ≡ Some x → (f < suc (suc t)) × IsRunningSpell g π ends (suc t) f x
    right_more f x is = elim (live f) as (λ o. live f ≡ o → (f < suc (suc t)) × IsRunningSpell g π ends (suc t) f x) [
      | None ↦ λ off. (let none = only f off in cc)
      | Some r ↦ λ on.
          let old = now.right f r on in
          let h = goes f r on in
          let low = old.0 in
          elim (h.next_is) [
            | inr gone ↦ (cc)
            | inl here ↦
                let new : Going = record { before = r.before; cost = r.cost; function = h.function } in
                let z : new ≡ x = (cc) in
                let running_spell : IsRunningSpell g π ends (suc t) f new = record {
                  entry = old.1.entry;
                  frontier = h.frontier;
                  may = may_next g f t open_next old.1.may;
                  order = omega arith;
                  within = old.1.within;
                } in
                (low, rw z at running_spell)
          ]
    ] refl

    -- a value at the end of period suc t
    value_more : (f : ℕ) (e : ℤ) (d : Schedule) (other : ℕ) (r : Going) (v : ℤ) → live other ≡ Some r →
        IsRun g f (suc t) d → IsGoneOn g π t other r (live' other) →
        ((h : Table) → IsFrontier g π other (suc t) h → (w : ℤ) × (value_of h (level g f d (suc t)) ≡ Some w) ×
        ((r.cost +ℤ w) ≤ℤ v)) →
        (x : Going) × (w : ℤ) × (live' other ≡ Some x) × (value_of x.function (level g f d (suc t)) ≡ Some w) ×
        ((x.cost +ℤ w) ≤ℤ v)
    value_more f e d other r v on run h value =
        let w = value h.function h.frontier in
        elim (h.next_is) [
          | inl here ↦ (
            record { before = r.before; cost = r.cost; function = h.function },
            w.0,
            here,
            w.1,
            w.2,
          )
          | inr gone ↦ (let none = gone.1 (level g f d (suc t)) in cc)
        ]

    -- what is within the limit a period later has a running spell that stands for it before
    all_before : (f : ℕ) (e : ℤ) (d : Schedule) → f < suc (suc t) → MayBeOn g f (suc t) → IsEntry g ends f e →
        IsRun g f (suc t) d → (e +ℤ spell_cost g π f (suc t) d) ≤ℤ limits (suc t) → HasStandIn g π live t f e d
    all_before f e d low may entry run under =
        now.all f e d low (may_less g f (suc t) t (omega arith) may) entry (run_less g f t d run)
        (before_low e (spell_cost g π f t d) (spell_cost g π f (suc t) d) (net_cost g π d (suc t)) (limits t)
        (limits (suc t)) (one_more_cost g π f t d (omega arith))
        (limits_right.step t d within
        (move_in_range g (f == suc t) false (level g f d t) d t (run t (omega arith) (omega arith)))) under)

    all_more : (f : ℕ) (e : ℤ) (d : Schedule) → f < suc (suc t) → MayBeOn g f (suc t) → IsEntry g ends f e →
        IsRun g f (suc t) d → (e +ℤ spell_cost g π f (suc t) d) ≤ℤ limits (suc t) → HasStandIn g π live' (suc t) f e d
    all_more f e d low may entry run low_cost =
        let s = all_before f e d low may entry run low_cost in
        let more = one_more_cost g π f t d (omega arith) in
        let order = (now.right s.other s.going s.on).0 in
        elim (s.begun) [
          | inl begun ↦
              let r = value_more f e d s.other s.going ((s.going.cost +ℤ s.value) +ℤ net_cost g π d (suc t)) s.on run
              (goes s.other s.going s.on)
              (λ h front. (
              let j = go g π f s.other t s.going.function d s.value (omega arith) begun within
              (now.right s.other s.going s.on).1.frontier s.there run in
              let w = front.complete j.run j.keeps in
              (w.0, cc, omega (arith, ints)))) in
              record {
                other = s.other;
                going = r.0;
                value = r.1;
                on = r.2;
                there = r.3;
                cheap = omega (arith, ints);
                later = elim (s.later) [
                  | inl from ↦ inl from
                  | inr less ↦ inr (omega (arith, ints))
                ];
                long = λ l above up. s.long l (omega arith) up;
                begun = inl (omega arith);
              }
          | inr same ↦
              let bound = (now.right s.other s.going s.on).1.entry.least e
              (rw same entry) in
              let r = value_more f e d s.other s.going (e +ℤ spell_cost g π f (suc t) d) s.on run
              (goes s.other s.going s.on)
              (λ h front. (
              let w = (rw same at front).complete d run in
              (w.0, w.1, omega (arith, ints)))) in
              record {
                other = s.other;
                going = r.0;
                value = r.1;
                on = r.2;
                there = r.3;
                cheap = r.4;
                later = inl (omega arith);
                long = λ l above up. s.long l (omega arith) up;
                begun = inr same;
              }
        ]

    pub run_on : AreRunningSpells g π limits ends live' (suc t) (suc (suc t))
    run_on = record { right = right_more; all = all_more }
