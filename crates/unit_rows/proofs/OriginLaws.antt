-- The ends that the next start may follow, a period later, and the cheapest start.
use Rattle.unit_rows.proofs.Common.{◌≡◌, ℕ, zero, suc, ◌+◌, ◌-◌, ◌*◌, ◌<◌, ◌≤◌, ◌⊎◌, inl, inr, true, false, cond}
use Rattle.unit_rows.proofs.Common.{Option, Some, None, ℤ, pos, ◌+ℤ◌, ◌≤ℤ◌, List, [], ◌∷◌, length, refl, sym, ap, ◌∙◌}
use Rattle.unit_rows.proofs.Common.{subst, arith, IsTrue, IsFalse, slice_get, ints, cases_lt, cases_eq, MustOn}
use Rattle.unit_rows.proofs.Common.{ThermalUnit, IsThermalUnit, mark_in, Origin, Entry, IsRising, IsRipe, IsOrigin}
use Rattle.unit_rows.proofs.Common.{HasOrigin, AreInOrder, AreRight, AreOrigins, IsOriginPut, HasEntryAtMost}
use Rattle.unit_rows.proofs.Common.{IsWithinTimes, IsOffRun, off_time, start_cost_after, IsEntry}
use Rattle.unit_rows.proofs.Common.{IsLeastEntry}
use Rattle.unit_rows.specs.Ends.{IsStarted}
use Rattle.unit_rows.proofs.RipeLaws.{off_next}
use Rattle.unit_rows.specs.declared.origins.Origins.{Origins}

-- ---- time off

-- the later the last on period, the shorter the time off
pub off_less : (g : ThermalUnit) (a b k : ℕ) → a ≤ b → b ≤ k → off_time g b k ≤ off_time g a k
off_less g zero zero k low end = omega arith
off_less g zero (suc b) k low end = elim (g.on0) as (λ x. (k - suc b) ≤ cond x k (g.down0 + k)) [
  | true ↦ omega arith
  | false ↦ omega arith
]
off_less g (suc a) zero k low end = absurd (omega arith)
off_less g (suc a) (suc b) k low end = omega arith

-- no time off has begun
none_off : (g : ThermalUnit) (k : ℕ) → off_time g (suc k) (suc k) ≡ 0
none_off g k = omega arith

whole : (g : ThermalUnit) (k : ℕ) → IsOffRun g k k
whole g k = record {
  order = omega arith;
  must_run = λ must. omega arith;
  marks = λ t above until mark.
      absurd (omega arith);
}

-- ---- one of the list

pub there : {X : Type 0} (xs : List X) (i : ℕ) → i < length xs → (x : X) × (slice_get xs i ≡ Some x)
there [] i low = absurd (omega arith)
there (x ∷ xs) zero low = (x, refl)
there (x ∷ xs) (suc i) low = there xs i (omega arith)

-- ---- before the first period

module _ (g : ThermalUnit) (ends : ℕ → Option ℤ) (os : Origins) (none : os.count ≡ 0) where
  pub begun_right : os.off_from ≡ 0 → (IsTrue os.is_rising → IsRising g.lags) → AreRight g ends 0 os
  begun_right from rising = record {
    rising = rising;
    off = λ last low run. omega arith;
    off_since = λ last at_least low.
        (let z : 0 ≡ last = omega arith in rw (← z) (whole g 0));
    each = λ i o low is. absurd (omega arith);
    order = record {
      last = λ i j a b before low is is'. absurd (omega arith);
      cost = λ yes i j a b before low is is'. absurd (omega arith);
    };
  }

pub begun_ripe : (g : ThermalUnit) (ends : ℕ → Option ℤ) (o : Origin) → IsOrigin g ends 0 o → IsRipe g 0 o.last
begun_ripe g ends o is = record
    { order = is.gap.off.order; long = is.gap.min_down; before = λ b next. absurd (omega arith) }

-- ---- a period more

module _ (g : ThermalUnit) (unit : IsThermalUnit g) (ends : ℕ →
    Option ℤ) (k : ℕ) (os : Origins) (now : AreOrigins g ends k os) where
  -- none ends with the period and may be followed by a start at once
  not_yet : (o : Origin) → IsOrigin g ends (suc k) o → o.last ≤ k
  not_yet o is = elim (cases_lt k (o.last)) [
    | inl above ↦
        let z : o.last ≡ suc k = omega arith in
        let long : g.min_down ≤ off_time g (suc k) (suc k) = rw z at is.gap.min_down in
        let none = none_off g k in
        absurd (omega arith)
    | inr most ↦ most
  ]

  module _ (free : IsFalse g.must_run) (open_next : mark_in g.window (suc k) ≡ MustOn → ⊥) where
    run_more : (last : ℕ) → IsOffRun g last k → IsOffRun g last (suc k)
    run_more last off = record {
      order = (omega arith);
      must_run = λ must. cc;
      marks = λ t above until mark. elim (cases_lt t (suc k)) [
        | inl less ↦ off.marks t above (omega arith) mark
        | inr most ↦ let z : t ≡ suc k = omega arith in open_next
            (rw z at mark)
      ];
    }

    run_less : (last : ℕ) → last ≤ k → IsOffRun g last (suc k) → IsOffRun g last k
    run_less last low off = record {
      order = low;
      must_run = λ must. cc;
      marks = λ t above until mark. off.marks t above (omega arith) mark;
    }

    pub right_more : AreRight g ends (suc k) os
    right_more = record {
      rising = now.right.rising;
      off = λ last low run. elim (cases_lt k last) [
        | inl above ↦ (let from = now.right.off k (omega arith) (whole g k) in omega arith)
        | inr most ↦ now.right.off last most (run_less last most run)
      ];
      off_since = λ last from low. elim (cases_lt k last) [
        | inl above ↦ (let z : suc k ≡ last = omega arith in rw (← z) (whole g (suc k)))
        | inr most ↦ run_more last (now.right.off_since last from most)
      ];
      each = λ i o low is.
          let old = now.right.each i o low is in
          let next = off_next g o.last k old.gap.off.order in
          record {
            ended = old.ended;
            gap = record
                { off = run_more o.last old.gap.off; min_down = omega arith };
          };
      order = now.right.order;
    }

    -- what is ripe now comes behind the others
    pub ripe_later : (i last : ℕ) (o : Origin) → i < os.count → slice_get os.list.items i ≡ Some o →
        IsRipe g (suc k) last → o.last < last
    ripe_later i last o low is ripe = elim (cases_lt (o.last) last) [
      | inl less ↦ less
      | inr most ↦
          let old = now.right.each i o low is in
          let longer = off_less g last o.last k most old.gap.off.order in
          let short = ripe.before k refl in
          absurd (omega arith)
    ]

    pub ripe_or_there : (o : Origin) → IsOrigin g ends (suc k) o → IsRipe g (suc k) o.last ⊎ HasOrigin os o
    ripe_or_there o is =
        let low = not_yet o is in
        elim (cases_lt (off_time g o.last k) (g.min_down)) [
          | inl short ↦ inl (record {
            order = is.gap.off.order;
            long = is.gap.min_down;
            before = λ b next.
                (let z : k ≡ b = omega arith in rw z at short);
          })
          | inr long ↦ inr (now.all o
              (record { ended = is.ended; gap = record { off = run_less o.last low is.gap.off; min_down = long } }))
        ]

  -- where the unit must be on, none is left
  module _ (os' : Origins) (none : os'.count ≡ 0) (from : os'.off_from ≡ suc k) (same : os'.is_rising ≡ os.is_rising)
      (must : IsTrue g.must_run ⊎ (mark_in g.window (suc k) ≡ MustOn)) where
    on_since : (last : ℕ) → IsOffRun g last (suc k) → suc k ≤ last
    on_since last off = elim must [
      | inl run ↦ off.must_run run
      | inr mark ↦ elim (cases_lt last (suc k)) [
        | inl less ↦ absurd (off.marks (suc k) less (omega arith) mark)
        | inr most ↦ most
      ]
    ]

    pub cleared : AreOrigins g ends (suc k) os'
    cleared = record {
      few = omega arith;
      right = record {
        rising = λ yes. now.right.rising (cc);
        off = λ last low run. (let on = on_since last run in omega arith);
        off_since = λ last at_least low.
            (let z : suc k ≡ last = omega arith in rw (← z) (whole g (suc k)));
        each = λ i o low is. absurd (omega arith);
        order = record {
          last = λ i j a b before low is is'. absurd (omega arith);
          cost = λ yes i j a b before low is is'. absurd (omega arith);
        };
      };
      all = λ o is. (let low = not_yet o is in let on = on_since o.last is.gap.off in absurd (omega arith));
    }

-- ---- what is ripe

module _ (g : ThermalUnit) (ends : ℕ → Option ℤ) (k : ℕ) (os : Origins) (few : os.count ≤ k)
    (right : AreRight g ends k os)
    (others : (o : Origin) → IsOrigin g ends k o → IsRipe g k o.last ⊎ HasOrigin os o) where
  pub none_ripe : ((o : Origin) → IsOrigin g ends k o → IsRipe g k o.last → ⊥) → AreOrigins g ends k os
  none_ripe none = record {
    few = omega arith;
    right = right;
    all = λ o is. elim (others o is) [
      | inl ripe ↦ absurd (none o is ripe)
      | inr has ↦ has
    ];
  }

  module _ (n : Origin) (origin : IsOrigin g ends k n) (only : (last : ℕ) → IsRipe g k last → last ≡ n.last)
      (later : (i : ℕ) (o : Origin) → i < os.count → slice_get os.list.items i ≡ Some o → o.last < n.last)
      (room : os.count ≤ length os.list.items) (os' : Origins) (put : IsOriginPut n os os') where
    -- what stands at an index of the new list
    stands : (i : ℕ) (o : Origin) → i < os'.count → slice_get os'.list.items i ≡ Some o →
        ((i < put.index) × (slice_get os.list.items i ≡ Some o)) ⊎ ((i ≡ put.index) × (n ≡ o))
    stands i o low is =
        elim (cases_lt i (put.index)) [
          | inl less ↦ inl (less, sym (put.before i less) ∙ is)
          | inr most ↦
              let z : i ≡ put.index = omega arith in
              let there' = ap (slice_get os'.list.items) z in
              inr (z, (cc))
        ]

    old_low : (i : ℕ) → i < put.index → i < os.count
    old_low i low = (omega arith)

    each' : (i : ℕ) (o : Origin) → i < os'.count → slice_get os'.list.items i ≡ Some o → IsOrigin g ends k o
    each' i o low is = elim (stands i o low is) [
      | inl old ↦ right.each i o (old_low i old.0) old.1
      | inr new ↦ subst (λ (o : Origin). IsOrigin g ends k o) new.1 origin
    ]

    -- what holds of each two of the old list, and of each that comes before the new one, holds of each two now
    pairs : (P : Origin → Origin → Type 0) → ((i j : ℕ) (a b : Origin) → i < j → j < os.count →
        slice_get os.list.items i ≡ Some a → slice_get os.list.items j ≡ Some b → P a b) →
        ((i : ℕ) (a : Origin) → i < put.index → slice_get os.list.items i ≡ Some a → P a n) →
        (i j : ℕ) (a b : Origin) → i < j → j < os'.count → slice_get os'.list.items i ≡ Some a →
        slice_get os'.list.items j ≡ Some b → P a b
    pairs P old new i j a b before low is is' = elim (stands j b low is') [
      | inl last ↦
          let below = last.0 in
          elim (stands i a (omega arith) is) [
            | inl first ↦ old i j a b before (old_low j below) first.1 last.1
            | inr here ↦ absurd (omega arith)
          ]
      | inr last ↦ elim (stands i a (omega arith) is) [
        | inl first ↦ subst (P a) last.1 (new i a first.0 first.1)
        | inr here ↦ absurd (omega arith)
      ]
    ]

    -- all before the new one cost no more
    cheaper : IsTrue os.is_rising → (i : ℕ) (a : Origin) → i < put.index → slice_get os.list.items i ≡ Some a →
        a.cost ≤ℤ n.cost
    cheaper rising i a low is = elim (cases_eq (suc i) (put.index)) [
      | inl z ↦ put.cheaper rising i a (sym z) is
      | inr other ↦
          let p = put.index - 1 in
          let some : put.index ≡ suc p = omega arith in
          let b = there os.list.items p (omega arith) in
          let near = put.cheaper rising p b.0 some b.1 in
          let far = right.order.cost rising i p a b.0 (omega arith) (omega arith) is b.1 in
          omega (arith, ints)
    ]

    new_low : put.index < os'.count
    new_low = (omega arith)

    all' : (o : Origin) → IsOrigin g ends k o → HasOrigin os' o
    all' o is = elim (others o is) [
      | inl ripe ↦ record {
        index = put.index;
        origin = n;
        low = new_low;
        is = put.here;
        best = inl (sym (only o.last ripe));
      }
      | inr has ↦ elim (cases_lt (has.index) (put.index)) [
        | inl less ↦ record {
          index = has.index;
          origin = has.origin;
          low = (omega arith);
          is = put.before has.index less ∙ has.is;
          best = elim (has.best) [
            | inl same ↦ inl same
            | inr more ↦ inr (cc, more.1, more.2)
          ];
        }
        | inr most ↦
            let dear = put.dearer has.index has.origin most has.low has.is in
            let less = dear.1 in
            let after = later has.index has.origin has.low has.is in
            record {
              index = put.index;
              origin = n;
              low = new_low;
              is = put.here;
              best = elim (has.best) [
                | inl same ↦
                    let e = (right.each has.index has.origin has.low has.is).ended in
                    let g' = ap ends same in
                    let cost : has.origin.cost ≡ o.cost = (cc) in
                    inr (cc, omega arith, omega (arith, ints))
                | inr more ↦
                    inr (cc, omega arith, omega (arith, ints))
              ];
            }
      ]
    ]

    pub put_ripe : AreOrigins g ends k os'
    put_ripe = record {
      few = (omega arith);
      right = record {
        rising = λ yes. right.rising (cc);
        off = λ last low run.
            (let from = right.off last low run in omega arith);
        off_since = λ last from low. (right.off_since last (omega arith) low);
        each = each';
        order = record {
          last = pairs (λ a b. a.last < b.last) right.order.last (λ i a low is. later i a (old_low i low) is);
          cost = λ yes. (let rising : IsTrue os.is_rising = cc in pairs (λ a b. a.cost ≤ℤ b.cost)
              (right.order.cost rising) (cheaper rising));
        };
      };
      all = all';
    }

-- ---- the cheapest start

module _ (g : ThermalUnit) (k : ℕ) (os : Origins) where
  abbrev entry_of : Origin → ℤ
  entry_of a = a.cost +ℤ start_cost_after g a.last k

  pub record IsLeastUpTo (i : ℕ) (least : Option Entry) : Type 0 where
    pub sound : (r : Entry) → least ≡ Some r → (j : ℕ) × (a : Origin) × (j < i) × (slice_get os.list.items j ≡ Some a) ×
        (r.last ≡ a.last) × (r.cost ≡ entry_of a)
    pub complete : (j : ℕ) (a : Origin) → j < i → slice_get os.list.items j ≡ Some a → HasEntryAtMost least (entry_of a)
    pub earliest : (r : Entry) (j : ℕ) (a : Origin) → least ≡ Some r → j < i → slice_get os.list.items j ≡ Some a →
        entry_of a ≡ r.cost → r.last ≤ a.last
    pub bound : (r : Entry) → least ≡ Some r → IsWithinTimes (2 * k + 3) r.cost

  pub none_yet : IsLeastUpTo 0 None
  none_yet = record {
    sound = λ r is. cc;
    complete = λ j a low is. absurd (omega arith);
    earliest = λ r j a is low. absurd (omega arith);
    bound = λ r is. cc;
  }

  module _ (order : AreInOrder os) (i : ℕ) (low : i < os.count) (b : Origin) (here : slice_get os.list.items i ≡ Some b)
      (x : ℤ) (cost : x ≡ entry_of b) (within : IsWithinTimes (2 * k + 3) x)
      (least least' : Option Entry) (so_far : IsLeastUpTo i least)
      (from : (r : Entry) → least' ≡ Some r → (least ≡ Some r) ⊎ ((x ≡ r.cost) × (r.last ≡ b.last)))
      (old : (r : Entry) → least ≡ Some r → HasEntryAtMost least' r.cost)
      (added : HasEntryAtMost least' x)
      (kept : (r u : Entry) → least ≡ Some r → least' ≡ Some u →
      (u.last ≡ r.last) ⊎ ((u.cost +ℤ pos 1) ≤ℤ r.cost)) where
    same_here : (j : ℕ) (a : Origin) → j ≡ i → slice_get os.list.items j ≡ Some a → b ≡ a
    same_here j a z is = (let e = ap (slice_get os.list.items) z in cc)

    pub one_more : IsLeastUpTo (i + 1) least'
    one_more = record {
      sound = λ r is. elim (from r is) [
        | inl before ↦ (let s = so_far.sound r before in let j = s.2 in (s.0, s.1, omega arith, s.3, s.4, s.5))
        | inr new ↦ (let e = new.0 in (i, b, omega arith, here, new.1, sym e ∙ cost))
      ];
      complete = λ j a less is. elim (cases_lt j i) [
        | inl before ↦
            let r = so_far.complete j a before is in
            let s = old r.0 r.1 in
            (s.0, s.1, omega (arith, ints))
        | inr most ↦
            let z : j ≡ i = omega arith in
            let e = ap entry_of (same_here j a z is) in
            (added.0, added.1, omega (arith, ints))
      ];
      earliest = λ r j a is less at equal. elim (cases_lt j i) [
        | inl before ↦ elim (from r is) [
          | inl was ↦ so_far.earliest r j a was before at equal
          | inr new ↦
              let s = so_far.complete j a before at in
              let most = s.2 in
              elim (kept s.0 r s.1 is) [
                | inl same ↦
                    let t = so_far.sound s.0 s.1 in
                    let z = t.4 in
                    let later = order.last t.0 i t.1 b t.2 low t.3 here in
                    absurd (omega arith)
                | inr more ↦ absurd (omega (arith, ints))
              ]
        ]
        | inr most ↦
            let z : j ≡ i = omega arith in
            let e = ap (λ (o : Origin). o.last) (same_here j a z at) in
            elim (from r is) [
              | inl was ↦
                  let t = so_far.sound r was in
                  let later = order.last t.0 i t.1 b t.2 low t.3 here in
                  omega arith
              | inr new ↦ omega arith
            ]
      ];
      bound = λ r is. elim (from r is) [
        | inl was ↦ so_far.bound r was
        | inr new ↦ subst (λ (v : ℤ). IsWithinTimes (2 * k + 3) v) new.0 within
      ];
    }

  module _ (ends : ℕ → Option ℤ) (now : AreOrigins g ends k os) (least : Option Entry)
      (all : IsLeastUpTo os.count least) where
    -- what one of the list costs to start from, beside an end that it is or dominates
    beside : (o : Origin) → IsOrigin g ends k o → (has : HasOrigin os o) →
        ((has.origin.last ≡ o.last) × (entry_of has.origin ≡ entry_of o)) ⊎
        ((entry_of has.origin +ℤ pos 1) ≤ℤ entry_of o)
    beside o is has =
        let a = now.right.each has.index has.origin has.low has.is in
        elim (has.best) [
          | inl same ↦
              let h = ap ends same in
              let cost : has.origin.cost ≡ o.cost = (cc) in
              let start = ap (λ (l : ℕ). start_cost_after g l k) same in
              inl (same, omega (arith, ints))
          | inr more ↦
              let start = now.right.rising more.0 (off_time g has.origin.last k) (off_time g o.last k)
              (off_less g o.last has.origin.last k (omega arith) a.gap.off.order) in
              inr (omega (arith, ints))
        ]

    -- the least one beside any start in the next period
    against : (r : Entry) → least ≡ Some r → (last : ℕ) (e : ℤ) → IsStarted g ends (suc k) last e →
        (r.cost ≤ℤ e) × (r.cost ≡ e → r.last ≤ last)
    against r is last e h =
        let z : h.before ≡ k = omega arith in
        let o : Origin = record { last = last; cost = h.value } in
        let is_origin : IsOrigin g ends k o = record { ended = h.ended; gap = rw z at h.gap } in
        let has = now.all o is_origin in
        let low = all.complete has.index has.origin has.low has.is in
        let same : low.0 ≡ r = (cc) in
        let same_cost = ap (λ (r : Entry). r.cost) same in
        let start = ap (λ (b : ℕ). start_cost_after g last b) z in
        elim (beside o is_origin has) [
          | inl equal ↦ (
            omega (arith, ints),
            λ cost. (let early = all.earliest r has.index has.origin is has.low has.is
                (omega (arith, ints)) in omega arith),
          )
          | inr less ↦ (omega (arith, ints), λ cost. absurd (omega (arith, ints)))
        ]

    pub least_of_origins : (r : Entry) → least ≡ Some r → IsLeastEntry g ends (suc k) r.last r.cost
    least_of_origins r is =
        let s = all.sound r is in
        let a = now.right.each s.0 s.1 s.2 s.3 in
        let from_last = s.4 in
        record {
          entry = inr (rw from_last (record {
            before = k;
            first = refl;
            value = s.1.cost;
            ended = a.ended;
            gap = a.gap;
            cost = s.5;
          }));
          least = λ d entry. elim (entry.1) [
            | inl none ↦ let z = none.0 in absurd (omega arith)
            | inr h ↦ (against r is entry.0 d h).0
          ];
          earliest = λ j entry. elim entry [
            | inl none ↦ let z = none.0 in absurd (omega arith)
            | inr h ↦ (against r is j r.cost h).1 refl
          ];
        }

    pub none_of_origins : least ≡ None → (e : ℤ) → IsEntry g ends (suc k) e → ⊥
    none_of_origins is e entry = elim (entry.1) [
      | inl none ↦ let z = none.0 in absurd (omega arith)
      | inr h ↦
          let z : h.before ≡ k = omega arith in
          let o : Origin = record { last = entry.0; cost = h.value } in
          let has = now.all o (record { ended = h.ended; gap = rw z at h.gap }) in
          let low = all.complete has.index has.origin has.low has.is in
          cc
    ]
