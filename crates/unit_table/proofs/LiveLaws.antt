-- A list of running spells, and one of them written.
use Rattle.unit_table.proofs.Common.{state_of, cases_lt}
use Rattle.unit_table.proofs.Common.{count_of, room_of}
use Rattle.unit_table.proofs.Common.{◌≡◌, ◌≢◌, ℕ, zero, suc, ◌+◌, ◌-◌, ◌*◌, ◌<◌, ◌≤◌, inl, inr, Bool, true, false, cond}
use Rattle.unit_table.proofs.Common.{Option, Some, None, ℤ, pos, ◌+ℤ◌, ◌-ℤ◌, ◌≤ℤ◌, ◌<ℤ◌, List, [], ◌∷◌, length, refl}
use Rattle.unit_table.proofs.Common.{sym, ap, ◌∙◌, subst, arith, slice_get, slice_set, ints}
use Rattle.unit_table.proofs.Common.{cases_eq, Table, value_of, ThermalUnit, PriceLists, RunningSpell, Logged, Trace}
use Rattle.unit_table.proofs.Common.{HaveSameRooms, left_by, IsTrace, AreTraces, ◌⊎◌}
use Rattle.spell_run.specs.Logs.{AreLogged}
use Rattle.unit_table.proofs.Common.{going_of, live_at, left_of, left_at, AreRoomy, AreSmall, IsUnder, IsBeyond}
use Rattle.unit_table.proofs.Common.{IsBelow, HaveRoom, Going, AreRunningSpells, AreFewer, IsKeptFrom, AreKept}
use Rattle.unit_table.proofs.Common.{length-set}
use Rattle.plain_lists.proofs.ListLaws.{get_set_same, get_set_other}
use Rattle.std.proofs.Math.Nat.{mul-le-mul_right}

-- the running spells are small
pub small_of : (g : ThermalUnit) (π : PriceLists) (limits : ℕ → ℤ) (ends : ℕ → Option ℤ) (live : ℕ →
    Option Going) (t n : ℕ) → t ≤ 168 → n ≤ 170 → AreRunningSpells g π limits ends live t n → AreSmall live
small_of g π limits ends live t n few low now f r is =
    let h = now.right f r is in
    record {
      cost = record { at_least = omega (arith, ints); at_most = omega (arith, ints) };
      values = λ x v there.
          let w = h.1.frontier.values x v there in
          let count : suc t - f ≤ 169 = omega arith in
          record { at_least = omega (arith, ints); at_most = omega (arith, ints) };
    }

when_some : {X : Type 0} (b : Bool) (a x : X) → cond b (Some a) None ≡ Some x → (b ≡ true) × (a ≡ x)
when_some true a x is = (refl, (cc))
when_some false a x is = absurd (cc)

-- a running spell that is on is one of the list
pub on_some : (o : Option RunningSpell) (x : Going) → going_of o ≡ Some x →
    (r : RunningSpell) × (o ≡ Some r) × (r.is_on ≡ true) × (x ≡ state_of r)
on_some None x is = absurd (cc)
on_some (Some r) x is = (let h = when_some (r.is_on) (state_of r) x is in (r, refl, h.0, sym h.1))

pub going_on : (r : RunningSpell) → r.is_on ≡ true → going_of (Some r) ≡ Some (state_of r)
going_on r on = ap (λ (b : Bool). cond b (Some (state_of r)) None) on

pub going_off : (r : RunningSpell) → r.is_on ≡ false → going_of (Some r) ≡ None
going_off r off = cc

-- ---- one of the list read

pub on_same : (o : Option RunningSpell) (r s : RunningSpell) → o ≡ Some r → o ≡ Some s → r.is_on ≡ true → s.is_on ≡ true
on_same o r s a b on = (let same : r ≡ s = (cc) in rw same at on)

module _ (spells : List RunningSpell) (i : ℕ) (r : RunningSpell) (is : slice_get spells i ≡ Some r) where
  pub live_from : r.is_on ≡ true → live_at spells i ≡ Some (state_of r)
  live_from on = ap going_of is ∙ going_on r on

  pub off_from : r.is_on ≡ false → live_at spells i ≡ None
  off_from off = cc

  -- where it is known to be on
  pub on_from : (x : Going) → live_at spells i ≡ Some x → r.is_on ≡ true
  on_from x on = (let s = on_some (slice_get spells i) x on in on_same _ s.0 r s.1 is s.2)

-- ---- one above another

pub below_of : (f f' : Table) (e e' shift : ℤ) → shift ≡ e -ℤ e' →
    ((x v : ℤ) → value_of f' x ≡ Some v → (u : ℤ) × (value_of f x ≡ Some u) × ((u +ℤ shift) ≤ℤ v)) → IsBelow f e f' e'
below_of f f' e e' shift is below x v there =
    (let u = below x v there in (u.0, u.1, omega (arith, ints)))

pub under_of : (f : Table) (e power cost v sum : ℤ) (before : ℕ) → value_of f power ≡ Some v →
    sum ≡ e +ℤ v → (sum +ℤ pos 1) ≤ℤ cost →
    IsUnder power cost (record { before = before; cost = e; function = f })
under_of f e power cost v sum before there is less = (v, there, omega (arith, ints))

pub beyond_of : (f : Table) (e limit : ℤ) → ((x v : ℤ) → value_of f x ≡ Some v → limit <ℤ (v +ℤ e)) → IsBeyond limit e f
beyond_of f e limit above x v there = (let over = above x v there in omega (arith, ints))

-- ---- one of the list written

module _ (spells spells' : List RunningSpell) (i : ℕ) (a : RunningSpell)
    (room : i < length spells) (set : spells' ≡ slice_set spells i a) where
  pub written_here : slice_get spells' i ≡ Some a
  written_here = ap (λ (xs : List RunningSpell). slice_get xs i) set ∙ get_set_same spells i a room

  pub written_other : (j : ℕ) → j ≢ i → slice_get spells' j ≡ slice_get spells j
  written_other j other = ap (λ (xs : List RunningSpell). slice_get xs j) set ∙ get_set_other spells i j a other

  pub live_here : live_at spells' i ≡ going_of (Some a)
  live_here = ap going_of written_here

  pub live_other : (j : ℕ) → j ≢ i → live_at spells' j ≡ live_at spells j
  live_other j other = ap going_of (written_other j other)

  -- what holds of each running spell
  pub each_written : (P : RunningSpell → Type 0) → P a →
      ((j : ℕ) (r : RunningSpell) → slice_get spells j ≡ Some r → P r) →
      (j : ℕ) (r : RunningSpell) → slice_get spells' j ≡ Some r → P r
  each_written P here all j r is = elim (cases_eq j i) [
    | inl z ↦ (let same : a ≡ r = (let e = ap (λ (k : ℕ). slice_get spells' k) z in let w = written_here in cc) in
        subst P same here)
    | inr other ↦ all j r (sym (written_other j other) ∙ is)
  ]

-- ---- room

pub room_more : (count periods t charge room : ℕ) → t < periods → count + (periods - t) * charge ≤ room →
    count + charge ≤ room
room_more count periods t charge room low fits =
    let n : periods - t ≡ suc (periods - suc t) = omega arith in
    let e : (periods - t) * charge ≡ charge + (periods - suc t) * charge = ap (λ (n : ℕ). n * charge) n ∙
    (omega arith) in
    omega arith

pub room_next : (count count' periods t charge room : ℕ) → t < periods → count + (periods - t) * charge ≤ room →
    count' ≤ count + charge → count' + (periods - suc t) * charge ≤ room
room_next count count' periods t charge room low fits more =
    let n : periods - t ≡ suc (periods - suc t) = omega arith in
    let e : (periods - t) * charge ≡ charge + (periods - suc t) * charge = ap (λ (n : ℕ). n * charge) n ∙
    (omega arith) in
    omega arith

pub room_none : (periods t charge room : ℕ) → periods * charge ≤ room → (periods - t) * charge ≤ room
room_none periods t charge room fits = let e : (periods - t) * charge ≤ periods * charge = mul-le-mul_right charge
    (omega arith) in omega arith

slice_get_past : {X : Type 0} (xs : List X) (f : ℕ) → length xs ≤ f → slice_get xs f ≡ None
slice_get_past [] f h = refl
slice_get_past (x ∷ xs) zero h = absurd (omega arith)
slice_get_past (x ∷ xs) (suc f) h = slice_get_past xs f (omega arith)

slice_get_none : {X : Type 0} (xs : List X) (f : ℕ) → slice_get xs f ≡ None → length xs ≤ f
slice_get_none [] f h = omega arith
slice_get_none (x ∷ xs) zero h = cc
slice_get_none (x ∷ xs) (suc f) h = (let e = slice_get_none xs f h in omega arith)

-- ---- the same running spells, of which some were stopped or begun

kept_one : (r : RunningSpell) → IsKeptFrom r r
kept_one r = record { room_same = refl; trace = refl; pieces = λ on. inr (on, refl) }

pub stopped_one : (old a : RunningSpell) → a.is_on ≡ false → a.running ≡ old.running → a.trace ≡ old.trace →
    IsKeptFrom old a
stopped_one old a off same trace = record { room_same = ap room_of same; trace = trace; pieces = λ on. absurd (cc) }

pub begun_one : (old a : RunningSpell) → count_of a.running ≡ 0 → room_of a.running ≡ room_of old.running →
    a.trace ≡ old.trace → IsKeptFrom old a
begun_one old a none same trace = record { room_same = same; trace = trace; pieces = λ on. inl none }

pub kept_none : (spells : List RunningSpell) → AreKept spells spells
kept_none spells = record { count_same = refl; each = λ f r is. (r, is, kept_one r) }

pub kept_then : (a b d : List RunningSpell) → AreKept a b → AreKept b d → AreKept a d
kept_then a b d early late = record {
  count_same = cc;
  each = λ f r is.
      let n = late.each f r is in
      let o = early.each f n.0 n.1 in (
        o.0,
        o.1,
        record {
          room_same = cc;
          trace = n.2.trace ∙ o.2.trace;
          pieces = λ on. elim (n.2.pieces on) [
            | inl none ↦ inl none
            | inr h ↦ elim (o.2.pieces h.0) [
              | inl none ↦ inl (h.1 ∙ none)
              | inr k ↦ inr (k.0, h.1 ∙ k.1)
            ]
          ];
        },
      );
}

pub kept_written : (spells spells' : List RunningSpell) (i : ℕ) (a old : RunningSpell) → i < length spells →
    spells' ≡ slice_set spells i a → slice_get spells i ≡ Some old → IsKeptFrom old a →
    AreKept spells spells'
kept_written spells spells' i a old low set was kept = record {
  count_same = ap (λ (xs : List RunningSpell). length xs) set ∙ length-set spells i a;
  each = λ f r is. elim (cases_eq f i) [
    | inl z ↦
        let e = ap (λ (k : ℕ). slice_get spells' k) z in
        let w = written_here spells spells' i a low set in
        let same : a ≡ r = (cc) in (
          old,
          cc,
          rw same at kept,
        )
    | inr other ↦ (r, sym (written_other spells spells' i a low set f other) ∙ is, kept_one r)
  ];
}

module _ (old new : List RunningSpell) (kept : AreKept old new) where
  -- those that are on were so before, or begin with a period that is still to come
  pub kept_roomy : (periods t charge : ℕ) →
      ((f : ℕ) → ((live_at new f ≡ live_at old f) ⊎ (live_at new f ≡ None)) ⊎ (t ≤ f - 1)) →
      AreRoomy periods t charge old → AreRoomy periods t charge new
  kept_roomy periods t charge fresh roomy f r is =
      let k = kept.each f r is in
      let o = roomy f k.0 k.1 in
      let whole = o.whole in
      let same = k.2.room_same in
      let count_same = ap (λ (x : Trace). x.count) k.2.trace in
      record {
        whole = omega arith;
        rest = λ on. elim (k.2.pieces on) [
          | inl none ↦ (let rest = room_none periods t charge (room_of k.0.running) whole in omega arith)
          | inr h ↦ (let rest = o.rest h.0 in omega arith)
        ];
        count = λ on. elim (fresh f) [
          | inl before ↦ elim before [
            | inl live ↦ (let was = o.count
                (on_from old f k.0 k.1 (state_of r) (sym live ∙ live_from new f r is on)) in omega arith)
            | inr off ↦ (let live = live_from new f r is on in absurd (cc))
          ]
          | inr early ↦ (let none = o.none early in omega arith)
        ];
        none = λ early. (let none = o.none early in omega arith);
      }

  pub kept_room : (room : ℕ) → HaveRoom room old → HaveRoom room new
  kept_room room have f r is = (let k = kept.each f r is in have f k.0 k.1 ∙ sym k.2.room_same)

  pub kept_left : (log : List Logged) (f k : ℕ) → left_at log new f k ≡ left_at log old f k
  kept_left log f k = elim (slice_get new f) as (λ o. slice_get new f ≡ o → left_of log o k ≡ left_at log old f k) [
    | None ↦ λ is. (
        let past = kept.count_same in
        let end = slice_get_none new f is in
        sym (ap (λ o. left_of log o k) (slice_get_past old f (omega arith))))
    | Some r ↦ λ is. (let o = kept.each f r is in ap (λ (t : Trace). left_by log t k) o.2.trace ∙
        sym (ap (λ o. left_of log o k) o.1))
  ] refl

  pub kept_trails : (log : List Logged) → AreTraces log old → AreTraces log new
  kept_trails log traces f r is =
      (let k = kept.each f r is in subst (IsTrace log) (sym k.2.trace) (traces f k.0 k.1))

-- nothing is left yet
pub none_trails : (log : List Logged) (spells : List RunningSpell) →
    ((f : ℕ) (r : RunningSpell) → slice_get spells f ≡ Some r → r.trace.count ≡ 0) → AreTraces log spells
none_trails log spells none f r is = subst (AreLogged log r.trace.last) (sym (none f r is)) tt

-- ---- rooms

pub room_one : (spells : List RunningSpell) → HaveSameRooms spells spells
room_one spells = record { count_same = refl; keeps = λ room have. have }

pub rooms_then : (a b d : List RunningSpell) → HaveSameRooms a b → HaveSameRooms b d → HaveSameRooms a d
rooms_then a b d early late = record {
  count_same = late.count_same ∙ early.count_same;
  keeps = λ room have. late.keeps room (early.keeps room have);
}

pub rooms_written : (spells spells' : List RunningSpell) (i : ℕ) (a old : RunningSpell) → i < length spells →
    spells' ≡ slice_set spells i a → slice_get spells i ≡ Some old → a.running ≡ old.running →
    HaveSameRooms spells spells'
rooms_written spells spells' i a old low set was same = record {
  count_same = ap (λ (xs : List RunningSpell). length xs) set ∙ length-set spells i a;
  keeps = λ room have. each_written spells spells' i a low set (λ r. room ≡ room_of r.running)
      (have i old was ∙ sym (ap room_of same)) have;
}

-- where none is on, the room of each is all its own
pub off_roomy : (room periods t charge : ℕ) (spells : List RunningSpell) →
    ((f : ℕ) → live_at spells f ≡ None) →
    ((f : ℕ) (r : RunningSpell) → slice_get spells f ≡ Some r → r.trace.count ≡ 0) →
    periods * charge ≤ room → HaveRoom room spells → AreRoomy periods t charge spells
off_roomy room periods t charge spells off none fits have f r is = record {
  whole = (let same = have f r is in omega arith);
  rest = λ on. (let none = off f in let live = ap going_of is ∙ going_on r on in absurd (cc));
  count = λ on. (let none = off f in let live = ap going_of is ∙ going_on r on in absurd (cc));
  none = λ early. none f r is;
}

pub still_roomy : (periods t u charge : ℕ) (spells : List RunningSpell) → t ≤ u →
    ((f : ℕ) → live_at spells f ≡ None) → AreRoomy periods t charge spells → AreRoomy periods u charge spells
still_roomy periods t u charge spells later off roomy f r is = record {
  whole = (roomy f r is).whole;
  rest = λ on. (let none = off f in let live = ap going_of is ∙ going_on r on in absurd (cc));
  count = λ on. (let none = off f in let live = ap going_of is ∙ going_on r on in absurd (cc));
  none = λ early. (roomy f r is).none (omega arith);
}

-- ---- fewer on

pub fewer_none : (live : ℕ → Option Going) → AreFewer live live
fewer_none live f = inl refl

pub fewer_then : (a b d : ℕ → Option Going) → AreFewer a b → AreFewer b d → AreFewer a d
fewer_then a b d early late f = elim (late f) [
  | inl same ↦ elim (early f) [
    | inl e ↦ inl (same ∙ e)
    | inr none ↦ inr (same ∙ none)
  ]
  | inr none ↦ inr none
]

pub fewer_off : (a b : ℕ → Option Going) → AreFewer a b → (f : ℕ) → a f ≡ None → b f ≡ None
fewer_off a b fewer f off = elim (fewer f) [
  | inl same ↦ same ∙ off
  | inr none ↦ none
]

pub fewer_small : (a b : ℕ → Option Going) → AreFewer a b → AreSmall a → AreSmall b
fewer_small a b fewer small f r is = elim (fewer f) [
  | inl same ↦ small f r (sym same ∙ is)
  | inr none ↦ absurd (cc)
]

pub fewer_but : (live live' : ℕ → Option Going) (i : ℕ) → live' i ≡ None →
    ((f : ℕ) → f ≢ i → live' f ≡ live f) → AreFewer live live'
fewer_but live live' i off others f = elim (cases_eq f i) [
  | inl z ↦ inr (cc)
  | inr other ↦ inl (others f other)
]

-- those before n are off, and the list ends there
pub all_off : (spells : List RunningSpell) (n : ℕ) → ((f : ℕ) → f < n → live_at spells f ≡ None) →
    length spells ≤ n → (f : ℕ) → live_at spells f ≡ None
all_off spells n off end f = elim (cases_lt f n) [
  | inl less ↦ off f less
  | inr from ↦ ap going_of (slice_get_past spells f (omega arith))
]
