-- The list of the running spells that are on: one more, some fewer, and a loop over it.
use Rattle.unit_table.proofs.Common.{◌≡◌, ◌≢◌, ℕ, suc, ◌+◌, ◌<◌, ◌≤◌, ◌⊎◌, inl, inr, Option, Some, None, ℤ, List}
use Rattle.unit_table.proofs.Common.{length, refl, sym, ap, ◌∙◌, subst, arith, slice_get, slice_set}
use Rattle.unit_table.proofs.Common.{cases_lt, cases_eq, ThermalUnit, PriceLists, RunningSpell, Ended, going_of}
use Rattle.unit_table.proofs.Common.{live_at, AreRoomy, IsRoster, Going, IsRowOf, IsOneRun, Logged, Reserved}
use Rattle.unit_table.proofs.Common.{Asked, periods_of}
use Rattle.unit_table.specs.declared.roster.Roster.{Roster}
use Rattle.unit_table.proofs.LiveLaws.{going_on}
use Rattle.plain_lists.proofs.ListLaws.{get_set_same, get_set_other}
use Rattle.unit_table.proofs.RunAllLaws.{IsRunTo, run_more}

-- ---- none, one more, fewer on

pub none_listed : (live : ℕ → Option Going) (until : ℕ) (roster : Roster) → roster.count ≡ 0 →
    ((f : ℕ) → live f ≡ None) → IsRoster live until roster
none_listed live until roster none off = record {
  few = omega arith;
  room = omega arith;
  below = λ i f low is. absurd (omega arith);
  rising = λ i j f h before low is is'. absurd (omega arith);
  all = λ f r is. (let o = off f in cc);
}

-- where no other running spell is on
pub still_listed : (live live' : ℕ → Option Going) (until until' : ℕ) (roster : Roster) → until ≤ until' →
    ((f : ℕ) → live f ≡ None → live' f ≡ None) → IsRoster live until roster → IsRoster live' until' roster
still_listed live live' until until' roster more off list = record {
  few = omega arith;
  room = list.room;
  below = λ i f low is. (let below = list.below i f low is in omega arith);
  rising = list.rising;
  all = λ f r is. elim (live f) as (λ o. live f ≡ o →
      (i : ℕ) × (i < roster.count) × (slice_get roster.firsts.items i ≡ Some f)) [
        | None ↦ λ none. (let gone = off f none in cc)
        | Some x ↦ λ on. list.all f x on
      ] refl;
}

module _ (live live' : ℕ → Option Going) (until : ℕ) (roster roster' : Roster) (list : IsRoster live until roster)
    (room : roster.count < length roster.firsts.items)
    (count : roster'.count ≡ suc roster.count)
    (set : roster'.firsts.items ≡ slice_set roster.firsts.items roster.count until)
    (same_length : length roster'.firsts.items ≡ length roster.firsts.items)
    (others : (f : ℕ) → f ≢ until → live' f ≡ live f) where
  here : slice_get roster'.firsts.items roster.count ≡ Some until
  here = ap (λ (xs : List ℕ). slice_get xs roster.count) set ∙ get_set_same roster.firsts.items roster.count until room

  kept : (i : ℕ) → i ≢ roster.count → slice_get roster'.firsts.items i ≡ slice_get roster.firsts.items i
  kept i other = ap (λ (xs : List ℕ). slice_get xs i) set ∙ get_set_other roster.firsts.items roster.count i until other

  is_last : (i f : ℕ) → i ≡ roster.count → slice_get roster'.firsts.items i ≡ Some f → until ≡ f
  is_last i f z is = (let e = ap (slice_get roster'.firsts.items) z in let h = here in cc)

  pub one_listed : IsRoster live' (suc until) roster'
  one_listed = record {
    few = omega arith;
    room = omega arith;
    below = λ i f low is. elim (cases_eq i (roster.count)) [
      | inl z ↦ (let e = is_last i f z is in omega arith)
      | inr other ↦ (let below = list.below i f (omega arith) (sym (kept i other) ∙ is) in omega arith)
    ];
    rising = λ i j f h before low is is'.
        (let first : slice_get roster.firsts.items i ≡ Some f = sym (kept i (λ z. omega arith))
        ∙ is in
        elim (cases_eq j (roster.count)) [
          | inl z ↦ (let e = is_last j h z is' in let below = list.below i f (omega arith) first in omega arith)
          | inr other ↦ list.rising i j f h before (omega arith) first (sym (kept j other) ∙ is')
        ]);
    all = λ f r is. elim (cases_eq f until) [
      | inl z ↦ (roster.count, omega arith, here ∙ ap Some (sym z))
      | inr other ↦
          let old = list.all f r (sym (others f other) ∙ is) in
          let low = old.1 in
          (old.0, omega arith, kept old.0 (λ z. omega arith) ∙ old.2)
    ];
  }

-- ---- those kept whose running spells are on

module _ (live : ℕ → Option Going) (until : ℕ) (old : Roster) where
  -- of the first p entries the first q of the new list are left; after them it is as it was
  pub record IsKeptTo (p q : ℕ) (new : List ℕ) : Type 0 where
    pub low : q ≤ p
    pub same_length : length new ≡ length old.firsts.items
    pub below : (i f : ℕ) → i < q → slice_get new i ≡ Some f → f < until
    pub rising : (i j f h : ℕ) → i < j → j < q → slice_get new i ≡ Some f → slice_get new j ≡ Some h → f < h
    pub before : (i j f h : ℕ) → i < q → p ≤ j → j < old.count → slice_get new i ≡ Some f →
        slice_get old.firsts.items j ≡ Some h → f < h
    pub rest : (i : ℕ) → p ≤ i → slice_get new i ≡ slice_get old.firsts.items i
    pub all : (f : ℕ) (r : Going) → live f ≡ Some r → ((i : ℕ) × (i < q) × (slice_get new i ≡ Some f)) ⊎
        ((j : ℕ) × (p ≤ j) × (j < old.count) × (slice_get old.firsts.items j ≡ Some f))

module _ (live : ℕ → Option Going) (until : ℕ) (old : Roster) (list : IsRoster live until old) where
  pub none_kept : IsKeptTo live until old 0 0 old.firsts.items
  none_kept = record {
    low = omega arith;
    same_length = refl;
    below = λ i f low. absurd (omega arith);
    rising = λ i j f h before low. absurd (omega arith);
    before = λ i j f h low. absurd (omega arith);
    rest = λ i from. refl;
    all = λ f r is. (let h = list.all f r is in inr (h.0, omega arith, h.1, h.2));
  }

  module _ (p q : ℕ) (new : List ℕ) (so_far : IsKeptTo live until old p q new) (inside : p < old.count) (first : ℕ)
      (is_first : slice_get new p ≡ Some first) where
    was : slice_get old.firsts.items p ≡ Some first
    was = sym (so_far.rest p (omega arith)) ∙ is_first

    pub first_inside : first < until
    first_inside = list.below p first inside was

    -- its running spell is off
    pub one_off : live first ≡ None → IsKeptTo live until old (p + 1) q new
    one_off off = record {
      low = omega arith;
      same_length = so_far.same_length;
      below = so_far.below;
      rising = so_far.rising;
      before = λ i j f h low from. so_far.before i j f h low (omega arith);
      rest = λ i from. so_far.rest i (omega arith);
      all = λ f r is. elim (so_far.all f r is) [
        | inl kept ↦ inl kept
        | inr left ↦
            let from = left.1 in
            elim (cases_eq (left.0) p) [
              | inl z ↦
                  let e = ap (slice_get old.firsts.items) z in
                  let w = was in
                  let there = left.3 in
                  let same : first ≡ f = (cc) in
                  let none = rw same at off in
                  cc
              | inr other ↦ inr (left.0, omega arith, left.2, left.3)
            ]
      ];
    }

    -- it stays
    module _ (new' : List ℕ) (set : new' ≡ slice_set new q first) where
      room : q < length new
      room = omega arith

      here' : slice_get new' q ≡ Some first
      here' = ap (λ (xs : List ℕ). slice_get xs q) set ∙ get_set_same new q first room

      kept' : (i : ℕ) → i ≢ q → slice_get new' i ≡ slice_get new i
      kept' i other = ap (λ (xs : List ℕ). slice_get xs i) set ∙ get_set_other new q i first other

      is_here : (i f : ℕ) → i ≡ q → slice_get new' i ≡ Some f → first ≡ f
      is_here i f z is = (let e = ap (slice_get new') z in let h = here' in cc)

      pub one_kept : length new' ≡ length new → IsKeptTo live until old (p + 1) (q + 1) new'
      one_kept same = record {
        low = omega arith;
        same_length = cc;
        below = λ i f low is. elim (cases_eq i q) [
          | inl z ↦ subst (λ (f : ℕ). f < until) (is_here i f z is) (list.below p first inside was)
          | inr other ↦ so_far.below i f (omega arith) (sym (kept' i other) ∙ is)
        ];
        rising = λ i j f h before low is is'.
            (let less : i < q = omega arith in
            let first_is : slice_get new i ≡ Some f = sym (kept' i (λ z. omega arith)) ∙ is in
            elim (cases_eq j q) [
              | inl z ↦ rw (is_here j h z is') at (so_far.before i p f first less (omega arith) inside first_is was)
              | inr other ↦ so_far.rising i j f h before (omega arith) first_is
                  (sym (kept' j other) ∙ is')
            ]);
        before = λ i j f h low from within is is'. elim (cases_eq i q) [
          | inl z ↦ rw (is_here i f z is) at (list.rising p j first h (omega arith) within was is')
          | inr other ↦ so_far.before i j f h (omega arith) (omega arith) within
              (sym (kept' i other) ∙ is) is'
        ];
        rest = λ i from. (let low = so_far.low in kept' i (λ z. omega arith) ∙
            so_far.rest i (omega arith));
        all = λ f r is. elim (so_far.all f r is) [
          | inl left ↦ (let low = left.1 in inl
              (left.0, omega arith, kept' left.0 (λ z. omega arith) ∙ left.2))
          | inr left ↦
              let from = left.1 in
              elim (cases_eq (left.0) p) [
                | inl z ↦
                    let e = ap (slice_get old.firsts.items) z in
                    let w = was in
                    let there = left.3 in
                    let same : first ≡ f = (cc) in
                    inl (q, omega arith, here' ∙ ap Some same)
                | inr other ↦ inr (left.0, omega arith, left.2, left.3)
              ]
        ];
      }

  pub all_kept : (p : ℕ) (new : Roster) → old.count ≤ p → p ≤ old.count →
      IsKeptTo live until old p new.count new.firsts.items → IsRoster live until new
  all_kept p new from to kept = record {
    few = omega arith;
    room = omega arith;
    below = kept.below;
    rising = kept.rising;
    all = λ f r is. elim (kept.all f r is) [
      | inl here ↦ here
      | inr left ↦ (let after = left.1 in let within = left.2 in absurd (omega arith))
    ];
  }

-- ---- a loop over it

-- running spells that are off change no row
row_further : (g : ThermalUnit) (π : PriceLists) (periods : ℕ) (live : ℕ →
    Option Going) (n m l : ℕ) (end : Option ℤ) (first before : ℕ) → n ≤ m → ((f : ℕ) → n ≤ f → f < m → live f ≡ None) →
    IsRowOf g π periods live n l end first before → IsRowOf g π periods live m l end first before
row_further g π periods live n m l end first before more off row = record {
  most = λ f r d low on. elim (cases_lt f n) [
    | inl less ↦ row.most f r d less on
    | inr from ↦ (let none = off f from low in absurd (cc))
  ];
  latest = λ f r d low on. elim (cases_lt f n) [
    | inl less ↦ row.latest f r d less on
    | inr from ↦ (let none = off f from low in absurd (cc))
  ];
  sound = λ v is. (let h = row.sound v is in let low = h.2 in (h.0, h.1, omega arith, h.3, h.4, h.5));
}

module _ (a : Asked) (rows₀ : List (Option Ended)) (spells₀ : List RunningSpell)
    (log₀ : Reserved Logged)
  where
    -- the first i of the list have run
    pub record IsListRun (roster : Roster) (bound i : ℕ) (rows : List (Option Ended))
        (spells : List RunningSpell) (log : Reserved Logged) : Type 0
      where
        pub until : ℕ
        pub most : until ≤ bound
        pub run : IsRunTo a rows₀ spells₀ log₀ until rows spells log
        pub done : (j f : ℕ) → j < i → slice_get roster.firsts.items j ≡ Some f → f < until
        pub left : (j f : ℕ) → i ≤ j → j < roster.count → slice_get roster.firsts.items j ≡ Some f → until ≤ f

    pub none_run : (roster : Roster) (bound : ℕ) → IsRunTo a rows₀ spells₀ log₀ 0 rows₀
        spells₀ log₀ → IsListRun roster bound 0 rows₀ spells₀ log₀
    none_run roster bound run = record {
      until = 0;
      most = omega arith;
      run = run;
      done = λ j f low. absurd (omega arith);
      left = λ j f from low is. omega arith;
    }

    module _ (roomy₀ : AreRoomy (periods_of a) a.index a.charge spells₀) where
      run_skip : (n m : ℕ) (rows : List (Option Ended)) (spells : List RunningSpell) (log : Reserved Logged) → n ≤ m →
          ((f : ℕ) → n ≤ f → f < m → live_at spells₀ f ≡ None) →
          IsRunTo a rows₀ spells₀ log₀ n rows spells log →
          IsRunTo a rows₀ spells₀ log₀ m rows spells log
      run_skip n m rows spells log more none run = record {
        row = row_further a.unit a.prices (periods_of a) (live_at spells₀) n m (suc a.index) _ _ _ more none run.row;
        others = run.others;
        within = run.within;
        rows_length = run.rows_length;
        goes = λ f r low on. elim (cases_lt f n) [
          | inl less ↦ run.goes f r less on
          | inr from ↦ (let off = none f from low in absurd (cc))
        ];
        off = λ f low is. elim (cases_lt f n) [
          | inl less ↦ run.off f less is
          | inr from ↦ ap going_of (run.rest f from) ∙ is
        ];
        rest = λ f from. run.rest f (omega arith);
        roomy = λ f r low is. elim (cases_lt f n) [
          | inl less ↦ run.roomy f r less is
          | inr from ↦
              let before : slice_get spells₀ f ≡ Some r = sym (run.rest f from) ∙ is in
              record {
                whole = (roomy₀ f r before).whole;
                rest = λ on. (let off = none f from low in let live = ap going_of before ∙
                    going_on r on in absurd (cc));
                count = λ on. (let off = none f from low in let live = ap going_of before ∙
                    going_on r on in absurd (cc));
                none = λ early. (roomy₀ f r before).none (omega arith);
              }
        ];
        ends = run.ends;
        noted = λ f r x v low on. elim (cases_lt f n) [
          | inl less ↦ run.noted f r x v less on
          | inr from ↦ (let off = none f from low in absurd (cc))
        ];
        left = run.left;
        traces = run.traces;
        entries = (let few = run.entries in omega arith);
        log_same = run.log_same;
        keeps = run.keeps;
        count_same = run.count_same;
      }

      module _ (roster : Roster) (bound : ℕ) (list : IsRoster (live_at spells₀) bound roster) where
        module _ (i : ℕ) (rows : List (Option Ended)) (spells : List RunningSpell) (log : Reserved Logged)
            (so_far : IsListRun roster bound i rows spells log) (inside : i < roster.count) (first : ℕ)
            (is : slice_get roster.firsts.items i ≡ Some first) where
          off_between : (f : ℕ) → so_far.until ≤ f → f < first → live_at spells₀ f ≡ None
          off_between f from low = elim (live_at spells₀ f) as (λ o. live_at spells₀ f ≡ o →
              o ≡ None) [
                | None ↦ λ e. refl
                | Some r ↦ λ on.
                    let h = list.all f r on in
                    let contradiction : ⊥ = elim (cases_lt (h.0) i) [
                      | inl less ↦ (let done = so_far.done h.0 f less h.2 in omega arith)
                      | inr most ↦ elim (cases_eq (h.0) i) [
                        | inl z ↦ (let e = ap (slice_get roster.firsts.items) z in let
                            same : f ≡ first =
                            (cc) in omega arith)
                        | inr other ↦ (let later = list.rising i h.0 first f (omega arith)
                            h.1 is h.2 in omega arith)
                      ]
                    ] in
                    absurd contradiction
              ] refl

          pub run_before : IsRunTo a rows₀ spells₀ log₀ first rows spells log
          run_before = run_skip so_far.until first rows spells log
              (so_far.left i first (omega arith) inside is) off_between
              so_far.run

          pub one_run : (rows' : List (Option Ended)) (spells' : List RunningSpell) (log' : Reserved Logged) →
              IsOneRun a first rows rows' spells spells' log log' →
              IsListRun roster bound (i + 1) rows' spells' log'
          one_run rows' spells' log' one = record {
            until = first + 1;
            most = (let below = list.below i first inside is in omega arith);
            run = run_more a rows₀ spells₀ log₀ first rows rows' spells spells' log log' run_before
                one;
            done = λ j f low there. elim (cases_eq j i) [
              | inl z ↦ (let e = ap (slice_get roster.firsts.items) z in let same : f ≡ first = (cc) in omega arith)
              | inr other ↦ (let earlier = list.rising j i f first (omega arith) inside there is in omega arith)
            ];
            left = λ j f from low there.
                (let later = list.rising i j first f (omega arith) low is there in omega arith);
          }

        module _ (i : ℕ) (rows : List (Option Ended)) (spells : List RunningSpell) (log : Reserved Logged)
            (all : IsListRun roster bound i rows spells log) (end : roster.count ≤ i) where
          pub none_later : (f : ℕ) (r : Going) → live_at spells₀ f ≡ Some r → f < all.until
          none_later f r on = (let h = list.all f r on in all.done h.0 f (omega arith) h.2)

          pub run_whole : IsRunTo a rows₀ spells₀ log₀ bound rows spells log
          run_whole = run_skip all.until bound rows spells log all.most
              (λ f from low. elim (live_at spells₀ f) as (λ o. live_at spells₀ f ≡ o → o ≡ None) [
                | None ↦ λ e. refl
                | Some r ↦ λ on. (let before = none_later f r on in absurd (omega arith))
              ] refl) all.run
