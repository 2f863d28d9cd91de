-- All running spells over a period, one after the other.
use Rattle.unit_table.proofs.Common.{room_of, since}
use Rattle.unit_table.proofs.Common.{◌≡◌, ◌≢◌, ℕ, suc, ◌+◌, ◌-◌, ◌<◌, ◌≤◌, ◌⊎◌, ℤ, inl, inr, true, get_or}
use Rattle.unit_table.proofs.Common.{Option, Some, None, List, length, refl, sym, ap, ◌∙◌, subst, arith, slice_get}
use Rattle.unit_table.proofs.Common.{slice_set, slice_get-get_or, slice_get_within, cases_lt, cases_eq}
use Rattle.unit_table.proofs.Common.{Asked, periods_of}
use Rattle.unit_table.proofs.Common.{shown, value_of, state_of, Logged, Reserved, IsTrace, AreTraces, IsOnNoted}
use Rattle.unit_table.proofs.Common.{IsEntryMore, left_by, RunningSpell, Ended, going_of, live_at, left_of, left_at}
use Rattle.unit_table.proofs.Common.{IsRoomy, AreRoomy}
use Rattle.unit_table.proofs.Common.{HaveRoom, row_at, cost_at, first_at, before_at, AreWithin, Going, IsGoneOn}
use Rattle.unit_table.proofs.Common.{IsEndLeft, IsRowTo, IsRowMore, IsOneRun, IsRunOver, length-set}
use Rattle.unit_table.proofs.LiveLaws.{going_on, live_from, each_written}
use Rattle.plain_lists.proofs.ListLaws.{get_set_same, get_set_other}
use Rattle.unit_table.proofs.RowLaws.{cost-same, first-same}
use Rattle.unit_table.proofs.RunningSpellRowLaws.{row_none, row_skip}

module _ (a : Asked) where
  module _ (rows₀ : List (Option Ended)) (spells₀ : List RunningSpell) (log₀ : Reserved Logged) where
    -- what those before n have changed
    pub record IsRunTo (n : ℕ) (rows : List (Option Ended)) (spells : List RunningSpell) (log : Reserved Logged) :
        Type 0 where
      pub row : IsRowTo a (live_at spells₀) n rows
      pub others : (l : ℕ) → l ≢ suc a.index → row_at rows l ≡ row_at rows₀ l
      pub within : AreWithin rows
      pub rows_length : length rows ≡ length rows₀
      pub goes : (f : ℕ) (r : Going) → f < n → live_at spells₀ f ≡ Some r →
          IsGoneOn a.unit a.prices a.index f r (live_at spells f)
      pub off : (f : ℕ) → f < n → live_at spells₀ f ≡ None → live_at spells f ≡ None
      pub rest : (f : ℕ) → n ≤ f → slice_get spells f ≡ slice_get spells₀ f
      pub roomy : (f : ℕ) (r : RunningSpell) → f < n → slice_get spells f ≡ Some r →
          IsRoomy (periods_of a) (suc a.index) a.charge f r
      pub ends : (v : ℤ) → cost_at rows (suc a.index) ≡ Some v →
          IsEndLeft a.unit a.prices (first_at rows (suc a.index)) a.index
          (since (first_at rows (suc a.index)) (left_at log.items spells (first_at rows (suc a.index))) a.index)
      pub noted : (f : ℕ) (r : Going) (x v : ℤ) → f < n → live_at spells₀ f ≡ Some r →
          value_of r.function x ≡ Some v → IsOnNoted a.unit a.prices f a.index
          (since f (left_at log.items spells f) a.index).note
      pub left : (f k : ℕ) → k ≢ a.index - (f - 1) → left_at log.items spells f k ≡ left_at log₀.items spells₀ f k
      pub traces : AreTraces log.items spells
      pub entries : length log.items ≤ length log₀.items + n
      pub log_same : length log.items + log.spare ≡ length log₀.items + log₀.spare
      pub keeps : (room : ℕ) → HaveRoom room spells₀ → HaveRoom room spells
      pub count_same : length spells ≡ length spells₀

    pub run_begins : AreWithin rows₀ → cost_at rows₀ (suc a.index) ≡ None → AreTraces log₀.items spells₀ →
        IsRunTo 0 rows₀ spells₀ log₀
    run_begins within none traces = record {
      row = row_none a.unit a.prices (periods_of a) (live_at spells₀) 0 (suc a.index) (cost_at rows₀ (suc a.index))
          (first_at rows₀ (suc a.index)) (before_at rows₀ (suc a.index)) none;
      others = λ l other. refl;
      within = within;
      rows_length = refl;
      goes = λ f r low is. absurd (omega arith);
      off = λ f low is. absurd (omega arith);
      rest = λ f from. refl;
      roomy = λ f r low is. absurd (omega arith);
      ends = λ v is. cc;
      noted = λ f r x v low is. absurd (omega arith);
      left = λ f k other. refl;
      traces = traces;
      entries = omega arith;
      log_same = refl;
      keeps = λ room have. have;
      count_same = refl;
    }

    at_last : (P : ℕ → Type 0) (n f : ℕ) → f < suc n → (f < n → P f) → P n → P f
    at_last P n f low before here = elim (cases_lt f n) [
      | inl less ↦ before less
      | inr most ↦ let z : n ≡ f = omega arith in subst P z here
    ]

    pub run_more : (n : ℕ) (rows rows' : List (Option Ended)) (spells spells' : List RunningSpell)
        (log log' : Reserved Logged) →
        IsRunTo n rows spells log → IsOneRun a n rows rows' spells spells' log log' →
        IsRunTo (n + 1) rows' spells' log'
    run_more n rows rows' spells spells' log log' so_far one =
        let here : live_at spells n ≡ live_at spells₀ n = ap going_of
        (so_far.rest n (omega arith)) in
        let same : (f : ℕ) → f < n → slice_get spells' f ≡ slice_get spells f = λ f less.
        one.rest f (λ z. omega arith) in
        let next : suc n ≡ n + 1 = omega arith in
        subst (λ (m : ℕ). IsRunTo m rows' spells' log') next (record {
          row = one.more.row (live_at spells₀) (sym here) so_far.row;
          others = λ l other. one.more.others l other ∙ so_far.others l other;
          within = one.more.within;
          rows_length = one.more.rows_length ∙ so_far.rows_length;
          goes = λ f r low. at_last (λ (f : ℕ). live_at spells₀ f ≡ Some r →
              IsGoneOn a.unit a.prices a.index f r (live_at spells' f)) n f low
              (λ less is. subst (IsGoneOn a.unit a.prices a.index f r) (sym (ap going_of (same f less)))
              (so_far.goes f r less is))
              (λ is. one.goes r (here ∙ is));
          off = λ f low. at_last (λ (f : ℕ). live_at spells₀ f ≡ None →
              live_at spells' f ≡ None) n f low
              (λ less is. ap going_of (same f less) ∙ so_far.off f less is)
              (λ is. one.off (here ∙ is));
          rest = λ f from. one.rest f (λ z. omega arith) ∙ so_far.rest f (omega arith);
          roomy = λ f r low. at_last (λ (f : ℕ). slice_get spells' f ≡ Some r →
              IsRoomy (periods_of a) (suc a.index) a.charge f r) n f low
              (λ less is. so_far.roomy f r less (sym (same f less) ∙ is))
              (λ is. one.roomy r is);
          ends = λ v is. elim (one.ends) [
            | inl kept ↦
                let was : cost_at rows (suc a.index) ≡ Some v = sym
                (cost-same rows' rows (suc a.index) (suc a.index) kept) ∙ is in
                let first : first_at rows' (suc a.index) ≡ first_at rows (suc a.index) = first-same rows' rows
                (suc a.index) (suc a.index) kept
                in
                let before = (so_far.row.sound v was).2 in
                let left = one.left_others (first_at rows (suc a.index)) (a.index - (first_at rows (suc a.index) - 1))
                (λ z. omega arith) in
                subst (λ (f : ℕ). IsEndLeft a.unit a.prices f a.index
                (since f (left_at log'.items spells' f) a.index)) (sym first)
                (subst (IsEndLeft a.unit a.prices (first_at rows (suc a.index)) a.index) (sym left) (so_far.ends v was))
            | inr named ↦ subst (λ (f : ℕ). IsEndLeft a.unit a.prices f a.index
                (since f (left_at log'.items spells' f) a.index)) (sym named.0)
                named.1
          ];
          noted = λ f r x v low. at_last (λ (f : ℕ). live_at spells₀ f ≡ Some r → value_of r.function x ≡ Some v →
              IsOnNoted a.unit a.prices f a.index (since f (left_at log'.items spells' f) a.index).note) n f low
              (λ less is there. rw (one.left_others f (a.index - (f - 1)) (λ z. omega arith))
              (so_far.noted f r x v less is there))
              (λ is there. one.noted r x v (here ∙ is) there);
          left = λ f k other. elim (cases_eq f n) [
            | inl z ↦ ap (λ (f : ℕ). left_at log'.items spells' f k) z ∙
                one.left k (λ y. other (y ∙ ap (λ f. a.index - (f - 1)) (sym z))) ∙
                sym (ap (λ (f : ℕ). left_at log.items spells f k) z) ∙ so_far.left f k other
            | inr apart ↦ one.left_others f k apart ∙ so_far.left f k other
          ];
          traces = one.traces;
          entries = (let before = so_far.entries in let more = one.entries in omega arith);
          log_same = one.log_same ∙ so_far.log_same;
          keeps = λ room have. one.keeps room (so_far.keeps room have);
          count_same = one.count_same ∙ so_far.count_same;
        })

    -- none begins later
    module _ (rows : List (Option Ended)) (spells : List RunningSpell) (log : Reserved Logged)
        (all : IsRunTo (suc (suc a.index)) rows spells log)
        (none : (f : ℕ) (r : Going) → live_at spells₀ f ≡ Some r → f < suc (suc a.index))
        (roomy₀ : AreRoomy (periods_of a) a.index a.charge spells₀) where
      all_roomy : AreRoomy (periods_of a) (suc a.index) a.charge spells
      all_roomy f r is = elim (cases_lt f (suc (suc a.index))) [
        | inl less ↦ all.roomy f r less is
        | inr from ↦
            let before : slice_get spells₀ f ≡ Some r = sym (all.rest f from) ∙ is in
            record {
              whole = (roomy₀ f r before).whole;
              rest = λ on.
                  let low = none f _ (ap going_of before ∙ going_on r on) in
                  absurd (omega arith);
              count = λ on.
                  let low = none f _ (ap going_of before ∙ going_on r on) in
                  absurd (omega arith);
              none = λ early. (roomy₀ f r before).none (omega arith);
            }
      ]

      pub run_over : IsRunOver a rows₀ rows spells₀ spells log₀ log
      run_over = record {
        row = all.row;
        others = all.others;
        within = all.within;
        rows_length = all.rows_length;
        goes = λ f r is. all.goes f r (none f r is) is;
        off = λ f is. elim (cases_lt f (suc (suc a.index))) [
          | inl less ↦ all.off f less is
          | inr from ↦ ap going_of (all.rest f from) ∙ is
        ];
        ends = all.ends;
        noted = λ f r x v is there. all.noted f r x v (none f r is) is there;
        left = all.left;
        traces = all.traces;
        entries = all.entries;
        log_same = all.log_same;
        roomy = all_roomy;
        keeps = all.keeps;
        count_same = all.count_same;
      }

-- ---- one running spell over the period, or none

pub item_at : (spells : List RunningSpell) (i : ℕ) → i < length spells → (d : RunningSpell) →
    slice_get spells i ≡ Some (get_or spells i d)
item_at spells i low d = slice_get-get_or spells i d low

module _ (a : Asked) (rows rows' : List (Option Ended)) (spells : List RunningSpell) (i : ℕ) (log : Reserved Logged)
  where
    -- the running spell at i is on, and goes to b
    module _ (old b : RunningSpell) (at : slice_get spells i ≡ Some old) (on : old.is_on ≡ true)
        (log' : Reserved Logged) where
      here : slice_get (slice_set spells i b) i ≡ Some b
      here = get_set_same spells i b (slice_get_within spells i old at)

      same_left : (k : ℕ) → left_at log'.items (slice_set spells i b) i k ≡ left_by log'.items b.trace k
      same_left k = ap (λ o. left_of log'.items o k) here

      -- what the others left
      others_left : AreTraces log.items spells → IsEntryMore log log' old.trace b.trace → (f k : ℕ) → f ≢ i →
          left_at log'.items (slice_set spells i b) f k ≡ left_at log.items spells f k
      others_left traces entry f k other =
          ap (λ o. left_of log'.items o k) (get_set_other spells i f b other) ∙
          (elim (slice_get spells f) as (λ o. slice_get spells f ≡ o →
          left_of log'.items o k ≡ left_of log.items o k) [
            | None ↦ λ is. refl
            | Some r ↦ λ is. (entry.others r.trace (traces f r is)).1 k
          ] refl)

      pub run_written : IsRowMore a i (going_of (Some old)) rows rows' →
          ((r : Going) → going_of (Some old) ≡ Some r → IsGoneOn a.unit a.prices a.index i r (going_of (Some b))) →
          (row_at rows' (suc a.index) ≡ row_at rows (suc a.index)) ⊎
          ((first_at rows' (suc a.index) ≡ i) × IsEndLeft a.unit a.prices i a.index
          (since i (left_by log'.items b.trace) a.index)) →
          ((x v : ℤ) → value_of (shown old.running) x ≡ Some v →
          IsOnNoted a.unit a.prices i a.index (since i (left_by log'.items b.trace) a.index).note) →
          AreTraces log.items spells → IsEntryMore log log' old.trace b.trace → old.trace.count ≡ a.index - (i - 1) →
          IsRoomy (periods_of a) (suc a.index) a.charge i b → room_of b.running ≡ room_of old.running →
          IsOneRun a i rows rows' spells (slice_set spells i b) log log'
      run_written more goes ends noted traces entry count roomy same =
          let live = ap going_of at in
          record {
            more = rw live more;
            goes = λ r is. rw (ap going_of here) (goes r (sym live ∙ is));
            off = λ off. (let is = live_from spells i old at on in absurd (cc));
            rest = λ f other. get_set_other spells i f b other;
            roomy = λ r is. (let same : b ≡ r = (let h = here in cc) in rw same at roomy);
            ends = elim ends [
              | inl kept ↦ inl kept
              | inr named ↦ inr (named.0, rw (same_left (a.index - (i - 1))) named.1)
            ];
            noted = λ r x v is there.
                let same_state : state_of old ≡ r = (let live = live_from spells i old at on in cc) in
                rw (same_left (a.index - (i - 1)))
                (noted x v (ap (λ (r : Going). value_of r.function x) same_state ∙ there));
            left = λ k other. same_left k ∙ entry.earlier k (λ z. other (z ∙ count)) ∙
                sym (ap (λ o. left_of log.items o k) at);
            left_others = others_left traces entry;
            traces =
                each_written spells (slice_set spells i b) i b (slice_get_within spells i old at) refl
                (λ r. IsTrace log'.items r.trace) entry.there (λ j r is. (entry.others r.trace (traces j r is)).0);
            entries = (let more = entry.entries in omega arith);
            log_same = (let more = entry.entries in let spare = entry.spare in omega arith);
            keeps = λ room have.
                each_written spells (slice_set spells i b) i b (slice_get_within spells i old at) refl
                (λ r. room ≡ room_of r.running) (have i old at ∙ sym same) have;
            count_same = length-set spells i b;
          }

    -- it is off
    pub run_skipped : live_at spells i ≡ None → AreWithin rows →
        ((r : RunningSpell) → slice_get spells i ≡ Some r → IsRoomy (periods_of a) a.index a.charge i r) →
        AreTraces log.items spells → IsOneRun a i rows rows spells spells log log
    run_skipped off within roomy traces = record {
      more = record {
        row = λ live is row. row_skip a.unit a.prices (periods_of a) live i (suc a.index) _ _ _ row
            (λ r d on spell dispatch. (let none = is ∙ off in cc));
        others = λ l other. refl;
        within = within;
        rows_length = refl;
      };
      goes = λ r is. absurd (cc);
      off = λ off. off;
      rest = λ f other. refl;
      roomy = λ r is. (
          let old = roomy r is in
          record {
            whole = old.whole;
            rest = λ on. (let live = live_from spells i r is on in absurd (cc));
            count = λ on. (let live = live_from spells i r is on in absurd (cc));
            none = λ early. old.none (omega arith);
          });
      ends = inl refl;
      noted = λ r x v is. absurd (cc);
      left = λ k other. refl;
      left_others = λ f k other. refl;
      traces = traces;
      entries = omega arith;
      log_same = refl;
      keeps = λ room have. have;
      count_same = refl;
    }
