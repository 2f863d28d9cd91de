-- The run that a period of a schedule is in, and what the schedule costs up to it: no less than the tables say.
use Rattle.unit_program.proofs.Common.{◌≡◌, ℕ, zero, suc, ◌-◌, ◌<◌, ◌≤◌, ◌⊎◌, inl, inr, [], Option, ℤ, pos}
use Rattle.unit_program.proofs.Common.{neg_ℤ, ◌+ℤ◌, ◌-ℤ◌, ◌≤ℤ◌, refl, ap, arith, signed, IsTrue, IsFalse, cases_Bool}
use Rattle.unit_program.proofs.Common.{cases_lt, ThermalUnit, Thermal, PriceLists, Schedule, on_in, time_down}
use Rattle.unit_program.proofs.Common.{IsThermalFeasible, start_cost_of, earnings, net_cost, spell_cost, on_time}
use Rattle.unit_program.proofs.Common.{off_time, IsSpell, IsOffRun, IsGap, start_cost_after, paid, HasAtMost}
use Rattle.unit_program.proofs.Common.{IsStarted, IsEntryAfter, IsComplete, IsStep, IsDispatch, time_up}
use Rattle.unit_program.proofs.CommitLaws.{steps_from_rules}
use Rattle.unit_program.proofs.RunLaws.{held-more, held-none}
use Rattle.unit_program.proofs.CostLaws.{earnings-paid}
use Rattle.unit_program.proofs.SpellLaws.{IsRun, dispatch_of_run, on_time-more}
use Rattle.unit_program.proofs.SpellLaws.{period_cost-stay, period_cost-start, period_cost-off, off_time-first}
use Rattle.unit_program.proofs.SpellLaws.{time_down-on, time_down-more}
use Rattle.unit_rows.proofs.RipeLaws.{off_next}
use Rattle.unit_table.proofs.SumLaws.{sum_from_to-more, sum_from_to-one}

-- no price is looked at
abbrev free : PriceLists
free = record { energy = []; reserve = [] }

module _ (g : ThermalUnit) (s : Schedule) where
  -- period t is off, after the on period l, or since before the horizon
  pub record IsOffAfter (l t : ℕ) : Type 0 where
    pub order : l ≤ t
    pub off : (k : ℕ) → l < k → k ≤ t → IsFalse (on_in g s k)
    pub here : IsFalse (on_in g s t)
    pub on : 1 ≤ l → IsTrue (on_in g s l)

  -- period t is on since f, or off after l
  abbrev pub Shape : ℕ → Type 0
  Shape t = ((f : ℕ) × IsRun g s f t) ⊎ ((l : ℕ) × IsOffAfter l t)

  run_at : (t : ℕ) → IsTrue (on_in g s t) → ((k : ℕ) → t ≡ suc k → IsFalse (on_in g s k)) → IsRun g s t t
  run_at t on before = record {
    order = omega arith;
    on = λ k from until. let z : k ≡ t = omega arith in rw z on;
    before = before;
  }

  run_more : (f t : ℕ) → IsRun g s f t → IsTrue (on_in g s (suc t)) → IsRun g s f (suc t)
  run_more f t run on = record {
    order = omega arith;
    on = λ k from until. elim (cases_lt k (suc t)) [
      | inl less ↦ run.on k from (omega arith)
      | inr most ↦ let z : k ≡ suc t = omega arith in rw z on
    ];
    before = run.before;
  }

  off_more : (l t : ℕ) → l ≤ t → ((k : ℕ) → l < k → k ≤ t → IsFalse (on_in g s k)) →
      (1 ≤ l → IsTrue (on_in g s l)) → IsFalse (on_in g s (suc t)) → IsOffAfter l (suc t)
  off_more l t order before on off = record {
    order = omega arith;
    off = λ k above until. elim (cases_lt k (suc t)) [
      | inl less ↦ before k above (omega arith)
      | inr most ↦ let z : k ≡ suc t = omega arith in rw z off
    ];
    here = off;
    on = on;
  }

  pub shape_of : (t : ℕ) → Shape t
  shape_of zero = elim (cases_Bool g.on0) [
    | inl on ↦ inl (0, run_at 0 on (λ k is. absurd (omega arith)))
    | inr off ↦ inr (
      0,
      record {
        order = omega arith;
        off = λ k above until. absurd (omega arith);
        here = off;
        on = λ one. absurd (omega arith);
      },
    )
  ]
  shape_of (suc t) = elim (cases_Bool (on_in g s (suc t))) [
    | inl on ↦ elim (shape_of t) [
      | inl w ↦ inl (w.0, run_more w.0 t w.1 on)
      | inr w ↦ inl (suc t, run_at (suc t) on (λ k is. let z : k ≡ t = omega arith in rw z w.1.here))
    ]
    | inr off ↦ elim (shape_of t) [
      | inl w ↦ inr (
        t,
        off_more t t (omega arith) (λ k above until. absurd (omega arith))
            (λ _. w.1.on t w.1.order (omega arith)) off,
      )
      | inr w ↦ inr (w.0, off_more w.0 t w.1.order w.1.off w.1.on off)
    ]
  ]

  -- of n periods, the last of a run, or period 0
  pub record IsStop (n l : ℕ) : Type 0 where
    pub on : 1 ≤ l → IsTrue (on_in g s l)
    pub after : IsTrue (on_in g s l) → l < n → IsFalse (on_in g s (suc l))

  pub stop_before : (n l t : ℕ) → IsOffAfter l t → IsStop n l
  stop_before n l t rest = record {
    on = rest.on;
    after = λ on _. elim (cases_lt l t) [
      | inl more ↦ rest.off (suc l) (omega arith) more
      | inr most ↦
          let z : t ≡ l = omega arith in
          let off = rw z at rest.here in cc
    ];
  }

  -- what is off before a run is so after an earlier on period
  pub rest_before : (k l : ℕ) → IsRun g s (suc k) l → (last : ℕ) × IsOffAfter last k
  rest_before k l run = elim (shape_of k) [
    | inl w ↦
        let on = w.1.on k w.1.order (omega arith) in
        let off = run.before k refl in cc
    | inr w ↦ w
  ]

  -- ---- times and costs

  module _ (π : PriceLists) where
    -- what all before a run costs, with its start
    abbrev pub begun : ℕ → ℤ
    begun zero = pos 0
    begun (suc k) = paid g π s k +ℤ start_cost_of g.lags (time_down g s k)

    pub run_known : (f t : ℕ) → IsRun g s f t →
        (time_up g s t ≡ on_time g f t) × (paid g π s t ≡ begun f +ℤ spell_cost g π f t s)
    run_known f zero run =
        let z : f ≡ 0 = omega arith in
        let on = run.on 0 (omega arith) (omega arith) in
        let time : time_up g s 0 ≡ g.up0 = rw on in
        let one = sum_from_to-one (net_cost g π s) 0 in
        rw z (omega arith, omega signed)
    run_known f (suc t) run =
        let on = run.on (suc t) run.order (omega arith) in
        let time = held-more (on_in g s) g.up0 t on in
        elim (cases_lt f (suc t)) [
          | inl less ↦
              let before : IsRun g s f t = record
              { order = omega arith; on = λ k from until. run.on k from (omega arith); before = run.before } in
              let r = run_known f t before in
              let stay = period_cost-stay g π s t (run.on t (omega arith) (omega arith)) on in
              let sum = sum_from_to-more (net_cost g π s) f t (omega arith) in
              let longer = on_time-more g f t (omega arith) in
              (omega arith, omega signed)
          | inr most ↦
              let z : f ≡ suc t = omega arith in
              let off = run.before t z in
              let start = period_cost-start g π s t off on in
              let one = sum_from_to-one (net_cost g π s) (suc t) in
              let none = held-none (on_in g s) g.up0 t off in
              rw z (omega arith, omega signed)
        ]

    pub rest_known : (l t : ℕ) → IsOffAfter l t →
        (time_down g s t ≡ off_time g l t) × (paid g π s t ≡ paid g π s l)
    rest_known l zero rest =
        let z : l ≡ 0 = omega arith in
        rw z (rw rest.here (omega arith), refl)
    rest_known l (suc t) rest =
        let more = time_down-more g s t rest.here in
        let free = period_cost-off g π s t rest.here in
        elim (cases_lt l (suc t)) [
          | inr most ↦
              let z : l ≡ suc t = omega arith in
              let on = rw z at (rest.on (omega arith)) in
              let off = rest.here in cc
          | inl less ↦ elim (cases_Bool (on_in g s t)) [
            | inl on ↦ elim (cases_lt l t) [
              | inl above ↦ let off = rest.off t above (omega arith) in cc
              | inr most ↦
                  let z : l ≡ t = omega arith in
                  let none = time_down-on g s t on in
                  let first = off_time-first g s t on in
                  rw z (omega arith, omega signed)
            ]
            | inr off ↦
                let before : IsOffAfter l t = record {
                  order = omega arith;
                  off = λ k above until. rest.off k above (omega arith);
                  here = off;
                  on =
                      rest.on;
                } in
                let r = rest_known l t before in
                let longer = off_next g l t (omega arith) in
                (omega arith, omega signed)
          ]
        ]

-- ---- the runs of a feasible schedule as spells, and its times off

module _ {g : ThermalUnit} {n : ℕ} (s : Schedule) (right : IsThermalFeasible g n s) where
  steps : (k : ℕ) → k < n → IsStep g s k
  steps k low = steps_from_rules g s right.commitment k (let long = right.schedule.on in omega arith)

  pub spell_of : (f l : ℕ) → IsRun g s f l → l ≤ n → (l < n → IsFalse (on_in g s (suc l))) → IsSpell g n f l
  spell_of f l run low after = record {
    order = run.order;
    end = low;
    goes_on = λ is. run.on 0 (omega arith) (omega arith);
    marks = λ t one from until mark.
        let z : t ≡ suc (t - 1) = omega arith in
        let off = (steps (t - 1) (omega arith)).must_off (rw z at mark) in
        let on = rw z at (run.on t from until) in cc;
    min_up = λ inside.
        let least = (steps l inside).stop (run.on l run.order (omega arith)) (after inside) in
        let time = (run_known g s free f l run).0 in
        omega arith;
  }

  pub off_run_of : (l t : ℕ) → IsOffAfter g s l t → t ≤ n → IsOffRun g l t
  off_run_of l t rest low = record {
    order = rest.order;
    must_run = λ must. elim (cases_lt l t) [
      | inl above ↦
          let z : t ≡ suc (t - 1) = omega arith in
          let on = (steps (t - 1) (omega arith)).must_run must in
          let off = rw z at rest.here in cc
      | inr most ↦ most
    ];
    marks = λ u above until mark.
        let z : u ≡ suc (u - 1) = omega arith in
        let on = (steps (u - 1) (omega arith)).must_on (rw z at mark) in
        let off = rw z at (rest.off u above until) in cc;
  }

  pub gap_of : (l k : ℕ) → IsOffAfter g s l k → k < n → IsTrue (on_in g s (suc k)) → IsGap g l k
  gap_of l k rest low on =
      let least = (steps k low).start rest.here on in
      let time = (rest_known g s free l k rest).0 in
      record { off = off_run_of l k rest (omega arith); min_down = omega arith }

  -- ---- what the table says

  module _ (π : PriceLists) (ends : ℕ → Option ℤ) where
    -- a run to l as the table has it: nothing is before it, or all up to `last` costs at least what the table says
    pub record IsEdge (f l : ℕ) : Type 0 where
      pub run : IsRun g s f l
      pub spell : IsSpell g n f l
      pub keeps : IsDispatch g n f l s
      pub last : ℕ
      pub cost : ℤ
      pub over : ℤ
      pub begins : ((f ≡ 0) × (cost ≡ pos 0)) ⊎ ((st : IsStarted g ends f last cost) × IsOffAfter g s last st.before ×
          (paid g π s last ≡ st.value +ℤ over))
      pub least : pos 0 ≤ℤ over
      pub paid_is : paid g π s l ≡ (cost +ℤ spell_cost g π f l s) +ℤ over

    pub entry_of : {f l : ℕ} (edge : IsEdge f l) → IsEntryAfter g ends f edge.last edge.cost
    entry_of edge = elim (edge.begins) [ inl none ↦ inl none | inr st ↦ inr st.0 ]

    edge_from : (f l : ℕ) → l ≤ n → IsRun g s f l → (l < n → IsFalse (on_in g s (suc l))) →
        ((k : ℕ) → k < f → IsStop g s n k → HasAtMost (ends k) (paid g π s k)) → IsEdge f l
    edge_from zero l low run after known =
        let all_ = (run_known g s π 0 l run).1 in
        record {
          run = run;
          spell = spell_of 0 l run low after;
          keeps = dispatch_of_run g s right run low after;
          last = 0;
          cost = pos 0;
          over = pos 0;
          begins = inl (refl, refl);
          least = omega signed;
          paid_is = omega signed;
        }
    edge_from (suc k) l low run after known =
        let w = rest_before g s k l run in
        let rest = w.1 in
        let before = known w.0 (omega arith) (stop_before g s n w.0 k rest) in
        let time = ap (start_cost_of g.lags) (rest_known g s π w.0 k rest).0 in
        let same = (rest_known g s π w.0 k rest).1 in
        let all_ = (run_known g s π (suc k) l run).1 in
        let start : IsStarted g ends (suc k) w.0 (before.0 +ℤ start_cost_after g w.0 k) = record {
          before = k;
          first = refl;
          value = before.0;
          ended = before.1;
          gap = gap_of w.0 k rest (omega arith) (run.on (suc k) (omega arith) run.order);
          cost = refl;
        } in
        record {
          run = run;
          spell = spell_of (suc k) l run low after;
          keeps = dispatch_of_run g s right run low after;
          last = w.0;
          cost = before.0 +ℤ start_cost_after g w.0 k;
          over = paid g π s w.0 -ℤ before.0;
          begins = inr (start, rest, omega signed);
          least = (let low = before.2 in omega signed);
          paid_is = omega signed;
        }

    module _ (complete : IsComplete g π n (suc n) ends) where
      known_by : (m l : ℕ) → l < m → l ≤ n → IsStop g s n l → HasAtMost (ends l) (paid g π s l)
      known_by zero l near low stop = absurd (omega arith)
      known_by (suc m) l near low stop = elim (shape_of g s l) [
        | inl w ↦
            let edge = edge_from w.0 l low w.1 (stop.after (w.1.on l w.1.order (omega arith)))
            (λ k below. known_by m k (omega arith) (omega arith)) in
            let r = complete.spell w.0 l edge.cost s (omega arith) edge.spell (edge.last, entry_of edge) edge.keeps in
            (r.0, r.1, omega signed)
        | inr w ↦ idle l w.1.here stop.on
      ]
        where
          idle : (l : ℕ) → IsFalse (on_in g s l) → (1 ≤ l → IsTrue (on_in g s l)) → HasAtMost (ends l) (paid g π s l)
          idle zero off on = complete.idle off
          idle (suc k) off on = let here = on (omega arith) in cc

      -- it has an end at l that costs at most what the schedule does
      pub known : (l : ℕ) → l ≤ n → IsStop g s n l → HasAtMost (ends l) (paid g π s l)
      known l = known_by (suc l) l (omega arith)

      -- and l ends a spell of it
      pub edge_of : (l : ℕ) → l ≤ n → IsTrue (on_in g s l) → (l < n → IsFalse (on_in g s (suc l))) →
          (f : ℕ) × IsEdge f l
      edge_of l low on after = elim (shape_of g s l) [
        | inl w ↦ (w.0, edge_from w.0 l low w.1 after (λ k below. known k (let order = w.1.order in omega arith)))
        | inr w ↦ let off = w.1.here in cc
      ]

  -- l is the last on period, or 0 where there is none
  pub record IsLastOn (l : ℕ) : Type 0 where
    pub low : l ≤ n
    pub stop : IsStop g s n l
    pub off : (t : ℕ) → l < t → t ≤ n → IsFalse (on_in g s t)
    pub run : IsOffRun g l n
    pub cost : (π : PriceLists) → paid g π s n ≡ paid g π s l

  pub last_on : (l : ℕ) × IsLastOn l
  last_on = elim (shape_of g s n) [
    | inl w ↦ (
      n,
      record {
        low = omega arith;
        stop = record { on = λ _. w.1.on n w.1.order (omega arith); after = λ _ inside. absurd (omega arith) };
        off = λ t above until. absurd (omega arith);
        run = omega arith;
        cost = λ π. refl;
      },
    )
    | inr w ↦ (
      w.0,
      record {
        low = w.1.order;
        stop = stop_before g s n w.0 n w.1;
        off = w.1.off;
        run = off_run_of w.0 n w.1 (omega arith);
        cost = λ π. (rest_known g s π w.0 n w.1).1;
      },
    )
  ]

-- the table has an end at most as dear as any feasible schedule, off from there to the last period
pub table_is_least : (g : ThermalUnit) (π : PriceLists) (ends : ℕ → Option ℤ) (periods : ℕ) (s : Schedule) →
    IsThermalFeasible g periods s → IsComplete g π periods (suc periods) ends →
    (l : ℕ) × (l ≤ periods) × IsOffRun g l periods × HasAtMost (ends l) (neg_ℤ (earnings (Thermal g) π s))
table_is_least g π ends periods s right complete =
    let e = last_on s right in
    let r = known s right π ends complete e.0 e.1.low e.1.stop in
    let cost = e.1.cost π in
    let earned = earnings-paid g π s periods right.schedule in
    (e.0, e.1.low, e.1.run, (r.0, r.1, omega signed))
