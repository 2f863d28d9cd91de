-- Of all schedules that cost the same, what backtracking writes is the first: the table names the earliest end, the
-- latest first period of a spell and the earliest on period before it, and each spell is written first by powers and
-- reserves.
use Rattle.unit_program.proofs.Common.{◌≡◌, ℕ, zero, suc, ◌<◌, ◌≤◌, false, inl, inr, Option, Some, ℤ, pos, ◌+ℤ◌}
use Rattle.unit_program.proofs.Common.{◌≤ℤ◌, refl, ap, ◌∙◌, arith, signed, IsTrue, IsFalse, slice_index}
use Rattle.unit_program.proofs.Common.{slice_index_or, cases_lt, cases_Bool, ThermalUnit, PriceLists, Schedule, on_in}
use Rattle.unit_program.proofs.Common.{power_in, reserve_in, IsThermalFeasible, IsDispatch, IsFirstDispatch}
use Rattle.unit_program.proofs.Common.{spell_cost, IsOffRun, paid}
use Rattle.unit_program.proofs.Common.{IsStarted, IsEnded, IsLatest, IsComplete, IsZeroOff, IsRival, HasSameFlags}
use Rattle.unit_program.proofs.Common.{HasSamePowers, IsFirstBeside, IsFirstUpTo}
use Rattle.unit_program.proofs.BackwardOrder.{IsNoLater}
use Rattle.unit_program.proofs.SpellLaws.{off_time-same}
use Rattle.unit_program.proofs.ShapeLaws.{IsEdge, IsOffAfter, stop_before, known, edge_of}
use Rattle.unit_program.proofs.ShapeLaws.{entry_of, last_on}

-- ---- one spell that the table names

module _ (g : ThermalUnit) (π : PriceLists) (ends : ℕ → Option ℤ) (n : ℕ) (complete : IsComplete g π n (suc n) ends)
    (first before l : ℕ) (v : ℤ) (named : IsEnded g π n ends first before l v) (ended : ends l ≡ Some v)
    (latest : IsLatest g π n (suc n) ends first l v)
    (s : Schedule) (best : IsFirstDispatch g π n first l s named.net) where
  -- what costs as much up to l ends there with a spell that the table has too
  module _ (o : Schedule) (rival : IsRival g π n l v o) where
    on_there : IsTrue (on_in g o l)
    on_there = elim (cases_lt 0 l) [
      | inl one ↦ rival.on one
      | inr none ↦
          let z : l ≡ 0 = omega arith in
          rw z (named.spell.goes_on (omega arith))
    ]

    edge : (f : ℕ) × IsEdge o rival.right π ends f l
    edge = edge_of o rival.right π ends complete l named.spell.end on_there (rival.after on_there)

    exact : (edge.1.cost +ℤ spell_cost g π edge.0 l o) ≡ v
    exact =
        let e = edge.1 in
        let r = complete.spell edge.0 l e.cost o (omega arith) e.spell (e.last, entry_of o rival.right π ends e)
        e.keeps in
        let same : r.0 ≡ v = cc in
        omega signed

    -- it begins no later than the spell that is named
    no_later : edge.0 ≤ first
    no_later =
        let e = edge.1 in
        latest edge.0 e.last e.cost o (omega arith) e.spell (entry_of o rival.right π ends e) e.keeps exact

    -- where it begins there, it costs what the named one does, and so does all before it
    module _ (is : edge.0 ≡ first) where
      keeps_there : IsDispatch g n first l o
      keeps_there = rw is at edge.1.keeps

      costs_there : (spell_cost g π first l o ≡ named.net) × (edge.1.cost ≡ named.entry_cost)
      costs_there =
          let e = edge.1 in
          let low = named.least.least o keeps_there in
          let least = named.entry.least e.cost (e.last, rw is at (entry_of o rival.right π ends e)) in
          let same = ap (λ (f : ℕ). spell_cost g π f l o) is in
          let sum = exact in
          (omega signed, omega signed)

  -- a spell that goes on from before the horizon
  pub first_alone : first ≡ 0 → IsFirstUpTo g π n l v s
  first_alone none o rival =
      let late = no_later o rival in
      let is : (edge o rival).0 ≡ first = omega arith in
      let keeps = keeps_there o rival is in
      let net = (costs_there o rival is).0 in
      record {
        flag = λ t low agree here. (edge o rival).1.run.on t (omega arith) low;
        power = λ flags k low here agree. best.power o keeps net k (omega arith) low
            (λ j above inside. agree j above inside);
        reserve = λ flags powers k low here. best.reserve o keeps net (λ j from inside. powers j (omega arith) inside) k
            (omega arith) low;
      }

  -- a spell that starts after the rest, of which s is the first
  module _ (some_down : 1 ≤ g.min_down) (st : IsStarted g ends first before named.entry_cost)
      (idle : (t : ℕ) → before < t → t ≤ st.before → IsFalse (on_in g s t)) (rest : IsFirstUpTo g π n before st.value s)
    where
      off_before : IsFalse (on_in g s st.before)
      off_before = elim (cases_Bool (on_in g s st.before)) [
        | inr off ↦ off
        | inl on ↦ elim (cases_lt before st.before) [
          | inl more ↦ idle st.before more (omega arith)
          | inr most ↦
              let z : before ≡ st.before = omega arith in
              let down = rw z at st.gap.min_down in
              let none = off_time-same g s st.before on in
              absurd (omega arith)
        ]
      ]

      module _ (o : Schedule) (rival : IsRival g π n l v o) where
        same_first : on_in g o st.before ≡ on_in g s st.before → (edge o rival).0 ≡ first
        same_first same =
            let late = no_later o rival in
            elim (cases_lt st.before (edge o rival).0) [
              | inl more ↦ omega arith
              | inr most ↦
                  let on = (edge o rival).1.run.on st.before most (omega arith) in
                  let off = off_before in cc
            ]

        -- both start there: so both have the same on period before it, and the rival costs as much up to that one
        rival_before : (edge o rival).0 ≡ first → HasSameFlags g o s before st.before → IsRival g π n before st.value o
        rival_before is agree = elim ((edge o rival).1.begins) [
          | inl none ↦ let zero = none.0 in absurd (omega arith)
          | inr w ↦
              let e = (edge o rival).1 in
              let there : IsStarted g ends first e.last named.entry_cost =
              rw (is, (costs_there o rival is).1) at w.0 in
              let earliest = named.entry.earliest e.last (inr there) in
              let k : w.0.before ≡ st.before = (let a = w.0.first in let b = st.first in omega arith) in
              let off : IsOffAfter g o e.last st.before = rw k at w.1 in
              let last : e.last ≡ before = elim (cases_lt before e.last) [
                | inl more ↦
                    let s_off = idle e.last more off.order in
                    let o_on = off.on (omega arith) in
                    let same = agree e.last more off.order in cc
                | inr most ↦ omega arith
              ] in
              let value : w.0.value ≡ st.value = (let a = rw last at w.0.ended in let b = st.ended in cc) in
              let sum = exact o rival in
              let over = w.2 in
              let same : paid g π o e.last ≡ st.value = omega signed in
              let there : IsRival g π n e.last st.value o = record {
                right = rival.right;
                cost = same;
                on = off.on;
                after = (stop_before g o n e.last st.before off).after;
              } in
              rw last at there
        ]

        flag_after : (t : ℕ) → t ≤ l → HasSameFlags g o s t l → IsTrue (on_in g s t) → IsTrue (on_in g o t)
        flag_after t low agree here =
            let late = no_later o rival in
            elim (cases_lt st.before t) [
              | inl later ↦ (edge o rival).1.run.on t (omega arith) low
              | inr until ↦ elim (cases_lt before t) [
                | inl gap ↦ let off = idle t gap until in cc
                | inr under ↦ elim (cases_lt t st.before) [
                  | inl below ↦
                      let is = same_first (agree st.before below (omega arith)) in
                      let earlier = rival_before is (λ u above inside. agree u (omega arith) (omega arith)) in
                      (rest o earlier).flag t under (λ u above inside. agree u above (omega arith)) here
                  | inr most ↦
                      let z : t ≡ st.before = omega arith in
                      let off = off_before in
                      let on = rw z at here in cc
                ]
              ]
            ]

        -- where all flags agree, both start there
        module _ (flags : HasSameFlags g o s 0 l) where
          flags_at : (t : ℕ) → t ≤ l → on_in g o t ≡ on_in g s t
          flags_at zero low = refl
          flags_at (suc k) low = flags (suc k) (omega arith) low

          starts_same : (edge o rival).0 ≡ first
          starts_same = same_first (flags_at st.before (omega arith))

          before_same : IsFirstBeside g before o s
          before_same = rest o (rival_before starts_same (λ u above inside. flags_at u (omega arith)))

          -- what holds of the powers or reserves of the spell, and of those before it, does of all on periods of s
          by_part : (P : ℕ → Type 0) → ((k : ℕ) → first ≤ suc k → k < l → P k) → ((k : ℕ) → k < before →
              IsTrue (on_in g s (suc k)) → P k) → (k : ℕ) → k < l → IsTrue (on_in g s (suc k)) → P k
          by_part P inside under k low here = elim (cases_lt st.before (suc k)) [
            | inl from ↦ inside k (omega arith) low
            | inr until ↦ elim (cases_lt before (suc k)) [
              | inl gap ↦ let off = idle (suc k) gap until in cc
              | inr below ↦ under k below here
            ]
          ]

          power_after : (k : ℕ) → k < l → IsTrue (on_in g s (suc k)) → HasSamePowers o s (suc k) l →
              power_in s (suc k) ≤ℤ power_in o (suc k)
          power_after k low here agree =
              by_part (λ k. HasSamePowers o s (suc k) l → power_in s (suc k) ≤ℤ power_in o (suc k))
              (λ k from low agree. best.power o (keeps_there o rival starts_same) (costs_there o rival starts_same).0 k
              from low agree)
              (λ k below here agree. before_same.power
              (λ u above inside. flags u above (omega arith)) k below here
              (λ j above inside. agree j above (omega arith)))
              k low here agree

          reserve_after : HasSamePowers o s 0 l → (k : ℕ) → k < l → IsTrue (on_in g s (suc k)) →
              reserve_in s (suc k) ≤ℤ reserve_in o (suc k)
          reserve_after powers =
              by_part (λ k. reserve_in s (suc k) ≤ℤ reserve_in o (suc k))
              (λ k from low. best.reserve o (keeps_there o rival starts_same) (costs_there o rival starts_same).0
              (λ j above until. powers j (omega arith) until) k from low)
              (λ k below here. before_same.reserve
              (λ u above inside. flags u above (omega arith)) (λ j above inside. powers j above (omega arith)) k below
              here)

      pub first_after : IsFirstUpTo g π n l v s
      first_after o rival = record
          { flag = flag_after o rival; power = power_after o rival; reserve = reserve_after o rival }

-- ---- the whole horizon

module _ (g : ThermalUnit) (π : PriceLists) (ends : ℕ → Option ℤ) (n : ℕ) (complete : IsComplete g π n (suc n) ends)
    (l : ℕ) (v : ℤ) (low : l ≤ n) (earliest : (k : ℕ) → ends k ≡ Some v → IsOffRun g k n → l ≤ k)
    (least : (k : ℕ) (u : ℤ) → ends k ≡ Some u → IsOffRun g k n → v ≤ℤ u)
    (s : Schedule) (idle : (u : ℕ) → l < u → u ≤ n → IsFalse (on_in g s u)) (zero_off : IsZeroOff g s)
    (first : IsFirstUpTo g π n l v s)
    (o : Schedule) (right : IsThermalFeasible g n o) (cost : paid g π o n ≡ v) where
  -- where the flags after l agree, the other one has its last on period there too
  rival_here : HasSameFlags g o s l n → IsRival g π n l v o
  rival_here agree =
      let k = (last_on o right).0 in
      let e = (last_on o right).1 in
      let r = known o right π ends complete k e.low e.stop in
      let above = least k r.0 r.1 e.run in
      let same = e.cost π in
      let paid_is : paid g π o k ≡ v = omega signed in
      let value : r.0 ≡ v = (let under = r.2 in omega signed) in
      let late = earliest k (r.1 ∙ ap Some value) e.run in
      let z : k ≡ l = elim (cases_lt l k) [
        | inl more ↦
            let s_off = idle k more e.low in
            let o_on = e.stop.on (omega arith) in
            let a = agree k more e.low in cc
        | inr most ↦ omega arith
      ] in
      let there : IsRival g π n k v o =
      record { right = right; cost = paid_is; on = e.stop.on; after = e.stop.after } in
      rw z at there

  flag_whole : (t : ℕ) → t ≤ n → HasSameFlags g o s t n → IsTrue (on_in g s t) → IsTrue (on_in g o t)
  flag_whole t inside agree here = elim (cases_lt l t) [
    | inl above ↦ let off = idle t above inside in cc
    | inr under ↦
        (first o (rival_here (λ u above until. agree u (omega arith) until))).flag t under
        (λ u above until. agree u above (omega arith)) here
  ]

  flags_shifted : (k : ℕ) → ((j : ℕ) → k < j → j < n → slice_index_or o.on j false ≡ slice_index_or s.on j false) →
      HasSameFlags g o s (suc k) n
  flags_shifted k agree zero above until = refl
  flags_shifted k agree (suc j) above until = agree j (omega arith) until

  -- where all flags agree
  module _ (on : o.on ≡ s.on) where
    flags_all : (t : ℕ) → on_in g o t ≡ on_in g s t
    flags_all zero = refl
    flags_all (suc k) = ap (λ xs. slice_index_or xs k false) on

    beside : IsFirstBeside g l o s
    beside = first o (rival_here (λ u above until. flags_all u))

    on_before : (k : ℕ) → k < n → IsTrue (on_in g s (suc k)) → k < l
    on_before k inside here = elim (cases_lt k l) [
      | inl less ↦ less
      | inr most ↦ let off = idle (suc k) (omega arith) inside in cc
    ]

    power_whole : (k : ℕ) → k < n → ((j : ℕ) → k < j → j < n → slice_index o.power j ≡ slice_index s.power j) →
        slice_index s.power k ≤ slice_index o.power k
    power_whole k inside agree = elim (cases_Bool (on_in g s (suc k))) [
      | inl here ↦
          let p = beside.power (λ u above until. flags_all u) k (on_before k inside here) here
          (λ j above until. ap pos (agree j (omega arith) (omega arith))) in
          omega signed
      | inr off ↦ let z = (zero_off (suc k) (omega arith) off).0 in omega signed
    ]

    reserve_whole : o.power ≡ s.power → (k : ℕ) → k < n → slice_index s.reserve k ≤ slice_index o.reserve k
    reserve_whole power k inside = elim (cases_Bool (on_in g s (suc k))) [
      | inl here ↦
          let p = beside.reserve (λ u above until. flags_all u)
          (λ j above until. ap (λ xs. pos (slice_index xs j)) power) k (on_before k inside here) here in
          omega signed
      | inr off ↦ let z = (zero_off (suc k) (omega arith) off).1 in omega signed
    ]

  pub no_later_whole : IsNoLater n o s
  no_later_whole = record {
    on = λ k inside agree here. flag_whole (suc k) inside (flags_shifted k agree) here;
    power = power_whole;
    reserve = reserve_whole;
  }
