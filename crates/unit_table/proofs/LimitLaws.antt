-- The table as far as it is within the limits: what is above them can't become the answer.
use Rattle.unit_table.proofs.Common.{◌≡◌, ℕ, zero, suc, ◌+◌, ◌-◌, ◌≤◌, ◌⊎◌, inl, inr, Bool, true, false, cond, Option}
use Rattle.unit_table.proofs.Common.{Some, None, ℤ, pos, ◌+ℤ◌, ◌≤ℤ◌, length, refl, ap, ◌∙◌, subst, arith, int_le}
use Rattle.unit_table.proofs.Common.{ints, cases_Bool, StartCostsAreWithin, ThermalUnit, PriceLists, Schedule}
use Rattle.unit_table.proofs.Common.{IsThermalUnit, IsDispatch, net_cost, spell_cost, AreLimits, capped, cap_of_row}
use Rattle.unit_table.proofs.Common.{IsTableWithin, IsTableTo, IsSpell, off_time, HasAtMost, IsStarted, IsEntryAfter}
use Rattle.unit_table.proofs.Common.{IsLeastEntry, IsEnded, IsLatest}
use Rattle.unit_table.specs.Laws.{CappedRowsAreRows, LimitsAreAboveTheAmount, StartsAreWithinLimits}
use Rattle.unit_table.proofs.SumLaws.{sum_from_to-none}
use Rattle.unit_table.proofs.RangeLaws.{dispatch_in_range, before_low}
use Rattle.unit_table.proofs.StandInLaws.{one_more_cost}

le_from_test : (a b : ℤ) → int_le a b ≡ true → a ≤ℤ b
le_from_test a b h = grind (arith, ints)

lt_from_test : (a b : ℤ) → int_le a b ≡ false → (b +ℤ pos 1) ≤ℤ a
lt_from_test a b h = grind (arith, ints)

-- one of two numbers is within the other
pub cases_le : (a b : ℤ) → (a ≤ℤ b) ⊎ ((b +ℤ pos 1) ≤ℤ a)
cases_le a b = elim (cases_Bool (int_le a b)) [ inl h ↦ inl (le_from_test a b h) | inr h ↦ inr (lt_from_test a b h) ]

-- ---- a row capped

row_none : (limit : ℤ) (o : Option ℤ) → o ≡ None → cap_of_row limit o ≡ Some (limit +ℤ pos 1)
row_none limit o is = ap (cap_of_row limit) is

row_low : (limit v : ℤ) → v ≤ℤ limit → cap_of_row limit (Some v) ≡ Some v
row_low limit v low = elim (cases_Bool (int_le v limit)) [
  | inl h ↦ cc
  | inr h ↦ let high = lt_from_test v limit h in absurd (omega (arith, ints))
]

row_high : (limit v : ℤ) → (limit +ℤ pos 1) ≤ℤ v → cap_of_row limit (Some v) ≡ Some (limit +ℤ pos 1)
row_high limit v high = elim (cases_Bool (int_le v limit)) [
  | inl h ↦ let low = le_from_test v limit h in absurd (omega (arith, ints))
  | inr h ↦ ap (λ (b : Bool). cond b (Some v) (Some (limit +ℤ pos 1))) h
]

row_from : (limit : ℤ) (o : Option ℤ) (v : ℤ) → cap_of_row limit o ≡ Some v →
    ((o ≡ Some v) × (v ≤ℤ limit)) ⊎ (limit +ℤ pos 1 ≡ v)
row_from limit None v is = inr (cc)
row_from limit (Some u) v is = elim (cases_le u limit) [
  | inl low ↦ let e = row_low limit u low in let same : u ≡ v = (cc) in inl
      (ap Some same, omega (arith, ints))
  | inr high ↦ let e = row_high limit u high in inr (cc)
]

-- at most an amount, where a row is, or where the amount is above the limit
row_most : (limit : ℤ) (o : Option ℤ) (c : ℤ) → ((limit +ℤ pos 1) ≤ℤ c) ⊎ HasAtMost o c →
    HasAtMost (cap_of_row limit o) c
row_most limit None c (inl high) = (limit +ℤ pos 1, refl, high)
row_most limit None c (inr h) = (let is = h.1 in cc)
row_most limit (Some u) c h = elim (cases_le u limit) [
  | inr high ↦ (
    limit +ℤ pos 1,
    row_high limit u high,
    elim h [
      | inl above ↦ above
      | inr a ↦
          (let same : u ≡ a.0 = (let is = a.1 in cc) in omega (arith, ints))
    ],
  )
  | inl low ↦ elim h [
    | inl above ↦ (u, row_low limit u low, omega (arith, ints))
    | inr a ↦ (let same : u ≡ a.0 = (let is = a.1 in cc) in (u, row_low limit u low, omega (arith, ints)))
  ]
]

module _ (g : ThermalUnit) (π : PriceLists) (most : ℤ) (limits : ℕ → ℤ) (right : AreLimits g π most limits) where
  -- limits fall
  pub fall : (k n : ℕ) → k + n ≤ length π.energy → limits (k + n) ≤ℤ limits k
  fall k zero low = (let z : k + 0 ≡ k = omega arith in let e = ap limits z in omega (arith, ints))
  fall k (suc n) low =
      let before = fall k n (omega arith) in
      let here = right.falls (k + n) (omega arith) in
      let z : k + suc n ≡ suc (k + n) = omega arith in
      let e = ap limits z in
      omega (arith, ints)

  pub falls : (k l : ℕ) → k ≤ l → l ≤ length π.energy → limits l ≤ℤ limits k
  falls k l order low =
      let z : k + (l - k) ≡ l = omega arith in
      let h = fall k (l - k) (omega arith) in
      let e = ap limits z in
      omega (arith, ints)

  pub above_most : (l : ℕ) → l ≤ length π.energy → most ≤ℤ limits l
  above_most l low = (let h = falls l (length π.energy) low (omega arith) in omega (arith, ints))

  -- a spell that ends within its limit is entered within the limit there
  begun_low : (b last n : ℕ) (e : ℤ) (d : Schedule) → IsDispatch g (length π.energy) (suc b) last d →
      last ≤ length π.energy → b + n ≤ last →
      (e +ℤ spell_cost g π (suc b) (b + n) d) ≤ℤ limits (b + n) → e ≤ℤ limits b
  begun_low b last zero e d dispatch end low under =
      let z : b + 0 ≡ b = omega arith in
      let none : spell_cost g π (suc b) b d ≡ pos 0 = sum_from_to-none (net_cost g π d) b in
      let here : (e +ℤ spell_cost g π (suc b) b d) ≤ℤ limits b = rw z at under in
      omega (arith, ints)
  begun_low b last (suc n) e d dispatch end low under =
      let z : b + suc n ≡ suc (b + n) = omega arith in
      let here : (e +ℤ spell_cost g π (suc b) (suc (b + n)) d) ≤ℤ limits (suc (b + n)) = rw z at under in
      let more = one_more_cost g π (suc b) (b + n) d (omega arith) in
      let step = right.step (b + n) d (omega arith)
      (dispatch_in_range g (length π.energy) (suc b) last d (b + n) dispatch (omega arith) (omega arith)) in
      begun_low b last n e d dispatch end (omega arith)
      (before_low e (spell_cost g π (suc b) (b + n) d) (spell_cost g π (suc b) (suc (b + n)) d)
      (net_cost g π d (suc (b + n))) (limits (b + n)) (limits (suc (b + n))) more step here)

  module _ (unit : IsThermalUnit g) (starts : StartCostsAreWithin) (ends : ℕ → Option ℤ) where
    pub low_start : (f last l : ℕ) (e : ℤ) (d : Schedule) (other : ℕ → Option ℤ) (st : IsStarted g other f last e) →
        IsSpell g (length π.energy) f l → IsDispatch g (length π.energy) f l d →
        (e +ℤ spell_cost g π f l d) ≤ℤ limits l →
        (st.value ≤ℤ limits last)
    low_start f last l e d other st spell dispatch under =
        let first = st.first in
        let end = spell.end in
        let z : st.before + (l - st.before) ≡ l = omega arith in
        let here : (e +ℤ spell_cost g π (suc st.before) (st.before + (l - st.before)) d) ≤ℤ limits
        (st.before + (l - st.before)) =
        rw z (subst (λ (f : ℕ). (e +ℤ spell_cost g π f l d) ≤ℤ limits l) first under) in
        let low = begun_low st.before l (l - st.before) e d
        (rw first at dispatch) end (omega arith) here in
        let start = (starts g.lags (off_time g last st.before) unit.lags).at_least in
        let before = falls last st.before st.gap.off.order (omega arith) in
        omega (arith, ints)

    module _ (f last l : ℕ) (e : ℤ) (d : Schedule) (spell : IsSpell g (length π.energy) f l)
        (dispatch : IsDispatch g (length π.energy) f l d) (under : (e +ℤ spell_cost g π f l d) ≤ℤ limits l) where
      pub entry_real : IsEntryAfter g (capped limits ends) f last e → IsEntryAfter g ends f last e
      entry_real (inl none) = inl none
      entry_real (inr st) =
          let low = low_start f last l e d (capped limits ends) st spell dispatch under in
          inr (record {
            before = st.before;
            first = st.first;
            value = st.value;
            ended = elim (row_from (limits last) (ends last) st.value st.ended) [
              | inl h ↦ h.0
              | inr cap ↦ absurd (omega (arith, ints))
            ];
            gap = st.gap;
            cost = st.cost;
          })

      pub entry_capped : IsEntryAfter g ends f last e → IsEntryAfter g (capped limits ends) f last e
      entry_capped (inl none) = inl none
      entry_capped (inr st) =
          let low = low_start f last l e d ends st spell dispatch under in
          inr (record {
            before = st.before;
            first = st.first;
            value = st.value;
            ended = ap (cap_of_row (limits last)) st.ended ∙ row_low (limits last) st.value low;
            gap = st.gap;
            cost = st.cost;
          })

    -- the table up to the last period
    pub table_whole : (firsts lasts : ℕ → ℕ) → IsTableTo g π limits (length π.energy) (length π.energy) ends firsts
        lasts → IsTableWithin g π limits ends firsts lasts
    table_whole firsts lasts table = record {
      complete = record {
        idle = λ off. row_most (limits 0) (ends 0) (pos 0) (inr (table.idle off));
        spell = λ f l e d low spell entry dispatch. elim (cases_le (e +ℤ spell_cost g π f l d) (limits l)) [
          | inr above ↦ row_most (limits l) (ends l) (e +ℤ spell_cost g π f l d) (inl above)
          | inl under ↦ row_most (limits l) (ends l) (e +ℤ spell_cost g π f l d)
              (inr (table.spell f l e d spell.end spell
              (entry.0, entry_real f entry.0 l e d spell dispatch under entry.1) dispatch under))
        ];
      };
      sound = λ l v low is under. elim (table.sound l v low is under) [
        | inl idle ↦ inl idle
        | inr from ↦
            let old = from.1 in
            let f = firsts l in
            let d = old.least.dispatch in
            let keeps = old.least.keeps in
            let here : (old.entry_cost +ℤ spell_cost g π f l d) ≤ℤ limits l = omega (arith, ints) in
            let entry : IsLeastEntry g (capped limits ends) f (lasts l) old.entry_cost = record {
              entry = entry_capped f (lasts l) l old.entry_cost d old.spell keeps here old.entry.entry;
              least = λ c entry. elim (cases_le old.entry_cost c) [
                | inl low ↦ low
                | inr less ↦ old.entry.least c
                    (entry.0, entry_real f entry.0 l c d old.spell keeps (omega (arith, ints)) entry.1)
              ];
              earliest = λ k entry. old.entry.earliest k (entry_real f k l old.entry_cost d old.spell keeps here entry);
            } in
            let ended : IsEnded g π (length π.energy) (capped limits ends) f (lasts l) l v = record {
              entry_cost = old.entry_cost;
              entry = entry;
              spell = old.spell;
              net = old.net;
              least = old.least;
              cost = old.cost;
            } in
            let latest : IsLatest g π (length π.energy) (suc (length π.energy)) (capped limits ends) f l v = λ h k e
            other less spell entry dispatch same.
            from.2 h k e other less spell
            (entry_real h k l e other spell dispatch (omega (arith, ints)) entry) dispatch same in
            inr (from.0, ended, latest)
      ];
    }

-- ---- the laws

pub capped_rows_are_rows : CappedRowsAreRows
capped_rows_are_rows limit o v = (λ is low. ap (cap_of_row limit) is ∙ row_low limit v low, row_from limit o v)

pub limits_are_above_the_amount : LimitsAreAboveTheAmount
limits_are_above_the_amount g π most limits right = above_most g π most limits right

pub starts_are_within_limits : StartsAreWithinLimits
starts_are_within_limits g π most limits right unit starts f last l e d ends st = low_start g π most limits right unit
    starts ends f last l e d ends st
