-- The table after the spells from one first period to an ever later last one.
use Rattle.test_units.proofs.Common.{◌≡◌, ◌≢◌, ℕ, ◌+◌, ◌<◌, ◌≤◌, ◌⊎◌, inl, inr, Option, Some, ℤ, ◌+ℤ◌, List, sym, ap}
use Rattle.test_units.proofs.Common.{◌∙◌, subst, arith, ints, cases_eq, cases_lt, ThermalUnit, Ended, IsSpell}
use Rattle.test_units.proofs.Common.{HasAtMost, IsUpdate, row_at, cost_at, first_at, before_at, AreWithin}
use Rattle.test_units.proofs.RowLaws.{cost-same, first-same, before-same}
use Rattle.unit_table.proofs.RowLaws.{cost-is, first-is, before-is}

module _ (g : ThermalUnit) (periods first before : ℕ) (e : ℤ) (nets : ℕ → Option ℤ) (rows : List (Option Ended)) where
  -- the row is the old one, or that of a spell from first to l
  abbrev IsRowOf : List (Option Ended) → ℕ → ℤ → Type 0
  IsRowOf rows' l v =
      (row_at rows' l ≡ row_at rows l)
      ⊎ ((first_at rows' l ≡ first) × (before_at rows' l ≡ before) × IsSpell g periods first l ×
      ((c : ℤ) × (nets l ≡ Some c) × (v ≡ e +ℤ c)))

  -- the spells that end before period `last` are put
  pub record IsUpdateSoFar (last : ℕ) (rows' : List (Option Ended)) : Type 0 where
    pub same : (l : ℕ) → l < first → row_at rows' l ≡ row_at rows l
    pub keeps : (l : ℕ) (v : ℤ) → cost_at rows l ≡ Some v → HasAtMost (cost_at rows' l) v
    pub adds : (l : ℕ) (c : ℤ) → l < last → IsSpell g periods first l → nets l ≡ Some c →
        HasAtMost (cost_at rows' l) (e +ℤ c)
    pub takes : (l : ℕ) (c : ℤ) → l < last → IsSpell g periods first l → nets l ≡ Some c →
        cost_at rows' l ≡ Some (e +ℤ c) → first_at rows' l ≡ first
    pub sound : (l : ℕ) (v : ℤ) → cost_at rows' l ≡ Some v → IsRowOf rows' l v
    pub within : AreWithin rows'

  -- no spell ends with period `last`
  pub update_skip : (last : ℕ) (rows' : List (Option Ended)) →
      ((c : ℤ) → IsSpell g periods first last → nets last ≡ Some c → ⊥) → IsUpdateSoFar last rows' →
      IsUpdateSoFar (last + 1) rows'
  update_skip last rows' none so_far = record {
    same = so_far.same;
    keeps = so_far.keeps;
    adds = λ l c low spell net. elim (cases_eq l last) [
      | inl is ↦ absurd (none c (subst (IsSpell g periods first) is spell) (ap nets (sym is) ∙ net))
      | inr other ↦ so_far.adds l c (omega (arith, low, other)) spell net
    ];
    takes = λ l c low spell net here. elim (cases_eq l last) [
      | inl is ↦ absurd (none c (subst (IsSpell g periods first) is spell) (ap nets (sym is) ∙ net))
      | inr other ↦ so_far.takes l c (omega (arith, low, other)) spell net here
    ];
    sound = so_far.sound;
    within = so_far.within;
  }

  -- one does
  module _ (last : ℕ) (c : ℤ) (spell : IsSpell g periods first last) (net : nets last ≡ Some c) (ended : Ended)
      (cost : ended.cost ≡ e +ℤ c) (begins : ended.first ≡ first) (after : ended.before ≡ before)
      (rows' rows'' : List (Option Ended)) (so_far : IsUpdateSoFar last rows')
      (others : (l : ℕ) → l ≢ last → row_at rows'' l ≡ row_at rows' l)
      (here : (row_at rows'' last ≡ row_at rows' last) ⊎ (row_at rows'' last ≡ Some ended))
      (old : (v : ℤ) → cost_at rows' last ≡ Some v → HasAtMost (cost_at rows'' last) v)
      (added : HasAtMost (cost_at rows'' last) ended.cost)
      (latest : cost_at rows'' last ≡ Some ended.cost → row_at rows'' last ≡ Some ended)
      (within : AreWithin rows'') where
    from_before : (l : ℕ) (v : ℤ) → row_at rows'' l ≡ row_at rows' l → cost_at rows'' l ≡ Some v → IsRowOf rows'' l v
    from_before l v same is = elim (so_far.sound l v (sym (cost-same rows'' rows' l l same) ∙ is)) [
      | inl h ↦ inl (same ∙ h)
      | inr h ↦ inr (first-same rows'' rows' l l same ∙ h.0, before-same rows'' rows' l l same ∙ h.1, h.2, h.3)
    ]

    from_here : (v : ℤ) → cost_at rows'' last ≡ Some v → IsRowOf rows'' last v
    from_here v is = elim here [
      | inl h ↦ from_before last v h is
      | inr h ↦
          let v_is : ended.cost ≡ v = (let a = cost-is rows'' last ended h in cc) in
          inr (
            first-is rows'' last ended h ∙ begins,
            before-is rows'' last ended h ∙ after,
            spell,
            (c, net, sym v_is ∙ cost),
          )
    ]

    pub update_more : IsUpdateSoFar (last + 1) rows''
    update_more = record {
      same = λ l low. (others l (λ is. omega (arith, low, is)) ∙ so_far.same l low);
      keeps = λ l v is. (let r = so_far.keeps l v is in elim (cases_eq l last) [
        | inl same ↦
            let s = old r.0 (ap (cost_at rows') (sym same) ∙ r.1) in
            let a = s.2 in
            (s.0, ap (cost_at rows'') same ∙ s.1, omega (arith, ints, a))
        | inr other ↦ (r.0, cost-same rows'' rows' l l (others l other) ∙ r.1, r.2)
      ]);
      adds = λ l d low spell' net'. elim (cases_eq l last) [
        | inl same ↦
            let z : c ≡ d = (let a = ap nets same in cc) in
            let r = added in
            (r.0, ap (cost_at rows'') same ∙ r.1, omega (arith, ints, z, cost))
        | inr other ↦
            let r = so_far.adds l d (omega (arith, low, other)) spell' net' in
            (r.0, cost-same rows'' rows' l l (others l other) ∙ r.1, r.2)
      ];
      takes = λ l d low spell' net' is. elim (cases_eq l last) [
        | inl same ↦
            let z : c ≡ d = (let a = ap nets same in cc) in
            let v_is : e +ℤ d ≡ ended.cost = omega (arith, ints, z, cost) in
            let row = latest (ap (cost_at rows'') (sym same) ∙ is ∙ ap Some v_is) in
            ap (first_at rows'') same ∙ first-is rows'' last ended row ∙ begins
        | inr other ↦
            let before = others l other in
            first-same rows'' rows' l l before ∙
            so_far.takes l d (omega (arith, low, other)) spell' net' (sym (cost-same rows'' rows' l l before) ∙ is)
      ];
      sound = λ l v is. elim (cases_eq l last) [
        | inl same ↦ subst (λ (l : ℕ). IsRowOf rows'' l v) (sym same)
            (from_here v (ap (cost_at rows'') (sym same) ∙ is))
        | inr other ↦ from_before l v (others l other) is
      ];
      within = within;
    }

  -- no spell ends later
  pub update_all : (last : ℕ) (rows' : List (Option Ended)) → ((l : ℕ) → last ≤ l → IsSpell g periods first l → ⊥) →
      IsUpdateSoFar last rows'
      → IsUpdate g periods first before e nets (cost_at rows) (cost_at rows') (first_at rows) (first_at rows')
      (before_at rows) (before_at rows')
  update_all last rows' none so_far = record {
    same = λ l low. cost-same rows' rows l l (so_far.same l low);
    keeps = so_far.keeps;
    adds = λ l c spell net. elim (cases_lt l last) [
      | inl less ↦ so_far.adds l c less spell net
      | inr most ↦ absurd (none l most spell)
    ];
    takes = λ l c spell net is. elim (cases_lt l last) [
      | inl less ↦ so_far.takes l c less spell net is
      | inr most ↦ absurd (none l most spell)
    ];
    sound = λ l v is. elim (so_far.sound l v is) [
      | inl same ↦ inl (
        sym (cost-same rows' rows l l same) ∙ is,
        first-same rows' rows l l same,
        before-same rows' rows l l same,
      )
      | inr h ↦ inr h
    ];
  }
