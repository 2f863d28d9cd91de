-- The answers of a store, and one of them written in place.
use Rattle.board_store.proofs.Common.{◌≡◌, ℕ, ◌<◌, ◌⊎◌, ℤ, pos, Bool, inl, inr, List, [], length, get_or, sym, ap, ◌∙◌}
use Rattle.board_store.proofs.Common.{arith, set, length-set, get_or-set_same, get_or-set_other, int_at, Answer}
use Rattle.board_store.proofs.Common.{Answers, no_answer, answer_in, answers_in, least_left, replicate}
use Rattle.board_store.proofs.Common.{length-replicate}
use Rattle.std.proofs.lemmas.List.FromFn.{fill_by_all, length-map-range_with_len, get_or-map-range_with_len}

pub same_answer : (on on2 : List Bool) (power power2 reserve reserve2 : List ℕ) (earned earned2 : ℤ) → on ≡ on2 →
    power ≡ power2 → reserve ≡ reserve2 → earned ≡ earned2 →
    (let a : Answer = record { schedule = record { on = on; power = power; reserve = reserve }; earned = earned } in
    let b : Answer = record { schedule = record { on = on2; power = power2; reserve = reserve2 }; earned = earned2 } in
    a ≡ b)
same_answer on on2 power power2 reserve reserve2 earned earned2 e f g h =
    λ i. record { schedule = record { on = e i; power = f i; reserve = g i }; earned = h i }

-- a new store has as many rows as earnings, and as many are left
pub counted : {A : Type 0} (rows : List A) (earned : List ℤ) (count : ℕ) (x : A) → rows ≡ replicate count x →
    earned ≡ replicate count (pos 0) → length rows ≡ length earned
counted {A} rows earned count x e f =
    ap (λ (xs : List A). length xs) e ∙ length-replicate count x
    ∙ sym (ap (λ (xs : List ℤ). length xs) f ∙ length-replicate count (pos 0))

pub least_same : (on power reserve count : ℕ) → on ≡ count → power ≡ count → reserve ≡ count →
    least_left on power reserve ≡ count
least_same on power reserve count e f g = omega (arith, e, f, g)

module _ (on : List (List Bool)) (power reserve : List (List ℕ)) (earned : List ℤ) where
  pub length-answers_in : length (answers_in on power reserve earned) ≡ length earned
  length-answers_in = length-map-range_with_len (answer_in on power reserve earned) 0 (length earned)

  pub answer_at_place : (i : ℕ) → i < length earned →
      get_or (answers_in on power reserve earned) i no_answer ≡ answer_in on power reserve earned i
  answer_at_place i lt =
      get_or-map-range_with_len (answer_in on power reserve earned) 0 (length earned) i i no_answer lt (omega arith)

  -- a place of a store is one of its parts
  pub place_of : (v : Answers) (long left i : ℕ) →
      (let w : Answers = record { periods = long; left = left; answers = answers_in on power reserve earned } in
      w ≡ v) → i < length v.answers → i < length earned
  place_of v long left i is lt =
      let e : length (answers_in on power reserve earned) ≡ length v.answers =
      ap (λ (w : Answers). length w.answers) is in
      omega (arith, e, lt, length-answers_in)

module _ (on : List (List Bool)) (power reserve : List (List ℕ)) (earned : List ℤ) (i : ℕ) (a : Answer)
    (on_count : length on ≡ length earned) (power_count : length power ≡ length earned)
    (reserve_count : length reserve ≡ length earned) (lt : i < length earned) where
  abbrev on2 : List (List Bool)
  on2 = set on i a.schedule.on

  abbrev power2 : List (List ℕ)
  power2 = set power i a.schedule.power

  abbrev reserve2 : List (List ℕ)
  reserve2 = set reserve i a.schedule.reserve

  abbrev earned2 : List ℤ
  earned2 = set earned i a.earned

  abbrev old : List Answer
  old = answers_in on power reserve earned

  here : answer_in on2 power2 reserve2 earned2 i ≡ a
  here =
      same_answer (get_or on2 i []) a.schedule.on (get_or power2 i []) a.schedule.power
      (get_or reserve2 i []) a.schedule.reserve (int_at earned2 i) a.earned
      (get_or-set_same on i a.schedule.on [] (omega (arith, lt, on_count)))
      (get_or-set_same power i a.schedule.power [] (omega (arith, lt, power_count)))
      (get_or-set_same reserve i a.schedule.reserve [] (omega (arith, lt, reserve_count)))
      (get_or-set_same earned i a.earned (pos 0) lt)

  there : (k : ℕ) → (k ≡ i → ⊥) → answer_in on2 power2 reserve2 earned2 k ≡ answer_in on power reserve earned k
  there k f =
      same_answer (get_or on2 k []) (get_or on k []) (get_or power2 k []) (get_or power k []) (get_or reserve2 k [])
      (get_or reserve k []) (int_at earned2 k) (int_at earned k)
      (get_or-set_other on i k a.schedule.on [] f)
      (get_or-set_other power i k a.schedule.power [] f)
      (get_or-set_other reserve i k a.schedule.reserve [] f)
      (get_or-set_other earned i k a.earned (pos 0) f)

  same_or : (x y : ℕ) → (x ≡ y) ⊎ (x ≡ y → ⊥)
  same_or x y = grind arith

  -- one answer written in place
  pub put_answer : answers_in on2 power2 reserve2 earned2 ≡ set old i a
  put_answer =
      sym (fill_by_all (answer_in on2 power2 reserve2 earned2) (set old i a) (length earned2) no_answer
      (length-set old i a ∙ length-answers_in on power reserve earned ∙ sym (length-set earned i a.earned))
      (λ k h. elim (same_or k i) [
        | inl e ↦
            ap (λ (j : ℕ). get_or (set old i a) j no_answer) e
            ∙ get_or-set_same old i a no_answer (let l = length-answers_in on power reserve earned in
            omega (arith, l, lt))
            ∙ sym here ∙ ap (answer_in on2 power2 reserve2 earned2) (sym e)
        | inr f ↦
            get_or-set_other old i k a no_answer f
            ∙ answer_at_place on power reserve earned k (let l = length-set earned i a.earned in omega (arith, h, l))
            ∙ sym (there k f)
      ]))
