-- The first task that isn't held.
use Rattle.board_store.proofs.Common.{◌≡◌, ℕ, zero, suc, ◌+◌, ◌<◌, ◌≤◌, Bool, true, false, cond, inl, inr, Option}
use Rattle.board_store.proofs.Common.{Some, None, List, map, refl, sym, ap, ◌∙◌, subst, arith, cases_lt, find-append}
use Rattle.board_store.proofs.Common.{find, flat_map, range_with_len, option_or}

or_none : {X : Type 0} (a b : Option X) → a ≡ None → option_or a b ≡ b
or_none None b h = refl
or_none (Some x) b h = (cc)

or_some : {X : Type 0} (a b : Option X) (x : X) → a ≡ Some x → option_or a b ≡ Some x
or_some None b x h = (cc)
or_some (Some y) b x h = h

module _ (t : ℕ × ℕ → Bool) where
  abbrev pub one_row : ℕ → ℕ → ℕ → List (ℕ × ℕ)
  one_row m a k = map (λ (u : ℕ). (m, u)) (range_with_len a k)

  not_in_row : (m a k : ℕ) → ((v : ℕ) → a ≤ v → v < a + k → t (m, v) ≡ false) → find t (one_row m a k) ≡ None
  not_in_row m a zero h = refl
  not_in_row m a (suc k) h =
      ap (λ (b : Bool). cond b (Some (m, a)) (find t (one_row m (a + 1) k))) (h a (omega arith) (omega arith))
      ∙ not_in_row m (a + 1) k (λ v low high. h v (omega (arith, low)) (omega (arith, high)))

  first_in_row : (m a k u : ℕ) → a ≤ u → u < a + k → t (m, u) ≡ true → ((v : ℕ) → a ≤ v → v < u → t (m, v) ≡ false) →
      find t (one_row m a k) ≡ Some (m, u)
  first_in_row m a zero u low high yes_ h = absurd (omega (arith, low, high))
  first_in_row m a (suc k) u low high yes_ h =
      elim (cases_lt a u) [
        | inl above ↦
            ap (λ (b : Bool). cond b (Some (m, a)) (find t (one_row m (a + 1) k))) (h a (omega arith) above)
            ∙ first_in_row m (a + 1) k u (omega (arith, above)) (omega (arith, high)) yes_
            (λ v l i. h v (omega (arith, l)) i)
        | inr below ↦
            let same : u ≡ a = omega (arith, below, low) in
            ap (λ (b : Bool). cond b (Some (m, a)) (find t (one_row m (a + 1) k)))
            (subst (λ (w : ℕ). t (m, w) ≡ true) same yes_)
            ∙ ap (λ (w : ℕ). Some (m, w)) (sym same)
      ]

  abbrev pub rows_from : ℕ → ℕ → ℕ → List (ℕ × ℕ)
  rows_from units a n = flat_map (λ (k : ℕ). one_row k 0 units) (range_with_len a n)

  pub not_in_rows : (units a n : ℕ) → ((m v : ℕ) → a ≤ m → m < a + n → v < units → t (m, v) ≡ false) →
      find t (rows_from units a n) ≡ None
  not_in_rows units a zero h = refl
  not_in_rows units a (suc n) h =
      find-append t (one_row a 0 units) (rows_from units (a + 1) n)
      ∙ or_none (find t (one_row a 0 units)) (find t (rows_from units (a + 1) n))
      (not_in_row a 0 units (λ v low high. h a v (omega arith) (omega arith) (omega (arith, high))))
      ∙ not_in_rows units (a + 1) n (λ m v low high i. h m v (omega (arith, low)) (omega (arith, high)) i)

  pub first_in_rows : (units a n m u : ℕ) → a ≤ m → m < a + n → u < units → t (m, u) ≡ true →
      ((k v : ℕ) → a ≤ k → k < m → v < units → t (k, v) ≡ false) → ((v : ℕ) → v < u → t (m, v) ≡ false) →
      find t (rows_from units a n) ≡ Some (m, u)
  first_in_rows units a zero m u low high i yes_ before here = absurd (omega (arith, low, high))
  first_in_rows units a (suc n) m u low high i yes_ before here =
      find-append t (one_row a 0 units) (rows_from units (a + 1) n)
      ∙ (elim (cases_lt a m) [
        | inl above ↦
            or_none (find t (one_row a 0 units)) (find t (rows_from units (a + 1) n))
            (not_in_row a 0 units (λ v l j. before a v (omega arith) above (omega (arith, j))))
            ∙ first_in_rows units (a + 1) n m u (omega (arith, above)) (omega (arith, high)) i yes_
            (λ k v l j w. before k v (omega (arith, l)) j w) here
        | inr below ↦
            let same : m ≡ a = omega (arith, below, low) in
            or_some (find t (one_row a 0 units)) (find t (rows_from units (a + 1) n)) (m, u)
            (subst (λ (k : ℕ). find t (one_row k 0 units) ≡ Some (m, u)) same
            (first_in_row m 0 units u (omega arith) (omega (arith, i)) yes_ (λ v l j. here v j)))
      ])

  rest_none : {X : Type 0} (b : Bool) (x : X) (o : Option X) → cond b (Some x) o ≡ None → (b ≡ false) × (o ≡ None)
  rest_none true x o h = (cc)
  rest_none false x o h = (refl, h)

  none_in_row : (m a k v : ℕ) → find t (one_row m a k) ≡ None → a ≤ v → v < a + k → t (m, v) ≡ false
  none_in_row m a zero v h low high = absurd (omega (arith, low, high))
  none_in_row m a (suc k) v h low high =
      let both = rest_none (t (m, a)) (m, a) (find t (one_row m (a + 1) k)) h in
      elim (cases_lt a v) [
        | inl above ↦ none_in_row m (a + 1) k v both.1 (omega (arith, above)) (omega (arith, high))
        | inr below ↦ let same : a ≡ v = omega (arith, below, low) in subst (λ (w : ℕ). t (m, w) ≡ false) same both.0
      ]

  both_none : {X : Type 0} (a b : Option X) → option_or a b ≡ None → (a ≡ None) × (b ≡ None)
  both_none None b h = (refl, h)
  both_none (Some x) b h = (cc)

  pub none_in_rows : (units a n m v : ℕ) → find t (rows_from units a n) ≡ None → a ≤ m → m < a + n → v < units →
      t (m, v) ≡ false
  none_in_rows units a zero m v h low high unit = absurd (omega (arith, low, high))
  none_in_rows units a (suc n) m v h low high unit =
      let row = find t (one_row a 0 units) in
      let both = both_none row (find t (rows_from units (a + 1) n))
      (sym (find-append t (one_row a 0 units) (rows_from units (a + 1) n)) ∙ h) in
      elim (cases_lt a m) [
        | inl above ↦ none_in_rows units (a + 1) n m v both.1 (omega (arith, above)) (omega (arith, high)) unit
        | inr below ↦
            let same : a ≡ m = omega (arith, below, low) in
            subst (λ (k : ℕ). t (k, v) ≡ false) same
            (none_in_row a 0 units v both.0 (omega arith) (omega (arith, unit)))
      ]

  -- the task that is found passes, and those before it don't
  pub record IsFound (low high units m u : ℕ) : Type 0 where
    pub from : low ≤ m
    pub to : m < high
    pub unit : u < units
    pub passes : t (m, u) ≡ true
    pub before : (k v : ℕ) → low ≤ k → k < m → v < units → t (k, v) ≡ false
    pub here : (v : ℕ) → v < u → t (m, v) ≡ false

  first_or : {X Y : Type 0} (b : Bool) (x y : X) (o : Option X) → cond b (Some x) o ≡ Some y → (b ≡ true → x ≡ y → Y) →
      (b ≡ false → o ≡ Some y → Y) → Y
  first_or true x y o h f g = f refl (cc)
  first_or false x y o h f g = g refl h

  record IsFoundInRow (m a k n u : ℕ) : Type 0 where
    number : m ≡ n
    to : u < a + k
    passes : t (n, u) ≡ true
    here : (v : ℕ) → a ≤ v → v < u → t (n, v) ≡ false

  found_in_row : (m a k n u : ℕ) → find t (one_row m a k) ≡ Some (n, u) → IsFoundInRow m a k n u
  found_in_row m a zero n u h = (cc)
  found_in_row m a (suc k) n u h =
      first_or (t (m, a)) (m, a) (n, u) (find t (one_row m (a + 1) k)) h
      (λ is same.
      let e : m ≡ n = ap (λ (x : ℕ × ℕ). x.0) same in
      let f : a ≡ u = ap (λ (x : ℕ × ℕ). x.1) same in
      record {
        number = e;
        to = omega (arith, f);
        passes = subst (λ (x : ℕ × ℕ). t x ≡ true) same is;
        here =
            λ v low high. absurd (omega (arith, low, high, f));
      })
      (λ isnt rest.
      let r = found_in_row m (a + 1) k n u rest in
      let w = r.to in
      record {
        number = r.number;
        to = omega (arith, w);
        passes = r.passes;
        here = λ v low high.
            elim (cases_lt a v) [
              | inl above ↦ r.here v (omega (arith, above)) high
              | inr below ↦
                  let same : a ≡ v = omega (arith, below, low) in
                  subst (λ (k : ℕ). t (k, v) ≡ false) r.number (subst (λ (k : ℕ). t (m, k) ≡ false) same isnt)
            ];
      })

  either : {X Y : Type 0} (a b : Option X) (y : X) → option_or a b ≡ Some y → (a ≡ Some y → Y) →
      (a ≡ None → b ≡ Some y → Y) → Y
  either None b y h f g = g refl h
  either (Some x) b y h f g = f h

  pub found_in_rows : (units a n m u : ℕ) → find t (rows_from units a n) ≡ Some (m, u) → IsFound a (a + n) units m u
  found_in_rows units a zero m u h = (cc)
  found_in_rows units a (suc n) m u h =
      either (find t (one_row a 0 units)) (find t (rows_from units (a + 1) n)) (m, u)
      (sym (find-append t (one_row a 0 units) (rows_from units (a + 1) n)) ∙ h)
      (λ found.
      let r = found_in_row a 0 units m u found in
      let e = r.number in
      let w = r.to in
      record {
        from = omega (arith, e);
        to = omega (arith, e);
        unit = omega (arith, w);
        passes = r.passes;
        before = λ k v low high i. absurd (omega (arith, low, high, e));
        here = λ v i. r.here v (omega arith) i;
      })
      (λ none found.
      let r = found_in_rows units (a + 1) n m u found in
      let lo = r.from in
      let hi = r.to in
      record {
        from = omega (arith, lo);
        to = omega (arith, hi);
        unit = r.unit;
        passes = r.passes;
        before = λ k v low high i.
            elim (cases_lt a k) [
              | inl above ↦ r.before k v (omega (arith, above)) high i
              | inr below ↦
                  let same : a ≡ k = omega (arith, below, low) in
                  subst (λ (j : ℕ). t (j, v) ≡ false) same
                  (none_in_row a 0 units v none (omega arith) (omega (arith, i)))
            ];
        here = r.here;
      })
