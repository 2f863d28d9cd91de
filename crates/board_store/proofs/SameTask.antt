-- The flat list of a task tells where it ends, so two that nowhere differ as far as both go are one.
use Rattle.board_store.proofs.Common.{◌≡◌, ℕ, zero, suc, ◌+◌, ◌<◌, ◌≤◌, min, ℤ, pos, Bool, true, false, cond, inl}
use Rattle.board_store.proofs.Common.{inr, Option, Some, None, List, [], ◌∷◌, ◌++◌, length, map, refl, sym, ap, ◌∙◌}
use Rattle.board_store.proofs.Common.{subst, arith, append_assoc, false≢true, cases_lt, Decides-int_eq, find}
use Rattle.board_store.proofs.Common.{flat_map, range_with_len, option_map, not, ThermalUnit, AnyUnit, Thermal, Flat}
use Rattle.board_store.proofs.Common.{Bid, int_at, flag_number, lag_numbers, point_numbers, mark_number}
use Rattle.board_store.proofs.Common.{block_numbers, period_numbers, fixed_numbers, list_numbers, unit_numbers}
use Rattle.board_store.proofs.Common.{task_numbers, Difference, first_difference, difference, IsOver, SameTask}
use Rattle.std.specs.Ordering.{int_eq}
use Rattle.uc_model.specs.declared.units.Lag.{Lag}
use Rattle.uc_model.specs.declared.units.Point.{Point}
use Rattle.uc_model.specs.declared.units.Block.{Block}
use Rattle.uc_model.specs.declared.units.Mark.{Mark}
use Rattle.uc_model.specs.declared.units.Mark.TheVariants.{Free, MustOff, MustOn}

-- the lists have the same numbers at each place that both have
abbrev pub Agree : List ℤ → List ℤ → Type 0
Agree [] ys = Unit {0}
Agree (x ∷ xs) [] = Unit {0}
Agree (x ∷ xs) (y ∷ ys) = (x ≡ y) × Agree xs ys

-- ---- the first place where two lists differ

not_some : {X : Type 0} (b : Bool) (x : X) (o : Option X) → cond b (Some x) o ≡ None → (b ≡ false) × (o ≡ None)
not_some true x o h = (cc)
not_some false x o h = (refl, h)

none_in_range : (t : ℕ → Bool) (a n k : ℕ) → find t (range_with_len a n) ≡ None → a ≤ k → k < a + n → t k ≡ false
none_in_range t a zero k h low high = absurd (omega (arith, low, high))
none_in_range t a (suc n) k h low high =
    let both = not_some (t a) a (find t (range_with_len (a + 1) n)) h in
    elim (cases_lt a k) [
      | inl above ↦ none_in_range t (a + 1) n k both.1 (omega (arith, above)) (omega (arith, high))
      | inr below ↦ let same : a ≡ k = omega (arith, below, low) in subst (λ (z : ℕ). t z ≡ false) same both.0
    ]

first_in_range : (t : ℕ → Bool) (a n k : ℕ) → a ≤ k → k < a + n → t k ≡ true → ((i : ℕ) → a ≤ i → i < k → t i ≡ false) →
    find t (range_with_len a n) ≡ Some k
first_in_range t a zero k low high is before = absurd (omega (arith, low, high))
first_in_range t a (suc n) k low high is before =
    elim (cases_lt a k) [
      | inl above ↦
          ap (λ (b : Bool). cond b (Some a) (find t (range_with_len (a + 1) n))) (before a (omega arith) above)
          ∙ first_in_range t (a + 1) n k (omega (arith, above)) (omega (arith, high)) is
          (λ i l j. before i (omega (arith, l)) j)
      | inr below ↦
          let same : a ≡ k = omega (arith, below, low) in
          ap (λ (b : Bool). cond b (Some a) (find t (range_with_len (a + 1) n))) (ap t same ∙ is) ∙
          ap (λ (i : ℕ). Some i) same
    ]

none_of_range : (t : ℕ → Bool) (a n : ℕ) → ((i : ℕ) → a ≤ i → i < a + n → t i ≡ false) →
    find t (range_with_len a n) ≡ None
none_of_range t a zero each = refl
none_of_range t a (suc n) each =
    ap (λ (b : Bool). cond b (Some a) (find t (range_with_len (a + 1) n))) (each a (omega arith) (omega arith))
    ∙ none_of_range t (a + 1) n (λ i l j. each i (omega (arith, l)) (omega (arith, j)))

same_of_test : (x y : ℤ) → not (int_eq x y) ≡ false → x ≡ y
same_of_test x y h = choose (int_eq x y) refl h
  where
    choose : (b : Bool) → int_eq x y ≡ b → not b ≡ false → x ≡ y
    choose true is e = (Decides-int_eq x y).0 is
    choose false is e = absurd (false≢true (sym e))

test_of_same : (x y : ℤ) → x ≡ y → not (int_eq x y) ≡ false
test_of_same x y e = ap not ((Decides-int_eq x y).1 e)

test_of_other : (x y : ℤ) → (x ≡ y → ⊥) → not (int_eq x y) ≡ true
test_of_other x y f = choose (int_eq x y) refl
  where
    choose : (b : Bool) → int_eq x y ≡ b → not b ≡ true
    choose true is = absurd (f ((Decides-int_eq x y).0 is))
    choose false is = refl

-- two lists that have the same numbers up to a place and differ there
pub difference_at : (own given : List ℤ) (k : ℕ) → k < length own → k < length given →
    ((i : ℕ) → i < k → int_at own i ≡ int_at given i) →
    (int_at own k ≡ int_at given k → ⊥) →
    difference own given ≡ Some (record { place = k; board = int_at own k; task = int_at given k })
difference_at own given k a b before here =
    ap (λ (o : Option ℕ). option_map (λ (i : ℕ). record { place = i; board = int_at own i; task = int_at given i }) o)
    (first_in_range (λ (i : ℕ). not (int_eq (int_at own i) (int_at given i))) 0 (min (length own) (length given)) k
    (omega arith) (omega (arith, a, b))
    (test_of_other (int_at own k) (int_at given k) here)
    (λ i l j. test_of_same (int_at own i) (int_at given i) (before i j)))

-- two lists that have the same numbers at each place that both have
pub difference_none : (own given : List ℤ) →
    ((i : ℕ) → i < length own → i < length given → int_at own i ≡ int_at given i) → difference own given ≡ None
difference_none own given each =
    ap (λ (o : Option ℕ). option_map (λ (i : ℕ). record { place = i; board = int_at own i; task = int_at given i }) o)
    (none_of_range (λ (i : ℕ). not (int_eq (int_at own i) (int_at given i))) 0 (min (length own) (length given))
    (λ i l j. test_of_same (int_at own i) (int_at given i) (each i (omega (arith, j)) (omega (arith, j)))))

pub difference_same : (xs : List ℤ) → difference xs xs ≡ None
difference_same xs = difference_none xs xs (λ i a b. refl)

abbrev pub difference_from : List ℤ → List ℤ → Option ℕ → Option Difference
difference_from own given o =
    option_map (λ (i : ℕ). record { place = i; board = int_at own i; task = int_at given i }) o

pub no_first : (own given : List ℤ) → difference own given ≡ None → first_difference own given ≡ None
no_first own given h = choose (first_difference own given) h
  where
    choose : (o : Option ℕ) → difference_from own given o ≡ None → o ≡ None
    choose None e = refl
    choose (Some i) e = (cc)

agree_of : (xs ys : List ℤ) → ((i : ℕ) → i < length xs → i < length ys → int_at xs i ≡ int_at ys i) → Agree xs ys
agree_of [] ys each = tt
agree_of (x ∷ xs) [] each = tt
agree_of (x ∷ xs) (y ∷ ys) each =
    (each 0 (omega arith) (omega arith), agree_of xs ys (λ i a b. each (suc i) (omega (arith, a)) (omega (arith, b))))

agree : (own given : List ℤ) → first_difference own given ≡ None → Agree own given
agree own given h =
    agree_of own given (λ i a b.
    same_of_test (int_at own i) (int_at given i)
    (none_in_range (λ (k : ℕ). not (int_eq (int_at own k) (int_at given k))) 0 (min (length own) (length given)) i h
    (omega arith) (omega (arith, a, b))))

-- ---- lists that agree

split : (xs ys as_ bs : List ℤ) → length xs ≡ length ys → Agree (xs ++ as_) (ys ++ bs) → (xs ≡ ys) × Agree as_ bs
split [] [] as_ bs e h = (refl, h)
split [] (y ∷ ys) as_ bs e h = absurd (omega (arith, e))
split (x ∷ xs) [] as_ bs e h = absurd (omega (arith, e))
split (x ∷ xs) (y ∷ ys) as_ bs e h =
    let r = split xs ys as_ bs (omega (arith, e)) h.1 in
    (ap (λ (z : ℤ). z ∷ xs) h.0 ∙ ap (λ (zs : List ℤ). y ∷ zs) r.0, r.1)

whole : (xs ys : List ℤ) → length xs ≡ length ys → Agree xs ys → xs ≡ ys
whole [] [] e h = refl
whole [] (y ∷ ys) e h = absurd (omega (arith, e))
whole (x ∷ xs) [] e h = absurd (omega (arith, e))
whole (x ∷ xs) (y ∷ ys) e h = ap (λ (z : ℤ). z ∷ xs) h.0 ∙
    ap (λ (zs : List ℤ). y ∷ zs) (whole xs ys (omega (arith, e)) h.1)

pos_same : (m n : ℕ) → pos m ≡ pos n → m ≡ n
pos_same m n e = (cc)

flag_same : (a b : Bool) → flag_number a ≡ flag_number b → a ≡ b
flag_same true true e = refl
flag_same false false e = refl
flag_same true false e = absurd (omega (arith, pos_same 1 0 e))
flag_same false true e = absurd (omega (arith, pos_same 0 1 e))

lags_same : (ls ms : List Lag) (as_ bs : List ℤ) → length ls ≡ length ms →
    Agree (flat_map lag_numbers ls ++ as_) (flat_map lag_numbers ms ++ bs) → (ls ≡ ms) × Agree as_ bs
lags_same [] [] as_ bs e h = (refl, h)
lags_same [] (m ∷ ms) as_ bs e h = absurd (omega (arith, e))
lags_same (l ∷ ls) [] as_ bs e h = absurd (omega (arith, e))
lags_same (l ∷ ls) (m ∷ ms) as_ bs e h =
    let r = lags_same ls ms as_ bs (omega (arith, e)) h.1.1 in
    let a : l.lag ≡ m.lag = pos_same l.lag m.lag h.0 in
    let b : l.cost ≡ m.cost = h.1.0 in
    let s : l ≡ m = ap (λ (x : ℕ). record l { lag = x }) a ∙ ap (λ (x : ℤ). record m { cost = x }) b in
    (ap (λ (z : Lag). z ∷ ls) s ∙ ap (λ (zs : List Lag). m ∷ zs) r.0, r.1)

points_same : (ls ms : List Point) (as_ bs : List ℤ) → length ls ≡ length ms →
    Agree (flat_map point_numbers ls ++ as_) (flat_map point_numbers ms ++ bs) → (ls ≡ ms) × Agree as_ bs
points_same [] [] as_ bs e h = (refl, h)
points_same [] (m ∷ ms) as_ bs e h = absurd (omega (arith, e))
points_same (l ∷ ls) [] as_ bs e h = absurd (omega (arith, e))
points_same (l ∷ ls) (m ∷ ms) as_ bs e h =
    let r = points_same ls ms as_ bs (omega (arith, e)) h.1.1 in
    let s : l ≡ m = ap (λ (x : ℤ). record l { at = x }) h.0 ∙ ap (λ (x : ℤ). record m { cost = x }) h.1.0 in
    (ap (λ (z : Point). z ∷ ls) s ∙ ap (λ (zs : List Point). m ∷ zs) r.0, r.1)

mark_same : (a b : Mark) → mark_number a ≡ mark_number b → a ≡ b
mark_same Free Free e = refl
mark_same MustOff MustOff e = refl
mark_same MustOn MustOn e = refl
mark_same Free MustOff e = absurd (omega (arith, pos_same 0 1 e))
mark_same Free MustOn e = absurd (omega (arith, pos_same 0 2 e))
mark_same MustOff Free e = absurd (omega (arith, pos_same 1 0 e))
mark_same MustOff MustOn e = absurd (omega (arith, pos_same 1 2 e))
mark_same MustOn Free e = absurd (omega (arith, pos_same 2 0 e))
mark_same MustOn MustOff e = absurd (omega (arith, pos_same 2 1 e))

marks_same : (ws vs : List Mark) → length ws ≡ length vs → Agree (map mark_number ws) (map mark_number vs) → ws ≡ vs
marks_same [] [] e h = refl
marks_same [] (v ∷ vs) e h = absurd (omega (arith, e))
marks_same (w ∷ ws) [] e h = absurd (omega (arith, e))
marks_same (w ∷ ws) (v ∷ vs) e h =
    ap (λ (z : Mark). z ∷ ws) (mark_same w v h.0) ∙
    ap (λ (zs : List Mark). v ∷ zs) (marks_same ws vs (omega (arith, e)) h.1)

blocks_same : (ls ms : List Block) (as_ bs : List ℤ) → length ls ≡ length ms →
    Agree (flat_map block_numbers ls ++ as_) (flat_map block_numbers ms ++ bs) → (ls ≡ ms) × Agree as_ bs
blocks_same [] [] as_ bs e h = (refl, h)
blocks_same [] (m ∷ ms) as_ bs e h = absurd (omega (arith, e))
blocks_same (l ∷ ls) [] as_ bs e h = absurd (omega (arith, e))
blocks_same (l ∷ ls) (m ∷ ms) as_ bs e h =
    let r = blocks_same ls ms as_ bs (omega (arith, e)) h.1.1 in
    let s : l ≡ m = ap (λ (x : ℤ). record l { width = x }) h.0 ∙ ap (λ (x : ℤ). record m { price = x }) h.1.0 in
    (ap (λ (z : Block). z ∷ ls) s ∙ ap (λ (zs : List Block). m ∷ zs) r.0, r.1)

periods_same : (ls ms : List (List Block)) → length ls ≡ length ms →
    Agree (flat_map period_numbers ls) (flat_map period_numbers ms) → ls ≡ ms
periods_same [] [] e h = refl
periods_same [] (m ∷ ms) e h = absurd (omega (arith, e))
periods_same (l ∷ ls) [] e h = absurd (omega (arith, e))
periods_same (l ∷ ls) (m ∷ ms) e h =
    let r = blocks_same l m (flat_map period_numbers ls) (flat_map period_numbers ms)
    (pos_same (length l) (length m) h.0) h.1 in
    ap (λ (z : List Block). z ∷ ls) r.0 ∙
    ap (λ (zs : List (List Block)). m ∷ zs) (periods_same ls ms (omega (arith, e)) r.1)

-- parts of a thermal unit that are lists, compared together
record HaveSameLists (g k : ThermalUnit) : Type 0 where
  lags : g.lags ≡ k.lags
  points : g.points ≡ k.points
  window : g.window ≡ k.window

lists_same : (g k : ThermalUnit) → length g.window ≡ length k.window → Agree (list_numbers g) (list_numbers k) →
    HaveSameLists g k
lists_same g k long h =
    let r =
    lags_same g.lags k.lags (pos (length g.points) ∷ (flat_map point_numbers g.points ++ map mark_number g.window))
    (pos (length k.points) ∷ (flat_map point_numbers k.points ++ map mark_number k.window))
    (pos_same (length g.lags) (length k.lags) h.0) h.1 in
    let s = points_same g.points k.points (map mark_number g.window) (map mark_number k.window)
    (pos_same (length g.points) (length k.points) r.1.0) r.1.1 in
    record { lags = r.0; points = s.0; window = marks_same g.window k.window long s.1 }

thermal_same : (g k : ThermalUnit) → fixed_numbers g ≡ fixed_numbers k → HaveSameLists g k → g ≡ k
thermal_same g k e lists =
    let f0 = flag_same g.must_run k.must_run (cc e) in
    let f1 : g.min_power ≡ k.min_power = cc e in
    let f2 : g.max_power ≡ k.max_power = cc e in
    let f3 : g.ramp_up ≡ k.ramp_up = cc e in
    let f4 : g.ramp_down ≡ k.ramp_down = cc e in
    let f5 : g.start_limit ≡ k.start_limit = cc e in
    let f6 : g.stop_limit ≡ k.stop_limit = cc e in
    let f7 : g.min_up ≡ k.min_up = cc e in
    let f8 : g.min_down ≡ k.min_down = cc e in
    let f9 : g.power0 ≡ k.power0 = cc e in
    let f10 = flag_same g.on0 k.on0 (cc e) in
    let f11 : g.up0 ≡ k.up0 = cc e in
    let f12 : g.down0 ≡ k.down0 = cc e in
    let l = lists.lags in
    let q = lists.points in
    let w = lists.window in
    λ i. record {
      must_run = f0 i;
      min_power = f1 i;
      max_power = f2 i;
      ramp_up = f3 i;
      ramp_down = f4 i;
      start_limit = f5 i;
      stop_limit = f6 i;
      min_up = f7 i;
      min_down = f8 i;
      power0 = f9 i;
      on0 = f10 i;
      up0 = f11 i;
      down0 = f12 i;
      lags = l i;
      points = q i;
      window = w i;
    }

units_same : (n : ℕ) (u v : AnyUnit) → IsOver n u → IsOver n v → Agree (unit_numbers u) (unit_numbers v) → u ≡ v
units_same n (Thermal g) (Thermal k) a b h =
    let r = split (fixed_numbers g) (fixed_numbers k) (list_numbers g) (list_numbers k) refl h.1 in
    ap Thermal (thermal_same g k r.0 (lists_same g k (a ∙ sym b) r.1))
units_same n (Thermal g) (Flat r) a b h = absurd (omega (arith, pos_same 0 1 h.0))
units_same n (Thermal g) (Bid c) a b h = absurd (omega (arith, pos_same 0 2 h.0))
units_same n (Flat r) (Thermal g) a b h = absurd (omega (arith, pos_same 1 0 h.0))
units_same n (Flat r) (Bid c) a b h = absurd (omega (arith, pos_same 1 2 h.0))
units_same n (Flat r) (Flat t) a b h =
    let s = split r.least t.least r.most t.most (a.0 ∙ sym b.0) h.1 in
    let m = whole r.most t.most (a.1 ∙ sym b.1) s.1 in
    let l = s.0 in
    ap Flat (λ i. record { least = l i; most = m i })
units_same n (Bid c) (Thermal g) a b h = absurd (omega (arith, pos_same 2 0 h.0))
units_same n (Bid c) (Flat r) a b h = absurd (omega (arith, pos_same 2 1 h.0))
units_same n (Bid c) (Bid d) a b h = let e = periods_same c.blocks d.blocks (a ∙ sym b) h.1 in
    ap Bid (λ i. record { blocks = e i })

pub same_task : SameTask
same_task π ρ u v t s none =
    let h = agree (task_numbers π u) (task_numbers ρ v) none in
    let n = pos_same (length π.energy) (length ρ.energy) h.0 in
    let rest : Agree (π.energy ++ (π.reserve ++ unit_numbers u)) (ρ.energy ++ (ρ.reserve ++ unit_numbers v)) =
    subst (λ (xs : List ℤ). Agree xs (ρ.energy ++ (ρ.reserve ++ unit_numbers v)))
    (append_assoc π.energy π.reserve (unit_numbers u))
    (subst (λ (xs : List ℤ). Agree (π.energy ++ π.reserve ++ unit_numbers u) xs)
    (append_assoc ρ.energy ρ.reserve (unit_numbers v)) h.1) in
    let first = split π.energy ρ.energy (π.reserve ++ unit_numbers u) (ρ.reserve ++ unit_numbers v) n rest in
    let tr = t.reserve in let sr = s.reserve in
    let second = split π.reserve ρ.reserve (unit_numbers u) (unit_numbers v) (omega (arith, n, tr, sr)) first.1 in
    let e = first.0 in let f = second.0 in (
      λ i. record { energy = e i; reserve = f i },
      units_same (length ρ.energy) u v (subst (λ (m : ℕ). IsOver m u) n t.over) s.over second.1,
    )
