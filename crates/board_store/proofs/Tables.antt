-- A table with one more row put.
use Rattle.board_store.proofs.Common.{◌≡◌, ℕ, zero, suc, ◌+◌, ◌*◌, ◌<◌, ◌≤◌, List, [], ◌∷◌, length, take}
use Rattle.board_store.proofs.Common.{◌-◌, map, get_or, sym, ap}
use Rattle.board_store.proofs.Common.{◌∙◌, arith, set, length-set, map-set, length-map, get_or_read}
use Rattle.board_store.proofs.Common.{mul-le-mul_right, get_or-map}
use Rattle.board_store.proofs.Common.{length-replicate, take_all, replicate, refl, subst, Rows, rows_in, IsTable}
use Rattle.board_store.proofs.Common.{MOST_TASKS, MOST_WORK, laid_out, from_run, row_at, IsAt}

same_maps : {B : Type 0} (f g : ℕ → B) (xs : List ℕ) →
    ((k : ℕ) → g (get_or xs k 0) ≡ f (get_or xs k 0)) → map g xs ≡ map f xs
same_maps f g [] h = refl
same_maps {B} f g (x ∷ xs) h =
    ap (λ (z : B). z ∷ map g xs) (h 0) ∙ ap (λ (zs : List B). f x ∷ zs) (same_maps f g xs (λ k. h (suc k)))

map_replicate : {B : Type 0} (f : ℕ → B) (n : ℕ) (x : ℕ) → map f (replicate n x) ≡ replicate n (f x)
map_replicate f zero x = refl
map_replicate {B} f (suc n) x = ap (λ (zs : List B). f x ∷ zs) (map_replicate f n x)

-- what holds of each number of a list, with one more such number
set_each : (P : ℕ → Type 0) (xs : List ℕ) (i n : ℕ) → P n → ((k : ℕ) → P (get_or xs k 0)) → (k : ℕ) →
    P (get_or (set xs i n) k 0)
set_each P [] i n here all k = all k
set_each P (x ∷ xs) zero n here all zero = here
set_each P (x ∷ xs) zero n here all (suc k) = all (suc k)
set_each P (x ∷ xs) (suc i) n here all zero = all 0
set_each P (x ∷ xs) (suc i) n here all (suc k) = set_each P xs i n here (λ j. all (suc j)) k

-- each number of a list of zeros, and past its end, is zero
zeros_each : (P : ℕ → Type 0) (n : ℕ) → P 0 → (k : ℕ) → P (get_or (replicate n 0) k 0)
zeros_each P zero here k = here
zeros_each P (suc n) here zero = here
zeros_each P (suc n) here (suc k) = zeros_each P n here k

-- the row at an index is whole
pub row_whole : {A : Type 0} (long : ℕ) (starts : List ℕ) (used : ℕ) (ls : List ℕ) (vs : List A) (lr vr : ℕ) →
    IsTable long starts used ls vs lr vr → (i n : ℕ) → i < length starts → n ≡ get_or starts i n → (m : ℕ) → m ≡ long →
    m ≤ length (from_run ls vs n)
row_whole long starts used ls vs lr vr T i n lt is m fits =
    subst (λ (k : ℕ). k ≤ length (from_run ls vs n)) (sym fits)
    (subst (λ (k : ℕ). long ≤ length (from_run ls vs k)) (sym (get_or_read starts i n lt is 0)) (T.whole i))

-- a table that takes one more row
module _ {A : Type 0} (long : ℕ) (starts : List ℕ) (used : ℕ) (ls : List ℕ) (vs : List A) (lr vr : ℕ)
    (T : IsTable long starts used ls vs lr vr) (more : used < length starts) where
  scaled : suc used * long ≤ length starts * long
  scaled = mul-le-mul_right long more

  pub runs_few : length ls ≤ MOST_WORK
  runs_few = let s = scaled in let r = T.runs in let z = T.size in omega (arith, s, r, z)

  pub lengths_free : length ls + long ≤ lr
  lengths_free = let s = scaled in let r = T.runs in let f = T.lengths_fit in omega (arith, s, r, f)

  pub values_free : length ls + long ≤ vr
  values_free = let s = scaled in let r = T.runs in let f = T.values_fit in omega (arith, s, r, f)

  -- with one more row, which one place names
  pub table_more : (i n : ℕ) (row : List A) → length row ≡ long → (ls2 : List ℕ) (vs2 : List A) →
      IsAt ls vs ls2 vs2 row n → length ls2 ≤ length ls + length row → (lr2 vr2 : ℕ) → lr ≤ lr2 → vr ≤ vr2 →
      IsTable long (set starts i n) (used + 1) ls2 vs2 lr2 vr2
  table_more i n row fits ls2 vs2 at few lr2 vr2 wider wider2 =
      let l = length-set starts i n in
      let r = T.runs in
      let f = T.lengths_fit in
      let g = T.values_fit in
      let f2 : suc (length starts) * long ≤ lr2 = omega (arith, f, wider) in
      let g2 : suc (length starts) * long ≤ vr2 = omega (arith, g, wider2) in
      let next : used + 1 ≡ suc used = omega arith in
      record {
        pairs = at.pairs;
        whole =
            set_each (λ s. long ≤ length (from_run ls2 vs2 s)) starts i n
            (subst (λ (m : ℕ). m ≤ length (from_run ls2 vs2 n)) fits at.whole)
            (λ k. (at.stays long (get_or starts k 0) (T.whole k)).0);
        few = omega (arith, l, more);
        runs = subst (λ (m : ℕ). length ls2 ≤ suc m * long) (sym next) (omega (arith, r, few, fits));
        count = subst (λ (m : ℕ). m ≤ MOST_TASKS) (sym l) T.count;
        size = subst (λ (m : ℕ). m * long ≤ MOST_WORK) (sym l) T.size;
        lengths_fit = subst (λ (m : ℕ). suc m * long ≤ lr2) (sym l) f2;
        values_fit = subst (λ (m : ℕ). suc m * long ≤ vr2) (sym l) g2;
      }

-- a table whose places all name the blank row
pub table_blank : {A : Type 0} (long count : ℕ) (starts : List ℕ) (ls : List ℕ) (vs : List A) (lr vr : ℕ) (blank : A) →
    starts ≡ replicate count 0 → length ls ≡ length vs → length ls ≤ long → laid_out ls vs ≡ replicate long blank →
    count ≤ MOST_TASKS → count * long ≤ MOST_WORK → count * long + long ≤ lr → count * long + long ≤ vr →
    IsTable long starts 0 ls vs lr vr
table_blank {A} long count starts ls vs lr vr blank zeros pairs few laid tasks work lfit vfit =
    let l = ap (λ (xs : List ℕ). length xs) zeros ∙ length-replicate count 0 in
    let m = ap (λ (xs : List A). length xs) laid ∙ length-replicate long blank in
    record {
      pairs = pairs;
      whole =
          λ k. subst (λ (xs : List ℕ). long ≤ length (from_run ls vs (get_or xs k 0))) (sym zeros)
          (zeros_each (λ s. long ≤ length (from_run ls vs s)) count (omega (arith, m)) k);
      few = omega arith;
      runs = omega (arith, few);
      count = subst (λ (n : ℕ). n ≤ MOST_TASKS) (sym l) tasks;
      size = subst (λ (n : ℕ). n * long ≤ MOST_WORK) (sym l) work;
      lengths_fit = subst (λ (n : ℕ). suc n * long ≤ lr) (sym l) (omega (arith, lfit));
      values_fit = subst (λ (n : ℕ). suc n * long ≤ vr) (sym l) (omega (arith, vfit));
    }

pub rows_blank : {A : Type 0} (long count : ℕ) (starts ls : List ℕ) (vs : List A) (blank : A) →
    starts ≡ replicate count 0 → laid_out ls vs ≡ replicate long blank →
    rows_in long ls vs starts ≡ replicate count (replicate long blank)
rows_blank {A} long count starts ls vs blank zeros laid =
    ap (map (row_at long ls vs)) zeros ∙ map_replicate (row_at long ls vs) count 0
    ∙ ap (λ (r : List A). replicate count r)
    (ap (take long) laid ∙ take_all long (replicate long blank) (let l = length-replicate {A = A} long blank in
    omega (arith, l)))

-- a table as the code sees it, at an index with a row
module _ {A : Type 0} (v : Rows A) (long left : ℕ) (starts ls : List ℕ) (vs : List A)
    (is : let w : Rows A = record { long = long; left = left; rows = rows_in long ls vs starts } in
    w ≡ v) where
  pub long_is : long ≡ v.long
  long_is = ap (λ (w : Rows A). w.long) is

  -- where a row is left, one place has no runs of its own
  pub left_some : (used : ℕ) → left ≡ length starts - used → 1 ≤ v.left → used < length starts
  left_some used was some =
      let e : left ≡ v.left = ap (λ (w : Rows A). w.left) is in omega (arith, e, was, some)

  pub inside : (i : ℕ) → i < length v.rows → i < length starts
  inside i lt =
      let e : length (rows_in long ls vs starts) ≡ length v.rows = ap (λ (w : Rows A). length w.rows) is in
      let l = length-map starts (row_at long ls vs) in
      omega (arith, e, lt, l)

  -- the row at an index
  pub row_read : (i n : ℕ) → i < length v.rows → n ≡ get_or starts i n → row_at long ls vs n ≡ get_or v.rows i []
  row_read i n lt at =
      ap (row_at long ls vs) (get_or_read starts i n (inside i lt) at 0)
      ∙ sym (get_or-map (row_at long ls vs) starts i 0 [] (inside i lt))
      ∙ ap (λ (w : Rows A). get_or w.rows i []) is

  pub left_less : (used i n : ℕ) → left ≡ length starts - used → v.left ≤ length (set starts i n) - (used + 1) + 1
  left_less used i n was =
      let e : left ≡ v.left = ap (λ (w : Rows A). w.left) is in
      let l = length-set starts i n in
      omega (arith, e, was, l)

  -- with one more row, which one place names
  pub rows_more : (used lr vr : ℕ) → IsTable long starts used ls vs lr vr → (i n : ℕ) (row : List A) →
      length row ≡ long → (ls2 : List ℕ) (vs2 : List A) → IsAt ls vs ls2 vs2 row n →
      rows_in long ls2 vs2 (set starts i n) ≡ set v.rows i row
  rows_more used lr vr T i n row fits ls2 vs2 at =
      map-set (row_at long ls2 vs2) starts i n
      ∙ ap (λ (rs : List (List A)). set rs i (row_at long ls2 vs2 n))
      (same_maps (row_at long ls vs) (row_at long ls2 vs2) starts
      (λ k. (at.stays long (get_or starts k 0) (T.whole k)).1))
      ∙ ap (λ (r : List A). set (rows_in long ls vs starts) i r)
      (ap (λ (m : ℕ). row_at m ls2 vs2 n) (sym fits) ∙ at.there)
      ∙ ap (λ (w : Rows A). set w.rows i row) is

past : (xs : List ℕ) → get_or xs (length xs) 0 ≡ 0
past [] = refl
past (x ∷ xs) = past xs

-- the blank row is whole
pub blank_first : {A : Type 0} (long : ℕ) (starts : List ℕ) (used : ℕ) (ls : List ℕ) (vs : List A) (lr vr : ℕ) →
    IsTable long starts used ls vs lr vr → (row : List A) → length row ≡ long → length row ≤ length (from_run ls vs 0)
blank_first long starts used ls vs lr vr T row fits =
    subst (λ (m : ℕ). m ≤ length (from_run ls vs 0)) (sym fits)
    (subst (λ (s : ℕ). long ≤ length (from_run ls vs s)) (past starts) (T.whole (length starts)))
