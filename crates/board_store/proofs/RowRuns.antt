-- Rows kept as runs: how they are read, and that they stay where others come behind them.
use Rattle.board_store.proofs.Common.{◌≡◌, ℕ, zero, suc, ◌+◌, ◌-◌, ◌<◌, ◌≤◌, ◌↔◌, List, [], ◌∷◌, ◌++◌, length, take}
use Rattle.board_store.proofs.Common.{drop, get_or, refl, sym, ap, ◌∙◌, subst, arith, replicate, append_assoc, min}
use Rattle.board_store.proofs.Common.{append-nil, length-append, length-drop, length-replicate, take-append-le}
use Rattle.board_store.proofs.Common.{drop-append-le, take-append-drop, drop_more, laid_out, from_run, row_at, IsAdded}
use Rattle.board_store.proofs.Common.{replicate-append-replicate, length-take-le, drop_all, take_at, drop_at, take_more}
use Rattle.board_store.proofs.Common.{take_more_same, replicate_more, get_or-drop, drop-drop, same_from_push, Bool}
use Rattle.board_store.proofs.Common.{take_all, IsAt, ◌&&◌, IsTrue, and_parts, and_from}
use Rattle.plain_lists.proofs.ListLaws.{parts}

-- ---- runs behind others

laid_append : {A : Type 0} (ls : List ℕ) (vs : List A) (ls2 : List ℕ) (vs2 : List A) → length ls ≡ length vs →
    laid_out (ls ++ ls2) (vs ++ vs2) ≡ laid_out ls vs ++ laid_out ls2 vs2
laid_append [] [] ls2 vs2 e = refl
laid_append [] (v ∷ vs) ls2 vs2 e = absurd (omega (arith, e))
laid_append (n ∷ ls) [] ls2 vs2 e = absurd (omega (arith, e))
laid_append {A} (n ∷ ls) (v ∷ vs) ls2 vs2 e =
    ap (λ (xs : List A). replicate n v ++ xs) (laid_append ls vs ls2 vs2 (omega (arith, e)))
    ∙ sym (append_assoc (replicate n v) (laid_out ls vs) (laid_out ls2 vs2))

-- a row stays where runs come behind
row_stays : {A : Type 0} (s : ℕ) (ls : List ℕ) (vs : List A) (ls2 : List ℕ) (vs2 : List A) (long : ℕ) →
    length ls ≡ length vs → long ≤ length (from_run ls vs s) →
    (long ≤ length (from_run (ls ++ ls2) (vs ++ vs2) s))
    × (row_at long (ls ++ ls2) (vs ++ vs2) s ≡ row_at long ls vs s)
row_stays {A} zero ls vs ls2 vs2 long e w =
    let l = laid_append ls vs ls2 vs2 e in
    let m = ap (λ (xs : List A). length xs) l ∙ length-append (laid_out ls vs) (laid_out ls2 vs2) in
    (omega (arith, m, w), ap (take long) l ∙ take-append-le long (laid_out ls vs) (laid_out ls2 vs2) w)
row_stays (suc s) [] [] ls2 vs2 zero e w = (omega arith, refl)
row_stays (suc s) [] [] ls2 vs2 (suc long) e w = absurd (omega (arith, w))
row_stays (suc s) [] (v ∷ vs) ls2 vs2 long e w = absurd (omega (arith, e))
row_stays (suc s) (n ∷ ls) [] ls2 vs2 long e w = absurd (omega (arith, e))
row_stays (suc s) (n ∷ ls) (v ∷ vs) ls2 vs2 long e w = row_stays s ls vs ls2 vs2 long (omega (arith, e)) w

behind : {A : Type 0} (n : ℕ) (xs ys : List A) → take n ys ≡ xs → xs ++ drop n ys ≡ ys
behind {A} n xs ys e = ap (λ (zs : List A). zs ++ drop n ys) (sym e) ∙ take-append-drop n ys

pub row_kept : {A : Type 0} (ls : List ℕ) (vs : List A) (ls2 : List ℕ) (vs2 row : List A) → length ls ≡ length vs →
    IsAdded ls vs ls2 vs2 row → (long s : ℕ) → long ≤ length (from_run ls vs s) →
    (long ≤ length (from_run ls2 vs2 s)) × (row_at long ls2 vs2 s ≡ row_at long ls vs s)
row_kept {A} ls vs ls2 vs2 row pairs added long s w =
    let n = length ls in
    let a = behind n ls ls2 added.lengths_before in
    let b = behind n vs vs2 added.values_before in
    let stays = row_stays s ls vs (drop n ls2) (drop n vs2) long pairs w in
    subst (λ (l : List ℕ). (long ≤ length (from_run l vs2 s)) × (row_at long l vs2 s ≡ row_at long ls vs s)) a
    (subst (λ (v : List A). (long ≤ length (from_run (ls ++ drop n ls2) v s))
    × (row_at long (ls ++ drop n ls2) v s ≡ row_at long ls vs s)) b stays)

-- and the new one is there
pub row_there : {A : Type 0} (ls : List ℕ) (vs : List A) (ls2 : List ℕ) (vs2 row : List A) →
    IsAdded ls vs ls2 vs2 row → (long : ℕ) → length row ≡ long →
    (long ≤ length (from_run ls2 vs2 (length ls))) × (row_at long ls2 vs2 (length ls) ≡ row)
row_there {A} ls vs ls2 vs2 row added long fits =
    let l = ap (λ (xs : List A). length xs) added.laid in
    (omega (arith, l, fits), ap (take long) added.laid ∙ take_all long row (omega (arith, fits)))

-- ---- where a row is

pub at_there : {A : Type 0} (ls seen_ls : List ℕ) (vs seen_vs row : List A) (n : ℕ) → length ls ≡ length vs →
    length row ≤ length (from_run ls vs n) → seen_ls ≡ ls → seen_vs ≡ vs →
    row_at (length row) seen_ls seen_vs n ≡ row → IsAt ls vs ls vs row n
at_there {A} ls seen_ls vs seen_vs row n pairs whole same same2 is = record {
  pairs = pairs;
  there =
      ap (λ (xs : List ℕ). row_at (length row) xs vs n) (sym same)
      ∙ ap (λ (xs : List A). row_at (length row) seen_ls xs n) (sym same2)
      ∙ is;
  whole = whole;
  stays = λ long k w. (w, refl);
}

pub at_added : {A : Type 0} (ls : List ℕ) (vs : List A) (ls2 : List ℕ) (vs2 row : List A) (n : ℕ) →
    length ls ≡ length vs → IsAdded ls vs ls2 vs2 row → n ≡ length ls → IsAt ls vs ls2 vs2 row n
at_added {A} ls vs ls2 vs2 row n pairs added last =
    let there = row_there ls vs ls2 vs2 row added (length row) refl in
    record {
      pairs = added.pairs;
      there = ap (row_at (length row) ls2 vs2) last ∙ there.1;
      whole = subst (λ (k : ℕ). length row ≤ length (from_run ls2 vs2 k)) (sym last) there.0;
      stays = λ long k w. row_kept ls vs ls2 vs2 row pairs added long k w;
    }

-- a row as the code sees it
pub seen_whole : {A : Type 0} (ls seen_ls : List ℕ) (vs seen_vs : List A) (n k : ℕ) → seen_ls ≡ ls → seen_vs ≡ vs →
    k ≤ length (from_run ls vs n) → k ≤ length (from_run seen_ls seen_vs n)
seen_whole {A} ls seen_ls vs seen_vs n k same same2 w =
    subst (λ (xs : List ℕ). k ≤ length (from_run xs seen_vs n)) (sym same)
    (subst (λ (xs : List A). k ≤ length (from_run ls xs n)) (sym same2) w)

-- a row that is read into an empty list
pub seen_row : {A : Type 0} (ls seen_ls : List ℕ) (vs seen_vs : List A) (n long : ℕ) → seen_ls ≡ ls → seen_vs ≡ vs →
    (before items : List A) → before ≡ [] → items ≡ before ++ row_at long seen_ls seen_vs n →
    items ≡ row_at long ls vs n
seen_row {A} ls seen_ls vs seen_vs n long same same2 before items none is =
    is
    ∙ ap (λ (xs : List A). xs ++ row_at long seen_ls seen_vs n) none
    ∙ ap (λ (xs : List ℕ). row_at long xs seen_vs n) same
    ∙ ap (λ (xs : List A). row_at long ls xs n) same2

-- ---- adding a row run by run

-- the second lists begin with the first ones, and what they have beyond those comes to a row with the rest
pub record IsAdding {A : Type 0} (ls : List ℕ) (vs : List A) (ls2 : List ℕ) (vs2 row rest : List A) : Type 0 where
  pub lengths_before : take (length ls) ls2 ≡ ls
  pub values_before : take (length ls) vs2 ≡ vs
  pub pairs : length ls2 ≡ length vs2
  pub behind : length ls ≤ length ls2
  pub laid : from_run ls2 vs2 (length ls) ++ rest ≡ row

pub adding_none : {A : Type 0} (ls : List ℕ) (vs rest : List A) → length ls ≡ length vs → IsAdding ls vs ls vs rest rest
adding_none {A} ls vs rest pairs = record {
  lengths_before = take_all (length ls) ls (omega arith);
  values_before = take_all (length ls) vs (omega (arith, pairs));
  pairs = pairs;
  behind = omega arith;
  laid = ap (λ (xs : List ℕ). laid_out xs (drop (length ls) vs) ++ rest) (drop_all (length ls) ls (omega arith));
}

-- runs that come to a part of the rest
pub adding_part : {A : Type 0} (ls : List ℕ) (vs : List A) (ls2 : List ℕ) (vs2 row part rest : List A) →
    IsAdding ls vs ls2 vs2 row (part ++ rest) → (ls3 : List ℕ) (vs3 : List A) → IsAdded ls2 vs2 ls3 vs3 part →
    IsAdding ls vs ls3 vs3 row rest
adding_part {A} ls vs ls2 vs2 row part rest so ls3 vs3 added =
    let k = length ls in
    let n = length ls2 in
    let d = drop n ls3 in
    let e = drop n vs3 in
    let b = so.behind in
    let p = so.pairs in
    let in2 : k ≤ length vs2 = omega (arith, b, p) in
    let l3 = behind n ls2 ls3 added.lengths_before in
    let v3 = behind n vs2 vs3 added.values_before in
    let m = sym (length-append ls2 d) ∙ ap (λ (xs : List ℕ). length xs) l3 in
    let dl = length-drop k ls2 in
    let dv = length-drop k vs2 in
    record {
      lengths_before = ap (take k) (sym l3) ∙ take-append-le k ls2 d b ∙ so.lengths_before;
      values_before = ap (take k) (sym v3) ∙ take-append-le k vs2 e in2 ∙ so.values_before;
      pairs = added.pairs;
      behind = omega (arith, b, m);
      laid =
          ap (λ (xs : List A). xs ++ rest)
          (ap (λ (xs : List ℕ). laid_out (drop k xs) (drop k vs3)) (sym l3)
          ∙ ap (λ (xs : List A). laid_out (drop k (ls2 ++ d)) (drop k xs)) (sym v3)
          ∙ ap (λ (xs : List ℕ). laid_out xs (drop k (vs2 ++ e))) (drop-append-le k ls2 d b)
          ∙ ap (λ (xs : List A). laid_out (drop k ls2 ++ d) xs) (drop-append-le k vs2 e in2)
          ∙ laid_append (drop k ls2) (drop k vs2) d e (omega (arith, dl, dv, p))
          ∙ ap (λ (xs : List A). from_run ls2 vs2 k ++ xs) added.laid)
          ∙ append_assoc (from_run ls2 vs2 k) part rest
          ∙ so.laid;
    }

-- all runs are there
pub adding_done : {A : Type 0} (ls : List ℕ) (vs : List A) (ls2 : List ℕ) (vs2 row rest : List A) →
    IsAdding ls vs ls2 vs2 row rest → rest ≡ [] → IsAdded ls vs ls2 vs2 row
adding_done {A} ls vs ls2 vs2 row rest so none = record {
  lengths_before = so.lengths_before;
  values_before = so.values_before;
  pairs = so.pairs;
  laid =
      sym (append-nil (from_run ls2 vs2 (length ls)))
      ∙ ap (λ (xs : List A). from_run ls2 vs2 (length ls) ++ xs) (sym none)
      ∙ so.laid;
}

-- one run
one_run : {A : Type 0} (ls : List ℕ) (vs : List A) (n : ℕ) (v : A) → length ls ≡ length vs →
    IsAdded ls vs (ls ++ n ∷ []) (vs ++ v ∷ []) (replicate n v)
one_run {A} ls vs n v pairs = record {
  lengths_before = take_at ls (n ∷ []) (length ls) refl;
  values_before = take_at vs (v ∷ []) (length ls) (sym pairs);
  pairs = omega (arith, length-append ls (n ∷ []), length-append vs (v ∷ []), pairs);
  laid =
      ap (λ (xs : List ℕ). laid_out xs (drop (length ls) (vs ++ v ∷ []))) (drop_at ls (n ∷ []) (length ls) refl)
      ∙ ap (λ (xs : List A). laid_out (n ∷ []) xs) (drop_at vs (v ∷ []) (length ls) (sym pairs))
      ∙ append-nil (replicate n v);
}

-- one run of those of so many copies
pub adding_run : {A : Type 0} (ls : List ℕ) (vs : List A) (ls2 : List ℕ) (vs2 row : List A) (n left : ℕ) (v : A) →
    IsAdding ls vs ls2 vs2 row (replicate left v) → n ≤ left → (ls3 : List ℕ) (vs3 : List A) →
    ls3 ≡ ls2 ++ n ∷ [] → vs3 ≡ vs2 ++ v ∷ [] → IsAdding ls vs ls3 vs3 row (replicate (left - n) v)
adding_run {A} ls vs ls2 vs2 row n left v so most ls3 vs3 longer longer2 =
    let e : n + (left - n) ≡ left = omega (arith, most) in
    let cut : replicate left v ≡ replicate n v ++ replicate (left - n) v =
    ap (λ (k : ℕ). replicate k v) (sym e) ∙ sym (replicate-append-replicate n (left - n) v) in
    subst (λ (xs : List ℕ). IsAdding ls vs xs vs3 row (replicate (left - n) v)) (sym longer)
    (subst (λ (xs : List A). IsAdding ls vs (ls2 ++ n ∷ []) xs row (replicate (left - n) v)) (sym longer2)
    (adding_part ls vs ls2 vs2 row (replicate n v) (replicate (left - n) v)
    (subst (IsAdding ls vs ls2 vs2 row) cut so) (ls2 ++ n ∷ []) (vs2 ++ v ∷ []) (one_run ls2 vs2 n v so.pairs)))

-- one more cell of a row, which is the same as those that are still to come
adding_cell : {A : Type 0} (ls : List ℕ) (vs : List A) (ls2 : List ℕ) (vs2 row : List A) (k n : ℕ) (v : A) →
    IsAdding ls vs ls2 vs2 (take k row) (replicate n v) → k < length row → v ≡ get_or row k v →
    IsAdding ls vs ls2 vs2 (take (k + 1) row) (replicate (n + 1) v)
adding_cell {A} ls vs ls2 vs2 row k n v so inside is =
    let longer = take_more row k v inside ∙ ap (λ (x : A). take k row ++ x ∷ []) (sym is) in
    record {
      lengths_before = so.lengths_before;
      values_before = so.values_before;
      pairs = so.pairs;
      behind = so.behind;
      laid =
          ap (λ (xs : List A). from_run ls2 vs2 (length ls) ++ xs) (sym (replicate_more n v))
          ∙ sym (append_assoc (from_run ls2 vs2 (length ls)) (replicate n v) (v ∷ []))
          ∙ ap (λ (xs : List A). xs ++ v ∷ []) so.laid
          ∙ sym longer;
    }

-- the runs of the cells before are there, and one more cell begins another
pub adding_next : {A : Type 0} (ls : List ℕ) (vs : List A) (ls2 : List ℕ) (vs2 row rest : List A) (k : ℕ) (v : A) →
    IsAdding ls vs ls2 vs2 (take k row) rest → (ls3 : List ℕ) (vs3 : List A) → IsAdded ls2 vs2 ls3 vs3 rest →
    k < length row → v ≡ get_or row k v → IsAdding ls vs ls3 vs3 (take (k + 1) row) (replicate 1 v)
adding_next {A} ls vs ls2 vs2 row rest k v so ls3 vs3 added inside is =
    adding_cell ls vs ls3 vs3 row k 0 v
    (adding_part ls vs ls2 vs2 (take k row) rest []
    (subst (IsAdding ls vs ls2 vs2 (take k row)) (sym (append-nil rest)) so) ls3 vs3 added) inside is

-- the last of the runs is there
pub adding_last : {A : Type 0} (ls : List ℕ) (vs : List A) (ls2 : List ℕ) (vs2 row rest : List A) →
    IsAdding ls vs ls2 vs2 row rest → (ls3 : List ℕ) (vs3 : List A) → IsAdded ls2 vs2 ls3 vs3 rest →
    IsAdded ls vs ls3 vs3 row
adding_last {A} ls vs ls2 vs2 row rest so ls3 vs3 added =
    adding_done ls vs ls3 vs3 row []
    (adding_part ls vs ls2 vs2 row rest [] (subst (IsAdding ls vs ls2 vs2 row) (sym (append-nil rest)) so)
    ls3 vs3 added) refl

-- the first runs
pub laid_first : {A : Type 0} (ls : List ℕ) (vs : List A) (ls2 : List ℕ) (vs2 row : List A) →
    IsAdded ls vs ls2 vs2 row → ls ≡ [] → laid_out ls2 vs2 ≡ row
laid_first {A} ls vs ls2 vs2 row added none =
    ap (λ (xs : List ℕ). from_run ls2 vs2 (length xs)) (sym none) ∙ added.laid

-- ---- reading a row run by run

-- where cells are left, a run is left
pub run_here : {A : Type 0} (i : ℕ) (ls : List ℕ) (vs : List A) → length ls ≡ length vs →
    1 ≤ length (from_run ls vs i) → i < length ls
run_here zero [] vs e w = absurd (omega (arith, w))
run_here zero (n ∷ ls) vs e w = omega arith
run_here (suc i) [] vs e w = absurd (omega (arith, w))
run_here (suc i) (n ∷ ls) [] e w = absurd (omega (arith, e))
run_here (suc i) (n ∷ ls) (v ∷ vs) e w = let h = run_here i ls vs (omega (arith, e)) w in omega (arith, h)

next_run : {A : Type 0} (i : ℕ) (ls : List ℕ) (vs : List A) → length ls ≡ length vs → i < length ls →
    (v : A) → v ≡ get_or vs i v → from_run ls vs i ≡ replicate (get_or ls i 0) v ++ from_run ls vs (i + 1)
next_run {A} i ls vs e lt v is =
    ap (λ (xs : List ℕ). laid_out xs (drop i vs)) (drop_more ls i 0 lt)
    ∙ ap (λ (xs : List A). laid_out (get_or ls i 0 ∷ drop (i + 1) ls) xs) (drop_more vs i v (omega (arith, lt, e)))
    ∙ ap (λ (x : A). replicate (get_or ls i 0) x ++ from_run ls vs (i + 1)) (sym is)

-- the first cells of a run and of what follows
pub front_of_run : {A : Type 0} (m n r left : ℕ) (v : A) (xs : List A) → left ≡ m + r → m ≤ n → (m < n → r ≡ 0) →
    take left (replicate n v ++ xs) ≡ replicate m v ++ take r xs
front_of_run zero zero r left v xs e low h = let k : left ≡ r = omega (arith, e) in ap (λ (j : ℕ). take j xs) k
front_of_run zero (suc n) zero zero v xs e low h = refl
front_of_run zero (suc n) zero (suc left) v xs e low h = absurd (omega (arith, e))
front_of_run zero (suc n) (suc r) left v xs e low h = let z = h (omega arith) in absurd (omega (arith, z))
front_of_run (suc m) zero r left v xs e low h = absurd (omega (arith, low))
front_of_run (suc m) (suc n) r zero v xs e low h = absurd (omega (arith, e))
front_of_run {A} (suc m) (suc n) r (suc left) v xs e low h =
    ap (λ (ys : List A). v ∷ ys)
    (front_of_run m n r left v xs (omega (arith, e)) (omega (arith, low)) (λ lt. h (omega (arith, lt))))

-- the run at an index, of a row of which so many cells are left there
module _ {A : Type 0} (ls : List ℕ) (vs : List A) (i left m : ℕ) (v : A) (pairs : length ls ≡ length vs)
    (some : 1 ≤ left) (whole : left ≤ length (from_run ls vs i)) (read : v ≡ get_or vs i v)
    (least : m ≡ min left (get_or ls i 0)) where
  next : from_run ls vs i ≡ replicate (get_or ls i 0) v ++ from_run ls vs (i + 1)
  next = next_run i ls vs pairs (run_here i ls vs pairs (omega (arith, some, whole))) v read

  pub taken : take left (from_run ls vs i) ≡ replicate m v ++ take (left - m) (from_run ls vs (i + 1))
  taken =
      ap (take left) next
      ∙ front_of_run m (get_or ls i 0) (left - m) left v (from_run ls vs (i + 1)) (omega (arith, least))
      (omega (arith, least)) (λ lt. omega (arith, least, lt))

  pub still_whole : left - m ≤ length (from_run ls vs (i + 1))
  still_whole =
      let k = ap (λ (xs : List A). length xs) next
      ∙ length-append (replicate (get_or ls i 0) v) (from_run ls vs (i + 1)) in
      let r = length-replicate (get_or ls i 0) v in
      omega (arith, k, r, least, whole)

-- what is left of a row from a place on is what the runs from another on begin with
abbrev pub IsThere : {A : Type 0} → List A → ℕ → List A → Type 0
IsThere row seen cells = take (length row - seen) cells ≡ drop seen row

-- one run of a row, and what is left
module _ {A : Type 0} (ls : List ℕ) (vs : List A) (i : ℕ) (row : List A) (seen m end : ℕ) (v : A)
    (pairs : length ls ≡ length vs) (some : seen < length row)
    (whole : length row - seen ≤ length (from_run ls vs i)) (read : v ≡ get_or vs i v)
    (least : m ≡ min (length row - seen) (get_or ls i 0)) (is : end ≡ seen + m) where
  some_left : 1 ≤ length row - seen
  some_left = omega (arith, some)

  long : end - seen ≡ m
  long = omega (arith, is)

  after : (length row - seen) - m ≡ length row - end
  after = omega (arith, is)

  run_is : take (end - seen) (drop seen row) ≡ take m (drop seen row)
  run_is = ap (λ (k : ℕ). take k (drop seen row)) long

  counted : length (take m (drop seen row)) ≡ m
  counted = let d = length-drop seen row in length-take-le m (drop seen row) (omega (arith, d, least))

  cut : take m (drop seen row) ++ drop end row ≡ drop seen row
  cut =
      ap (λ (k : ℕ). take m (drop seen row) ++ drop k row) is
      ∙ ap (λ (xs : List A). take m (drop seen row) ++ xs) (sym (drop-drop m seen row))
      ∙ take-append-drop m (drop seen row)

  front : take (length row - seen) (from_run ls vs i)
      ≡ replicate m v ++ take (length row - end) (from_run ls vs (i + 1))
  front =
      taken ls vs i (length row - seen) m v pairs some_left whole read least
      ∙ ap (λ (k : ℕ). replicate m v ++ take k (from_run ls vs (i + 1))) after

  split : IsThere row seen (from_run ls vs i) → (replicate m v ≡ take m (drop seen row))
      × IsThere row end (from_run ls vs (i + 1))
  split there =
      parts (replicate m v) (take (length row - end) (from_run ls vs (i + 1)))
      (take m (drop seen row)) (drop end row) (length-replicate m v ∙ sym counted)
      (sym front ∙ there ∙ sym cut)

  pub told_no : IsThere row seen (from_run ls vs i) →
      take (end - seen) (drop seen row) ≡ replicate (length (take (end - seen) (drop seen row))) v
  told_no there =
      run_is ∙ sym (split there).0
      ∙ ap (λ (k : ℕ). replicate k v) (sym (ap (λ (xs : List A). length xs) run_is ∙ counted))

  pub told_yes : take (end - seen) (drop seen row) ≡ replicate (length (take (end - seen) (drop seen row))) v →
      IsThere row seen (from_run ls vs i) ↔ IsThere row end (from_run ls vs (i + 1))
  told_yes same = (
    λ there. (split there).1,
    λ there. front
        ∙ ap (λ (xs : List A). xs ++ take (length row - end) (from_run ls vs (i + 1)))
        (ap (λ (k : ℕ). replicate k v) (sym (ap (λ (xs : List A). length xs) run_is ∙ counted)) ∙ sym same ∙ run_is)
        ∙ ap (λ (xs : List A). take m (drop seen row) ++ xs) there ∙ cut,
  )

  pub later_whole : length row - end ≤ length (from_run ls vs (i + 1))
  later_whole =
      let w = still_whole ls vs i (length row - seen) m v pairs some_left whole read least in
      let l = after in
      omega (arith, w, l)

-- ---- cells that are all the same

pub all_more : {A : Type 0} (xs : List A) (k : ℕ) (x v : A) (so r : Bool) → IsTrue so ↔ (take k xs ≡ replicate k v) →
    k < length xs → x ≡ get_or xs k x → IsTrue r ↔ (x ≡ v) →
    IsTrue (r && so) ↔ (take (k + 1) xs ≡ replicate (k + 1) v)
all_more {A} xs k x v so r told inside is one =
    let longer = take_more xs k x inside ∙ ap (λ (y : A). take k xs ++ y ∷ []) (sym is) in (
      λ yes.
          let both = and_parts r so yes in
          longer ∙ ap (λ (ys : List A). ys ++ x ∷ []) (told.0 both.1)
          ∙ ap (λ (y : A). replicate k v ++ y ∷ []) (one.0 both.0) ∙ replicate_more k v,
      λ same.
          let both = same_from_push (take k xs) (replicate k v) x v (sym longer ∙ same ∙ sym (replicate_more k v)) in
          and_from r so (one.1 both.1) (told.1 both.0),
    )

-- ---- runs of one period each

ones_front : {A : Type 0} (xs : List A) (ls : List ℕ) (vs : List A) → take (length xs) vs ≡ xs →
    take (length xs) ls ≡ replicate (length xs) 1 → take (length xs) (laid_out ls vs) ≡ xs
ones_front [] ls vs e f = refl
ones_front (x ∷ xs) ls [] e f = cc
ones_front (x ∷ xs) [] (v ∷ vs) e f = cc
ones_front {A} (x ∷ xs) (n ∷ ls) (v ∷ vs) e f =
    let n_is : n ≡ 1 = cc in
    let v_is : v ≡ x = cc in
    let es : take (length xs) vs ≡ xs = cc in
    let fs : take (length xs) ls ≡ replicate (length xs) 1 = cc in
    ap (λ (k : ℕ). take (suc (length xs)) (replicate k v ++ laid_out ls vs)) n_is
    ∙ ap (λ (y : A). y ∷ take (length xs) (laid_out ls vs)) v_is
    ∙ ap (λ (ys : List A). x ∷ ys) (ones_front xs ls vs es fs)

-- so many cells of a row are there in runs of one period each
pub record AreOnes {A : Type 0} (ls : List ℕ) (vs : List A) (start : ℕ) (row : List A) (k : ℕ) : Type 0 where
  pub values : take k (drop start vs) ≡ take k row
  pub lengths : take k (drop start ls) ≡ replicate k 1

pub ones_more : {A : Type 0} (ls : List ℕ) (vs : List A) (start : ℕ) (row : List A) (k : ℕ) (v x : A) →
    AreOnes ls vs start row k → length ls ≡ length vs → k < length row → start + length row ≤ length ls →
    get_or ls (start + k) 0 ≡ 1 → v ≡ x → v ≡ get_or vs (start + k) v → x ≡ get_or row k x →
    AreOnes ls vs start row (k + 1)
ones_more {A} ls vs start row k v x so pairs inside fits one same v_is x_is =
    let dl = length-drop start ls in
    let dv = length-drop start vs in
    record {
      values =
          take_more_same (drop start vs) row k v (omega (arith, dv, pairs, inside, fits)) inside so.values
          (get_or-drop start vs k v ∙ sym v_is ∙ same ∙ x_is ∙ ap (λ (d : A). get_or row k d) (sym same));
      lengths =
          take_more (drop start ls) k 0 (omega (arith, dl, inside, fits))
          ∙ ap (λ (j : ℕ). take k (drop start ls) ++ j ∷ []) (get_or-drop start ls k 0 ∙ one)
          ∙ ap (λ (xs : List ℕ). xs ++ 1 ∷ []) so.lengths
          ∙ replicate_more k 1;
    }

pub ones_row : {A : Type 0} (ls : List ℕ) (vs : List A) (start : ℕ) (row : List A) →
    AreOnes ls vs start row (length row) → row_at (length row) ls vs start ≡ row
ones_row ls vs start row so =
    ones_front row (drop start ls) (drop start vs) (so.values ∙ take_all (length row) row (omega arith)) so.lengths

-- ---- rows as the code sees them

-- a row that isn't there has a cell
pub some_cell : {A : Type 0} (n : ℕ) (ls : List ℕ) (vs row : List A) → (row_at (length row) ls vs n ≡ row → ⊥) →
    1 ≤ length row
some_cell n ls vs [] differs = absurd (differs refl)
some_cell n ls vs (x ∷ row) differs = omega arith
