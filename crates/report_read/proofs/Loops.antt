-- What a loop has read so far, and what it still reads: items of a line, and bytes of a name.
use Rattle.report_read.proofs.Common.{◌≡◌, ℕ, suc, ◌+◌, ◌-◌, ◌<◌, ◌≤◌, true, false, cond, ◌==◌, List, [], ◌∷◌, ◌++◌}
use Rattle.report_read.proofs.Common.{Some, None, refl, sym, ap, ◌∙◌, arith, append_assoc, append-nil, Found, ◌>>=◌}
use Rattle.report_read.proofs.Common.{behind, items_at, escaped_at, closed_within}
use Rattle.report_read.proofs.Reading.{behind_takes}

-- what was read before, and what is still read
abbrev pub with_front : {A : Type 0} → List A → Found (List A) → Found (List A)
with_front front read = read >>= λ x. Some (front ++ x.0, x.1)

pub regroup : {A : Type 0} (front : List A) (x : A) (read : Found (List A)) →
    with_front front (read >>= λ xs. Some (x ∷ xs.0, xs.1)) ≡ with_front (front ++ x ∷ []) read
regroup {A} front x (Some xs) = ap (λ (ys : List A). Some (ys, xs.1)) (simp append_assoc)
regroup {A} front x None = refl

pub item_goes_on : {A : Type 0} (item : List ℕ → Found A) (front : List A) (count i : ℕ) (bytes : List ℕ) (x : A)
    (rest : List ℕ) (total : Found (List A)) → i < count → item bytes ≡ Some (x, rest)
    → with_front front (items_at item (count - i) bytes) ≡ total →
    with_front (front ++ x ∷ []) (items_at item (count - (i + 1)) rest) ≡ total
unfolding items_at
item_goes_on item front count i bytes x rest total lt h so_far =
    let k : count - i ≡ suc (count - (i + 1)) = omega arith in
    let one : with_front front (items_at item (count - i) bytes) ≡ with_front (front ++ x ∷ [])
    (items_at item (count - (i + 1)) rest) =
    rw (k, h) (regroup front x (items_at item (count - (i + 1)) rest)) in
    sym one ∙ so_far

pub item_fails : {A : Type 0} (item : List ℕ → Found A) (front : List A) (count i : ℕ) (bytes : List ℕ)
    (total : Found (List A)) → i < count → item bytes ≡ None
    → with_front front (items_at item (count - i) bytes) ≡ total → total ≡ None
unfolding items_at
item_fails item front count i bytes total lt h so_far =
    let k : count - i ≡ suc (count - (i + 1)) = omega arith in
    let one : with_front front (items_at item (count - i) bytes) ≡ None = rw (k, h) refl in
    sym so_far ∙ one

pub items_done : {A : Type 0} (item : List ℕ → Found A) (front : List A) (count i : ℕ) (bytes : List ℕ)
    (total : Found (List A)) → count ≤ i
    → with_front front (items_at item (count - i) bytes) ≡ total → total ≡ Some (front, bytes)
unfolding items_at
items_done {A} item front count i bytes total le so_far =
    let k : count - i ≡ 0 = omega arith in
    let one : with_front front (items_at item (count - i) bytes) ≡ Some (front, bytes) =
    rw k (ap (λ (xs : List A). Some (xs, bytes)) (append-nil front)) in
    sym so_far ∙ one

-- ---- names

closed_cons : (most b : ℕ) (bs : List ℕ) → behind (34 ∷ []) (b ∷ bs) ≡ None →
    closed_within (suc most)
    (b ∷ bs) ≡ (escaped_at (b ∷ bs) >>= λ x. closed_within most x.1 >>= λ xs. Some (x.0 ∷ xs.0, xs.1))
unfolding closed_within behind
closed_cons most b bs e =
    elim (b == 34) as (λ t. cond t (Some bs) None ≡ None →
    cond {A = Found (List ℕ)} t (Some ([], bs))
    (escaped_at (b ∷ bs) >>= λ x. closed_within most x.1 >>= λ xs. Some (x.0 ∷ xs.0, xs.1))
    ≡ (escaped_at (b ∷ bs) >>= λ x. closed_within most x.1 >>= λ xs. Some (x.0 ∷ xs.0, xs.1))) [
      | true ↦ λ f. absurd cc
      | false ↦ λ f. refl
    ] e

-- a step of a name that goes on
closed_step : (most : ℕ) (bytes : List ℕ) → behind (34 ∷ []) bytes ≡ None →
    closed_within (suc most)
    bytes ≡ (escaped_at bytes >>= λ x. closed_within most x.1 >>= λ xs. Some (x.0 ∷ xs.0, xs.1))
unfolding closed_within escaped_at
closed_step most [] e = refl
closed_step most (b ∷ bs) e = closed_cons most b bs e

pub byte_goes_on : (front : List ℕ) (count i : ℕ) (bytes : List ℕ) (x : ℕ) (rest : List ℕ) (total : Found (List ℕ)) →
    i < count → behind (34 ∷ []) bytes ≡ None → escaped_at bytes ≡ Some (x, rest)
    → with_front front (closed_within (count - i) bytes) ≡ total →
    with_front (front ++ x ∷ []) (closed_within (count - (i + 1)) rest) ≡ total
byte_goes_on front count i bytes x rest total lt unclosed h so_far =
    let k : count - i ≡ suc (count - (i + 1)) = omega arith in
    let one : with_front front (closed_within (count - i) bytes) ≡ with_front (front ++ x ∷ [])
    (closed_within (count - (i + 1)) rest) =
    rw (k, closed_step (count - (i + 1)) bytes unclosed, h)
    (regroup front x (closed_within (count - (i + 1)) rest)) in
    sym one ∙ so_far

pub byte_fails : (front : List ℕ) (count i : ℕ) (bytes : List ℕ) (total : Found (List ℕ)) → i < count →
    behind (34 ∷ []) bytes ≡ None → escaped_at bytes ≡ None
    → with_front front (closed_within (count - i) bytes) ≡ total → total ≡ None
byte_fails front count i bytes total lt unclosed h so_far =
    let k : count - i ≡ suc (count - (i + 1)) = omega arith in
    let one : with_front front (closed_within (count - i) bytes) ≡ None =
    rw (k, closed_step (count - (i + 1)) bytes unclosed, h) refl in
    sym so_far ∙ one

closed_here : (most : ℕ) (rest : List ℕ) → closed_within (suc most) (34 ∷ rest) ≡ Some ([], rest)
unfolding closed_within
closed_here most rest = refl

pub name_ends : (front : List ℕ) (count i : ℕ) (bytes rest : List ℕ) (total : Found (List ℕ)) → i < count →
    behind (34 ∷ []) bytes ≡ Some rest
    → with_front front (closed_within (count - i) bytes) ≡ total → total ≡ Some (front, rest)
name_ends front count i bytes rest total lt closed so_far =
    let k : count - i ≡ suc (count - (i + 1)) = omega arith in
    let quote : bytes ≡ 34 ∷ rest = behind_takes (34 ∷ []) bytes rest closed in
    let one : with_front front (closed_within (count - i) bytes) ≡ Some (front, rest) =
    rw (k, quote, closed_here (count - (i + 1)) rest)
    (ap (λ (xs : List ℕ). Some (xs, rest)) (append-nil front)) in
    sym so_far ∙ one

pub name_is_open : (front : List ℕ) (count i : ℕ) (bytes : List ℕ) (total : Found (List ℕ)) → count ≤ i
    → with_front front (closed_within (count - i) bytes) ≡ total → total ≡ None
unfolding closed_within
name_is_open front count i bytes total le so_far =
    let k : count - i ≡ 0 = omega arith in
    let one : with_front front (closed_within (count - i) bytes) ≡ None = rw k refl in
    sym so_far ∙ one
