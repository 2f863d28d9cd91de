-- What a loop has read so far, and what it still reads: proposals and units.
use Rattle.report_read.proofs.Common.{◌≡◌, ℕ, suc, ◌+◌, ◌-◌, ◌<◌, ◌≤◌, List, [], ◌∷◌, ◌++◌, Ok, Err, refl, sym, ap, ◌∙◌}
use Rattle.report_read.proofs.Common.{arith, append_assoc, append-nil, Proposal, Told, rank, Read, Fails, making}
use Rattle.report_read.proofs.Common.{joined, row_at, rows_at, unit_at, units_at}
use Rattle.report_read.specs.declared.stop.Stop.{Stop}
use Rattle.report_read.specs.declared.stop.Stop.TheVariants as stops
use Rattle.report_read.specs.Lines.{◌>>=◌}

abbrev pub with_front : {A : Type 0} → List A → Read (List A) → Read (List A)
with_front front read = read >>= λ x. Ok (front ++ x.0, x.1)

regroup : {A : Type 0} (front : List A) (x : A) (read : Read (List A)) →
    with_front front (read >>= λ xs. Ok (x ∷ xs.0, xs.1)) ≡ with_front (front ++ x ∷ []) read
regroup {A} front x (Ok xs) = ap (λ (ys : List A). Ok (ys, xs.1)) (simp append_assoc)
regroup {A} front x (Err e) = refl

-- one value and then others
one_more : {A : Type 0} (front : List A) (x : A) (read : Read (List A)) →
    with_front front (making joined (λ bytes. read >>= λ y. Ok ((x, y.0), y.1)) []) ≡ with_front (front ++ x ∷ []) read
one_more {A} front x (Ok xs) = regroup front x (Ok xs)
one_more {A} front x (Err e) = refl

-- ---- proposals

pub row_goes_on : (periods count i : ℕ) (front : List Proposal) (bytes : List ℕ) (x : Proposal) (rest : List ℕ)
    (total : Read (List Proposal)) → i < count → row_at periods (i + 1) bytes ≡ Ok (x, rest)
    → with_front front (rows_at periods (i + 1) (count - i) bytes) ≡ total →
    with_front (front ++ x ∷ []) (rows_at periods (i + 1 + 1) (count - (i + 1)) rest) ≡ total
unfolding rows_at
row_goes_on periods count i front bytes x rest total lt h so_far =
    let k : count - i ≡ suc (count - (i + 1)) = omega arith in
    let n : i + 1 + 1 ≡ suc (i + 1) = omega arith in
    let one : with_front front (rows_at periods (i + 1) (count - i) bytes) ≡ with_front (front ++ x ∷ [])
    (rows_at periods (i + 1 + 1) (count - (i + 1)) rest) =
    rw (k, h, n) (one_more front x (rows_at periods (suc (i + 1)) (count - (i + 1)) rest)) in
    sym one ∙ so_far

pub row_fails : (e : Stop) (periods count i : ℕ) (front : List Proposal) (bytes : List ℕ)
    (total : Read (List Proposal)) → i < count → Fails e (row_at periods (i + 1) bytes)
    → with_front front (rows_at periods (i + 1) (count - i) bytes) ≡ total → Fails e total
unfolding rows_at
row_fails stops.Memory periods count i front bytes total lt h so_far = tt
row_fails (stops.Fault left) periods count i front bytes total lt h so_far =
    let k : count - i ≡ suc (count - (i + 1)) = omega arith in
    let one : with_front front (rows_at periods (i + 1) (count - i) bytes) ≡ Err left = rw (k, h) refl in
    sym so_far ∙ one

pub rows_done : (periods count i : ℕ) (front : List Proposal) (bytes : List ℕ) (total : Read (List Proposal)) →
    count ≤ i
    → with_front front (rows_at periods (i + 1) (count - i) bytes) ≡ total → total ≡ Ok (front, bytes)
unfolding rows_at
rows_done periods count i front bytes total le so_far =
    let k : count - i ≡ 0 = omega arith in
    let one : with_front front (rows_at periods (i + 1) (count - i) bytes) ≡ Ok (front, bytes) =
    rw k (ap (λ (xs : List Proposal). Ok (xs, bytes)) (append-nil front)) in
    sym so_far ∙ one

-- ---- units

pub unit_goes_on : (periods least count i : ℕ) (front : List Told) (bytes : List ℕ) (x : Told) (rest : List ℕ)
    (total : Read (List Told)) → i < count → unit_at periods least bytes ≡ Ok (x, rest)
    → with_front front (units_at periods least (count - i) bytes) ≡ total →
    with_front (front ++ x ∷ []) (units_at periods (rank x.kind) (count - (i + 1)) rest) ≡ total
unfolding units_at
unit_goes_on periods least count i front bytes x rest total lt h so_far =
    let k : count - i ≡ suc (count - (i + 1)) = omega arith in
    let one : with_front front (units_at periods least (count - i) bytes) ≡ with_front (front ++ x ∷ [])
    (units_at periods (rank x.kind) (count - (i + 1)) rest) =
    rw (k, h) (one_more front x (units_at periods (rank x.kind) (count - (i + 1)) rest)) in
    sym one ∙ so_far

pub unit_fails : (e : Stop) (periods least count i : ℕ) (front : List Told) (bytes : List ℕ)
    (total : Read (List Told)) → i < count → Fails e (unit_at periods least bytes)
    → with_front front (units_at periods least (count - i) bytes) ≡ total → Fails e total
unfolding units_at
unit_fails stops.Memory periods least count i front bytes total lt h so_far = tt
unit_fails (stops.Fault left) periods least count i front bytes total lt h so_far =
    let k : count - i ≡ suc (count - (i + 1)) = omega arith in
    let one : with_front front (units_at periods least (count - i) bytes) ≡ Err left = rw (k, h) refl in
    sym so_far ∙ one

pub units_done : (periods least count i : ℕ) (front : List Told) (bytes : List ℕ) (total : Read (List Told)) → count ≤ i
    → with_front front (units_at periods least (count - i) bytes) ≡ total → total ≡ Ok (front, bytes)
unfolding units_at
units_done periods least count i front bytes total le so_far =
    let k : count - i ≡ 0 = omega arith in
    let one : with_front front (units_at periods least (count - i) bytes) ≡ Ok (front, bytes) =
    rw k (ap (λ (xs : List Told). Ok (xs, bytes)) (append-nil front)) in
    sym so_far ∙ one
