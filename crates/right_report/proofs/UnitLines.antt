-- Lists of lines that are made of names and numbers.
use Rattle.right_report.proofs.Common.{◌≡◌, ℕ, zero, suc, ◌+◌, ◌<◌, ℤ, pos, Some, List, [], ◌∷◌, ◌++◌, map, length}
use Rattle.right_report.proofs.Common.{get_or, slice_get, refl, ap, ◌∙◌, subst, arith, length-append, get_or_default}
use Rattle.right_report.proofs.Common.{same_lists, AllZip, range_with_len, length-map, AnyUnit, Thermal, Flat, Bid}
use Rattle.right_report.proofs.Common.{NamedThermalUnit, NamedRenewableUnit, NamedBidUnit, Market, units, unit_count}
use Rattle.right_report.proofs.Common.{int_at, UnitLine, lines_from}
use Rattle.std.proofs.lemmas.List.FromFn.{length-map-range_with_len, get_or-map-range_with_len}

module _ {Line : Type 0} (line : ℕ → List ℕ → Line) where
  pub length-lines : (first : ℕ) (names : List (List ℕ)) → length (lines_from line first names) ≡ length names
  length-lines first [] = refl
  length-lines first (name ∷ names) = ap (λ (n : ℕ). suc n) (length-lines (first + 1) names)

  pub line_at : (first : ℕ) (names : List (List ℕ)) (k : ℕ) (d : Line) (e : List ℕ) → k < length names →
      get_or (lines_from line first names) k d ≡ line (first + k) (get_or names k e)
  line_at first [] k d e h = absurd (omega (arith, h))
  line_at first (name ∷ names) zero d e h = let same : first ≡ first + 0 = omega arith in
      ap (λ (n : ℕ). line n name) same
  line_at first (name ∷ names) (suc k) d e h =
      let same : first + 1 + k ≡ first + suc k = omega arith in
      line_at (first + 1) names k d e (omega (arith, h)) ∙ ap (λ (n : ℕ). line n (get_or names k e)) same

module _ (line : ℕ → List ℕ → UnitLine) where
  pub lines_append : (first : ℕ) (xs ys : List (List ℕ)) →
      lines_from line first (xs ++ ys) ≡ lines_from line first xs ++ lines_from line (first + length xs) ys
  lines_append first [] ys = let same : first ≡ first + 0 = omega arith in ap (λ (n : ℕ). lines_from line n ys) same
  lines_append first (x ∷ xs) ys =
      let same : first + 1 + length xs ≡ first + suc (length xs) = omega arith in
      ap (λ (ls : List UnitLine). line first x ∷ ls)
      (lines_append (first + 1) xs ys ∙ ap (λ (n : ℕ). lines_from line (first + 1) xs ++ lines_from line n ys) same)

  -- what the number alone tells of each line
  pub lines_map : {X : Type 0} (part : UnitLine → X) (of : ℕ → X) →
      ((k : ℕ) (name : List ℕ) → part (line k name) ≡ of k) →
      (first : ℕ) (names : List (List ℕ)) →
      map part (lines_from line first names) ≡ map of (range_with_len first (length names))
  lines_map part of same first [] = refl
  lines_map {X} part of same first (name ∷ names) =
      ap (λ (x : X). x ∷ map part (lines_from line (first + 1) names)) (same first name)
      ∙ ap (λ (xs : List X). of first ∷ xs) (lines_map part of same (first + 1) names)

  pub lines_names : ((k : ℕ) (name : List ℕ) → (line k name).name ≡ name) → (first : ℕ) (names : List (List ℕ)) →
      map (λ (l : UnitLine). l.name) (lines_from line first names) ≡ names
  lines_names same first [] = refl
  lines_names same first (name ∷ names) =
      ap (λ (n : List ℕ). n ∷ map (λ (l : UnitLine). l.name) (lines_from line (first + 1) names)) (same first name)
      ∙ ap (λ (ns : List (List ℕ)). name ∷ ns) (lines_names same (first + 1) names)

  -- a line for each unit
  pub lines_zip : (Q : AnyUnit → UnitLine → Type 0) (us : List AnyUnit) (first : ℕ) (names : List (List ℕ)) →
      length us ≡ length names →
      ((k : ℕ) (u : AnyUnit) (name : List ℕ) → slice_get us k ≡ Some u → Q u (line (first + k) name)) →
      AllZip Q us (lines_from line first names)
  lines_zip Q [] first [] h each = tt
  lines_zip Q [] first (name ∷ names) h each = absurd (omega (arith, h))
  lines_zip Q (u ∷ us) first [] h each = absurd (omega (arith, h))
  lines_zip Q (u ∷ us) first (name ∷ names) h each =
      let here : first + 0 ≡ first = omega arith in (
        subst (λ (n : ℕ). Q u (line n name)) here (each 0 u name refl),
        lines_zip Q us (first + 1) names (omega (arith, h)) (λ k v other is.
            let same : first + suc k ≡ first + 1 + k = omega arith in
            subst (λ (n : ℕ). Q v (line n other)) same (each (suc k) v other is)),
      )

-- a number for each unit
pub zip_each : (Q : AnyUnit → ℤ → Type 0) (us : List AnyUnit) (xs : List ℤ) → length us ≡ length xs →
    ((k : ℕ) (u : AnyUnit) → slice_get us k ≡ Some u → Q u (int_at xs k)) → AllZip Q us xs
zip_each Q [] [] h each = tt
zip_each Q [] (x ∷ xs) h each = absurd (omega (arith, h))
zip_each Q (u ∷ us) [] h each = absurd (omega (arith, h))
zip_each Q (u ∷ us) (x ∷ xs) h each = (each 0 u refl, zip_each Q us xs (omega (arith, h)) (λ k v is. each (suc k) v is))

-- the numbers at all places are the list
pub numbers_at : (xs : List ℤ) (n : ℕ) → length xs ≡ n → map (int_at xs) (range_with_len 0 n) ≡ xs
numbers_at xs n h =
    let long = length-map-range_with_len (int_at xs) 0 n in
    same_lists (map (int_at xs) (range_with_len 0 n)) xs (omega (arith, long, h)) (λ k d lt.
    get_or-map-range_with_len (int_at xs) 0 n k k d (omega (arith, lt, long)) (omega arith) ∙
    get_or_default xs k (pos 0) d (omega (arith, lt, long, h)))

-- ---- units and lists

-- how many units there are
pub units_length : (m : Market) → length (units m) ≡ unit_count m
units_length m =
    let ts = map (λ (n : NamedThermalUnit). Thermal n.unit) m.thermal in
    let fs = map (λ (n : NamedRenewableUnit). Flat n.unit) m.flat in
    let bs = map (λ (n : NamedBidUnit). Bid n.unit) m.bids in
    let a = length-map m.thermal (λ (n : NamedThermalUnit). Thermal n.unit) in
    let b = length-map m.flat (λ (n : NamedRenewableUnit). Flat n.unit) in
    let c = length-map m.bids (λ (n : NamedBidUnit). Bid n.unit) in
    omega (arith, length-append (ts ++ fs) bs, length-append ts fs, a, b, c)
