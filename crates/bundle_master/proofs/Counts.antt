-- How many columns the units of a master problem have.
use Rattle.std.proofs.Common.{◌≡◌, ℕ, zero, suc, ◌+◌, ◌-◌, ◌<◌, List, ◌∷◌, length, map, max, get_or, replicate}
use Rattle.std.proofs.Common.{slice_set, slice_index_or, refl, sym, ap, ◌∙◌, arith}
use Rattle.std.proofs.lemmas.List.{map-set, get_or-map, length-set, length-replicate}
use Rattle.bundle_master.specs.Shape.{Shape, with_column}
use Rattle.bundle_master.specs.UnitShape.{UnitShape}

abbrev count_in : UnitShape → ℕ
count_in u = u.count

-- what a contract sees of the parts of a master problem
abbrev pub shape_of : ℕ → ℕ → List UnitShape → ℕ → ℕ → Shape
shape_of periods places units singles capacity =
    record {
      periods = periods;
      thermal = length units;
      places = places;
      singles = singles;
      room = capacity - singles;
      counts = map (λ (u : UnitShape). u.count) units;
    }

count_of_copies : (n : ℕ) (unit : UnitShape) → map count_in (replicate n unit) ≡ replicate n unit.count
count_of_copies zero unit = refl
count_of_copies (suc n) unit = ap (λ (xs : List ℕ). unit.count ∷ xs) (count_of_copies n unit)

-- a master problem of units without columns
pub fresh_is :
    (periods places thermal rows room : ℕ) (units : List UnitShape) (singles capacity : ℕ)
    → units ≡ replicate thermal (record { count = 0; places = places; rows = rows }) → singles ≡ 0
    → capacity ≡ room
    → shape_of periods places units singles capacity
    ≡ record {
      periods = periods;
      thermal = thermal;
      places = places;
      singles = 0;
      room = room;
      counts = replicate thermal 0;
    }
fresh_is periods places thermal rows room units singles capacity copies none exact =
    let counts : map count_in units ≡ replicate thermal 0 =
    ap (λ (xs : List UnitShape). map count_in xs) copies ∙ count_of_copies thermal _ in
    let long : length units ≡ thermal = ap length copies ∙ length-replicate thermal _ in
    let left : capacity - singles ≡ room = omega arith in
    cc

counts_set :
    (units : List UnitShape) (unit index : ℕ) (old new : UnitShape) → unit < length units
    → old ≡ get_or units unit old → new.count ≡ max old.count (index + 1)
    → map count_in (slice_set units unit new)
    ≡ slice_set (map count_in units) unit (max (slice_index_or (map count_in units) unit 0) (index + 1))
counts_set units unit index old new within was is =
    let had : get_or (map count_in units) unit 0 ≡ old.count =
    get_or-map count_in units unit old 0 within ∙ sym (ap count_in was) in
    let new_count : new.count ≡ max (get_or (map count_in units) unit 0) (index + 1) =
    is ∙ sym (ap (λ (n : ℕ). max n (index + 1)) had) in
    map-set count_in units unit new
    ∙ ap (λ (n : ℕ). slice_set (map count_in units) unit n) new_count

-- a unit with one more column, or with another in the place of one, is written
pub column_is :
    (periods places : ℕ) (units : List UnitShape) (singles capacity unit index : ℕ) (old new : UnitShape)
    → unit < length units → old ≡ get_or units unit old → new.count ≡ max old.count (index + 1)
    → shape_of periods places (slice_set units unit new) singles capacity
    ≡ with_column (shape_of periods places units singles capacity) unit index
column_is periods places units singles capacity unit index old new within was is =
    let counts : map count_in (slice_set units unit new)
    ≡ slice_set (map count_in units) unit (max (slice_index_or (map count_in units) unit 0) (index + 1)) =
    counts_set units unit index old new within was is in
    let long : length (slice_set units unit new) ≡ length units = length-set units unit new in
    cc
