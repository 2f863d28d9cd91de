-- Entries that are copied one after another.
use Rattle.bundle_columns.proofs.Common.{◌≡◌, ℕ, zero, suc, ◌+◌, ◌≤◌, List, [], ◌∷◌, length, map, refl, sym, ap, ◌∙◌}
use Rattle.bundle_columns.proofs.Common.{subst, arith, Some, slice_get, slice_set, AllZip, none_some, same_item}
use Rattle.bundle_columns.proofs.Common.{WeighedSchedule, ThermalUnit, All, AreKept, head_of, tail_of}
use Rattle.std.proofs.Common.{None}
use Rattle.bundle_columns.specs.Copies.{AreAlike}

-- the first of one list, and the rest of another
abbrev pub spliced : {X : Type 0} → ℕ → List X → List X → List X
spliced zero from into = into
spliced (suc n) [] into = []
spliced (suc n) (x ∷ from) [] = []
spliced (suc n) (x ∷ from) (y ∷ into) = x ∷ spliced n from into

pub splice_more : {X : Type 0} (n : ℕ) (from into : List X) (x : X) → slice_get from n ≡ Some x →
    length from ≡ length into →
    slice_set (spliced n from into) n x ≡ spliced (n + 1) from into
splice_more n [] into x at same = absurd (none_some x at)
splice_more n (y ∷ from) [] x at same = absurd (omega (arith, same))
splice_more {X = X} zero (y ∷ from) (z ∷ into) x at same = ap (λ (w : X). w ∷ into) (same_item y x at)
splice_more {X = X} (suc n) (y ∷ from) (z ∷ into) x at same =
    let next : suc n + 1 ≡ suc (n + 1) = omega arith in
    ap (λ l. y ∷ l) (splice_more n from into x at (omega (arith, same))) ∙
    ap (λ (k : ℕ). spliced k (y ∷ from) (z ∷ into)) (sym next)

pub splice_all : {X : Type 0} (n : ℕ) (from into : List X) → length from ≡ length into → length from ≤ n →
    spliced n from into ≡ from
splice_all zero [] [] same low = refl
splice_all zero [] (y ∷ into) same low = absurd (omega (arith, same))
splice_all zero (x ∷ from) into same low = absurd (omega (arith, low))
splice_all (suc n) [] into same low = refl
splice_all (suc n) (x ∷ from) [] same low = absurd (omega (arith, same))
splice_all {X = X} (suc n) (x ∷ from) (y ∷ into) same low =
    ap (λ (l : List X). x ∷ l) (splice_all n from into (omega (arith, same)) (omega (arith, low)))

nothing_at : {X : Type 0} (n : ℕ) (xs : List X) → length xs ≡ 0 → None ≡ slice_get xs n
nothing_at n [] h = refl
nothing_at n (x ∷ xs) h = absurd (omega (arith, h))

pub splice_at : {X : Type 0} (n : ℕ) (from into : List X) → length from ≡ length into →
    slice_get (spliced n from into) n ≡ slice_get into n
splice_at zero from into same = refl
splice_at (suc n) [] into same = nothing_at (suc n) into (sym same)
splice_at (suc n) (x ∷ from) [] same = absurd (omega (arith, same))
splice_at (suc n) (x ∷ from) (y ∷ into) same = splice_at n from into (omega (arith, same))

pub splice_count : {X : Type 0} (n : ℕ) (from into : List X) → length from ≡ length into →
    length (spliced n from into) ≡ length into
splice_count zero from into same = refl
splice_count (suc n) [] into same = same
splice_count (suc n) (x ∷ from) [] same = absurd (omega (arith, same))
splice_count (suc n) (x ∷ from) (y ∷ into) same = ap suc (splice_count n from into (omega (arith, same)))

pub map_set : {X Y : Type 0} (f : X → Y) (xs : List X) (k : ℕ) (y : X) →
    map f (slice_set xs k y) ≡ slice_set (map f xs) k (f y)
map_set f [] k y = refl
map_set f (x ∷ xs) zero y = refl
map_set f (x ∷ xs) (suc k) y = ap (λ l. f x ∷ l) (map_set f xs k y)

-- ---- as many over as many periods

abbrev IsOverOn : ℕ → WeighedSchedule → Type 0
IsOverOn periods e = length e.schedule.on ≡ periods

pub all_alike : (periods : ℕ) (xs ys : List WeighedSchedule) → length xs ≡ length ys → All (IsOverOn periods) xs →
    All (IsOverOn periods) ys → AreAlike xs ys
all_alike periods [] [] same h i = tt
all_alike periods [] (y ∷ ys) same h i = absurd (omega (arith, same))
all_alike periods (x ∷ xs) [] same h i = absurd (omega (arith, same))
all_alike periods (x ∷ xs) (y ∷ ys) same h i = (
  head_of (IsOverOn periods) x xs h ∙ sym (head_of (IsOverOn periods) y ys i),
  all_alike periods xs ys (omega (arith, same)) (tail_of (IsOverOn periods) x xs h) (tail_of (IsOverOn periods) y ys i),
)

over_of : (periods places : ℕ) (g : ThermalUnit) (es : List WeighedSchedule) → AreKept periods places g es →
    All (IsOverOn periods) es
over_of periods places g es h = λ k d lt. (h.mixed.feasible k d lt).schedule.on

pub kept_alike : (periods places : ℕ) (g h : ThermalUnit) (xs ys : List WeighedSchedule) → AreKept periods places g xs →
    AreKept periods places h ys → AreAlike xs ys
kept_alike periods places g h xs ys k l =
    all_alike periods xs ys (k.count ∙ sym l.count) (over_of periods places g xs k) (over_of periods places h ys l)

-- beside an item of the second list stands one of the first
pub right_item : {X Y : Type 0} (R : X → Y → Type 0) (xs : List X) (ys : List Y) (i : ℕ) (y : Y) → AllZip R xs ys →
    slice_get ys i ≡ Some y → (x : X) × (slice_get xs i ≡ Some x) × R x y
right_item R [] [] i y z e = absurd (none_some y e)
right_item R [] (b ∷ ys) i y z e = absurd z
right_item R (a ∷ xs) [] i y z e = absurd z
right_item R (a ∷ xs) (b ∷ ys) zero y z e = (a, refl, subst (R a) (sym (same_item b y e)) z.0)
right_item R (a ∷ xs) (b ∷ ys) (suc i) y z e = right_item R xs ys i y z.1 e

-- ---- one item more

pub item_there : {X : Type 0} (n : ℕ) (from into now : List X) (y : X) → now ≡ spliced n from into →
    length from ≡ length into → slice_get now n ≡ Some y → slice_get into n ≡ Some y
item_there {X = X} n from into now y is same at =
    sym (splice_at n from into same) ∙ ap (λ (l : List X). slice_get l n) (sym is) ∙ at

pub one_copied : {A X : Type 0} (f : A → X) (n : ℕ) (from into : List X) (items : List A) (a : A) (x : X) →
    map f items ≡ spliced n from into → length from ≡ length into → slice_get from n ≡ Some x → f a ≡ x →
    map f (slice_set items n a) ≡ spliced (n + 1) from into
one_copied {X = X} f n from into items a x is same at value =
    map_set f items n a ∙ ap (λ (y : X). slice_set (map f items) n y) value ∙
    ap (λ (l : List X). slice_set l n x) is ∙ splice_more n from into x at same
