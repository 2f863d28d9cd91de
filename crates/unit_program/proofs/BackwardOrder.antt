-- Lists compared from the end, and the order for ties period by period.
use Rattle.unit_program.proofs.Common.{◌≡◌, ℕ, zero, suc, ◌<◌, ◌≤◌, Bool, true, false, List, [], ◌∷◌, ◌++◌, map}
use Rattle.unit_program.proofs.Common.{reverse, length, refl, sym, ap, ◌∙◌, subst, arith, slice_index, slice_index_or}
use Rattle.unit_program.proofs.Common.{reverse-append, map-append, append_assoc, length-reverse, length-map, Schedule}
use Rattle.unit_program.proofs.Common.{IsSchedule, ComesBefore}
use Rattle.plain_lists.proofs.ListLaws.{backwards, flag, same_flag, same_flags}
use Rattle.std.proofs.lemmas.Map.Lookups.{exact_unsigned}
use Rattle.std.specs.Cmp.{ranks}
use Rattle.std.specs.Cmp.Lexicographic.{slice_cmp}
use Rattle.std.specs.Ordering.{nat_cmp, ordering_then, MatchOrdering}
use Rattle.std.specs.declared.cmp.Ordering.TheVariants.{Less, Equal, Greater}

-- ---- lists of numbers

abbrev NotLess : List ℕ → List ℕ → Type 0
NotLess xs ys = slice_cmp nat_cmp xs ys ≡ Less → ⊥

-- joined lists are not less where the first parts aren't, nor the second ones where the first are the same
joined : (xs us ys vs : List ℕ) → length xs ≡ length us → NotLess xs us → (xs ≡ us → NotLess ys vs) →
    NotLess (xs ++ ys) (us ++ vs)
joined [] [] ys vs long first second less = second refl less
joined [] (u ∷ us) ys vs long first second less = absurd (omega arith)
joined (x ∷ xs) [] ys vs long first second less = absurd (omega arith)
joined (x ∷ xs) (u ∷ us) ys vs long first second less =
    elim (nat_cmp x u) as (λ r. nat_cmp x u ≡ r →
    ordering_then r (slice_cmp nat_cmp (xs ++ ys) (us ++ vs)) ≡ Less → ⊥) [
      | Less ↦ λ is _. first (rw is)
      | Equal ↦ λ is here. joined xs us ys vs (omega arith) (λ before. first (rw is before))
          (λ same. second (let z = exact_unsigned x u is in cc)) here
      | Greater ↦ λ is here. cc
    ] refl less

one_not_less : (x y : ℕ) → y ≤ x → NotLess (x ∷ []) (y ∷ [])
one_not_less x y low less = elim (nat_cmp x y) as (λ r. nat_cmp x y ≡ r → ordering_then r Equal ≡ Less → ⊥) [
  | Less ↦ λ is here. let under : x < y = subst (λ r. MatchOrdering r (x < y) (x ≡ y) (y < x)) is (ranks x y) in
      omega arith
  | Equal ↦ λ is here. cc
  | Greater ↦ λ is here. cc
] refl less

shifted : (x y : ℕ) (xs ys : List ℕ) (k : ℕ) → ((j : ℕ) → k ≤ j → j < length xs → slice_index xs j ≡ slice_index ys j)
    → (j : ℕ) → k < j → j < suc (length xs) → slice_index (x ∷ xs) j ≡ slice_index (y ∷ ys) j
shifted x y xs ys k agree zero above low = absurd (omega arith)
shifted x y xs ys k agree (suc j) above low = agree j (omega arith) (omega arith)

-- where at each place, with all later ones the same, xs is not less, it is not less from the end
pub not_less_backwards : (xs ys : List ℕ) → length xs ≡ length ys
    → ((k : ℕ) → k < length xs → ((j : ℕ) → k < j → j < length xs → slice_index xs j ≡ slice_index ys j) →
    slice_index ys k ≤ slice_index xs k)
    → NotLess (reverse xs) (reverse ys)
not_less_backwards [] [] same h = λ less. cc
not_less_backwards [] (y ∷ ys) same h = absurd (omega arith)
not_less_backwards (x ∷ xs) [] same h = absurd (omega arith)
not_less_backwards (x ∷ xs) (y ∷ ys) same h =
    rw (reverse-append (x ∷ []) xs, reverse-append (y ∷ []) ys) (joined (reverse xs) (reverse ys) (x ∷ []) (y ∷ [])
    (rw (length-reverse xs, length-reverse ys) (omega arith))
    (not_less_backwards xs ys (omega arith) (λ k low agree. h (suc k) (omega arith) (shifted x y xs ys (suc k) agree)))
    (λ e. one_not_less x y (h 0 (omega arith)
    (shifted x y xs ys 0 (λ j _ _. ap (λ zs. slice_index zs j) (backwards xs ys e))))))

-- ---- on flags as numbers

flag_most : (a b : Bool) → (a ≡ true → b ≡ true) → flag a ≤ flag b
flag_most true b h = let e : flag b ≡ 1 = ap flag (h refl) in omega arith
flag_most false b h = omega arith

flag_at : (xs : List Bool) (k : ℕ) → slice_index (map flag xs) k ≡ flag (slice_index_or xs k false)
flag_at [] k = refl
flag_at (x ∷ xs) zero = refl
flag_at (x ∷ xs) (suc k) = flag_at xs k

map-reverse : (xs : List Bool) → map flag (reverse xs) ≡ reverse (map flag xs)
map-reverse [] = refl
map-reverse (x ∷ xs) =
    ap (map flag) (reverse-append (x ∷ []) xs) ∙ map-append flag (reverse xs) (x ∷ [])
    ∙ ap (λ zs. zs ++ (flag x ∷ [])) (map-reverse xs) ∙ sym (reverse-append (flag x ∷ []) (map flag xs))

-- ---- schedules

-- s and o as lists: where all that comes before agrees, s is no later than o
pub record IsNoLater (periods : ℕ) (o s : Schedule) : Type 0 where
  pub on : (k : ℕ) → k < periods → ((j : ℕ) → k < j → j < periods →
      slice_index_or o.on j false ≡ slice_index_or s.on j false)
      → slice_index_or s.on k false ≡ true → slice_index_or o.on k false ≡ true
  pub power : o.on ≡ s.on → (k : ℕ) → k < periods → ((j : ℕ) → k < j → j < periods →
      slice_index o.power j ≡ slice_index s.power j)
      → slice_index s.power k ≤ slice_index o.power k
  pub reserve : o.on ≡ s.on → o.power ≡ s.power → (k : ℕ) → k < periods →
      slice_index s.reserve k ≤ slice_index o.reserve k

module _ (periods : ℕ) (o s : Schedule) (shape_o : IsSchedule periods o) (shape_s : IsSchedule periods s)
    (no_later : IsNoLater periods o s) where
  flags_not_less : NotLess (map flag (reverse o.on)) (map flag (reverse s.on))
  flags_not_less =
      let n : length (map flag o.on) ≡ periods = length-map o.on flag ∙ shape_o.on in
      let m : length (map flag s.on) ≡ periods = length-map s.on flag ∙ shape_s.on in
      rw (map-reverse o.on, map-reverse s.on) (not_less_backwards (map flag o.on) (map flag s.on) (n ∙ sym m)
      (λ k low agree. rw (flag_at o.on k, flag_at s.on k) (flag_most _ _ (no_later.on k (omega arith)
      (λ j above inside. same_flag _ _ (sym (flag_at o.on j) ∙ agree j above (omega arith) ∙ flag_at s.on j))))))

  powers_not_less : o.on ≡ s.on → NotLess (reverse o.power) (reverse s.power)
  powers_not_less on =
      let n = shape_o.power in
      not_less_backwards o.power s.power (n ∙ sym shape_s.power)
      (λ k low agree. no_later.power on k (omega arith) (λ j above inside. agree j above (omega arith)))

  reserves_not_less : o.on ≡ s.on → o.power ≡ s.power → NotLess (reverse o.reserve) (reverse s.reserve)
  reserves_not_less on power =
      let n = shape_o.reserve in
      not_less_backwards o.reserve s.reserve (n ∙ sym shape_s.reserve)
      (λ k low agree. no_later.reserve on power k (omega arith))

  pub not_before : ComesBefore o s → ⊥
  not_before less =
      let flags : length (map flag (reverse o.on)) ≡ length (map flag (reverse s.on)) =
      simp (length-map, length-reverse) (shape_o.on ∙ sym shape_s.on) in
      let powers : length (reverse o.power) ≡ length (reverse s.power) =
      simp length-reverse (shape_o.power ∙ sym shape_s.power) in
      joined (map flag (reverse o.on)) (map flag (reverse s.on)) (reverse o.power ++ reverse o.reserve)
      (reverse s.power ++ reverse s.reserve) flags flags_not_less
      (λ e. let on = backwards o.on s.on (same_flags (reverse o.on) (reverse s.on) e) in
      joined (reverse o.power) (reverse s.power) (reverse o.reserve) (reverse s.reserve) powers (powers_not_less on)
      (λ p. reserves_not_less on (backwards o.power s.power p)))
      (simp append_assoc at less)
