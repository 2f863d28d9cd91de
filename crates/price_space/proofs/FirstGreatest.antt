-- The first greatest of a list of numbers.
use Rattle.price_space.proofs.Common.{◌≡◌, ℕ, zero, suc, ◌+◌, ◌<◌, Bool, true, false, ◌&&◌, cond, if◌then◌else◌, nat_lt}
use Rattle.price_space.proofs.Common.{int_le, int_lt, ℤ, pos, ◌≤ℤ◌, ◌<ℤ◌, Some, None, Option, unwrap_or, List, [], ◌∷◌}
use Rattle.price_space.proofs.Common.{map, length, get_or, refl, ap, sym, ◌∙◌, subst, arith, below_more, ints, by_lt_z}
use Rattle.price_space.proofs.Common.{length-map, list_all, position_or_len, option_map, Row, proposal_of, Proposal}
use Rattle.price_space.proofs.Common.{first_greatest, chosen_number, int_at, IsFirstUpTo, values_of}
use Rattle.std.proofs.lemmas.List.Sums.{position_or_len_is}
use Rattle.std.proofs.lemmas.Bool.Decides.{nat_tests}

pub value_at : (rows : List Row) (i : ℕ) (r : Row) → i < length rows →
    int_at (values_of (map proposal_of rows)) i ≡ (get_or rows i r).value
value_at [] i r h = absurd (omega (arith, h))
value_at (x ∷ xs) zero r h = refl
value_at (x ∷ xs) (suc i) r h = value_at xs i r (omega (arith, h))

-- what a test of two values picks
pub picks : (values : List ℤ) (best later : ℕ) (a b : ℤ) (t : Bool) → int_at values best ≡ a → int_at values later ≡ b →
    int_lt a b ≡ t →
    (if int_lt (int_at values best) (int_at values later) then later else best) ≡ (if t then later else best)
picks values best later a b t e f g =
    ap (λ (z : ℤ). if int_lt z (int_at values later) then later else best) e
    ∙ ap (λ (z : ℤ). if int_lt a z then later else best) f
    ∙ ap (λ (x : Bool). if x then later else best) g

pub length_values : (rows : List Row) → length (values_of (map proposal_of rows)) ≡ length rows
length_values rows = length-map (map proposal_of rows) (λ (r : Proposal). r.value) ∙ length-map rows proposal_of

pub first_one : (values : List ℤ) → IsFirstUpTo values 1 0
first_one values = record {
  within = omega arith;
  greatest = λ k h. let e : k ≡ 0 = omega (arith, h) in
      subst (λ (j : ℕ). int_at values j ≤ℤ int_at values 0) (sym e) (omega (arith, ints));
  first = λ k h. absurd (omega (arith, h));
}

lt_true : (a b : ℤ) → a <ℤ b → int_lt a b ≡ true
lt_true a b h = grind (arith, ints)

lt_false : (a b : ℤ) → b ≤ℤ a → int_lt a b ≡ false
lt_false a b h = grind (arith, ints)

-- one value more, which is no greater
pub keeps_first : (values : List ℤ) (i best : ℕ) → IsFirstUpTo values i best → int_at values i ≤ℤ int_at values best →
    IsFirstUpTo values (i + 1) best
keeps_first values i best h low = record {
  within = let w = h.within in omega (arith, w);
  greatest = below_more (λ k. int_at values k ≤ℤ int_at values best) i h.greatest low;
  first = h.first;
}

-- one value more, which is greater
pub takes_first : (values : List ℤ) (i best : ℕ) → IsFirstUpTo values i best → int_at values best <ℤ int_at values i →
    IsFirstUpTo values (i + 1) i
takes_first values i best h high = record {
  within = omega arith;
  greatest = below_more (λ k. int_at values k ≤ℤ int_at values i) i
      (λ k l. let g = h.greatest k l in omega (arith, ints, g, high)) (omega (arith, ints));
  first = λ k l. let g = h.greatest k l in omega (arith, ints, g, high);
}

-- one value more
pub first_more : (values : List ℤ) (i best next : ℕ) → IsFirstUpTo values i best →
    next ≡ (if int_lt (int_at values best) (int_at values i) then i else best) → IsFirstUpTo values (i + 1) next
first_more values i best next h is =
    by_lt_z (int_at values best) (int_at values i)
    (λ l.
    let test : int_lt (int_at values best) (int_at values i) ≡ true =
    lt_true (int_at values best) (int_at values i) l in
    let e = is ∙ ap (λ (b : Bool). if b then i else best) test in
    subst (λ (j : ℕ). IsFirstUpTo values (i + 1) j) (sym e) (takes_first values i best h l))
    (λ l.
    let test : int_lt (int_at values best) (int_at values i) ≡ false =
    lt_false (int_at values best) (int_at values i) l in
    let e = is ∙ ap (λ (b : Bool). if b then i else best) test in
    subst (λ (j : ℕ). IsFirstUpTo values (i + 1) j) (sym e) (keeps_first values i best h l))

all_true : (p : ℤ → Bool) (xs : List ℤ) → ((k : ℕ) → k < length xs → p (get_or xs k (pos 0)) ≡ true) →
    list_all p xs ≡ true
all_true p [] h = refl
all_true p (x ∷ xs) h = ap (λ (b : Bool). b && list_all p xs) (h 0 (omega arith)) ∙
    all_true p xs (λ k l. h (suc k) (omega (arith, l)))

and_false : (b : Bool) → (b && false) ≡ false
and_false true = refl
and_false false = refl

one_false : (p : ℤ → Bool) (xs : List ℤ) (k : ℕ) → k < length xs → p (get_or xs k (pos 0)) ≡ false →
    list_all p xs ≡ false
one_false p [] k l e = absurd (omega (arith, l))
one_false p (x ∷ xs) zero l e = ap (λ (b : Bool). b && list_all p xs) e
one_false p (x ∷ xs) (suc k) l e = ap (λ (b : Bool). p x && b) (one_false p xs k (omega (arith, l)) e) ∙ and_false (p x)

le_true : (a b : ℤ) → a ≤ℤ b → int_le a b ≡ true
le_true a b h = grind (arith, ints)

le_false : (a b : ℤ) → b <ℤ a → int_le a b ≡ false
le_false a b h = grind (arith, ints)

abbrev is_top : List ℤ → ℤ → Bool
is_top values v = list_all (λ (w : ℤ). int_le w v) values

place_is : (values : List ℤ) (i : ℕ) → i < length values → position_or_len (is_top values) values ≡ i →
    first_greatest values ≡ Some i
place_is values i h e =
    let test : nat_lt i (length values) ≡ true = grind (arith, nat_tests) in
    ap (λ (n : ℕ). cond (nat_lt n (length values)) (Some n) None) e ∙ ap (λ (b : Bool). cond b (Some i) None) test

pub first_is : (values : List ℤ) (i best : ℕ) → i ≡ length values → IsFirstUpTo values i best →
    first_greatest values ≡ Some best
first_is values i best all_ h =
    let within = h.within in
    place_is values best (omega (arith, within, all_))
    (position_or_len_is (is_top values) values best (pos 0) (omega (arith, within, all_))
    (λ k l. one_false (λ (w : ℤ). int_le w (get_or values k (pos 0))) values best (omega (arith, within, all_))
    (le_false (int_at values best) (int_at values k) (h.first k l)))
    (λ l. all_true (λ (w : ℤ). int_le w (get_or values best (pos 0))) values
    (λ k m. le_true (int_at values k) (int_at values best) (h.greatest k (omega (arith, m, all_))))))

-- the number that counts from 1
numbered : (o : Option ℕ) (k : ℕ) → o ≡ Some k → unwrap_or (option_map (λ j. suc j) o) 0 ≡ k + 1
numbered o k e = ap (λ x. unwrap_or (option_map (λ j. suc j) x) 0) e ∙ omega arith

pub number_is : (rows : List Row) (best : ℕ) → IsFirstUpTo (values_of (map proposal_of rows)) (length rows) best →
    chosen_number (map proposal_of rows) ≡ best + 1
number_is rows best h = numbered (first_greatest (values_of (map proposal_of rows))) best
    (first_is (values_of (map proposal_of rows)) (length rows) best (sym (length_values rows)) h)
