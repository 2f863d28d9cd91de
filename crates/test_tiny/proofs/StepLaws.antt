-- What the next list is: the places before the first that isn't at its last item begin again, and that one is one more.
use Rattle.test_tiny.proofs.Common.{◌≡◌, ℕ, zero, suc, ◌+◌, ◌*◌, ◌<◌, ◌≤◌, Bool, true, false, List, [], ◌∷◌, ◌++◌, map}
use Rattle.test_tiny.proofs.Common.{length, drop, set, replicate, refl, sym, ap, ◌∙◌, subst, arith, add-one, drop_all}
use Rattle.test_tiny.proofs.Common.{slice_index_or, after_of, list_count, flag}

-- ---- lists that begin again up to a place

module _ {X : Type 0} (first last : X) where
  -- before place p the old list has last items and the new one first items, and from there on they are the same
  pub record IsTurned (p : ℕ) (old new : List X) : Type 0 where
    pub new_is : new ≡ replicate p first ++ drop p old
    pub old_is : old ≡ replicate p last ++ drop p old

  rest_is : (p : ℕ) (old : List X) (d : X) → p < length old → drop p old ≡ slice_index_or old p d ∷ drop (suc p) old
  rest_is zero [] d h = absurd (omega (arith, h))
  rest_is zero (x ∷ xs) d h = refl
  rest_is (suc p) [] d h = absurd (omega (arith, h))
  rest_is (suc p) (x ∷ xs) d h = rest_is p xs d (omega (arith, h))

  at_front : (p : ℕ) (v x d : X) (xs : List X) → slice_index_or (replicate p v ++ (x ∷ xs)) p d ≡ x
  at_front zero v x d xs = refl
  at_front (suc p) v x d xs = at_front p v x d xs

  set_front : (p : ℕ) (v x w : X) (xs : List X) → set (replicate p v ++ (x ∷ xs)) p w ≡ replicate p v ++ (w ∷ xs)
  set_front zero v x w xs = refl
  set_front (suc p) v x w xs = ap (λ (zs : List X). v ∷ zs) (set_front p v x w xs)

  one_more : (p : ℕ) (v : X) (xs : List X) → replicate p v ++ (v ∷ xs) ≡ replicate (suc p) v ++ xs
  one_more zero v xs = refl
  one_more (suc p) v xs = ap (λ (zs : List X). v ∷ zs) (one_more p v xs)

  module _ (p : ℕ) (old new : List X) (low : p < length old) (h : IsTurned p old new) where
    -- the item at the place, which is x
    new_split : (x : X) → slice_index_or new p x ≡ x → new ≡ replicate p first ++ (x ∷ drop (suc p) old)
    new_split x is =
        let split = h.new_is ∙ ap (λ (zs : List X). replicate p first ++ zs) (rest_is p old x low) in
        let same : slice_index_or old p x ≡ x = sym (at_front p first (slice_index_or old p x) x (drop (suc p) old)) ∙
        ap (λ (zs : List X). slice_index_or zs p x) (sym split) ∙ is in
        split ∙ ap (λ (z : X). replicate p first ++ (z ∷ drop (suc p) old)) same

    pub old_split : (x : X) → slice_index_or new p x ≡ x → old ≡ replicate p last ++ (x ∷ drop (suc p) old)
    old_split x is =
        let split = h.new_is ∙ ap (λ (zs : List X). replicate p first ++ zs) (rest_is p old x low) in
        let same : slice_index_or old p x ≡ x = sym (at_front p first (slice_index_or old p x) x (drop (suc p) old)) ∙
        ap (λ (zs : List X). slice_index_or zs p x) (sym split) ∙ is in
        h.old_is ∙ ap (λ (zs : List X). replicate p last ++ zs) (rest_is p old x low) ∙
        ap (λ (z : X). replicate p last ++ (z ∷ drop (suc p) old)) same

    pub new_set : (x w : X) → slice_index_or new p x ≡ x → set new p w ≡ replicate p first ++ (w ∷ drop (suc p) old)
    new_set x w is = ap (λ (zs : List X). set zs p w) (new_split x is) ∙ set_front p first x w (drop (suc p) old)

    pub turned_more : slice_index_or new p last ≡ last → IsTurned (p + 1) old (set new p first)
    turned_more is = subst (λ (n : ℕ). IsTurned n old (set new p first)) (sym (add-one p)) (record {
      new_is = new_set last first is ∙ one_more p first (drop (suc p) old);
      old_is = old_split last is ∙ one_more p last (drop (suc p) old);
    })

  pub turned_all : (p : ℕ) (old new : List X) → length old ≤ p → IsTurned p old new →
      (new ≡ replicate p first ++ []) × (old ≡ replicate p last ++ [])
  turned_all p old new far h =
      let none = drop_all p old far in (
        h.new_is ∙ ap (λ (zs : List X). replicate p first ++ zs) none,
        h.old_is ∙
            ap (λ (zs : List X). replicate p last ++ zs) none,
      )

-- ---- their counts

lasts : (most p : ℕ) (xs : List ℕ) → after_of most (replicate p most ++ xs) ≡ list_count most p * after_of most xs
lasts most zero xs = omega arith
lasts most (suc p) xs = let e = ap (λ (z : ℕ). suc most * z) (lasts most p xs) in omega (arith, e)

firsts : (most p : ℕ) (xs : List ℕ) →
    suc (after_of most (replicate p 0 ++ xs)) ≡ list_count most p * suc (after_of most xs)
firsts most zero xs = omega arith
firsts most (suc p) xs = let e = ap (λ (z : ℕ). suc most * z) (firsts most p xs) in omega (arith, e)

-- one more at an index, and first items before it
pub after-one_more : (most p x : ℕ) (xs : List ℕ) → x < most →
    suc (after_of most (replicate p 0 ++ (suc x ∷ xs))) ≡ after_of most (replicate p most ++ (x ∷ xs))
after-one_more most p x xs h =
    let one : suc (after_of most (suc x ∷ xs)) ≡ after_of most (x ∷ xs) = omega (arith, h) in
    firsts most p (suc x ∷ xs) ∙ ap (λ (z : ℕ). list_count most p * z) one ∙ sym (lasts most p (x ∷ xs))

pub after-lasts : (most p : ℕ) → after_of most (replicate p most ++ []) ≡ 0
after-lasts most p = let e = lasts most p [] in omega (arith, e)

pub after-firsts : (most p : ℕ) → suc (after_of most (replicate p 0 ++ [])) ≡ list_count most p
after-firsts most p = let e = firsts most p [] in omega (arith, e)

flags_replicated : (p : ℕ) (b : Bool) (bs : List Bool) →
    map flag (replicate p b ++ bs) ≡ replicate p (flag b) ++ map flag bs
flags_replicated zero b bs = refl
flags_replicated (suc p) b bs = ap (λ (zs : List ℕ). flag b ∷ zs) (flags_replicated p b bs)

pub flags-one_more : (p : ℕ) (bs : List Bool) →
    suc (after_of 1 (map flag (replicate p false ++ (true ∷ bs)))) ≡ after_of 1
    (map flag (replicate p true ++ (false ∷ bs)))
flags-one_more p bs =
    ap (λ (zs : List ℕ). suc (after_of 1 zs)) (flags_replicated p false (true ∷ bs)) ∙
    after-one_more 1 p 0 (map flag bs) (omega arith)
    ∙ ap (after_of 1) (sym (flags_replicated p true (false ∷ bs)))

pub flags-lasts : (p : ℕ) → after_of 1 (map flag (replicate p true ++ [])) ≡ 0
flags-lasts p = ap (after_of 1) (flags_replicated p true []) ∙ after-lasts 1 p

pub flags-firsts : (p : ℕ) → suc (after_of 1 (map flag (replicate p false ++ []))) ≡ list_count 1 p
flags-firsts p = ap (λ (zs : List ℕ). suc (after_of 1 zs)) (flags_replicated p false []) ∙ after-firsts 1 p

-- ---- carries

-- a wrapped lower part takes one from the part above it
carry : (r z x y : ℕ) → suc r ≡ z → suc x ≡ y → suc (r + z * x) ≡ z * y
carry r z x y h i = let e = ap (λ (n : ℕ). z * n) i in omega (arith, h, e)

pub carry_power : (z r r' p p' f : ℕ) → r ≡ 0 → suc r' ≡ z → suc p' ≡ p →
    suc (r' + z * (p' + z * f)) ≡ r + z * (p + z * f)
carry_power z r r' p p' f none wrapped one =
    let e = carry r' z (p' + z * f) (p + z * f) wrapped (omega (arith, one)) in
    omega (arith, e, none)

pub carry_flags : (z r r' p p' f f' : ℕ) → r ≡ 0 → suc r' ≡ z → p ≡ 0 → suc p' ≡ z → suc f' ≡ f →
    suc (r' + z * (p' + z * f')) ≡ r + z * (p + z * f)
carry_flags z r r' p p' f f' none wrapped last wrapped' one =
    let e = carry p' z f' f wrapped' one in
    let g : suc (p' + z * f') ≡ p + z * f = omega (arith, e, last) in
    let h = carry r' z (p' + z * f') (p + z * f) wrapped g in
    omega (arith, h, none)
