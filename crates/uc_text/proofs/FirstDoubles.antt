-- Which of some names is the first double one, by keys in order.
use Rattle.uc_text.proofs.Common.{◌≡◌, ◌≢◌, ℕ, ◌+◌, ◌<◌, ◌≤◌, inl, inr, List, [], ◌∷◌, ◌++◌, length, get_or, take, sym}
use Rattle.uc_text.proofs.Common.{ap, subst, ◌∙◌, arith, cases_lt, Contains, AreDifferent, IsFirst, take_more, take_all}
use Rattle.uc_text.proofs.Common.{hash_of}
use Rattle.std.specs.Prelude.{◌/◌, ◌%◌}
use Rattle.std.specs.Ordering.{nat_cmp}
use Rattle.std.specs.declared.cmp.Ordering.TheVariants.{Less}
use Rattle.std.specs.Cmp.Lexicographic.{slice_cmp}
use Rattle.std.specs.List.Sorted.{IsNonDecreasing}
use Rattle.std.proofs.lemmas.Nat.{div-mul-add, mod-mul-add}
use Rattle.std.proofs.lemmas.List.{get_or-take, get_or_default, length-take-le}
use Rattle.uc_text.specs.Known.{key_at, AreKeys}
use Rattle.uc_text.proofs.Ascending.{AreUpTo, above_is_new, up_to_more, up_to_none}
use Rattle.uc_text.proofs.Known.{there_new, there_has}
use Rattle.uc_text.proofs.Objects.{new_name_passes}
use Rattle.uc_text.specs.Known.{is_there}
use Rattle.std.specs.Prelude.{true, false}

pub none_different : AreDifferent []
none_different i j d lt within = absurd (omega (arith, within))

-- ---- names that ascend

pub record Ascend (ks : List (List ℕ)) (last : List ℕ) : Type 0 where
  pub different : AreDifferent ks
  pub up_to : AreUpTo ks last

pub ascend_none : (last : List ℕ) → Ascend [] last
ascend_none last = record { different = none_different; up_to = up_to_none last }

pub ascend_more : (ks : List (List ℕ)) (last k text : List ℕ) (i : ℕ) → i < length ks → Ascend (take i ks) last →
    k ≡ get_or ks i [] → text ≡ k → slice_cmp nat_cmp last text ≡ Less → Ascend (take (i + 1) ks) text
ascend_more ks last k text i lt h at says above =
    let it : take (i + 1) ks ≡ take i ks ++ text ∷ [] =
    take_more ks i [] lt ∙ ap (λ (q : List ℕ). take i ks ++ q ∷ []) (sym at ∙ sym says) in
    subst (λ (js : List (List ℕ)). Ascend js text) (sym it) (record {
      different = new_name_passes (take i ks) text h.different
          (there_new text (take i ks) (above_is_new (take i ks) last text h.up_to above));
      up_to = up_to_more (take i ks) last text h.up_to above;
    })

-- ---- names one after the other

pub one_new : (ks : List (List ℕ)) (k : List ℕ) (i : ℕ) → i < length ks → AreDifferent (take i ks) →
    k ≡ get_or ks i [] → is_there k (take i ks) ≡ false → AreDifferent (take (i + 1) ks)
one_new ks k i lt h at off =
    subst AreDifferent (sym (take_more ks i [] lt ∙ ap (λ (q : List ℕ). take i ks ++ q ∷ []) (sym at)))
    (new_name_passes (take i ks) k h (there_new k (take i ks) off))

pub one_double : (ks : List (List ℕ)) (k : List ℕ) (i : ℕ) → i < length ks → AreDifferent (take i ks) →
    k ≡ get_or ks i [] → is_there k (take i ks) ≡ true → IsFirst ks i
one_double ks k i lt h at on = record {
  within = omega (arith, lt);
  different = h;
  double = λ _. subst (λ (q : List ℕ). Contains (take i ks) q) at (there_has k (take i ks) on);
}

pub all_new : (ks : List (List ℕ)) (n : ℕ) → n ≡ length ks → AreDifferent ks → IsFirst ks n
all_new ks n is h = record {
  within = omega (arith, is);
  different = subst AreDifferent (sym (take_all n ks (omega (arith, is)))) h;
  double = λ lt. absurd (omega (arith, lt, is));
}

-- ---- keys in order

key_index : (ks : List (List ℕ)) (i : ℕ) → i < 16777216 → key_at ks i % 16777216 ≡ i
key_index ks i lt = mod-mul-add (hash_of (get_or ks i []) / 16777216) 16777216 i lt

fronts : (a b : ℕ) → a ≤ b → a / 16777216 ≤ b / 16777216
fronts a b le = omega (arith, le)

-- What is known where so many keys were passed: the first double name of those that they are of.
pub record Least (ks : List (List ℕ)) (keys : List ℕ) (at found : ℕ) : Type 0 where
  pub within : found ≤ length ks
  pub double : found < length ks → Contains (take found ks) (get_or ks found [])
  pub least : (p i j : ℕ) → p < at → i < j → j < length ks → get_or ks i [] ≡ get_or ks j [] →
      get_or keys p 0 ≡ key_at ks j → found ≤ j

pub least_none : (ks : List (List ℕ)) (keys : List ℕ) → Least ks keys 0 (length ks)
least_none ks keys = record {
  within = omega arith;
  double = λ lt. absurd (omega (arith, lt));
  least =
      λ p i j lt. absurd (omega (arith, lt));
}

-- the index of a key that is a name's
index_is : (ks : List (List ℕ)) (keys : List ℕ) (at key p j : ℕ) → length ks ≤ 16777216 → key ≡ get_or keys at 0 →
    p ≡ at → j < length ks → get_or keys p 0 ≡ key_at ks j → key % 16777216 ≡ j
index_is ks keys at key p j few is same lt named =
    ap (λ (n : ℕ). n % 16777216) (is ∙ ap (λ (q : ℕ). get_or keys q 0) (sym same) ∙ named) ∙
    key_index ks j (omega (arith, few, lt))

pub least_passed : (ks : List (List ℕ)) (keys : List ℕ) (at found key : ℕ) → length ks ≤ 16777216 →
    key ≡ get_or keys at 0 → Least ks keys at found → found ≤ key % 16777216 → Least ks keys (at + 1) found
least_passed ks keys at found key few is h le = record {
  within = h.within;
  double = h.double;
  least = λ p i j lt below within same named. elim (cases_lt p at) [
    | inl before ↦ h.least p i j before below within same named
    | inr here ↦ let e = index_is ks keys at key p j few is (omega (arith, lt, here)) within named in
        omega (arith, e, le)
  ];
}

pub least_less : (ks : List (List ℕ)) (keys : List ℕ) (at found key : ℕ) → length ks ≤ 16777216 →
    key ≡ get_or keys at 0 → Least ks keys at found → key % 16777216 < found
    → Contains (take (key % 16777216) ks) (get_or ks (key % 16777216) []) → Least ks keys (at + 1) (key % 16777216)
least_less ks keys at found key few is h lt has = record {
  within = let w = h.within in omega (arith, w, lt);
  double = λ _. has;
  least = λ p i j near below within same named. elim (cases_lt p at) [
    | inl before ↦ let l = h.least p i j before below within same named in omega (arith, l, lt)
    | inr here ↦ let e = index_is ks keys at key p j few is (omega (arith, near, here)) within named in omega (arith, e)
  ];
}

-- no key before it is of a name that says the same
abbrev pub IsAlone : List (List ℕ) → List ℕ → ℕ → Type 0
IsAlone ks before key =
    (p : ℕ) → p < length before → ((q : ℕ) → p ≤ q → q < length before →
    get_or before q 0 / 16777216 ≡ key / 16777216) → get_or before p 0 % 16777216 < key % 16777216
    → get_or ks (get_or before p 0 % 16777216) [] ≢ get_or ks (key % 16777216) []

never_alone : (ks : List (List ℕ)) (keys : List ℕ) (at key i j : ℕ) → length ks ≤ 16777216 → AreKeys ks keys →
    IsNonDecreasing keys → at < length keys → key ≡ get_or keys at 0
    → IsAlone ks (take at keys) key → i < j → j < length ks → get_or ks i [] ≡ get_or ks j [] → key ≡ key_at ks j → ⊥
never_alone ks keys at key i j few all sorted lt is alone below within same named =
    let other = all i (omega (arith, below, within)) in
    let p = other.0 in
    let first : get_or keys p 0 ≡ key_at ks i = get_or_default keys p 0 (key_at ks i) other.1 ∙ other.2 in
    let hashes : hash_of (get_or ks i []) / 16777216 ≡ hash_of (get_or ks j []) / 16777216 =
    ap (λ (q : List ℕ). hash_of q / 16777216) same in
    let index : key % 16777216 ≡ j = ap (λ (n : ℕ). n % 16777216) named ∙ key_index ks j (omega (arith, few, within)) in
    let before : p < at = elim (cases_lt p at) [
      | inl near ↦ near
      | inr far ↦ let le = sorted at p 0 far other.1 in absurd (omega (arith, le, first, is, named, hashes, below))
    ] in
    let count : length (take at keys) ≡ at = length-take-le at keys (omega (arith, lt)) in
    let it : get_or (take at keys) p 0 ≡ key_at ks i = get_or-take at keys p 0 before ∙ first in
    let one : get_or (take at keys) p 0 % 16777216 ≡ i =
    ap (λ (n : ℕ). n % 16777216) it ∙ key_index ks i (omega (arith, few, below, within)) in
    let ends : get_or keys p 0 / 16777216 ≡ key / 16777216 =
    ap (λ (n : ℕ). n / 16777216) first ∙
    div-mul-add (hash_of (get_or ks i []) / 16777216) 16777216 i (omega (arith, few, below, within))
    ∙ hashes ∙ sym (div-mul-add (hash_of (get_or ks j []) / 16777216) 16777216 j (omega (arith, few, within))) ∙
    ap (λ (n : ℕ). n / 16777216) (sym named) in
    alone p (omega (arith, before, count))
    (λ q from to.
    let near : q < at = omega (arith, to, count) in
    let low = fronts (get_or keys p 0) (get_or keys q 0) (sorted p q 0 from (omega (arith, near, lt))) in
    let high = fronts (get_or keys q 0) key
    (subst (λ (n : ℕ). get_or keys q 0 ≤ n) (sym is) (sorted q at 0 (omega (arith, near)) lt)) in
    let here : get_or keys q 0 / 16777216 ≡ key / 16777216 = omega (arith, low, high, ends) in
    ap (λ (n : ℕ). n / 16777216) (get_or-take at keys q 0 near) ∙ here)
    (omega (arith, one, index, below))
    (ap (λ (n : ℕ). get_or ks n []) one ∙ same ∙ ap (λ (n : ℕ). get_or ks n []) (sym index))

pub least_alone : (ks : List (List ℕ)) (keys : List ℕ) (at found key : ℕ) → length ks ≤ 16777216 → AreKeys ks keys →
    IsNonDecreasing keys → at < length keys → key ≡ get_or keys at 0
    → Least ks keys at found → IsAlone ks (take at keys) key → Least ks keys (at + 1) found
least_alone ks keys at found key few all sorted lt is h alone = record {
  within = h.within;
  double = h.double;
  least = λ p i j near below within same named. elim (cases_lt p at) [
    | inl before ↦ h.least p i j before below within same named
    | inr here ↦ absurd (never_alone ks keys at key i j few all sorted lt is alone below within same
        (is ∙ ap (λ (q : ℕ). get_or keys q 0) (omega (arith, near, here)) ∙ named))
  ];
}

pub least_all : (ks : List (List ℕ)) (keys : List ℕ) (at found : ℕ) → AreKeys ks keys → length keys ≤ at →
    Least ks keys at found → IsFirst ks found
least_all ks keys at found all end h = record {
  within = h.within;
  double = h.double;
  different = λ i j d below within same.
      let w = h.within in
      let count : length (take found ks) ≡ found = length-take-le found ks w in
      let near : j < found = omega (arith, within, count) in
      let it = all j (omega (arith, near, w)) in
      let named : get_or keys it.0 0 ≡ key_at ks j = get_or_default keys it.0 0 (key_at ks j) it.1 ∙ it.2 in
      let alike : get_or ks i [] ≡ get_or ks j [] =
      get_or_default ks i [] d (omega (arith, below, near, w)) ∙
      sym (get_or-take found ks i d (omega (arith, below, near))) ∙ same ∙ get_or-take found ks j d near ∙
      get_or_default ks j d [] (omega (arith, near, w)) in
      let l = h.least it.0 i j (omega (arith, it.1, end)) below (omega (arith, near, w)) alike named in
      absurd (omega (arith, l, near));
}

-- a name that stands before one stands among those before it
pub stands_in : (ks : List (List ℕ)) (o i n : ℕ) → o < i → i < length ks → get_or ks o [] ≡ get_or ks i [] → i ≡ n →
    Contains (take n ks) (get_or ks n [])
stands_in ks o i n below within same is =
    let count : length (take n ks) ≡ n = length-take-le n ks (omega (arith, within, is)) in
    let at : get_or (take n ks) o (get_or ks n []) ≡ get_or ks n [] =
    get_or-take n ks o (get_or ks n []) (omega (arith, below, is)) ∙
    get_or_default ks o (get_or ks n []) [] (omega (arith, below, within)) ∙ same ∙
    ap (λ (m : ℕ). get_or ks m []) is in
    (o, omega (arith, below, is, count), at)
