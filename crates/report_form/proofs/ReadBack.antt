-- A text is read back from the left: a part of it ends at a byte that the part doesn't hold.
use Rattle.report_form.proofs.Common.{◌≡◌, ℕ, suc, ◌<◌, ◌≤◌, ◌/◌, ◌%◌, ℤ, pos, negsuc, Bool, true, false, nat_lt, ◌==◌}
use Rattle.report_form.proofs.Common.{List, [], ◌∷◌, ◌++◌, refl, sym, ap, ◌∙◌, subst, arith, append_assoc, flat_map}
use Rattle.report_form.proofs.Common.{nat_tests, append_cancel_left, numeral, signed_numeral, hex_of, stands_as_is}
use Rattle.report_form.proofs.Common.{escaped, spaced_flags}
use Rattle.report_form.proofs.NumeralLaws.{AreDigits, numeral_digits, numeral_same}
use Rattle.report_form.proofs.NameLemmas.{escaped-plain, escaped-control, escaped-behind}

-- texts that begin with different bytes
pub bytes_apart : (c d : ℕ) (u v : List ℕ) → (c == d) ≡ false → c ∷ u ≡ d ∷ v → ⊥
bytes_apart c d u v apart e = let same : c ≡ d = cc in grind (arith, nat_tests)

-- ---- numbers

-- digits and signs
abbrev IsWord : List ℕ → Type 0
IsWord [] = Unit {0}
IsWord (c ∷ cs) = (45 ≤ c) × IsWord cs

-- a space or the end of a line comes next
abbrev pub Ends : List ℕ → Type 0
Ends [] = ⊥
Ends (c ∷ cs) = nat_lt c 45 ≡ true

words_end : (x y u v : List ℕ) → IsWord x → IsWord y → Ends u → Ends v → x ++ u ≡ y ++ v → (x ≡ y) × (u ≡ v)
words_end [] [] u v p q m n e = (refl, e)
words_end [] (d ∷ y) [] v p q m n e = absurd m
words_end [] (d ∷ y) (c ∷ u) v p q m n e = let same : c ≡ d = cc in let high = q.0 in absurd (grind (arith, nat_tests))
words_end (c ∷ x) [] u [] p q m n e = absurd n
words_end (c ∷ x) [] u (d ∷ v) p q m n e = let same : c ≡ d = cc in let high = p.0 in absurd (grind (arith, nat_tests))
words_end (c ∷ x) (d ∷ y) u v p q m n e =
    let head : c ≡ d = cc in
    let tail : x ++ u ≡ y ++ v = cc in
    let r = words_end x y u v p.1 q.1 m n tail in
    (ap (λ z. z ∷ x) head ∙ ap (λ zs. d ∷ zs) r.0, r.1)

digits_word : (ds : List ℕ) → AreDigits ds → IsWord ds
digits_word [] h = tt
digits_word (c ∷ cs) h = let low = h.0 in (omega arith, digits_word cs h.1)

numeral_word : (n : ℕ) → IsWord (numeral n)
numeral_word n = digits_word (numeral n) (numeral_digits n)

pub read_count : (m n : ℕ) (u v : List ℕ) → Ends u → Ends v → numeral m ++ u ≡ numeral n ++ v → (m ≡ n) × (u ≡ v)
read_count m n u v p q e =
    let r = words_end (numeral m) (numeral n) u v (numeral_word m) (numeral_word n) p q e in
    (numeral_same m n r.0, r.1)

-- digits aren't a sign and digits
no_sign : (m n : ℕ) (u v : List ℕ) → Ends u → Ends v → numeral m ++ u ≡ 45 ∷ (numeral n ++ v) → ⊥
no_sign m n u v p q e =
    let r = words_end (numeral m) (45 ∷ numeral n) u v (numeral_word m) (omega arith, numeral_word n) p q e in
    let d = subst AreDigits r.0 (numeral_digits m) in
    let low = d.0 in
    omega arith

pub read_amount : (y z : ℤ) (u v : List ℕ) → Ends u → Ends v → signed_numeral y ++ u ≡ signed_numeral z ++ v →
    (y ≡ z) × (u ≡ v)
read_amount (pos m) (pos n) u v p q e = let r = read_count m n u v p q e in (ap pos r.0, r.1)
read_amount (pos m) (negsuc n) u v p q e = absurd (no_sign m (suc n) u v p q e)
read_amount (negsuc m) (pos n) u v p q e = absurd (no_sign n (suc m) v u q p (sym e))
read_amount (negsuc m) (negsuc n) u v p q e =
    let tail : numeral (suc m) ++ u ≡ numeral (suc n) ++ v = cc in
    let r = read_count (suc m) (suc n) u v p q tail in
    let same : m ≡ n = omega (arith, r.0) in
    (ap negsuc same, r.1)

-- ---- numbers behind spaces, to the end of the line

ends_list : {A : Type 0} (f : A → List ℕ) (xs : List A) (u : List ℕ) → Ends (flat_map (λ x. 32 ∷ f x) xs ++ 10 ∷ u)
ends_list f [] u = refl
ends_list f (x ∷ xs) u = refl

-- what such a number stands for is told by its text, whatever comes behind it
abbrev pub Reads : {A : Type 0} → (A → List ℕ) → Type 0
Reads {A} f = (x y : A) (u v : List ℕ) → Ends u → Ends v → f x ++ u ≡ f y ++ v → (x ≡ y) × (u ≡ v)

pub read_list : {A : Type 0} (f : A → List ℕ) → Reads f → (xs ys : List A) (u v : List ℕ)
    → flat_map (λ x. 32 ∷ f x) xs ++ 10 ∷ u ≡ flat_map (λ x. 32 ∷ f x) ys ++ 10 ∷ v → (xs ≡ ys) × (u ≡ v)
read_list f reads [] [] u v e = let tail : u ≡ v = cc in (refl, tail)
read_list f reads [] (y ∷ ys) u v e = absurd (bytes_apart 10 32 _ _ refl e)
read_list f reads (x ∷ xs) [] u v e = absurd (bytes_apart 32 10 _ _ refl e)
read_list f reads (x ∷ xs) (y ∷ ys) u v e =
    let rest_x = flat_map (λ x. 32 ∷ f x) xs in
    let rest_y = flat_map (λ x. 32 ∷ f x) ys in
    let tail : (f x ++ rest_x) ++ 10 ∷ u ≡ (f y ++ rest_y) ++ 10 ∷ v = cc in
    let nested = sym (append_assoc (f x) rest_x (10 ∷ u)) ∙ tail ∙ append_assoc (f y) rest_y (10 ∷ v) in
    let first = reads x y _ _ (ends_list f xs u) (ends_list f ys v) nested in
    let rest = read_list f reads xs ys u v first.1 in
    (ap (λ z. z ∷ xs) first.0 ∙ ap (λ zs. y ∷ zs) rest.0, rest.1)

pub read_flags : (xs ys : List Bool) (u v : List ℕ) → spaced_flags xs ++ 10 ∷ u ≡ spaced_flags ys ++ 10 ∷ v →
    (xs ≡ ys) × (u ≡ v)
read_flags [] [] u v e = let tail : u ≡ v = cc in (refl, tail)
read_flags [] (true ∷ ys) u v e = absurd (bytes_apart 10 32 _ _ refl e)
read_flags [] (false ∷ ys) u v e = absurd (bytes_apart 10 32 _ _ refl e)
read_flags (true ∷ xs) [] u v e = absurd (bytes_apart 32 10 _ _ refl e)
read_flags (false ∷ xs) [] u v e = absurd (bytes_apart 32 10 _ _ refl e)
read_flags (true ∷ xs) (false ∷ ys) u v e = absurd (bytes_apart 49 48 _ _ refl (append_cancel_left (32 ∷ []) _ _ e))
read_flags (false ∷ xs) (true ∷ ys) u v e = absurd (bytes_apart 48 49 _ _ refl (append_cancel_left (32 ∷ []) _ _ e))
read_flags (true ∷ xs) (true ∷ ys) u v e =
    let tail : spaced_flags xs ++ 10 ∷ u ≡ spaced_flags ys ++ 10 ∷ v = cc in
    let rest = read_flags xs ys u v tail in
    (ap (λ zs. true ∷ zs) rest.0, rest.1)
read_flags (false ∷ xs) (false ∷ ys) u v e =
    let tail : spaced_flags xs ++ 10 ∷ u ≡ spaced_flags ys ++ 10 ∷ v = cc in
    let rest = read_flags xs ys u v tail in
    (ap (λ zs. false ∷ zs) rest.0, rest.1)

-- ---- names

-- how a byte is escaped
data Way (b : ℕ) : Type 0 where
  Plain : stands_as_is b ≡ true → Way b
  Control : stands_as_is b ≡ false → b < 32 → Way b
  Behind : stands_as_is b ≡ false → 32 ≤ b → Way b

way : (b : ℕ) → Way b
way b =
    elim (stands_as_is b) as (λ s. stands_as_is b ≡ s → Way b) [
      | true ↦ λ h. Plain h
      | false ↦ λ h. elim (nat_lt b 32) as (λ s. nat_lt b 32 ≡ s → Way b) [
        | true ↦
            λ l. Control h (grind (arith, nat_tests))
        | false ↦ λ l. Behind h (grind (arith, nat_tests))
      ] refl
    ] refl

not_plain : (b c : ℕ) → stands_as_is b ≡ true → stands_as_is c ≡ false → b ≡ c → ⊥
not_plain b c h k e = let both : true ≡ false = sym h ∙ ap stands_as_is e ∙ k in cc

hex_same : (j k : ℕ) → j < 16 → k < 16 → hex_of j ≡ hex_of k → j ≡ k
hex_same j k p q e = grind (arith, nat_tests)

read_control : (a b : ℕ) (u v : List ℕ) → a < 32 → b < 32 →
    92 ∷ 117 ∷ 48 ∷ 48 ∷ hex_of (a / 16) ∷ hex_of (a % 16) ∷ u ≡ 92 ∷ 117 ∷ 48 ∷ 48 ∷ hex_of (b / 16) ∷ hex_of
    (b % 16) ∷ v → (a ≡ b) × (u ≡ v)
read_control a b u v p q e =
    let high : hex_of (a / 16) ≡ hex_of (b / 16) = cc in
    let low : hex_of (a % 16) ≡ hex_of (b % 16) = cc in
    let tail : u ≡ v = cc in
    let highs = hex_same (a / 16) (b / 16) (omega arith) (omega arith) high in
    let lows = hex_same (a % 16) (b % 16) (omega arith) (omega arith) low in
    (omega arith, tail)

-- the byte behind a backslash is no `u`
no_letter : (b : ℕ) (u v : List ℕ) → stands_as_is b ≡ false → 92 ∷ 117 ∷ u ≡ 92 ∷ b ∷ v → ⊥
no_letter b u v h e = let same : 117 ≡ b = cc in not_plain 117 b refl h same

read_ways : (a b : ℕ) (u v : List ℕ) → Way a → Way b → escaped a ++ u ≡ escaped b ++ v → (a ≡ b) × (u ≡ v)
read_ways a b u v (Plain p) (Plain q) e =
    let texts : a ∷ u ≡ b ∷ v = sym (ap (λ t. t ++ u) (escaped-plain a p)) ∙ e ∙ ap (λ t. t ++ v) (escaped-plain b q) in
    let head : a ≡ b = cc in
    let tail : u ≡ v = cc in
    (head, tail)
read_ways a b u v (Plain p) (Control q l) e =
    let texts = sym (ap (λ t. t ++ u) (escaped-plain a p)) ∙ e ∙ ap (λ t. t ++ v) (escaped-control b q l) in
    let head : a ≡ 92 = cc in
    absurd (not_plain a 92 p refl head)
read_ways a b u v (Plain p) (Behind q l) e =
    let texts = sym (ap (λ t. t ++ u) (escaped-plain a p)) ∙ e ∙ ap (λ t. t ++ v) (escaped-behind b q l) in
    let head : a ≡ 92 = cc in
    absurd (not_plain a 92 p refl head)
read_ways a b u v (Control p k) (Plain q) e =
    let texts = sym (ap (λ t. t ++ u) (escaped-control a p k)) ∙ e ∙ ap (λ t. t ++ v) (escaped-plain b q) in
    let head : b ≡ 92 = cc in
    absurd (not_plain b 92 q refl head)
read_ways a b u v (Behind p k) (Plain q) e =
    let texts = sym (ap (λ t. t ++ u) (escaped-behind a p k)) ∙ e ∙ ap (λ t. t ++ v) (escaped-plain b q) in
    let head : b ≡ 92 = cc in
    absurd (not_plain b 92 q refl head)
read_ways a b u v (Control p k) (Control q l) e =
    read_control a b u v k l (sym (ap (λ t. t ++ u) (escaped-control a p k)) ∙ e ∙
    ap (λ t. t ++ v) (escaped-control b q l))
read_ways a b u v (Control p k) (Behind q l) e =
    absurd (no_letter b _ v q (sym (ap (λ t. t ++ u) (escaped-control a p k)) ∙ e ∙
    ap (λ t. t ++ v) (escaped-behind b q l)))
read_ways a b u v (Behind p k) (Control q l) e =
    absurd (no_letter a _ u p (sym (ap (λ t. t ++ v) (escaped-control b q l)) ∙ sym e ∙
    ap (λ t. t ++ u) (escaped-behind a p k)))
read_ways a b u v (Behind p k) (Behind q l) e =
    let texts : 92 ∷ a ∷ u ≡ 92 ∷ b ∷ v = sym (ap (λ t. t ++ u) (escaped-behind a p k)) ∙ e ∙
    ap (λ t. t ++ v) (escaped-behind b q l) in
    let head : a ≡ b = cc in
    let tail : u ≡ v = cc in
    (head, tail)

-- no byte of a name is written as a quote alone
no_quote : (a : ℕ) (u v : List ℕ) → Way a → escaped a ++ u ≡ 34 ∷ v → ⊥
no_quote a u v (Plain p) e =
    let texts = sym (ap (λ t. t ++ u) (escaped-plain a p)) ∙ e in
    let head : a ≡ 34 = cc in
    not_plain a 34 p refl head
no_quote a u v (Control p k) e = bytes_apart 92 34 _ _ refl (sym (ap (λ t. t ++ u) (escaped-control a p k)) ∙ e)
no_quote a u v (Behind p k) e = bytes_apart 92 34 _ _ refl (sym (ap (λ t. t ++ u) (escaped-behind a p k)) ∙ e)

-- a name to its closing quote
pub read_name : (xs ys u v : List ℕ) → flat_map escaped xs ++ 34 ∷ u ≡ flat_map escaped ys ++ 34 ∷ v →
    (xs ≡ ys) × (u ≡ v)
read_name [] [] u v e = let tail : u ≡ v = cc in (refl, tail)
read_name [] (y ∷ ys) u v e =
    absurd (no_quote y (flat_map escaped ys ++ 34 ∷ v) u (way y)
    (sym (append_assoc (escaped y) (flat_map escaped ys) (34 ∷ v)) ∙ sym e))
read_name (x ∷ xs) [] u v e =
    absurd (no_quote x (flat_map escaped xs ++ 34 ∷ u) v (way x)
    (sym (append_assoc (escaped x) (flat_map escaped xs) (34 ∷ u)) ∙ e))
read_name (x ∷ xs) (y ∷ ys) u v e =
    let nested = sym (append_assoc (escaped x) (flat_map escaped xs) (34 ∷ u)) ∙ e ∙
    append_assoc (escaped y) (flat_map escaped ys) (34 ∷ v) in
    let first = read_ways x y _ _ (way x) (way y) nested in
    let rest = read_name xs ys u v first.1 in
    (ap (λ z. z ∷ xs) first.0 ∙ ap (λ zs. y ∷ zs) rest.0, rest.1)

-- ---- the same behind a word

pub after_count : (p : List ℕ) (m n : ℕ) (u v : List ℕ) → p ++ (numeral m ++ u) ≡ p ++ (numeral n ++ v) → Ends u →
    Ends v → (m ≡ n) × (u ≡ v)
after_count p m n u v e a b = read_count m n u v a b (append_cancel_left p (numeral m ++ u) (numeral n ++ v) e)

pub after_amount : (p : List ℕ) (y z : ℤ) (u v : List ℕ) → p ++ (signed_numeral y ++ u) ≡ p ++ (signed_numeral z ++ v) →
    Ends u → Ends v → (y ≡ z) × (u ≡ v)
after_amount p y z u v e a b =
    read_amount y z u v a b (append_cancel_left p (signed_numeral y ++ u) (signed_numeral z ++ v) e)

pub after_amounts : (p : List ℕ) (xs ys : List ℤ) (u v : List ℕ)
    → p ++ (flat_map (λ x. 32 ∷ signed_numeral x) xs ++ 10 ∷ u) ≡ p
    ++ (flat_map (λ x. 32 ∷ signed_numeral x) ys ++ 10 ∷ v) → (xs ≡ ys) × (u ≡ v)
after_amounts p xs ys u v e = read_list signed_numeral read_amount xs ys u v (append_cancel_left p _ _ e)

pub after_counts : (p : List ℕ) (xs ys : List ℕ) (u v : List ℕ)
    → p ++ (flat_map (λ n. 32 ∷ numeral n) xs ++ 10 ∷ u) ≡ p ++ (flat_map (λ n. 32 ∷ numeral n) ys ++ 10 ∷ v) →
    (xs ≡ ys) × (u ≡ v)
after_counts p xs ys u v e = read_list numeral read_count xs ys u v (append_cancel_left p _ _ e)

pub after_flags : (p : List ℕ) (xs ys : List Bool) (u v : List ℕ) →
    p ++ (spaced_flags xs ++ 10 ∷ u) ≡ p ++ (spaced_flags ys ++ 10 ∷ v) → (xs ≡ ys) × (u ≡ v)
after_flags p xs ys u v e = read_flags xs ys u v (append_cancel_left p _ _ e)

pub after_name : (p xs ys u v : List ℕ) → p ++ (flat_map escaped xs ++ 34 ∷ u) ≡ p ++ (flat_map escaped ys ++ 34 ∷ v) →
    (xs ≡ ys) × (u ≡ v)
after_name p xs ys u v e = read_name xs ys u v (append_cancel_left p _ _ e)
