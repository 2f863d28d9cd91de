-- Names that were met before, and a set of their hashes.
use Rattle.uc_text.proofs.Common.{◌≡◌, ℕ, zero, suc, Bool, true, false, true≢false, not, cond, ◌||◌, ◌⊎◌, List, [], ◌∷◌}
use Rattle.uc_text.proofs.Common.{◌++◌, bytes_eq, length, get_or, ◌<◌, refl, sym, ap, ap₂, ◌∙◌, arith, inl, inr}
use Rattle.uc_text.proofs.Common.{Contains, take, is_there, names_said, said, Name, IsNewName}
use Rattle.std.proofs.lemmas.Slice.Eq.{bytes_eq-Decides}

pub equal_bytes : (xs ys : List ℕ) → bytes_eq xs ys ≡ true → xs ≡ ys
equal_bytes xs ys e = (bytes_eq-Decides xs ys).0 e

pub unequal_bytes : (xs ys : List ℕ) → bytes_eq xs ys ≡ false → xs ≡ ys → ⊥
unequal_bytes xs ys e same = true≢false (sym ((bytes_eq-Decides xs ys).1 same) ∙ e)

or_true : (a b : Bool) → (a || b) ≡ true → (a ≡ true) ⊎ (b ≡ true)
or_true true b e = inl refl
or_true false b e = inr e

or_false : (a b : Bool) → (a || b) ≡ false → (a ≡ false) × (b ≡ false)
or_false true b e = absurd (true≢false e)
or_false false b e = (refl, e)

or_with_true : (a : Bool) → (a || true) ≡ true
or_with_true true = refl
or_with_true false = refl

last_alone : (c : Bool) → (c || false) ≡ cond c true false
last_alone true = refl
last_alone false = refl

or_last : (a b c : Bool) → (a || cond c true b) ≡ cond c true (a || b)
or_last a b true = or_with_true a
or_last a b false = refl

same_test : (xs ys : List ℕ) (a b : Bool) → bytes_eq xs ys ≡ a → bytes_eq ys xs ≡ b → bytes_eq xs ys ≡ bytes_eq ys xs
same_test xs ys true true e f = e ∙ sym f
same_test xs ys false false e f = e ∙ sym f
same_test xs ys true false e f = absurd (unequal_bytes ys xs f (sym (equal_bytes xs ys e)))
same_test xs ys false true e f = absurd (unequal_bytes xs ys e (sym (equal_bytes ys xs f)))

pub there_has : (q : List ℕ) (ks : List (List ℕ)) → is_there q ks ≡ true → Contains ks q
there_has q [] e = absurd (true≢false (sym e))
there_has q (k ∷ ks) e =
    elim (or_true (bytes_eq q k) (is_there q ks) e) [
      | inl is ↦ (0, omega arith, sym (equal_bytes q k is))
      | inr is ↦ let r = there_has q ks is in (suc r.0, omega (arith, r.1), r.2)
    ]

pub there_new : (q : List ℕ) (ks : List (List ℕ)) → is_there q ks ≡ false → IsNewName ks q
there_new q [] e i d lt same = absurd (omega arith)
there_new q (k ∷ ks) e zero d lt same = unequal_bytes q k (or_false (bytes_eq q k) (is_there q ks) e).0 (sym same)
there_new q (k ∷ ks) e (suc i) d lt same =
    there_new q ks (or_false (bytes_eq q k) (is_there q ks) e).1 i d (omega arith) same

-- by the index of a name
pub there_at : (q : List ℕ) (ks : List (List ℕ)) (k : ℕ) → k < length ks → bytes_eq q (get_or ks k []) ≡ true →
    is_there q ks ≡ true
there_at q [] k lt e = absurd (omega arith)
there_at q (j ∷ ks) zero lt e = ap (λ (b : Bool). b || is_there q ks) e
there_at q (j ∷ ks) (suc k) lt e = ap (λ (b : Bool). bytes_eq q j || b) (there_at q ks k (omega arith) e) ∙
    or_with_true (bytes_eq q j)

pub there_nowhere : (q : List ℕ) (ks : List (List ℕ)) →
    ((k : ℕ) → k < length ks → bytes_eq q (get_or ks k []) ≡ false) → is_there q ks ≡ false
there_nowhere q [] h = refl
there_nowhere q (j ∷ ks) h =
    ap₂ (λ (a b : Bool). a || b) (h 0 (omega arith)) (there_nowhere q ks (λ k lt. h (suc k) (omega arith)))

pub there_push : (q : List ℕ) (ks : List (List ℕ)) (k : List ℕ) →
    is_there q (ks ++ k ∷ []) ≡ cond (bytes_eq k q) true (is_there q ks)
there_push q [] k = ap (λ (b : Bool). b || false) (same_test q k (bytes_eq q k) (bytes_eq k q) refl refl) ∙
    last_alone (bytes_eq k q)
there_push q (j ∷ ks) k = ap (λ (b : Bool). bytes_eq q j || b) (there_push q ks k) ∙
    or_last (bytes_eq q j) (is_there q ks) (bytes_eq k q)

not_false : (b : Bool) → not b ≡ false → b ≡ true
not_false true e = refl
not_false false e = absurd (true≢false e)

not_true : (b : Bool) → not b ≡ true → b ≡ false
not_true true e = absurd (true≢false (sym e))
not_true false e = refl

pub known_name : (ks : List (List ℕ)) (k : List ℕ) (new : Bool) → new ≡ not (is_there k ks) → new ≡ false →
    Contains ks k
known_name ks k new e off = there_has k ks (not_false _ (sym e ∙ off))

pub new_name : (ks : List (List ℕ)) (k : List ℕ) (new : Bool) → new ≡ not (is_there k ks) → new ≡ true → IsNewName ks k
new_name ks k new e on = there_new k ks (not_true _ (sym e ∙ on))

-- ---- what names say

pub said_at : (ns : List Name) (k : ℕ) (d : Name) → k < length ns →
    get_or (names_said ns) k [] ≡ said (get_or ns k d).quoted.bytes.now
said_at [] k d lt = absurd (omega arith)
said_at (n ∷ ns) zero d lt = refl
said_at (n ∷ ns) (suc k) d lt = said_at ns k d (omega arith)

pub name_at : (ns : List Name) (k : ℕ) (n : Name) → k < length ns → n ≡ get_or ns k n →
    get_or (names_said ns) k [] ≡ said n.quoted.bytes.now
name_at ns k n lt is = said_at ns k n lt ∙ ap (λ (m : Name). said m.quoted.bytes.now) (sym is)

pub names_len : (ns : List Name) → length (names_said ns) ≡ length ns
names_len [] = refl
names_len (n ∷ ns) = ap suc (names_len ns)

pub names_said-push : (ns : List Name) (n : Name) →
    names_said (ns ++ n ∷ []) ≡ names_said ns ++ said n.quoted.bytes.now ∷ []
names_said-push [] n = refl
names_said-push (m ∷ ns) n = ap (λ (ks : List (List ℕ)). said m.quoted.bytes.now ∷ ks) (names_said-push ns n)

pub names_said-take : (ns : List Name) (k : ℕ) → names_said (take k ns) ≡ take k (names_said ns)
names_said-take ns zero = refl
names_said-take [] (suc k) = refl
names_said-take (n ∷ ns) (suc k) = ap (λ (ks : List (List ℕ)). said n.quoted.bytes.now ∷ ks) (names_said-take ns k)

pub bytes_eq-turned : (xs ys : List ℕ) → bytes_eq xs ys ≡ bytes_eq ys xs
bytes_eq-turned xs ys = same_test xs ys (bytes_eq xs ys) (bytes_eq ys xs) refl refl
