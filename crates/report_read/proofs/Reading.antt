-- What a reader of a line takes is the text of a value, and the text of a value is read again.
use Rattle.report_read.proofs.Common.{◌≡◌, ℕ, zero, suc, Bool, true, false, cond, nat_le, ◌==◌, ◌&&◌, List, [], ◌∷◌}
use Rattle.report_read.proofs.Common.{◌++◌, length, Option, Some, None, refl, sym, ap, ◌∙◌, subst, arith, append_assoc}
use Rattle.report_read.proofs.Common.{flat_map, AllByRecursion, eqb-true, Found, ◌>>=◌, behind, is_ascii_digit, spaced}
use Rattle.report_read.proofs.Common.{items_at, IsList, after, just, both, ended}

pub bind_some : {A B : Type 0} (r : Option A) (f : A → Option B) (y : B) → (r >>= f) ≡ Some y →
    (x : A) × (r ≡ Some x) × (f x ≡ Some y)
bind_some (Some x) f y e = (x, refl, e)
bind_some None f y e = absurd cc

-- a test that held
pub if_some : {A : Type 0} (t : Bool) (x : Option A) (y : A) → cond t x None ≡ Some y → (t ≡ true) × (x ≡ Some y)
if_some true x y e = (refl, e)
if_some false x y e = absurd cc

pub some_is : {A : Type 0} (x y : A) → Some x ≡ Some y → x ≡ y
some_is x y e = cc

-- ---- words

pub behind_takes : (word bytes rest : List ℕ) → behind word bytes ≡ Some rest → bytes ≡ word ++ rest
unfolding behind
behind_takes [] bytes rest e = some_is bytes rest e
behind_takes (c ∷ cs) [] rest e = absurd cc
behind_takes (c ∷ cs) (b ∷ bs) rest e =
    let t = if_some (b == c) (behind cs bs) rest e in
    let same : b ≡ c = eqb-true b c t.0 in
    let tail = behind_takes cs bs rest t.1 in
    rw same (ap (λ (z : List ℕ). c ∷ z) tail)

same_byte : (c : ℕ) → (c == c) ≡ true
same_byte c = grind (arith)

pub behind_again : (word rest : List ℕ) → behind word (word ++ rest) ≡ Some rest
unfolding behind
behind_again [] rest = refl
behind_again (c ∷ cs) rest = rw (same_byte c) (behind_again cs rest)

-- ---- values and their texts

-- no byte below 32
abbrev pub is_inline : List ℕ → Bool
is_inline [] = true
is_inline (b ∷ bs) = nat_le 32 b && is_inline bs

pub inline_append : (x y : List ℕ) → is_inline x ≡ true → is_inline y ≡ true → is_inline (x ++ y) ≡ true
inline_append [] y p q = q
inline_append (b ∷ bs) y p q =
    elim (nat_le 32 b) as (λ t. (t && is_inline bs) ≡ true → (t && is_inline (bs ++ y)) ≡ true) [
      | true ↦ λ h. inline_append bs y h q
      | false ↦ λ h. h
    ] p

-- no digit comes next
abbrev pub Stops : List ℕ → Type 0
Stops [] = Unit {0}
Stops (c ∷ cs) = is_ascii_digit c ≡ false

-- `read` takes just the texts of values that fit, which stand in one line
pub record IsReader {A : Type 0} (text : A → List ℕ) (Fits : A → Type 0) (read : List ℕ → Found A) : Type 0 where
  pub takes : (bytes : List ℕ) (x : A) (rest : List ℕ) → read bytes ≡ Some (x, rest) → (bytes ≡ text x ++ rest) × Fits x
  pub again : (x : A) (rest : List ℕ) → Fits x → Stops rest → read (text x ++ rest) ≡ Some (x, rest)
  pub inline : (x : A) → Fits x → is_inline (text x) ≡ true

pub after_reads : {A : Type 0} (text : A → List ℕ) (Fits : A → Type 0) (read : List ℕ → Found A) (word : List ℕ) →
    is_inline word ≡ true → IsReader text Fits read
    → IsReader (λ x. word ++ text x) Fits (after word read)
unfolding after
after_reads text Fits read word plain p = record {
  takes = λ bytes x rest e.
      let b = bind_some (behind word bytes) read (x, rest) e in
      let t = p.takes b.0 x rest b.2 in (
        behind_takes word bytes b.0 b.1 ∙ ap (λ (z : List ℕ). word ++ z) t.0 ∙ sym (append_assoc word (text x) rest),
        t.1,
      );
  again = λ x rest fits stops. ap (after word read) (append_assoc word (text x) rest) ∙
      rw (behind_again word (text x ++ rest)) (p.again x rest fits stops);
  inline = λ x fits. inline_append word (text x) plain (p.inline x fits);
}

both_take : {A B : Type 0} (text : A → List ℕ) (Fits : A → Type 0) (read : List ℕ → Found A) (text2 : B → List ℕ)
    (Fits2 : B → Type 0) (read2 : List ℕ → Found B)
    → IsReader text Fits read → IsReader text2 Fits2 read2 → (bytes : List ℕ) (z : A × B) (rest : List ℕ) →
    both read read2 bytes ≡ Some (z, rest)
    → (bytes ≡ (text z.0 ++ text2 z.1) ++ rest) × (Fits z.0 × Fits2 z.1)
unfolding both
both_take {A} {B} text Fits read text2 Fits2 read2 p q bytes z rest e =
    let a = bind_some (read bytes) (λ x. read2 x.1 >>= λ y. Some ((x.0, y.0), y.1)) (z, rest) e in
    let b = bind_some (read2 a.0.1) (λ y. Some ((a.0.0, y.0), y.1)) (z, rest) a.2 in
    let s = p.takes bytes a.0.0 a.0.1 a.1 in
    let t = q.takes a.0.1 b.0.0 b.0.1 b.1 in
    let made : (A × B) × List ℕ = ((a.0.0, b.0.0), b.0.1) in
    let parts : bytes ≡ (text a.0.0 ++ text2 b.0.0) ++ b.0.1 =
    s.0 ∙ ap (λ (w : List ℕ). text a.0.0 ++ w) t.0 ∙ sym (append_assoc (text a.0.0) (text2 b.0.0) b.0.1) in
    subst (λ (w : (A × B) × List ℕ). (bytes ≡ (text w.0.0 ++ text2 w.0.1) ++ w.1) × (Fits w.0.0 × Fits2 w.0.1))
    (some_is made (z, rest) b.2) (parts, (s.1, t.1))

-- the first text ends whatever comes behind it
pub both_behind : {A B : Type 0} (text : A → List ℕ) (Fits : A → Type 0) (read : List ℕ → Found A) (text2 : B → List ℕ)
    (Fits2 : B → Type 0) (read2 : List ℕ → Found B)
    → IsReader text Fits read → IsReader text2 Fits2 read2 →
    ((x : A) (rest : List ℕ) → Fits x → read (text x ++ rest) ≡ Some (x, rest))
    → IsReader (λ (z : A × B). text z.0 ++ text2 z.1) (λ (z : A × B). Fits z.0 × Fits2 z.1) (both read read2)
unfolding both
both_behind text Fits read text2 Fits2 read2 p q ends = record {
  takes = both_take text Fits read text2 Fits2 read2 p q;
  again = λ z rest fits stops.
      ap (both read read2) (append_assoc (text z.0) (text2 z.1) rest) ∙
      rw (ends z.0 (text2 z.1 ++ rest) fits.0, q.again z.1 rest fits.1 stops) refl;
  inline = λ z fits. inline_append (text z.0) (text2 z.1) (p.inline z.0 fits.0) (q.inline z.1 fits.1);
}

pub both_reads : {A B : Type 0} (text : A → List ℕ) (Fits : A → Type 0) (read : List ℕ → Found A) (text2 : B → List ℕ)
    (Fits2 : B → Type 0) (read2 : List ℕ → Found B)
    → IsReader text Fits read → IsReader text2 Fits2 read2 → ((y : B) (rest : List ℕ) → Stops (text2 y ++ rest))
    → IsReader (λ (z : A × B). text z.0 ++ text2 z.1) (λ (z : A × B). Fits z.0 × Fits2 z.1) (both read read2)
unfolding both
both_reads text Fits read text2 Fits2 read2 p q begins = record {
  takes = both_take text Fits read text2 Fits2 read2 p q;
  again = λ z rest fits stops.
      ap (both read read2) (append_assoc (text z.0) (text2 z.1) rest) ∙
      rw (p.again z.0 (text2 z.1 ++ rest) fits.0 (begins z.1 rest), q.again z.1 rest fits.1 stops) refl;
  inline = λ z fits. inline_append (text z.0) (text2 z.1) (p.inline z.0 fits.0) (q.inline z.1 fits.1);
}

pub just_reads : (word : List ℕ) → is_inline word ≡ true → IsReader (λ (x : Unit {0}). word) (λ x. Unit {0}) (just word)
unfolding just
just_reads word plain = record {
  takes = λ bytes x rest e.
      let b = bind_some (behind word bytes) (λ r. Some (tt, r)) (x, rest) e in
      let same : b.0 ≡ rest = ap (λ (w : Unit {0} × List ℕ). w.1) (some_is (tt, b.0) (x, rest) b.2) in
      (behind_takes word bytes b.0 b.1 ∙ ap (λ (z : List ℕ). word ++ z) same, tt);
  again = λ x rest fits stops. rw (behind_again word rest) refl;
  inline = λ x fits. plain;
}

-- ---- lists

pub spaced_reads : {A : Type 0} (text : A → List ℕ) (Fits : A → Type 0) (read : List ℕ → Found A)
    → IsReader text Fits read → IsReader (λ x. 32 ∷ text x) Fits (spaced read)
unfolding spaced
spaced_reads text Fits read p = record {
  takes = λ bytes x rest e.
      let b = bind_some (behind (32 ∷ []) bytes) read (x, rest) e in
      let t = p.takes b.0 x rest b.2 in
      (behind_takes (32 ∷ []) bytes b.0 b.1 ∙ ap (λ (z : List ℕ). 32 ∷ z) t.0, t.1);
  again = λ x rest fits stops. rw (behind_again (32 ∷ []) (text x ++ rest)) (p.again x rest fits stops);
  inline = λ x fits. p.inline x fits;
}

items_take : {A : Type 0} (text : A → List ℕ) (Fits : A → Type 0) (read : List ℕ → Found A) → IsReader text Fits read
    → (count : ℕ) (bytes : List ℕ) (z : List A × List ℕ) → items_at read count bytes ≡ Some z →
    (bytes ≡ flat_map text z.0 ++ z.1) × IsList Fits count z.0
unfolding items_at
items_take {A} text Fits read p zero bytes z e =
    subst (λ (w : List A × List ℕ). (bytes ≡ flat_map text w.0 ++ w.1) × IsList Fits 0 w.0) (some_is ([], bytes) z e)
    (refl, record { length_is = refl; items = tt })
items_take {A} text Fits read p (suc count) bytes z e =
    let a = bind_some (read bytes) (λ x. items_at read count x.1 >>= λ xs. Some (x.0 ∷ xs.0, xs.1)) z e in
    let b = bind_some (items_at read count a.0.1) (λ xs. Some (a.0.0 ∷ xs.0, xs.1)) z a.2 in
    let s = p.takes bytes a.0.0 a.0.1 a.1 in
    let t = items_take text Fits read p count a.0.1 b.0 b.1 in
    let made : List A × List ℕ = (a.0.0 ∷ b.0.0, b.0.1) in
    let parts : bytes ≡ (text a.0.0 ++ flat_map text b.0.0) ++ b.0.1 = s.0 ∙ ap (λ (w : List ℕ). text a.0.0 ++ w) t.0 ∙
    sym (append_assoc (text a.0.0) (flat_map text b.0.0) b.0.1) in
    subst (λ (w : List A × List ℕ). (bytes ≡ flat_map text w.0 ++ w.1) × IsList Fits (suc count) w.0)
    (some_is made z b.2)
    (parts, record { length_is = ap suc t.1.length_is; items = (s.1, t.1.items) })

items_stop : {A : Type 0} (text : A → List ℕ) (xs : List A) (rest : List ℕ) →
    ((x : A) (r : List ℕ) → Stops (text x ++ r)) → Stops rest → Stops (flat_map text xs ++ rest)
items_stop text [] rest begins stops = stops
items_stop text (x ∷ xs) rest begins stops =
    subst Stops (sym (append_assoc (text x) (flat_map text xs) rest)) (begins x (flat_map text xs ++ rest))

items_again : {A : Type 0} (text : A → List ℕ) (Fits : A → Type 0) (read : List ℕ → Found A) → IsReader text Fits read →
    ((x : A) (r : List ℕ) → Stops (text x ++ r))
    → (xs : List A) (rest : List ℕ) → AllByRecursion Fits xs → Stops rest →
    items_at read (length xs) (flat_map text xs ++ rest) ≡ Some (xs, rest)
unfolding items_at
items_again text Fits read p begins [] rest fits stops = refl
items_again text Fits read p begins (x ∷ xs) rest fits stops =
    ap (items_at read (suc (length xs))) (append_assoc (text x) (flat_map text xs) rest)
    ∙ rw (
      p.again x (flat_map text xs ++ rest) fits.0 (items_stop text xs rest begins stops),
      items_again text Fits read p begins xs rest fits.1 stops,
    ) refl

items_inline : {A : Type 0} (text : A → List ℕ) (Fits : A → Type 0) (read : List ℕ → Found A)
    → IsReader text Fits read → (xs : List A) → AllByRecursion Fits xs → is_inline (flat_map text xs) ≡ true
items_inline text Fits read p [] fits = refl
items_inline text Fits read p (x ∷ xs) fits =
    inline_append (text x) (flat_map text xs) (p.inline x fits.0) (items_inline text Fits read p xs fits.1)

pub items_reads : {A : Type 0} (text : A → List ℕ) (Fits : A → Type 0) (read : List ℕ → Found A) (count : ℕ) →
    IsReader text Fits read → ((x : A) (r : List ℕ) → Stops (text x ++ r))
    → IsReader (flat_map text) (IsList Fits count) (items_at read count)
items_reads {A} text Fits read count p begins = record {
  takes = λ bytes xs rest e. items_take text Fits read p count bytes (xs, rest) e;
  again = λ xs rest fits stops. subst (λ (k : ℕ). items_at read k (flat_map text xs ++ rest) ≡ Some (xs, rest))
      fits.length_is (items_again text Fits read p begins xs rest fits.items stops);
  inline = λ xs fits. items_inline text Fits read p xs fits.items;
}

-- ---- to the end of the line

pub ended_takes : {A : Type 0} (text : A → List ℕ) (Fits : A → Type 0) (read : List ℕ → Found A)
    → IsReader text Fits read → (bytes : List ℕ) (x : A) (rest : List ℕ) → ended read bytes ≡ Some (x, rest) →
    (bytes ≡ (text x ++ 10 ∷ []) ++ rest) × Fits x
unfolding ended
ended_takes {A} text Fits read p bytes x rest e =
    let a = bind_some (read bytes) (λ x. behind (10 ∷ []) x.1 >>= λ rest. Some (x.0, rest)) (x, rest) e in
    let b = bind_some (behind (10 ∷ []) a.0.1) (λ rest. Some (a.0.0, rest)) (x, rest) a.2 in
    let s = p.takes bytes a.0.0 a.0.1 a.1 in
    let t = behind_takes (10 ∷ []) a.0.1 b.0 b.1 in
    let parts : bytes ≡ (text a.0.0 ++ 10 ∷ []) ++ b.0 =
    s.0 ∙ ap (λ (w : List ℕ). text a.0.0 ++ w) t ∙ sym (append_assoc (text a.0.0) (10 ∷ []) b.0) in
    let made : A × List ℕ = (a.0.0, b.0) in
    subst (λ (w : A × List ℕ). (bytes ≡ (text w.0 ++ 10 ∷ []) ++ w.1) × Fits w.0) (some_is made (x, rest) b.2)
    (parts, s.1)

pub ended_again : {A : Type 0} (text : A → List ℕ) (Fits : A → Type 0) (read : List ℕ → Found A)
    → IsReader text Fits read → (x : A) (rest : List ℕ) → Fits x →
    ended read ((text x ++ 10 ∷ []) ++ rest) ≡ Some (x, rest)
unfolding ended
ended_again text Fits read p x rest fits = ap (ended read) (append_assoc (text x) (10 ∷ []) rest) ∙
    rw (p.again x (10 ∷ rest) fits refl, behind_again (10 ∷ []) rest) refl
