-- Lines one after the other: what is taken is the text of a value, the text of a value is read again, and where reading
-- stops the lines before begin a text and with the next line they begin none.
use Rattle.report_read.proofs.Common.{◌≡◌, ℕ, true, false, nat_le, ◌&&◌, ◌⊎◌, List, [], ◌∷◌, ◌++◌, length, Option, Some}
use Rattle.report_read.proofs.Common.{None, Result, Ok, Err, refl, sym, ap, ◌∙◌, subst, arith, append_assoc, inl, inr}
use Rattle.report_read.proofs.Common.{AllByRecursion, nat_tests, append-nil, IsLine, AreLines, Found, ended, Read}
use Rattle.report_read.proofs.Common.{or_left, line, then_lines, making}
use Rattle.report_read.specs.Lines.{◌>>=◌}
use Rattle.report_read.proofs.Reading.{is_inline, IsReader, ended_takes, ended_again}

pub bind_ok : {A B : Type 0} (r : Result A ℕ) (f : A → Result B ℕ) (y : B) → (r >>= f) ≡ Ok y →
    (x : A) × (r ≡ Ok x) × (f x ≡ Ok y)
bind_ok (Ok x) f y e = (x, refl, e)
bind_ok (Err d) f y e = absurd cc

pub bind_err : {A B : Type 0} (r : Result A ℕ) (f : A → Result B ℕ) (d : ℕ) → (r >>= f) ≡ Err d →
    (r ≡ Err d) ⊎ ((x : A) × (r ≡ Ok x) × (f x ≡ Err d))
bind_err (Ok x) f d e = inr (x, refl, e)
bind_err {A} {B} (Err c) f d e = let same : c ≡ d = cc in inl (ap (λ (n : ℕ). Err n) same)

abbrev pub good : {A : Type 0} → A → Result A ℕ
good x = Ok x

pub ok_is : {A : Type 0} (x y : A) → good x ≡ good y → x ≡ y
ok_is x y e = cc

-- ---- lines

abbrev Unbroken : List ℕ → Type 0
Unbroken = AllByRecursion (λ b. b ≡ 10 → ⊥)

-- a line is known from what begins with it
lines_meet : (a b u v : List ℕ) → Unbroken a → Unbroken b → a ++ 10 ∷ u ≡ b ++ 10 ∷ v → a ≡ b
lines_meet [] [] u v p q e = refl
lines_meet [] (d ∷ b) u v p q e = let same : 10 ≡ d = cc in absurd (q.0 (sym same))
lines_meet (c ∷ a) [] u v p q e = let same : c ≡ 10 = cc in absurd (p.0 same)
lines_meet (c ∷ a) (d ∷ b) u v p q e =
    let head : c ≡ d = cc in
    let tail : a ++ 10 ∷ u ≡ b ++ 10 ∷ v = cc in
    let r = lines_meet a b u v p.1 q.1 tail in
    ap (λ z. z ∷ a) head ∙ ap (λ zs. d ∷ zs) r

pub same_line : (x y u v : List ℕ) → IsLine x → IsLine y → x ++ u ≡ y ++ v → x ≡ y
same_line x y u v p q e =
    let a : p.inside ++ 10 ∷ u ≡ q.inside ++ 10 ∷ v =
    sym (append_assoc p.inside (10 ∷ []) u) ∙ ap (λ (z : List ℕ). z ++ u) (sym p.ends) ∙ e ∙
    ap (λ (z : List ℕ). z ++ v) q.ends ∙ append_assoc q.inside (10 ∷ []) v in
    p.ends ∙ ap (λ (z : List ℕ). z ++ 10 ∷ []) (lines_meet p.inside q.inside u v p.unbroken q.unbroken a) ∙ sym q.ends

unbroken : (x : List ℕ) → is_inline x ≡ true → Unbroken x
unbroken [] h = tt
unbroken (b ∷ bs) h =
    elim (nat_le 32 b) as (λ t. nat_le 32 b ≡ t → (t && is_inline bs) ≡ true → Unbroken (b ∷ bs)) [
      | true ↦ λ low rest. (λ e. grind (arith, nat_tests), unbroken bs rest)
      | false ↦ λ low rest. absurd cc
    ] refl h

pub inline_is_line : (x : List ℕ) → is_inline x ≡ true → IsLine (x ++ 10 ∷ [])
inline_is_line x h = record { inside = x; unbroken = unbroken x h; ends = refl }

pub line_is_lines : (x : List ℕ) → IsLine x → AreLines x
line_is_lines x h = inr (h.inside, h.ends)

pub lines_then : (x y : List ℕ) → AreLines x → AreLines y → AreLines (x ++ y)
lines_then x y (inl none) q = subst (λ (z : List ℕ). AreLines (z ++ y)) (sym none) q
lines_then x y (inr front) (inl none) =
    subst (λ (z : List ℕ). AreLines (x ++ z)) (sym none) (inr (front.0, append-nil x ∙ front.1))
lines_then x y (inr front) (inr last) =
    inr (x ++ last.0, ap (λ (z : List ℕ). x ++ z) last.1 ∙ sym (append_assoc x last.0 (10 ∷ [])))

-- ---- one line

pub record LineForm {A : Type 0} (text : A → List ℕ) (Fits : A → Type 0) (read : List ℕ → Found A) : Type 0 where
  pub takes : (bytes : List ℕ) (x : A) (rest : List ℕ) → read bytes ≡ Some (x, rest) → (bytes ≡ text x ++ rest) × Fits x
  pub again : (x : A) (rest : List ℕ) → Fits x → read (text x ++ rest) ≡ Some (x, rest)
  pub is_line : (x : A) → Fits x → IsLine (text x)

pub reads_to_end : {A : Type 0} (text : A → List ℕ) (Fits : A → Type 0) (read : List ℕ → Found A)
    → IsReader text Fits read → LineForm (λ x. text x ++ 10 ∷ []) Fits (ended read)
reads_to_end text Fits read p = record {
  takes = ended_takes text Fits read p;
  again = ended_again text Fits read p;
  is_line = λ x fits. inline_is_line (text x) (p.inline x fits);
}

-- ---- lines

pub record IsStuck {A : Type 0} (text : A → List ℕ) (Fits : A → Type 0) (bytes : List ℕ) (left : ℕ) : Type 0 where
  pub before : List ℕ
  pub rest : List ℕ
  pub cut : bytes ≡ before ++ rest
  pub left_is : length rest ≡ left
  pub lines : AreLines before
  pub begun : A
  pub fits : Fits begun
  pub more : List ℕ
  pub begins : text begun ≡ before ++ more
  pub fails : (here behind : List ℕ) → IsLine here → rest ≡ here ++ behind → (x : A) (u v : List ℕ) → Fits x →
      text x ++ u ≡ (before ++ here) ++ v → ⊥

pub record Form {A : Type 0} (text : A → List ℕ) (Fits : A → Type 0) (read : List ℕ → Read A) : Type 0 where
  pub takes : (bytes : List ℕ) (x : A) (rest : List ℕ) → read bytes ≡ Ok (x, rest) → (bytes ≡ text x ++ rest) × Fits x
  pub again : (x : A) (rest : List ℕ) → Fits x → read (text x ++ rest) ≡ Ok (x, rest)
  pub lines : (x : A) → Fits x → AreLines (text x)
  pub stuck : (bytes : List ℕ) (left : ℕ) → read bytes ≡ Err left → IsStuck text Fits bytes left

none_or_some : {A : Type 0} (r : Option A) → (r ≡ None) ⊎ ((x : A) × (r ≡ Some x))
none_or_some None = inl refl
none_or_some (Some x) = inr (x, refl)

found_ok : {A : Type 0} (left : ℕ) (r : Found A) (x : A × List ℕ) → or_left left r ≡ Ok x → r ≡ Some x
found_ok left (Some y) x e = let same = ok_is y x e in ap (λ z. Some z) same
found_ok left None x e = absurd cc

found_err : {A : Type 0} (left other : ℕ) (r : Found A) → or_left left r ≡ Err other → (r ≡ None) × (left ≡ other)
found_err left other (Some y) e = absurd cc
found_err left other None e = let same : left ≡ other = cc in (refl, same)

pub line_form : {A : Type 0} (text : A → List ℕ) (Fits : A → Type 0) (read : List ℕ → Found A) (some : A) → Fits some →
    LineForm text Fits read → Form text Fits (line read)
line_form {A} text Fits read some some_fits p = record {
  takes = λ bytes x rest e. p.takes bytes x rest (found_ok (length bytes) (read bytes) (x, rest) e);
  again = λ x rest fits. rw (p.again x rest fits) refl;
  lines = λ x fits. line_is_lines (text x) (p.is_line x fits);
  stuck = λ bytes left e.
      let f = found_err (length bytes) left (read bytes) e in
      record {
        before = [];
        rest = bytes;
        cut = refl;
        left_is = f.1;
        lines = inl refl;
        begun = some;
        fits = some_fits;
        more = text some;
        begins = refl;
        fails = λ here behind whole cut x u v fits same.
            let one : text x ≡ here = same_line (text x) here u v (p.is_line x fits) whole same in
            let found = p.again x behind fits in
            let other : bytes ≡ text x ++ behind = cut ∙ ap (λ (z : List ℕ). z ++ behind) (sym one) in
            let none : read (text x ++ behind) ≡ None = ap read (sym other) ∙ f.0 in
            absurd cc;
      };
}

then_takes : {A B : Type 0} (text : A → List ℕ) (Fits : A → Type 0) (read : List ℕ → Read A) (text2 : A → B → List ℕ)
    (Fits2 : A → B → Type 0) (read2 : A → List ℕ → Read B)
    → Form text Fits read → ((x : A) → Fits x → Form (text2 x) (Fits2 x) (read2 x)) →
    (bytes : List ℕ) (z : A × B) (rest : List ℕ) → then_lines read read2 bytes ≡ Ok (z, rest)
    → (bytes ≡ (text z.0 ++ text2 z.0 z.1) ++ rest) × (Fits z.0 × Fits2 z.0 z.1)
then_takes {A} {B} text Fits read text2 Fits2 read2 p q bytes z rest e =
    let a = bind_ok (read bytes) (λ x. read2 x.0 x.1 >>= λ y. Ok ((x.0, y.0), y.1)) (z, rest) e in
    let b = bind_ok (read2 a.0.0 a.0.1) (λ y. Ok ((a.0.0, y.0), y.1)) (z, rest) a.2 in
    let s = p.takes bytes a.0.0 a.0.1 a.1 in
    let t = (q a.0.0 s.1).takes a.0.1 b.0.0 b.0.1 b.1 in
    let made : (A × B) × List ℕ = ((a.0.0, b.0.0), b.0.1) in
    let parts : bytes ≡ (text a.0.0 ++ text2 a.0.0 b.0.0) ++ b.0.1 = s.0 ∙ ap (λ (w : List ℕ). text a.0.0 ++ w) t.0 ∙
    sym (append_assoc (text a.0.0) (text2 a.0.0 b.0.0) b.0.1) in
    subst (λ (w : (A × B) × List ℕ). (bytes ≡ (text w.0.0 ++ text2 w.0.0 w.0.1) ++ w.1) ×
    (Fits w.0.0 × Fits2 w.0.0 w.0.1)) (ok_is made (z, rest) b.2) (parts, (s.1, t.1))

then_stuck : {A B : Type 0} (text : A → List ℕ) (Fits : A → Type 0) (read : List ℕ → Read A) (text2 : A → B → List ℕ)
    (Fits2 : A → B → Type 0) (read2 : A → List ℕ → Read B)
    → Form text Fits read → ((x : A) → Fits x → Form (text2 x) (Fits2 x) (read2 x)) →
    ((x : A) → Fits x → (y : B) × Fits2 x y) → (bytes : List ℕ) (left : ℕ) → then_lines read read2 bytes ≡ Err left
    → IsStuck (λ (z : A × B). text z.0 ++ text2 z.0 z.1) (λ (z : A × B). Fits z.0 × Fits2 z.0 z.1) bytes left
then_stuck {A} {B} text Fits read text2 Fits2 read2 p q some bytes left e =
    elim (bind_err (read bytes) (λ x. read2 x.0 x.1 >>= λ y. Ok ((x.0, y.0), y.1)) left e) [
      | inl first ↦
          let s = p.stuck bytes left first in
          let y = some s.begun s.fits in
          record {
            before = s.before;
            rest = s.rest;
            cut = s.cut;
            left_is = s.left_is;
            lines = s.lines;
            begun = (s.begun, y.0);
            fits = (s.fits, y.1);
            more = s.more ++ text2 s.begun y.0;
            begins = ap (λ (w : List ℕ). w ++ text2 s.begun y.0) s.begins ∙
                append_assoc s.before s.more (text2 s.begun y.0);
            fails = λ here behind whole cut z u v fits same. s.fails here behind whole cut z.0 (text2 z.0 z.1 ++ u) v
                fits.0 (sym (append_assoc (text z.0) (text2 z.0 z.1) u) ∙ same);
          }
      | inr a ↦
          let t = p.takes bytes a.0.0 a.0.1 a.1 in
          elim (bind_err (read2 a.0.0 a.0.1) (λ y. Ok ((a.0.0, y.0), y.1)) left a.2) [
            | inl second ↦
                let s = (q a.0.0 t.1).stuck a.0.1 left second in
                record {
                  before = text a.0.0 ++ s.before;
                  rest = s.rest;
                  cut = t.0 ∙ ap (λ (w : List ℕ). text a.0.0 ++ w) s.cut ∙
                      sym (append_assoc (text a.0.0) s.before s.rest);
                  left_is = s.left_is;
                  lines = lines_then (text a.0.0) s.before (p.lines a.0.0 t.1) s.lines;
                  begun = (a.0.0, s.begun);
                  fits = (t.1, s.fits);
                  more = s.more;
                  begins = ap (λ (w : List ℕ). text a.0.0 ++ w) s.begins ∙
                      sym (append_assoc (text a.0.0) s.before s.more);
                  fails = λ here behind whole cut z u v fits same.
                      let left_side : text z.0 ++ (text2 z.0 z.1 ++ u) ≡ text a.0.0 ++ ((s.before ++ here) ++ v) =
                      sym (append_assoc (text z.0) (text2 z.0 z.1) u) ∙ same ∙
                      ap (λ (w : List ℕ). w ++ v) (append_assoc (text a.0.0) s.before here) ∙
                      append_assoc (text a.0.0) (s.before ++ here) v in
                      let one : good (z.0, text2 z.0 z.1 ++ u) ≡ good (a.0.0, (s.before ++ here) ++ v) =
                      sym (p.again z.0 (text2 z.0 z.1 ++ u) fits.0) ∙ ap read left_side ∙
                      p.again a.0.0 ((s.before ++ here) ++ v) t.1 in
                      let pair = ok_is (z.0, text2 z.0 z.1 ++ u) (a.0.0, (s.before ++ here) ++ v) one in
                      let heads : z.0 ≡ a.0.0 = ap (λ (w : A × List ℕ). w.0) pair in
                      let tails : text2 z.0 z.1 ++ u ≡ (s.before ++ here) ++ v = ap (λ (w : A × List ℕ). w.1) pair in
                      let fits2 : Fits2 a.0.0 z.1 = subst (λ (w : A). Fits2 w z.1) heads fits.1 in
                      let tails2 : text2 a.0.0 z.1 ++ u ≡ (s.before ++ here) ++ v =
                      ap (λ (w : A). text2 w z.1 ++ u) (sym heads) ∙ tails in
                      s.fails here behind whole cut z.1 u v fits2 tails2;
                }
            | inr b ↦ absurd (let h = b.2 in cc)
          ]
    ]

pub then_form : {A B : Type 0} (text : A → List ℕ) (Fits : A → Type 0) (read : List ℕ → Read A) (text2 : A → B → List ℕ)
    (Fits2 : A → B → Type 0) (read2 : A → List ℕ → Read B)
    → Form text Fits read → ((x : A) → Fits x → Form (text2 x) (Fits2 x) (read2 x)) →
    ((x : A) → Fits x → (y : B) × Fits2 x y)
    → Form (λ (z : A × B). text z.0 ++ text2 z.0 z.1) (λ (z : A × B). Fits z.0 × Fits2 z.0 z.1) (then_lines read read2)
then_form text Fits read text2 Fits2 read2 p q some = record {
  takes = λ bytes z rest e. then_takes text Fits read text2 Fits2 read2 p q bytes z rest e;
  again = λ z rest fits.
      ap (then_lines read read2) (append_assoc (text z.0) (text2 z.0 z.1) rest) ∙
      rw (p.again z.0 (text2 z.0 z.1 ++ rest) fits.0, (q z.0 fits.0).again z.1 rest fits.1) refl;
  lines = λ z fits. lines_then (text z.0) (text2 z.0 z.1) (p.lines z.0 fits.0) ((q z.0 fits.0).lines z.1 fits.1);
  stuck = λ bytes left e. then_stuck text Fits read text2 Fits2 read2 p q some bytes left e;
}

-- what lines tell, as one value
pub record Makes {A B : Type 0} (text : A → List ℕ) (Fits : A → Type 0) (text2 : B → List ℕ) (Fits2 : B → Type 0)
    (make : A → B) : Type 0 where
  pub fits : (x : A) → Fits x → Fits2 (make x)
  pub same : (x : A) → Fits x → text2 (make x) ≡ text x
  pub back : B → A
  pub back_fits : (y : B) → Fits2 y → Fits (back y)
  pub back_is : (y : B) → Fits2 y → make (back y) ≡ y

pub making_form : {A B : Type 0} (text : A → List ℕ) (Fits : A → Type 0) (read : List ℕ → Read A) (text2 : B → List ℕ)
    (Fits2 : B → Type 0) (make : A → B)
    → Form text Fits read → Makes text Fits text2 Fits2 make → Form text2 Fits2 (making make read)
making_form {A} {B} text Fits read text2 Fits2 make p m =
    let told = λ (y : B) (h : Fits2 y).
    let e : text2 y ≡ text (m.back y) = ap text2 (sym (m.back_is y h)) ∙ m.same (m.back y) (m.back_fits y h) in
    e in
    record {
      takes = λ bytes y rest e.
          let a = bind_ok (read bytes) (λ x. Ok (make x.0, x.1)) (y, rest) e in
          let t = p.takes bytes a.0.0 a.0.1 a.1 in
          let made : B × List ℕ = (make a.0.0, a.0.1) in
          subst (λ (w : B × List ℕ). (bytes ≡ text2 w.0 ++ w.1) × Fits2 w.0) (ok_is made (y, rest) a.2)
          (t.0 ∙ ap (λ (w : List ℕ). w ++ a.0.1) (sym (m.same a.0.0 t.1)), m.fits a.0.0 t.1);
      again = λ y rest h.
          ap (making make read) (ap (λ (w : List ℕ). w ++ rest) (told y h)) ∙
          rw (p.again (m.back y) rest (m.back_fits y h)) (ap (λ (w : B). Ok (w, rest)) (m.back_is y h));
      lines = λ y h. subst AreLines (sym (told y h)) (p.lines (m.back y) (m.back_fits y h));
      stuck = λ bytes left e.
          elim (bind_err (read bytes) (λ x. Ok (make x.0, x.1)) left e) [
            | inl first ↦
                let s = p.stuck bytes left first in
                record {
                  before = s.before;
                  rest = s.rest;
                  cut = s.cut;
                  left_is = s.left_is;
                  lines = s.lines;
                  begun = make s.begun;
                  fits = m.fits s.begun s.fits;
                  more = s.more;
                  begins = m.same s.begun s.fits ∙ s.begins;
                  fails = λ here behind whole cut y u v h same. s.fails here behind whole cut (m.back y) u v
                      (m.back_fits y h) (ap (λ (w : List ℕ). w ++ u) (sym (told y h)) ∙ same);
                }
            | inr b ↦ absurd (let h = b.2 in cc)
          ];
    }
