-- Names: what is taken is the form in which a name is printed, and a name is read again from it.
use Rattle.report_read.proofs.Common.{◌≡◌, ℕ, zero, suc, ◌+◌, ◌-◌, ◌*◌, ◌<◌, ◌≤◌, ◌/◌, ◌%◌, true, false, cond, nat_lt}
use Rattle.report_read.proofs.Common.{nat_le, ◌==◌, ◌&&◌, ◌||◌, ◌⊎◌, List, [], ◌∷◌, ◌++◌, length, codes, Some, None}
use Rattle.report_read.proofs.Common.{refl, sym, ap, ◌∙◌, subst, arith, append_assoc, length-append, inl, inr, IsUtf8}
use Rattle.report_read.proofs.Common.{flat_map, cases_lt, false_from_ne_true, nat_tests, hex_of, stands_as_is, escaped}
use Rattle.report_read.proofs.Common.{◌>>=◌, behind, is_ascii_digit, hex_value, two_digits, control_at, backslashed_at}
use Rattle.report_read.proofs.Common.{escaped_at, closed_within, text_only, name_at}
use Rattle.std.specs.Str.{is_utf8}
use Rattle.std.proofs.lemmas.Str.{IsUtf8-from_is_utf8, is_utf8-from_IsUtf8}
use Rattle.report_read.proofs.Reading.{bind_some, if_some, some_is, behind_takes, is_inline, inline_append, IsReader}

-- ---- hexadecimal digits

pub record IsHex (h x : ℕ) : Type 0 where
  pub below : x < 16
  pub digit : h ≡ hex_of x

low_hex : (x : ℕ) → x < 10 → hex_of x ≡ 48 + x
low_hex x h = grind (arith, nat_tests)

high_hex : (x : ℕ) → 10 ≤ x → hex_of x ≡ 97 + (x - 10)
high_hex x h = grind (arith, nat_tests)

hex_takes : (h x : ℕ) → hex_value h ≡ Some x → IsHex h x
hex_takes h x e =
    elim (is_ascii_digit h) as (λ t. is_ascii_digit h ≡ t →
    cond t (Some (h - 48)) (cond (nat_le 97 h && nat_le h 102) (Some (h - 87)) None) ≡ Some x → IsHex h x) [
      | true ↦ λ t f.
          let same : h - 48 ≡ x = some_is (h - 48) x f in
          let low : 48 ≤ h = grind (arith, nat_tests) in
          let high : h ≤ 57 = grind (arith, nat_tests) in
          record { below = omega arith; digit = sym (low_hex x (omega arith) ∙ omega arith) }
      | false ↦ λ t f.
          let g = if_some (nat_le 97 h && nat_le h 102) (Some (h - 87)) x f in
          let test = g.0 in
          let same : h - 87 ≡ x = some_is (h - 87) x g.1 in
          let low : 97 ≤ h = grind (arith, nat_tests) in
          let high : h ≤ 102 = grind (arith, nat_tests) in
          record { below = omega arith; digit = sym (high_hex x (omega arith) ∙ omega arith) }
    ] refl e

hex_again : (x : ℕ) → x < 16 → hex_value (hex_of x) ≡ Some x
hex_again x h =
    elim (cases_lt x 10) [
      | inl low ↦
          let t : is_ascii_digit (48 + x) ≡ true = grind (arith, nat_tests) in
          let d : 48 + x - 48 ≡ x = omega arith in
          ap hex_value (low_hex x low) ∙ rw (t, d) refl
      | inr high ↦
          let f : is_ascii_digit (97 + (x - 10)) ≡ false = grind (arith, nat_tests) in
          let t : (nat_le 97 (97 + (x - 10)) && nat_le (97 + (x - 10)) 102) ≡ true = grind (arith, nat_tests) in
          let d : 97 + (x - 10) - 87 ≡ x = omega arith in
          ap hex_value (high_hex x high) ∙ rw (f, t, d) refl
    ]

pub record IsControl (bytes : List ℕ) (b : ℕ) (rest : List ℕ) : Type 0 where
  pub below : b < 32
  pub digits : bytes ≡ hex_of (b / 16) ∷ hex_of (b % 16) ∷ rest

digits_take : (bytes : List ℕ) (x : ℕ × List ℕ) → two_digits bytes ≡ Some x → IsControl bytes x.0 x.1
digits_take [] x e = absurd cc
digits_take (h ∷ []) x e = absurd cc
digits_take (h ∷ l ∷ bs) x e =
    let a = bind_some (hex_value h)
    (λ high. hex_value l >>= λ low. cond (nat_lt high 2) (Some (16 * high + low, bs)) None) x e in
    let b = bind_some (hex_value l) (λ low. cond (nat_lt a.0 2) (Some (16 * a.0 + low, bs)) None) x a.2 in
    let g = if_some (nat_lt a.0 2) (Some (16 * a.0 + b.0, bs)) x b.2 in
    let test = g.0 in
    let few : a.0 < 2 = grind (arith, nat_tests) in
    let p = hex_takes h a.0 a.1 in
    let q = hex_takes l b.0 b.1 in
    let high : (16 * a.0 + b.0) / 16 ≡ a.0 = omega (arith, q.below) in
    let low : (16 * a.0 + b.0) % 16 ≡ b.0 = omega (arith, q.below) in
    let heads : h ∷ l ∷ bs ≡ hex_of ((16 * a.0 + b.0) / 16) ∷ hex_of ((16 * a.0 + b.0) % 16) ∷ bs =
    ap (λ (k : ℕ). k ∷ l ∷ bs) (p.digit ∙ ap hex_of (sym high)) ∙
    ap (λ (k : ℕ). hex_of ((16 * a.0 + b.0) / 16) ∷ k ∷ bs) (q.digit ∙ ap hex_of (sym low)) in
    subst (λ (w : ℕ × List ℕ). IsControl (h ∷ l ∷ bs) w.0 w.1) (some_is (16 * a.0 + b.0, bs) x g.1)
    (record { below = omega (arith, q.below); digits = heads })

digits_again : (b : ℕ) (rest : List ℕ) → b < 32 → two_digits (hex_of (b / 16) ∷ hex_of (b % 16) ∷ rest) ≡ Some (b, rest)
digits_again b rest h =
    let t : nat_lt (b / 16) 2 ≡ true = grind (arith, nat_tests) in
    let d : 16 * (b / 16) + b % 16 ≡ b = omega arith in
    rw (hex_again (b / 16) (omega arith), hex_again (b % 16) (omega arith), t, d) refl

-- ---- one byte

escaped-plain : (b : ℕ) → stands_as_is b ≡ true → escaped b ≡ b ∷ []
unfolding escaped
escaped-plain b h = rw h refl

not_plain : (b : ℕ) → b < 32 → stands_as_is b ≡ false
not_plain b h = grind (arith, nat_tests)

escaped-control : (b : ℕ) → b < 32 → escaped b ≡ 92 ∷ 117 ∷ 48 ∷ 48 ∷ hex_of (b / 16) ∷ hex_of (b % 16) ∷ []
unfolding escaped
escaped-control b h = let t : nat_lt b 32 ≡ true = grind (arith, nat_tests) in rw (not_plain b h, t) refl

escaped-behind : (b : ℕ) → stands_as_is b ≡ false → 32 ≤ b → escaped b ≡ 92 ∷ b ∷ []
unfolding escaped
escaped-behind b h high = let t : nat_lt b 32 ≡ false = grind (arith, nat_tests) in rw (h, t) refl

-- how a byte is printed
pub data Way (b : ℕ) : Type 0 where
  Plain : stands_as_is b ≡ true → Way b
  Control : b < 32 → Way b
  Behind : stands_as_is b ≡ false → 32 ≤ b → Way b

pub way : (b : ℕ) → Way b
way b =
    elim (stands_as_is b) as (λ s. stands_as_is b ≡ s → Way b) [
      | true ↦ λ h. Plain h
      | false ↦ λ h. elim (cases_lt b 32) [ inl low ↦ Control low | inr high ↦ Behind h high ]
    ] refl

quote_or_backslash : (b : ℕ) → stands_as_is b ≡ false → 32 ≤ b → (b ≡ 34) ⊎ (b ≡ 92)
quote_or_backslash b h high =
    elim (b == 34) as (λ t. (b == 34) ≡ t → (b ≡ 34) ⊎ (b ≡ 92)) [
      | true ↦ λ t. inl (grind (arith, nat_tests))
      | false ↦ λ t. inr (grind (arith, nat_tests))
    ] refl

behind_take : (bs : List ℕ) (x : ℕ × List ℕ) → backslashed_at bs ≡ Some x → 92 ∷ bs ≡ escaped x.0 ++ x.1
unfolding backslashed_at control_at escaped
behind_take [] x e = absurd cc
behind_take (c ∷ cs) x e =
    elim (c == 34 || c == 92) as (λ t. (c == 34 || c == 92) ≡ t →
    cond t (Some (c, cs)) (cond (c == 117) (control_at cs) None) ≡ Some x → 92 ∷ c ∷ cs ≡ escaped x.0 ++ x.1) [
      | true ↦ λ t f.
          let high : 32 ≤ c = grind (arith, nat_tests) in
          let other : stands_as_is c ≡ false = grind (arith, nat_tests) in
          subst (λ (w : ℕ × List ℕ). 92 ∷ c ∷ cs ≡ escaped w.0 ++ w.1) (some_is (c, cs) x f)
          (ap (λ (z : List ℕ). z ++ cs) (sym (escaped-behind c other high)))
      | false ↦ λ t f.
          let g = if_some (c == 117) (control_at cs) x f in
          let letter : c ≡ 117 = grind (arith, nat_tests, g.0) in
          let a = bind_some (behind (codes "00") cs) two_digits x g.1 in
          let zeros = behind_takes (codes "00") cs a.0 a.1 in
          let d = digits_take a.0 x a.2 in
          ap (λ (k : ℕ). 92 ∷ k ∷ cs) letter ∙ ap (λ (z : List ℕ). 92 ∷ 117 ∷ z) zeros ∙
          ap (λ (z : List ℕ). 92 ∷ 117 ∷ 48 ∷ 48 ∷ z) d.digits
          ∙ ap (λ (z : List ℕ). z ++ x.1) (sym (escaped-control x.0 d.below))
    ] refl e

pub escaped_take : (bytes : List ℕ) (x : ℕ × List ℕ) → escaped_at bytes ≡ Some x → bytes ≡ escaped x.0 ++ x.1
unfolding escaped_at
escaped_take [] x e = absurd cc
escaped_take (b ∷ bs) x e =
    elim (stands_as_is b) as (λ t. stands_as_is b ≡ t →
    cond t (Some (b, bs)) (cond (b == 92) (backslashed_at bs) None) ≡ Some x → b ∷ bs ≡ escaped x.0 ++ x.1) [
      | true ↦ λ t f. subst (λ (w : ℕ × List ℕ). b ∷ bs ≡ escaped w.0 ++ w.1) (some_is (b, bs) x f)
          (ap (λ (z : List ℕ). z ++ bs) (sym (escaped-plain b t)))
      | false ↦ λ t f.
          let g = if_some (b == 92) (backslashed_at bs) x f in
          let same : b ≡ 92 = grind (arith, nat_tests, g.0) in
          ap (λ (k : ℕ). k ∷ bs) same ∙ behind_take bs x g.1
    ] refl e

again_by : (b : ℕ) (rest : List ℕ) → Way b → escaped_at (escaped b ++ rest) ≡ Some (b, rest)
unfolding escaped_at backslashed_at control_at behind
again_by b rest (Plain h) = ap (λ (z : List ℕ). escaped_at (z ++ rest)) (escaped-plain b h) ∙ rw h refl
again_by b rest (Control h) = ap (λ (z : List ℕ). escaped_at (z ++ rest)) (escaped-control b h) ∙ digits_again b rest h
again_by b rest (Behind h high) =
    let t : (b == 34 || b == 92) ≡ true =
    elim (quote_or_backslash b h high) [
      | inl q ↦ ap (λ (k : ℕ). k == 34 || k == 92) q
      | inr q ↦
          ap (λ (k : ℕ). k == 34 || k == 92) q
    ] in
    ap (λ (z : List ℕ). escaped_at (z ++ rest)) (escaped-behind b h high) ∙ rw t refl

pub escaped_again : (b : ℕ) (rest : List ℕ) → escaped_at (escaped b ++ rest) ≡ Some (b, rest)
escaped_again b rest = again_by b rest (way b)

-- no printed byte begins with a quote
pub record Begins (text : List ℕ) : Type 0 where
  pub first : ℕ
  pub others : List ℕ
  pub is : text ≡ first ∷ others
  pub no_quote : (first == 34) ≡ false

begins_by : (b : ℕ) → Way b → Begins (escaped b)
begins_by b (Plain h) = record { first = b; others = []; is = escaped-plain b h; no_quote = grind (arith, nat_tests) }
begins_by b (Control h) = record { first = 92; others = _; is = escaped-control b h; no_quote = refl }
begins_by b (Behind h high) = record { first = 92; others = _; is = escaped-behind b h high; no_quote = refl }

hex_low : (x : ℕ) → nat_le 32 (hex_of x) ≡ true
hex_low x = grind (arith, nat_tests)

inline_by : (b : ℕ) → Way b → is_inline (escaped b) ≡ true
inline_by b (Plain h) = ap is_inline (escaped-plain b h) ∙ grind (arith, nat_tests)
inline_by b (Control h) = ap is_inline (escaped-control b h) ∙ rw (hex_low (b / 16), hex_low (b % 16)) refl
inline_by b (Behind h high) = let t : nat_le 32 b ≡ true = grind (arith, nat_tests) in
    ap is_inline (escaped-behind b h high) ∙ rw t refl

-- ---- names

closed_take : (most : ℕ) (bytes : List ℕ) (x : List ℕ × List ℕ) → closed_within most bytes ≡ Some x →
    bytes ≡ flat_map escaped x.0 ++ 34 ∷ x.1
unfolding closed_within
closed_take zero bytes x e = absurd cc
closed_take (suc most) [] x e = absurd cc
closed_take (suc most) (b ∷ bs) x e =
    elim (b == 34) as (λ t. (b == 34) ≡ t →
    cond t (Some ([], bs)) (escaped_at (b ∷ bs) >>= λ y. closed_within most y.1 >>= λ ys. Some (y.0 ∷ ys.0, ys.1))
    ≡ Some x → b ∷ bs ≡ flat_map escaped x.0 ++ 34 ∷ x.1) [
      | true ↦ λ t f.
          let quote : b ≡ 34 = grind (arith, nat_tests) in
          subst (λ (w : List ℕ × List ℕ). b ∷ bs ≡ flat_map escaped w.0 ++ 34 ∷ w.1) (some_is ([], bs) x f)
          (ap (λ (k : ℕ). k ∷ bs) quote)
      | false ↦ λ t f.
          let a = bind_some (escaped_at (b ∷ bs)) (λ y. closed_within most y.1 >>= λ ys. Some (y.0 ∷ ys.0, ys.1)) x f in
          let c = bind_some (closed_within most a.0.1) (λ ys. Some (a.0.0 ∷ ys.0, ys.1)) x a.2 in
          let s = escaped_take (b ∷ bs) a.0 a.1 in
          let r = closed_take most a.0.1 c.0 c.1 in
          subst (λ (w : List ℕ × List ℕ). b ∷ bs ≡ flat_map escaped w.0 ++ 34 ∷ w.1)
          (some_is (a.0.0 ∷ c.0.0, c.0.1) x c.2)
          (s ∙ ap (λ (z : List ℕ). escaped a.0.0 ++ z) r ∙
          sym (append_assoc (escaped a.0.0) (flat_map escaped c.0.0) (34 ∷ c.0.1)))
    ] refl e

-- one step of reading a name
one_byte : (most : ℕ) (text rest : List ℕ) (y : ℕ) → Begins text → escaped_at (text ++ rest) ≡ Some (y, rest)
    → closed_within (suc most) (text ++ rest) ≡ (closed_within most rest >>= λ ys. Some (y ∷ ys.0, ys.1))
unfolding closed_within
one_byte most text rest y b e =
    let other = b.no_quote in
    let known : escaped_at (b.first ∷ (b.others ++ rest)) ≡ Some (y, rest) =
    ap (λ (z : List ℕ). escaped_at (z ++ rest)) (sym b.is) ∙ e in
    ap (λ (z : List ℕ). closed_within (suc most) (z ++ rest)) b.is ∙ rw (other, known) refl

closed_again : (most : ℕ) (name rest : List ℕ) → length name < most →
    closed_within most (flat_map escaped name ++ 34 ∷ rest) ≡ Some (name, rest)
unfolding closed_within
closed_again zero name rest h = absurd (omega arith)
closed_again (suc most) [] rest h = refl
closed_again (suc most) (y ∷ ys) rest h =
    ap (closed_within (suc most)) (append_assoc (escaped y) (flat_map escaped ys) (34 ∷ rest))
    ∙ one_byte most (escaped y) (flat_map escaped ys ++ 34 ∷ rest) y (begins_by y (way y))
    (escaped_again y (flat_map escaped ys ++ 34 ∷ rest))
    ∙ rw (closed_again most ys rest (omega arith)) refl

some_byte : (text : List ℕ) → Begins text → 1 ≤ length text
some_byte text b = rw (b.is) (omega arith)

long_enough : (name : List ℕ) → length name ≤ length (flat_map escaped name)
long_enough [] = omega arith
long_enough (y ∷ ys) =
    let one = some_byte (escaped y) (begins_by y (way y)) in
    let others = long_enough ys in
    let whole = length-append (escaped y) (flat_map escaped ys) in
    omega arith

name_inline : (name : List ℕ) → is_inline (flat_map escaped name) ≡ true
name_inline [] = refl
name_inline (y ∷ ys) = inline_append (escaped y) (flat_map escaped ys) (inline_by y (way y)) (name_inline ys)

name_again : (name rest : List ℕ) → IsUtf8 name → name_at (flat_map escaped name ++ 34 ∷ rest) ≡ Some (name, rest)
unfolding name_at
name_again name rest utf8 =
    let long : length name < length (flat_map escaped name ++ 34 ∷ rest) =
    omega (arith, long_enough name, length-append (flat_map escaped name) (34 ∷ rest)) in
    rw (closed_again (length (flat_map escaped name ++ 34 ∷ rest)) name rest long, is_utf8-from_IsUtf8 name utf8) refl

pub name_reads : IsReader (λ name. flat_map escaped name ++ 34 ∷ []) IsUtf8 name_at
unfolding name_at
name_reads = record {
  takes = λ bytes name rest e.
      let a = bind_some (closed_within (length bytes) bytes) text_only (name, rest) e in
      let t = if_some (is_utf8 a.0.0) (Some a.0) (name, rest) a.2 in
      let made : bytes ≡ (flat_map escaped a.0.0 ++ 34 ∷ []) ++ a.0.1 =
      closed_take (length bytes) bytes a.0 a.1 ∙ sym (append_assoc (flat_map escaped a.0.0) (34 ∷ []) a.0.1) in
      subst (λ (w : List ℕ × List ℕ). (bytes ≡ (flat_map escaped w.0 ++ 34 ∷ []) ++ w.1) × IsUtf8 w.0)
      (some_is a.0 (name, rest) t.1) (made, IsUtf8-from_is_utf8 a.0.0 t.0);
  again = λ name rest utf8 stops. ap name_at (append_assoc (flat_map escaped name) (34 ∷ []) rest) ∙
      name_again name rest utf8;
  inline = λ name utf8. inline_append (flat_map escaped name) (34 ∷ []) (name_inline name) refl;
}

pub name_found : (bytes name rest : List ℕ) → closed_within (length bytes) bytes ≡ Some (name, rest) → IsUtf8 name →
    name_at bytes ≡ Some (name, rest)
unfolding name_at
name_found bytes name rest e utf8 = rw (e, is_utf8-from_IsUtf8 name utf8) refl

pub name_bad : (bytes name rest : List ℕ) → closed_within (length bytes) bytes ≡ Some (name, rest) → (IsUtf8 name → ⊥) →
    name_at bytes ≡ None
unfolding name_at
name_bad bytes name rest e bad =
    let t : is_utf8 name ≡ false = false_from_ne_true (is_utf8 name) (λ yes. bad (IsUtf8-from_is_utf8 name yes)) in
    rw (e, t) refl
