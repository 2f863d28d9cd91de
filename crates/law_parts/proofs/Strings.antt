-- What a string says is UTF-8: the text so far and the bytes that are still to be read are UTF-8 together.
use Rattle.law_parts.proofs.ReaderNames.{◌≡◌, ℕ, zero, suc, ◌+◌, ◌-◌, ◌*◌, ◌<◌, ◌≤◌, Bool, true, false, cond, List, []}
use Rattle.law_parts.proofs.ReaderNames.{◌∷◌}
use Rattle.law_parts.proofs.ReaderNames.{◌++◌, length, min, get_or, take, drop, Option, Some, None, refl, sym, ap, ◌∙◌}
use Rattle.law_parts.proofs.ReaderNames.{subst, arith, inl, inr, ◌⊎◌, append_assoc, length-append, nat_tests}
use Rattle.law_parts.proofs.ReaderNames.{get_or-append_right, get_or-drop, get_or-take, length-take, take-append-le}
use Rattle.law_parts.proofs.ReaderNames.{take_all, IsUtf8-encode, IsUtf8-append, IsUtf8-take, IsUtf8-drop}
use Rattle.law_parts.proofs.ReaderNames.{IsUtf8-from_is_utf8, IsCharBoundary-before_ascii, IsCharBoundary-after_ascii}
use Rattle.law_parts.proofs.ReaderNames.{encode_utf8, IsScalar, IsUtf8, nat_lt, nat_eq, option_map, option_and_then}
use Rattle.law_parts.proofs.ReaderNames.{slice_index, is_utf8}
unfoldable use Rattle.text_tokens.specs.Strings.{
  short_of,
  hex_of,
  four,
  unit_at,
  pair,
  second_at,
  unit_piece,
  escape_at,
  piece_at,
  string_from,
  string_of,
}
use Rattle.text_tokens.specs.Strings.{is_high, is_low, Piece, after_piece}
use Rattle.std.proofs.Math.Utf8.{low_scalar}
use Rattle.std.proofs.lemmas.Str.{encode_ascii}

-- ---- what has a value

and_then_some : {A B : Type 0} (f : A → Option B) (o : Option A) (y : B) → option_and_then f o ≡ Some y →
    (x : A) × (o ≡ Some x) × (f x ≡ Some y)
and_then_some f None y e = absurd cc
and_then_some f (Some x) y e = (x, refl, e)

map_some : {A B : Type 0} (f : A → B) (o : Option A) (y : B) → option_map f o ≡ Some y →
    (x : A) × (o ≡ Some x) × (f x ≡ y)
map_some f None y e = absurd cc
map_some f (Some x) y e = (x, refl, cc)

if_none : {A : Type 0} (t : Bool) (o : Option A) (y : A) → cond t None o ≡ Some y → (t ≡ false) × (o ≡ Some y)
if_none true o y e = absurd cc
if_none false o y e = (refl, e)

if_some : {A : Type 0} (t : Bool) (o : Option A) (y : A) → cond t o None ≡ Some y → (t ≡ true) × (o ≡ Some y)
if_some true o y e = (refl, e)
if_some false o y e = absurd cc

-- ---- digits and letters are ASCII

hex_small : (x n : ℕ) → hex_of x ≡ Some n → (x < 128) × (n < 16)
unfolding hex_of
hex_small x n e = (grind (arith, nat_tests), grind (arith, nat_tests))

short_small : (x n : ℕ) → short_of x ≡ Some n → (x < 128) × (n < 128)
unfolding short_of
short_small x n e = (grind (arith, nat_tests), grind (arith, nat_tests))

four_small : (a b c d n : ℕ) → four a b c d ≡ Some n → (n < 65536) × (d < 128)
unfolding four
four_small a b c d n e =
    let w = and_then_some _ (hex_of a) n e in
    let x = and_then_some _ (hex_of b) n w.2 in
    let y = and_then_some _ (hex_of c) n x.2 in
    let z = map_some _ (hex_of d) n y.2 in
    let is : 4096 * w.0 + 256 * x.0 + 16 * y.0 + z.0 ≡ n = z.2 in
    let first = (hex_small a w.0 w.1).1 in
    let second = (hex_small b x.0 x.1).1 in
    let third = (hex_small c y.0 y.1).1 in
    let last = hex_small d z.0 z.1 in
    (omega (arith, is, first, second, third, last.1), last.0)

unit_small : (bs : List ℕ) (n : ℕ) → unit_at bs ≡ Some n → (n < 65536) × (slice_index bs 3 < 128)
unfolding unit_at
unit_small bs n e = four_small _ _ _ (slice_index bs 3) n (if_none (nat_lt (length bs) 4) _ n e).1

-- ---- escapes

-- behind a backslash: a piece that is ASCII to its end, and says whole characters
record IsEscape (bs : List ℕ) (p : Piece) : Type 0 where
  pub some : 2 ≤ p.1
  pub last : slice_index bs (p.1 - 2) < 128
  pub says : IsUtf8 p.0

ascii_says : (b : ℕ) → b < 128 → IsUtf8 (b ∷ [])
ascii_says b lt = subst IsUtf8 (encode_ascii b lt) (IsUtf8-encode b (low_scalar b (omega (arith, lt))))

second_small : (bs : List ℕ) (n : ℕ) → second_at bs ≡ Some n → slice_index bs 5 < 128
unfolding second_at
second_small bs n e =
    let found = (if_some _ (unit_at (drop 2 bs)) n e).1 in
    let small = (unit_small (drop 2 bs) n found).1 in
    let same = get_or-drop 2 bs 3 0 in
    omega (arith, small, same)

high_scalar : (u low : ℕ) → is_high u ≡ true → is_low low ≡ true → IsScalar (65536 + 1024 * (u - 55296) + (low - 56320))
high_scalar u low h l = grind (arith, nat_tests)

other_scalar : (u : ℕ) → u < 65536 → is_high u ≡ false → is_low u ≡ false → IsScalar u
other_scalar u lt h l = grind (arith, nat_tests)

-- what two surrogates, or one unit, say
record IsUnit (bs : List ℕ) (p : Piece) : Type 0 where
  pub says : IsUtf8 p.0
  pub len : (p.1 ≡ 6) ⊎ ((p.1 ≡ 12) × (slice_index bs 5 < 128))

pair_says : (u : ℕ) (bs : List ℕ) (second : Option ℕ) (p : Piece) → is_high u ≡ true → second_at bs ≡ second →
    pair u second ≡ Some p → IsUnit bs p
unfolding pair
pair_says u bs None p h s e = absurd cc
pair_says u bs (Some low) p h s e =
    let found = if_some (is_low low) (Some (encode_utf8 (65536 + 1024 * (u - 55296) + (low - 56320)), 12)) p e in
    let is : (encode_utf8 (65536 + 1024 * (u - 55296) + (low - 56320)), 12) ≡ p = cc in
    subst (IsUnit bs) is
    (record { says = IsUtf8-encode _ (high_scalar u low h found.0); len = inr (refl, second_small bs low s) })

unit_says : (u : ℕ) (bs : List ℕ) (p : Piece) → u < 65536 → unit_piece u bs ≡ Some p → IsUnit bs p
unfolding unit_piece
unit_says u bs p lt e = by_high (is_high u) refl e
  where
    by_high : (t : Bool) → is_high u ≡ t →
        cond t (pair u (second_at bs)) (cond (is_low u) None (Some (encode_utf8 u, 6))) ≡ Some p → IsUnit bs p
    by_high true h f = pair_says u bs (second_at bs) p h refl f
    by_high false h f =
        let found = if_none (is_low u) (Some (encode_utf8 u, 6)) p f in
        let is : (encode_utf8 u, 6) ≡ p = cc in
        subst (IsUnit bs) is (record { says = IsUtf8-encode u (other_scalar u lt h found.0); len = inl refl })

long_escape : (bs : List ℕ) (p : Piece) → slice_index (drop 1 bs) 3 < 128 → IsUnit (drop 5 bs) p → IsEscape bs p
long_escape bs p lt h =
    let near = get_or-drop 1 bs 3 0 in
    let far = get_or-drop 5 bs 5 0 in
    elim h.len [
      | inl short ↦ record {
        some = omega (arith, short);
        last = subst (λ (n : ℕ). slice_index bs (n - 2) < 128) (sym short) (omega (arith, lt, near));
        says = h.says;
      }
      | inr long ↦ (let here = long.1 in record {
        some = omega (arith, long.0);
        last = subst (λ (n : ℕ). slice_index bs (n - 2) < 128) (sym long.0) (omega (arith, here, far));
        says = h.says;
      })
    ]

abbrev short_piece : ℕ → Piece
short_piece b = (b ∷ [], 2)

is_escape : (bs : List ℕ) (p : Piece) → escape_at bs ≡ Some p → IsEscape bs p
unfolding escape_at
is_escape bs p e = by_letter (nat_eq (slice_index bs 0) 117) e
  where
    by_letter : (t : Bool) → cond t (option_and_then (λ u. unit_piece u (drop 5 bs)) (unit_at (drop 1 bs)))
        (option_map (λ x. (x ∷ [], 2)) (short_of (slice_index bs 0))) ≡ Some p → IsEscape bs p
    by_letter true f =
        let u = and_then_some (λ u. unit_piece u (drop 5 bs)) (unit_at (drop 1 bs)) p f in
        let small = unit_small (drop 1 bs) u.0 u.1 in
        long_escape bs p small.1 (unit_says u.0 (drop 5 bs) p small.0 u.2)
    by_letter false f =
        let x = map_some short_piece (short_of (slice_index bs 0)) p f in
        let small = short_small (slice_index bs 0) x.0 x.1 in
        subst (IsEscape bs) x.2 (record { some = omega arith; last = small.0; says = ascii_says x.0 small.1 })

-- ---- the text so far, and the bytes that are still to be read, are UTF-8 together

take-front : (xs ys : List ℕ) → take (length xs) (xs ++ ys) ≡ xs
take-front xs ys = take-append-le (length xs) xs ys (omega arith) ∙ take_all (length xs) xs (omega arith)

drop-past : (xs ys : List ℕ) (k n : ℕ) → n ≡ length xs + k → drop n (xs ++ ys) ≡ drop k ys
drop-past [] ys k n e = ap (λ (i : ℕ). drop i ys) (omega arith)
drop-past (x ∷ xs) ys k zero e = absurd (omega arith)
drop-past (x ∷ xs) ys k (suc n) e = drop-past xs ys k n (omega arith)

get_or-past : (xs ys : List ℕ) (i n : ℕ) → n ≡ length xs + i → get_or (xs ++ ys) n 0 ≡ get_or ys i 0
get_or-past xs ys i n e = get_or-append_right xs ys (length xs) n 0 refl (omega arith) ∙
    ap (λ (j : ℕ). get_or ys j 0) (omega arith)

-- bytes that are ASCII at both ends give way to what they say
escape_keeps : (text rest says : List ℕ) (k : ℕ) → IsUtf8 (text ++ rest) → 0 < k → k ≤ length rest →
    get_or rest 0 0 < 128 → get_or rest (k - 1) 0 < 128 → IsUtf8 says → IsUtf8 ((text ++ says) ++ drop k rest)
escape_keeps text rest says k u some within first last h =
    let len = length-append text rest in
    let i = length text + (k - 1) in
    let here : get_or (text ++ rest) (length text) 0 ≡ get_or rest 0 0 =
    get_or-past text rest 0 (length text) (omega arith) in
    let there : get_or (text ++ rest) i 0 ≡ get_or rest (k - 1) 0 = get_or-past text rest (k - 1) i refl in
    let front : IsUtf8 text = subst IsUtf8 (take-front text rest)
    (IsUtf8-take (text ++ rest) (length text) u
    (IsCharBoundary-before_ascii (text ++ rest) (length text) (omega (arith, len)) (omega (arith, here)))) in
    let back : IsUtf8 (drop k rest) = subst IsUtf8 (drop-past text rest k (i + 1) (omega arith))
    (IsUtf8-drop (text ++ rest) (i + 1) u
    (IsCharBoundary-after_ascii (text ++ rest) i u (omega (arith, len)) (omega (arith, there)))) in
    IsUtf8-append (text ++ says) (drop k rest) (IsUtf8-append text says front h) back

-- ---- piece by piece

drop_take : (k m n : ℕ) (xs : List ℕ) → n ≡ k + m → drop k (take n xs) ≡ take m (drop k xs)
drop_take zero m n xs e = ap (λ (i : ℕ). take i xs) (omega (arith, e))
drop_take (suc k) m zero xs e = absurd (omega (arith, e))
drop_take (suc k) zero (suc n) [] e = refl
drop_take (suc k) (suc m) (suc n) [] e = refl
drop_take (suc k) m (suc n) (x ∷ xs) e = drop_take k m n xs (omega (arith, e))

drop_past_one : (k b : ℕ) (bs : List ℕ) → 1 ≤ k → drop k (b ∷ bs) ≡ drop (k - 1) bs
drop_past_one zero b bs some = absurd (omega (arith, some))
drop_past_one (suc k) b bs some = ap (λ (i : ℕ). drop i bs) (omega arith)

get_or_past_one : (k b : ℕ) (bs : List ℕ) → 2 ≤ k → get_or (b ∷ bs) (k - 1) 0 ≡ get_or bs (k - 2) 0
get_or_past_one k b bs some =
    let one : k - 1 ≡ suc (k - 2) = omega (arith, some) in
    ap (λ (i : ℕ). get_or (b ∷ bs) i 0) one

-- a string goes on behind what is passed
goes_on : (passing : ℕ) (bs : List ℕ) (q : Piece) → string_from passing bs ≡ Some q → passing < length bs
unfolding string_from
goes_on passing [] q e = absurd cc
goes_on zero (b ∷ bs) q e = omega arith
goes_on (suc passing) (b ∷ bs) q e = let h = goes_on passing bs q e in omega (arith, h)

is_backslash : (b : ℕ) → nat_eq b 92 ≡ true → b ≡ 92
is_backslash b e = grind (arith, nat_tests)

escape_kept : (b : ℕ) (bs text : List ℕ) (p : Piece) (m : ℕ) → b ≡ 92 → IsEscape bs p → p.1 - 1 < length bs →
    IsUtf8 (text ++ take (p.1 + m) (b ∷ bs)) → IsUtf8 ((text ++ p.0) ++ take m (drop (p.1 - 1) bs))
escape_kept b bs text p m is h inside u =
    let rest : List ℕ = take (p.1 + m) (b ∷ bs) in
    let some = h.some in
    let long : length rest ≡ min (p.1 + m) (length (b ∷ bs)) = length-take (p.1 + m) (b ∷ bs) in
    let first : get_or rest 0 0 ≡ b = get_or-take (p.1 + m) (b ∷ bs) 0 0 (omega (arith, some)) in
    let last : get_or rest (p.1 - 1) 0 ≡ get_or bs (p.1 - 2) 0 =
    get_or-take (p.1 + m) (b ∷ bs) (p.1 - 1) 0 (omega (arith, some)) ∙ get_or_past_one p.1 b bs some in
    let small = h.last in
    let kept = escape_keeps text rest p.0 p.1 u (omega (arith, some)) (omega (arith, long, inside, some))
    (omega (arith, first, is)) (omega (arith, last, small)) h.says in
    subst (λ (r : List ℕ). IsUtf8 ((text ++ p.0) ++ r))
    (drop_take p.1 m (p.1 + m) (b ∷ bs) refl ∙ ap (take m) (drop_past_one p.1 b bs (omega (arith, some)))) kept

plain_kept : (b : ℕ) (bs text : List ℕ) (m : ℕ) → IsUtf8 (text ++ take (1 + m) (b ∷ bs)) →
    IsUtf8 ((text ++ b ∷ []) ++ take m bs)
plain_kept b bs text m u =
    let one : 1 + m ≡ suc m = omega arith in
    let here : IsUtf8 (text ++ (b ∷ take m bs)) = subst (λ (n : ℕ). IsUtf8 (text ++ take n (b ∷ bs))) one u in
    subst IsUtf8 (sym (append_assoc text (b ∷ []) (take m bs))) here

piece_kept : (b : ℕ) (bs text : List ℕ) (p : Piece) (m : ℕ) → piece_at b (b ∷ bs) ≡ Some p → p.1 - 1 < length bs →
    IsUtf8 (text ++ take (p.1 + m) (b ∷ bs)) → IsUtf8 ((text ++ p.0) ++ take m (drop (p.1 - 1) bs))
unfolding piece_at
piece_kept b bs text p m e inside u = by_backslash (nat_eq b 92) refl e
  where
    by_backslash : (t : Bool) → nat_eq b 92 ≡ t →
        cond t (escape_at bs) (cond (nat_lt b 32) None (Some (b ∷ [], 1))) ≡ Some p →
        IsUtf8 ((text ++ p.0) ++ take m (drop (p.1 - 1) bs))
    by_backslash true t f = escape_kept b bs text p m (is_backslash b t) (is_escape bs p f) inside u
    by_backslash false t f =
        let found = if_none (nat_lt b 32) (Some (b ∷ [], 1)) p f in
        let is : (b ∷ [], 1) ≡ p = cc in
        subst (λ (r : Piece). IsUtf8 ((text ++ r.0) ++ take m (drop (r.1 - 1) bs))) is
        (plain_kept b bs text m (subst (λ (r : Piece). IsUtf8 (text ++ take (r.1 + m) (b ∷ bs))) (sym is) u))

says_from : (passing : ℕ) (bs : List ℕ) (q : Piece) (text : List ℕ) → string_from passing bs ≡ Some q →
    IsUtf8 (text ++ take q.1 (drop passing bs)) → IsUtf8 (text ++ q.0)
unfolding string_from
says_from passing [] q text e u = absurd cc
says_from (suc passing) (b ∷ bs) q text e u = says_from passing bs q text e u
says_from zero (b ∷ bs) q text e u = by_quote (nat_eq b 34) e (λ k r t. says_from k bs r t)
  where
    by_quote : (t : Bool) → cond t (Some ([], 0))
        (option_and_then (λ p. option_map (after_piece p) (string_from (p.1 - 1) bs)) (piece_at b (b ∷ bs))) ≡ Some q
        → ((k : ℕ) (r : Piece) (so_far : List ℕ) → string_from k bs ≡ Some r → IsUtf8 (so_far ++ take r.1 (drop k bs)) →
        IsUtf8 (so_far ++ r.0)) → IsUtf8 (text ++ q.0)
    by_quote true f behind =
        let is : ([], 0) ≡ q = cc in
        subst (λ (r : Piece). IsUtf8 (text ++ r.0)) is
        (subst (λ (r : Piece). IsUtf8 (text ++ take r.1 (b ∷ bs))) (sym is) u)
    by_quote false f behind =
        let p = and_then_some (λ p. option_map (after_piece p) (string_from (p.1 - 1) bs)) (piece_at b (b ∷ bs)) q f in
        let s = map_some (after_piece p.0) (string_from (p.0.1 - 1) bs) q p.2 in
        let here = subst (λ (r : Piece). IsUtf8 (text ++ take r.1 (b ∷ bs))) (sym s.2) u in
        let kept = piece_kept b bs text p.0 s.0.1 p.1 (goes_on (p.0.1 - 1) bs s.0 s.1) here in
        subst (λ (r : Piece). IsUtf8 (text ++ r.0)) s.2
        (subst IsUtf8 (append_assoc text p.0.0 s.0.0) (behind (p.0.1 - 1) s.0 (text ++ p.0.0) s.1 kept))

-- a string's bytes are UTF-8, so what it says is
pub says_utf8 : (bs : List ℕ) (s : Piece) → string_of bs ≡ Some s → IsUtf8 s.0
unfolding string_of
says_utf8 bs s e =
    let q = and_then_some (λ (r : Piece). cond (is_utf8 (take r.1 bs)) (Some r) None) (string_from 0 bs) s e in
    let found = if_some (is_utf8 (take q.0.1 bs)) (Some q.0) s q.2 in
    let is : q.0 ≡ s = cc in
    subst (λ (r : Piece). IsUtf8 r.0) is (says_from 0 bs q.0 [] q.1 (IsUtf8-from_is_utf8 (take q.0.1 bs) found.0))
