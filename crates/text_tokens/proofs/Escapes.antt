-- Texts stay UTF-8, piece by piece.
use Rattle.text_tokens.proofs.Common.{◌≡◌, ◌≢◌, ℕ, suc, ◌+◌, ◌-◌, ◌<◌, ◌≤◌, Bool, true, cond, List, [], ◌∷◌, ◌++◌}
use Rattle.text_tokens.proofs.Common.{length, length-append, get_or, take, drop, refl, sym, ap, ap₂, subst, ◌∙◌}
use Rattle.text_tokens.proofs.Common.{append_assoc, arith, Option, Some, None, encode_utf8, IsUtf8-encode}
use Rattle.text_tokens.proofs.Common.{IsUtf8-append, IsUtf8-take, IsUtf8-drop, IsCharBoundary-before_ascii}
use Rattle.text_tokens.proofs.Common.{IsCharBoundary-after_ascii, encode_ascii, length-encode, len_utf8_bounds, zero}
use Rattle.text_tokens.proofs.Common.{inl, inr, option_map, is_some, true≢false, eqb_tells, take_all, take-append-le}
use Rattle.text_tokens.proofs.Common.{get_or-append_right, get_or-drop, get_or-take, drop_all, length-take, length-drop}
use Rattle.text_tokens.proofs.Common.{drop-drop, append-nil, is_high, is_low, pair, second_at, unit_piece, Piece}
use Rattle.text_tokens.proofs.Common.{after_piece, string_from, string_of, len_or}
use Rattle.std.specs.Str.{IsUtf8}
use Rattle.std.proofs.Math.Utf8.{low_scalar}
use Rattle.text_tokens.proofs.Texts.{whole_string}

pub ascii_is_utf8 : (b : ℕ) → b < 128 → IsUtf8 (b ∷ [])
ascii_is_utf8 b lt = subst IsUtf8 (encode_ascii b lt) (IsUtf8-encode b (low_scalar b (omega arith)))

pub at_most_four : (c : ℕ) → length (encode_utf8 c) ≤ 4
at_most_four c = let l = length-encode c in let b = len_utf8_bounds c in omega (arith, l, b.1)

pub no_second : (u : ℕ) (bs : List ℕ) → is_high u ≡ true → None ≡ second_at bs → None ≡ unit_piece u bs
unfolding unit_piece pair
no_second u bs high none =
    sym (ap₂ (λ (b : Bool) (s : Option ℕ). cond b (pair u s) (cond (is_low u) None (Some (encode_utf8 u, 6)))) high
    (sym none))

-- ---- the text so far, and the bytes that are still to be read, are UTF-8 together

take-front : (xs ys : List ℕ) → take (length xs) (xs ++ ys) ≡ xs
take-front xs ys = take-append-le (length xs) xs ys (omega arith) ∙ take_all (length xs) xs (omega arith)

drop-past : (xs ys : List ℕ) (k n : ℕ) → n ≡ length xs + k → drop n (xs ++ ys) ≡ drop k ys
drop-past [] ys k n e = ap (λ (i : ℕ). drop i ys) (omega arith)
drop-past (x ∷ xs) ys k zero e = absurd (omega arith)
drop-past (x ∷ xs) ys k (suc n) e = drop-past xs ys k n (omega arith)

get_or-past : (xs ys : List ℕ) (i n : ℕ) → n ≡ length xs + i → get_or (xs ++ ys) n 0 ≡ get_or ys i 0
get_or-past xs ys i n e = get_or-append_right xs ys (length xs) n 0 refl (omega arith) ∙
    ap (λ (j : ℕ). get_or ys j 0) (omega arith)

escape_keeps : (text rest said : List ℕ) (k : ℕ) → IsUtf8 (text ++ rest) → 0 < k → k ≤ length rest →
    get_or rest 0 0 < 128 → get_or rest (k - 1) 0 < 128 → IsUtf8 said → IsUtf8 ((text ++ said) ++ drop k rest)
escape_keeps text rest said k u some within first last h =
    let len = length-append text rest in
    let i = length text + (k - 1) in
    let here : get_or (text ++ rest) (length text) 0 ≡ get_or rest 0 0 =
    get_or-past text rest 0 (length text) (omega arith) in
    let there : get_or (text ++ rest) i 0 ≡ get_or rest (k - 1) 0 = get_or-past text rest (k - 1) i refl in
    let front : IsUtf8 text = subst IsUtf8 (take-front text rest)
    (IsUtf8-take (text ++ rest) (length text) u
    (IsCharBoundary-before_ascii (text ++ rest) (length text) (omega (arith, len)) (omega (arith, here)))) in
    let back : IsUtf8 (drop k rest) = subst IsUtf8 (drop-past text rest k (i + 1) (omega arith))
    (IsUtf8-drop (text ++ rest) (i + 1) u
    (IsCharBoundary-after_ascii (text ++ rest) i u (omega (arith, len)) (omega (arith, there)))) in
    IsUtf8-append (text ++ said) (drop k rest) (IsUtf8-append text said front h) back

plain_keeps : (text rest : List ℕ) → IsUtf8 (text ++ rest) → 0 < length rest →
    IsUtf8 ((text ++ get_or rest 0 0 ∷ []) ++ drop 1 rest)
plain_keeps text [] u some = absurd (omega arith)
plain_keeps text (b ∷ rest) u some = subst IsUtf8 (sym (append_assoc text (b ∷ []) rest)) u

either_keeps : (text rest said : List ℕ) (k : ℕ) → IsUtf8 (text ++ rest) → 0 < k → k ≤ length rest
    → (get_or rest 0 0 ≡ 92 → (get_or rest (k - 1) 0 < 128) × IsUtf8 said) →
    (get_or rest 0 0 ≢ 92 → (k ≡ 1) × (said ≡ get_or rest 0 0 ∷ [])) → IsUtf8 ((text ++ said) ++ drop k rest)
either_keeps text rest said k u some within escape plain =
    elim (eqb_tells (get_or rest 0 0) 92) [
      | inl is ↦ let e = escape is.1 in escape_keeps text rest said k u some within (omega (arith, is.1)) e.0 e.1
      | inr is ↦
          let e = plain is.1 in
          subst (λ (n : ℕ). IsUtf8 ((text ++ said) ++ drop n rest)) (sym e.0)
          (subst (λ (s : List ℕ). IsUtf8 ((text ++ s) ++ drop 1 rest)) (sym e.1)
          (plain_keeps text rest u (omega arith)))
    ]

-- the same, of a part of the bytes
read_at : (bs : List ℕ) (at n j : ℕ) → at + j < n → get_or (drop at (take n bs)) j 0 ≡ get_or (drop at bs) j 0
read_at bs at n j lt = get_or-drop at (take n bs) j 0 ∙ get_or-take n bs (at + j) 0 lt ∙ sym (get_or-drop at bs j 0)

pub piece_keeps : (bs text rest said : List ℕ) (at n k : ℕ) → rest ≡ drop at bs → IsUtf8 (text ++ drop at (take n bs)) →
    at + k ≤ n → n ≤ length bs → 0 < k
    → (get_or rest 0 0 ≡ 92 → (get_or rest (k - 1) 0 < 128) × IsUtf8 said) →
    (get_or rest 0 0 ≢ 92 → (k ≡ 1) × (said ≡ get_or rest 0 0 ∷ [])) →
    IsUtf8 ((text ++ said) ++ drop (at + k) (take n bs))
piece_keeps bs text rest said at n k is u within near some escape plain =
    let first : get_or (drop at (take n bs)) 0 0 ≡ get_or rest 0 0 =
    read_at bs at n 0 (omega arith) ∙ ap (λ (r : List ℕ). get_or r 0 0) (sym is) in
    let last : get_or (drop at (take n bs)) (k - 1) 0 ≡ get_or rest (k - 1) 0 =
    read_at bs at n (k - 1) (omega arith) ∙ ap (λ (r : List ℕ). get_or r (k - 1) 0) (sym is) in
    let len : length (drop at (take n bs)) ≡ n - at = omega (arith, length-drop at (take n bs), length-take n bs) in
    let both : drop k (drop at (take n bs)) ≡ drop (at + k) (take n bs) = drop-drop k at (take n bs) in
    subst (λ (r : List ℕ). IsUtf8 ((text ++ said) ++ r)) both
    (either_keeps text (drop at (take n bs)) said k u some (omega arith)
    (λ e. let x = escape (sym first ∙ e) in (omega (arith, last, x.0), x.1))
    (λ e. let x = plain (λ g. e (first ∙ g)) in (x.0, x.1 ∙ ap (λ (b : ℕ). b ∷ []) (sym first))))

-- ---- how far a string reaches

pub reaches : (bs text : List ℕ) (m : ℕ) (s : Option Piece) → is_some (string_of bs) ≡ true →
    string_from 0 bs ≡ option_map (after_piece (text, m)) s → m ≤ len_or (string_of bs)
reaches bs text m None e i = absurd (true≢false (sym e ∙ ap is_some (whole_string bs e ∙ i)))
reaches bs text m (Some q) e i = let l : len_or (string_of bs) ≡ m + q.1 = ap len_or (whole_string bs e ∙ i) in
    omega arith

pub all_read : (bs text : List ℕ) (at : ℕ) (s : Option Piece) → is_some (string_of bs) ≡ true →
    string_from 0 bs ≡ option_map (after_piece (text, at)) s → s ≡ Some ([], 0)
    → IsUtf8 (text ++ drop at (take (len_or (string_of bs)) bs)) → IsUtf8 text
all_read bs text at s e i close u =
    let n : len_or (string_of bs) ≡ at + 0 =
    ap len_or (whole_string bs e ∙ i ∙ ap (option_map (after_piece (text, at))) close) in
    let none : drop at (take (len_or (string_of bs)) bs) ≡ [] =
    drop_all at (take (len_or (string_of bs)) bs) (omega (arith, length-take (len_or (string_of bs)) bs)) in
    subst IsUtf8 (ap (λ (r : List ℕ). text ++ r) none ∙ append-nil text) u
