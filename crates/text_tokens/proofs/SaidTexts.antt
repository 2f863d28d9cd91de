-- Whether a string says a text, piece by piece.
use Rattle.text_tokens.proofs.Common.{◌≡◌, ℕ, ◌+◌, ◌-◌, Bool, true, false, List, [], ◌∷◌, ◌++◌, length, drop, suc}
use Rattle.text_tokens.proofs.Common.{nat_eq, nat_tests, arith, refl, sym, ap, ap₂, ◌∙◌, ◌<◌, get_or, take, take_more}
use Rattle.text_tokens.proofs.Common.{is_plain, piece_at, append_assoc, append-nil, Option, Some, None, option_map}
use Rattle.text_tokens.proofs.Common.{is_some, Piece, after_piece, string_from, string_of, said, text_or}
use Rattle.std.specs.Prelude.{bytes_eq}
use Rattle.std.proofs.lemmas.List.{take-append-drop, length-drop}
use Rattle.std.proofs.lemmas.Slice.Eq.{bytes_eq-Decides}
use Rattle.text_tokens.proofs.Texts.{whole_string, never, in_front, goes_on, said_goes_on, nothing_said}
use Rattle.text_tokens.proofs.PlainStrings.{plain_piece, no_quote}

-- ---- a text that begins as the string does

same_behind : (front a b : List ℕ) → front ++ a ≡ front ++ b → a ≡ b
same_behind [] a b e = e
same_behind (x ∷ front) a b e = same_behind front a b (ap (drop 1) e)

differs : (xs ys : List ℕ) → (xs ≡ ys → ⊥) → bytes_eq xs ys ≡ false
differs xs ys n = by_test (bytes_eq xs ys) refl
  where
    by_test : (t : Bool) → bytes_eq xs ys ≡ t → bytes_eq xs ys ≡ false
    by_test true e = absurd (n ((bytes_eq-Decides xs ys).0 e))
    by_test false e = e

says_on : (bs front : List ℕ) (at : ℕ) (r : Piece) → is_some (string_of bs) ≡ true →
    string_from 0 bs ≡ option_map (after_piece (front, at)) (Some r) → said bs ≡ front ++ r.0
unfolding said
says_on bs front at r e i = ap text_or (whole_string bs e ∙ i)

-- the string says a piece that the text hasn't there
pub says_other : (bs text front wanted : List ℕ) (at : ℕ) (p : Piece) (rest : Option Piece) →
    is_some (string_of bs) ≡ true → string_from 0 bs ≡ option_map (after_piece (front ++ p.0, at + p.1)) rest
    → text ≡ front ++ wanted → ((more : List ℕ) → wanted ≡ p.0 ++ more → ⊥) → bytes_eq (said bs) text ≡ false
says_other bs text front wanted at p None e i is none = absurd (never bs (front ++ p.0) (at + p.1) None e i refl)
says_other bs text front wanted at p (Some r) e i is none =
    differs (said bs) text
    (λ same. none r.0 (same_behind front wanted (p.0 ++ r.0)
    (sym is ∙ sym same ∙ says_on bs (front ++ p.0) (at + p.1) r e i ∙ append_assoc front p.0 r.0)))

-- the string ends where this much of the text is left
says_all : (bs text front wanted : List ℕ) → front ≡ said bs → text ≡ front ++ wanted → wanted ≡ [] →
    bytes_eq (said bs) text ≡ true
says_all bs text front wanted whole is none =
    (bytes_eq-Decides (said bs) text).1
    (sym whole ∙ sym (append-nil front) ∙ ap (λ (r : List ℕ). front ++ r) (sym none) ∙ sym is)

says_less : (bs text front wanted : List ℕ) → front ≡ said bs → text ≡ front ++ wanted → (wanted ≡ [] → ⊥) →
    bytes_eq (said bs) text ≡ false
says_less bs text front wanted whole is some =
    differs (said bs) text
    (λ same. some (same_behind front wanted [] (sym is ∙ sym same ∙ sym whole ∙ sym (append-nil front))))

some_left : (n : ℕ) → nat_eq (suc n) 0 ≡ false
some_left n = grind (arith, nat_tests)

pub says_rest : (bs text front wanted : List ℕ) (none : Bool) → front ≡ said bs → text ≡ front ++ wanted →
    none ≡ nat_eq (length wanted) 0 → none ≡ bytes_eq (said bs) text
says_rest bs text front [] none whole is e = e ∙ sym (says_all bs text front [] whole is refl)
says_rest bs text front (x ∷ wanted) none whole is e =
    e ∙ some_left (length wanted) ∙ sym (says_less bs text front (x ∷ wanted) whole is (λ same. cc))

-- ---- the bytes in front that stand for themselves

-- so many bytes of the string are passed, and each says itself
abbrev pub PassesPlain : List ℕ → ℕ → Type 0
PassesPlain bs n = string_from 0 bs ≡ option_map (after_piece (take n bs, n)) (string_from 0 (drop n bs))

pub passes_none : (bs : List ℕ) → PassesPlain bs 0
passes_none bs = nothing_said (string_from 0 bs)

pub passes_one : (bs : List ℕ) (n : ℕ) → n < length bs → is_plain (get_or bs n 0) ≡ true → PassesPlain bs n →
    PassesPlain bs (n + 1)
passes_one bs n lt e h =
    let b = get_or bs n 0 in
    let p : Piece = (b ∷ [], 1) in
    let here : get_or (drop n bs) 0 0 ≡ b = in_front bs (drop n bs) n refl in
    let found : Some p ≡ piece_at (get_or (drop n bs) 0 0) (drop n bs) =
    sym (ap (λ (c : ℕ). piece_at c (drop n bs)) here ∙ plain_piece b (drop n bs) e) in
    let rest = string_from 0 (drop (n + 1) bs) in
    h ∙ ap (option_map (after_piece (take n bs, n)))
    (goes_on bs (drop n bs) n p lt (no_quote b e) refl found (omega arith)) ∙ said_goes_on (take n bs) n p rest
    ∙ ap (λ (front : List ℕ). option_map (after_piece (front, n + 1)) rest) (sym (take_more bs n 0 lt))

pub same_one : (xs ys : List ℕ) (n : ℕ) → n < length xs → n < length ys → get_or xs n 0 ≡ get_or ys n 0 →
    take n xs ≡ take n ys → take (n + 1) xs ≡ take (n + 1) ys
same_one xs ys n lt within e h = take_more xs n 0 lt ∙ ap₂ (λ (front : List ℕ) (b : ℕ). front ++ b ∷ []) h e ∙
    sym (take_more ys n 0 within)

-- behind what is the same the string has another byte, or one more
pub says_plain_other : (bs text : List ℕ) (n : ℕ) → is_some (string_of bs) ≡ true → n < length bs →
    is_plain (get_or bs n 0) ≡ true → PassesPlain bs n → take n text ≡ take n bs
    → (n < length text → get_or text n 0 ≡ get_or bs n 0 → ⊥) → bytes_eq (said bs) text ≡ false
says_plain_other bs text n closed lt plain h same ends =
    let b = get_or bs n 0 in
    says_other bs text (take n bs) (drop n text) n (b ∷ [], 1) (string_from 0 (drop (n + 1) bs)) closed
    (passes_one bs n lt plain h ∙
    ap (λ (front : List ℕ). option_map (after_piece (front, n + 1)) (string_from 0 (drop (n + 1) bs)))
    (take_more bs n 0 lt))
    (sym (take-append-drop n text) ∙ ap (λ (front : List ℕ). front ++ drop n text) same)
    (λ more e.
    let count : length text - n ≡ suc (length more) = sym (length-drop n text) ∙ ap length e in
    ends (omega (arith, count)) (sym (in_front text (drop n text) n refl) ∙ ap (λ (r : List ℕ). get_or r 0 0) e))
