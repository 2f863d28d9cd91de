-- The tokens from an offset on, and those from the next offset.
use Rattle.text_tokens.proofs.Common.{◌≡◌, ℕ, zero, suc, ◌+◌, ◌-◌, ◌<◌, ◌≤◌, Bool, true, false, cond, List, [], ◌∷◌}
use Rattle.text_tokens.proofs.Common.{length, get_or, drop, drop-cons, refl, sym, ap, ap₂, ◌∙◌, arith, drop-drop}
use Rattle.text_tokens.proofs.Common.{length-drop, drop_all, get_or-drop, nat_tests, Token, end, comma, is_ascii_digit}
use Rattle.text_tokens.proofs.Common.{Lexed, lexed, is_blank, token_at, tokens_from, Read, number_at, rest_at, Takes}
use Rattle.text_tokens.proofs.Digits.{digit_range}
use Rattle.text_tokens.proofs.ShortNumbers.{no_such}

passed_over : (at k : ℕ) (bytes : List ℕ) → k ≤ length bytes →
    tokens_from at k bytes ≡ tokens_from (at + k) 0 (drop k bytes)
unfolding tokens_from
passed_over at zero bytes le = ap (λ (n : ℕ). tokens_from n 0 bytes) (omega arith)
passed_over at (suc k) [] le = absurd (omega arith)
passed_over at (suc k) (b ∷ bytes) le = passed_over (suc at) k bytes (omega arith) ∙
    ap (λ (n : ℕ). tokens_from n 0 (drop k bytes)) (omega arith)

pub blank_step : (bytes : List ℕ) (at : ℕ) → at < length bytes → is_blank (get_or bytes at 0) ≡ true →
    rest_at bytes at ≡ rest_at bytes (at + 1)
unfolding tokens_from
blank_step bytes at lt h =
    let n : suc at ≡ at + 1 = omega arith in
    ap (tokens_from at 0) (drop-cons bytes at 0 lt) ∙
    ap (λ (b : Bool). cond b (tokens_from (suc at) 0 (drop (suc at) bytes))
    (lexed (token_at (get_or bytes at 0) (get_or bytes at 0 ∷ drop (suc at) bytes)).0 at ∷ tokens_from (suc at)
    ((token_at (get_or bytes at 0) (get_or bytes at 0 ∷ drop (suc at) bytes)).1 - 1) (drop (suc at) bytes))) h ∙
    ap (rest_at bytes) n

pub end_step : (bytes : List ℕ) (at : ℕ) → length bytes ≤ at → rest_at bytes at ≡ lexed end at ∷ []
unfolding tokens_from
end_step bytes at le = ap (tokens_from at 0) (drop_all at bytes le)

pub token_step : (bytes : List ℕ) (at : ℕ) → at < length bytes → is_blank (get_or bytes at 0) ≡ false →
    0 < (token_at (get_or bytes at 0) (drop at bytes)).1 →
    (token_at (get_or bytes at 0) (drop at bytes)).1 ≤ length bytes - at
    → rest_at bytes at ≡ lexed (token_at (get_or bytes at 0) (drop at bytes)).0 at ∷ rest_at bytes
    (at + (token_at (get_or bytes at 0) (drop at bytes)).1)
unfolding tokens_from
token_step bytes at lt h some within =
    let b = get_or bytes at 0 in
    let read = token_at b (drop at bytes) in
    let split : drop at bytes ≡ b ∷ drop (suc at) bytes = drop-cons bytes at 0 lt in
    let one : rest_at bytes at ≡ lexed (token_at b (b ∷ drop (suc at) bytes)).0 at ∷ tokens_from (suc at)
    ((token_at b (b ∷ drop (suc at) bytes)).1 - 1) (drop (suc at) bytes) =
    ap (tokens_from at 0) split ∙
    ap (λ (t : Bool). cond t (tokens_from (suc at) 0 (drop (suc at) bytes))
    (lexed (token_at b (b ∷ drop (suc at) bytes)).0 at ∷ tokens_from (suc at)
    ((token_at b (b ∷ drop (suc at) bytes)).1 - 1) (drop (suc at) bytes))) h in
    let two : rest_at bytes at ≡ lexed read.0 at ∷ tokens_from (suc at) (read.1 - 1) (drop (suc at) bytes) =
    one ∙ ap (λ (s : List ℕ). lexed (token_at b s).0 at ∷ tokens_from (suc at) ((token_at b s).1 - 1)
    (drop (suc at) bytes)) (sym split) in
    let len : length (drop (suc at) bytes) ≡ length bytes - suc at = length-drop (suc at) bytes in
    let over = passed_over (suc at) (read.1 - 1) (drop (suc at) bytes) (omega arith) in
    let offset : suc at + (read.1 - 1) ≡ at + read.1 = omega arith in
    let rest : drop (read.1 - 1) (drop (suc at) bytes) ≡ drop (at + read.1) bytes =
    drop-drop (read.1 - 1) (suc at) bytes ∙ ap (λ (n : ℕ). drop n bytes) (omega arith) in
    two ∙ ap (λ (ts : List Lexed). lexed read.0 at ∷ ts)
    (over ∙ ap₂ (λ (n : ℕ) (s : List ℕ). tokens_from n 0 s) offset rest)

pub next_token : (bytes s : List ℕ) (at : ℕ) (t : Token) (len : ℕ) → at < length bytes →
    is_blank (get_or bytes at 0) ≡ false → s ≡ drop at bytes → (t, len) ≡ token_at (get_or s 0 0) s → 0 < len →
    len ≤ length s
    → rest_at bytes at ≡ lexed t at ∷ rest_at bytes (at + len)
next_token bytes s at t len lt h whole is some within =
    let here : get_or (drop at bytes) 0 0 ≡ get_or bytes at 0 =
    get_or-drop at bytes 0 0 ∙ ap (λ (n : ℕ). get_or bytes n 0) (omega arith) in
    let read : token_at (get_or bytes at 0) (drop at bytes) ≡ (t, len) =
    ap (λ (b : ℕ). token_at b (drop at bytes)) (sym here) ∙
    ap (λ (u : List ℕ). token_at (get_or u 0 0) u) (sym whole) ∙ sym is in
    let l : length s ≡ length bytes - at = ap length whole ∙ length-drop at bytes in
    let n : (token_at (get_or bytes at 0) (drop at bytes)).1 ≡ len = ap (λ (r : Token × ℕ). r.1) read in
    token_step bytes at lt h (omega arith) (omega arith) ∙
    ap (λ (r : Token × ℕ). lexed r.0 at ∷ rest_at bytes (at + r.1)) read

-- ---- a number and a comma

no_blank_digit : (b : ℕ) → is_ascii_digit b ≡ true → is_blank b ≡ false
no_blank_digit b e = let r = digit_range b e in grind (arith, nat_tests, r)

no_blank_comma : (b : ℕ) → b ≡ 44 → is_blank b ≡ false
no_blank_comma b e = rw e refl

comma_read : (b : ℕ) (s : List ℕ) → b ≡ 44 → (comma, 1) ≡ token_at b s
unfolding token_at
comma_read b s e = rw e refl

number_read : (b : ℕ) (s : List ℕ) → is_ascii_digit b ≡ true → token_at b s ≡ number_at s
unfolding token_at
number_read b s e =
    let r = digit_range b e in
    rw (
      no_such b 123 (λ is. omega (arith, r.0, r.1, is)),
      no_such b 125 (λ is. omega (arith, r.0, r.1, is)),
      no_such b 91 (λ is. omega (arith, r.0, r.1, is)),
      no_such b 93 (λ is. omega (arith, r.0, r.1, is)),
      no_such b 44 (λ is. omega (arith, r.0, r.1, is)),
      no_such b 58 (λ is. omega (arith, r.0, r.1, is)),
      no_such b 34 (λ is. omega (arith, r.0, r.1, is)),
      no_such b 45 (λ is. omega (arith, r.0, r.1, is)),
      e,
    ) refl

-- a token of one byte, whatever stands behind
pub mark_step : (bytes : List ℕ) (at : ℕ) (t : Token) → at < length bytes → is_blank (get_or bytes at 0) ≡ false →
    ((s : List ℕ) → ◌≡◌ {A = Read} (t, 1) (token_at (get_or bytes at 0) s)) →
    rest_at bytes at ≡ lexed t at ∷ rest_at bytes (at + 1)
mark_step bytes at t lt shown is =
    let s = drop at bytes in
    let here : get_or s 0 0 ≡ get_or bytes at 0 =
    get_or-drop at bytes 0 0 ∙ ap (λ (n : ℕ). get_or bytes n 0) (omega arith) in
    next_token bytes s at t 1 lt shown refl (is s ∙ ap (λ (b : ℕ). token_at b s) (sym here)) (omega arith)
    (omega (arith, length-drop at bytes))

pub comma_step : (bytes : List ℕ) (at : ℕ) → at < length bytes → get_or bytes at 0 ≡ 44 →
    rest_at bytes at ≡ lexed comma at ∷ rest_at bytes (at + 1)
comma_step bytes at lt is = mark_step bytes at comma lt (no_blank_comma (get_or bytes at 0) is)
    (λ s. comma_read (get_or bytes at 0) s is)

pub number_step : (bytes s : List ℕ) (at : ℕ) (t : Token) (len : ℕ) → at < length bytes → s ≡ drop at bytes →
    ◌≡◌ {A = Read} (t, len) (number_at s) → is_ascii_digit (get_or s 0 0) ≡ true → 0 < len → len ≤ length s
    → rest_at bytes at ≡ lexed t at ∷ rest_at bytes (at + len)
number_step bytes s at t len lt whole is digit some within =
    let here : get_or s 0 0 ≡ get_or bytes at 0 = ap (λ (r : List ℕ). get_or r 0 0) whole ∙ get_or-drop at bytes 0 0 ∙
    ap (λ (n : ℕ). get_or bytes n 0) (omega arith) in
    next_token bytes s at t len lt (no_blank_digit (get_or bytes at 0) (ap is_ascii_digit (sym here) ∙ digit)) whole
    (is ∙ sym (number_read (get_or s 0 0) s digit)) some within

pub number_and_comma_step : (bytes s : List ℕ) (at : ℕ) (t : Token) (len : ℕ) → s ≡ drop at bytes →
    ◌≡◌ {A = Read} (t, len) (number_at s) → is_ascii_digit (get_or s 0 0) ≡ true → 0 < len → len < length s →
    get_or s len 0 ≡ 44
    → Takes (rest_at bytes at) (t ∷ comma ∷ []) (rest_at bytes (at + (len + 1)))
number_and_comma_step bytes s at t len whole is digit some within ends =
    let l : length s ≡ length bytes - at = ap length whole ∙ length-drop at bytes in
    let here : get_or bytes (at + len) 0 ≡ 44 =
    sym (ap (λ (r : List ℕ). get_or r len 0) whole ∙ get_or-drop at bytes len 0 ∙
    ap (λ (n : ℕ). get_or bytes n 0) (omega arith)) ∙ ends in
    record {
      part = lexed t at ∷ lexed comma (at + len) ∷ [];
      parts = number_step bytes s at t len (omega (arith, l, within)) whole is digit some (omega (arith, within)) ∙
          ap (λ (ts : List Lexed). lexed t at ∷ ts) (comma_step bytes (at + len) (omega (arith, l, within)) here ∙
          ap (λ (n : ℕ). lexed comma (at + len) ∷ rest_at bytes n) (omega arith));
      kinds_are = refl;
    }
