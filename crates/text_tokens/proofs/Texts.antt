-- Strings, piece by piece.
use Rattle.text_tokens.proofs.Common.{◌≡◌, ◌≢◌, ℕ, zero, suc, ◌+◌, ◌-◌, ◌<◌, ◌≤◌, Bool, true, false, cond, List, []}
use Rattle.text_tokens.proofs.Common.{◌∷◌, ◌++◌, length, get_or, take, drop, drop-cons, refl, sym, ap, ap₂, subst, ◌∙◌}
use Rattle.text_tokens.proofs.Common.{append_assoc, arith, Option, Some, None, option_map, option_and_then, nat_eq}
use Rattle.text_tokens.proofs.Common.{is_some, if◌then◌else◌, IsUtf8-from_is_utf8, true≢false, nat_tests, drop-drop}
use Rattle.text_tokens.proofs.Common.{drop_all, get_or-drop, append-nil, Piece, after_piece, piece_at, string_from}
use Rattle.text_tokens.proofs.Common.{string_of, said, text_or, len_or}
use Rattle.std.specs.Str.{is_utf8, IsUtf8}

pub passed_over : (k : ℕ) (bs : List ℕ) → string_from k bs ≡ string_from 0 (drop k bs)
unfolding string_from
passed_over zero [] = refl
passed_over zero (b ∷ bs) = refl
passed_over (suc k) [] = refl
passed_over (suc k) (b ∷ bs) = passed_over k bs

pub ends : (bs : List ℕ) (at : ℕ) → length bs ≤ at → string_from 0 (drop at bs) ≡ None
unfolding string_from
ends bs at le = ap (string_from 0) (drop_all at bs le)

pub is_quote : (b : ℕ) → b ≡ 34 → nat_eq b 34 ≡ true
is_quote b e = grind (arith, nat_tests, e)

pub is_no_quote : (b : ℕ) → b ≢ 34 → nat_eq b 34 ≡ false
is_no_quote b e = grind (arith, nat_tests, e)

abbrev joined : ℕ → List ℕ → Option Piece → Option Piece
joined b bs p = option_and_then (λ q. option_map (after_piece q) (string_from (q.1 - 1) bs)) p

pub opened : (b : ℕ) (bs : List ℕ) (t : Bool) (p : Option Piece) → nat_eq b 34 ≡ t → piece_at b (b ∷ bs) ≡ p →
    string_from 0 (b ∷ bs) ≡ cond t (Some ([], 0)) (joined b bs p)
unfolding string_from
opened b bs t p e f = ap (λ (u : Bool). cond u (Some ([], 0)) (joined b bs (piece_at b (b ∷ bs)))) e ∙
    ap (λ (q : Option Piece). cond t (Some ([], 0)) (joined b bs q)) f

pub closes : (bs : List ℕ) (at : ℕ) → at < length bs → get_or bs at 0 ≡ 34 → string_from 0 (drop at bs) ≡ Some ([], 0)
closes bs at lt e =
    ap (string_from 0) (drop-cons bs at 0 lt) ∙ opened (get_or bs at 0) (drop (suc at) bs) true
    (piece_at (get_or bs at 0) (get_or bs at 0 ∷ drop (suc at) bs)) (is_quote _ e) refl

-- the byte in front of the rest
pub in_front : (bs rest : List ℕ) (at : ℕ) → rest ≡ drop at bs → get_or rest 0 0 ≡ get_or bs at 0
in_front bs rest at e = ap (λ (r : List ℕ). get_or r 0 0) e ∙ get_or-drop at bs 0 0 ∙
    ap (λ (n : ℕ). get_or bs n 0) (omega arith)

piece_here : (bs rest : List ℕ) (at : ℕ) (p : Option Piece) → rest ≡ drop at bs → p ≡ piece_at (get_or rest 0 0) rest →
    p ≡ piece_at (get_or bs at 0) (drop at bs)
piece_here bs rest at p e is = is ∙ ap₂ (λ (b : ℕ) (r : List ℕ). piece_at b r) (in_front bs rest at e) e

pub goes_on : (bs rest : List ℕ) (at : ℕ) (p : Piece) → at < length bs → get_or bs at 0 ≢ 34 → rest ≡ drop at bs →
    Some p ≡ piece_at (get_or rest 0 0) rest → 0 < p.1
    → string_from 0 (drop at bs) ≡ option_map (after_piece p) (string_from 0 (drop (at + p.1) bs))
goes_on bs rest at p lt no_quote behind found some =
    let is = piece_here bs rest at (Some p) behind found in
    let b = get_or bs at 0 in
    let split : drop at bs ≡ b ∷ drop (suc at) bs = drop-cons bs at 0 lt in
    let on : suc at + (p.1 - 1) ≡ at + p.1 = omega arith in
    ap (string_from 0) split
    ∙ opened b (drop (suc at) bs) false (Some p) (is_no_quote b no_quote) (ap (piece_at b) (sym split) ∙ sym is)
    ∙ ap (option_map (after_piece p)) (passed_over (p.1 - 1) (drop (suc at) bs) ∙
    ap (string_from 0) (drop-drop (p.1 - 1) (suc at) bs ∙ ap (λ (n : ℕ). drop n bs) (omega arith)))

pub is_none : (bs rest : List ℕ) (at : ℕ) → at < length bs → get_or bs at 0 ≢ 34 → rest ≡ drop at bs →
    None ≡ piece_at (get_or rest 0 0) rest → string_from 0 (drop at bs) ≡ None
is_none bs rest at lt no_quote behind found =
    let is = piece_here bs rest at None behind found in
    let b = get_or bs at 0 in
    let split : drop at bs ≡ b ∷ drop (suc at) bs = drop-cons bs at 0 lt in
    ap (string_from 0) split ∙ opened b (drop (suc at) bs) false None (is_no_quote b no_quote)
    (ap (piece_at b) (sym split) ∙ sym is)

-- ---- how many bytes there are

abbrev len_behind : ℕ → Option Piece → Option ℕ
len_behind at s = option_map (λ q. at + q.1) s

pub none_passed : (s : Option Piece) → option_map (λ q. q.1) s ≡ option_map (λ q. 0 + q.1) s
none_passed None = refl
none_passed (Some q) = ap Some (omega arith)

pub len_goes_on : (at : ℕ) (p : Piece) (s : Option Piece) →
    option_map (λ q. at + q.1) (option_map (after_piece p) s) ≡ option_map (λ q. (at + p.1) + q.1) s
len_goes_on at p None = refl
len_goes_on at p (Some q) = ap Some (omega arith)

-- ---- what they say

pub nothing_said : (s : Option Piece) → s ≡ option_map (after_piece ([], 0)) s
nothing_said None = refl
nothing_said (Some q) = ap (λ (n : ℕ). Some (q.0, n)) (omega arith)

pub said_goes_on : (text : List ℕ) (at : ℕ) (p : Piece) (s : Option Piece) →
    option_map (after_piece (text, at)) (option_map (after_piece p) s) ≡ option_map
    (after_piece (text ++ p.0, at + p.1)) s
said_goes_on text at p None = refl
said_goes_on text at p (Some q) =
    ap (λ (n : ℕ). Some (text ++ (p.0 ++ q.0), n)) (omega arith) ∙
    ap (λ (ts : List ℕ). Some (ts, (at + p.1) + q.1)) (sym (append_assoc text p.0 q.0))

pub quote_len : (at : ℕ) (s : Option Piece) → s ≡ Some ([], 0) → Some at ≡ option_map (λ q. at + q.1) s
quote_len at s e = ap Some (omega arith) ∙ sym (ap (λ (r : Option Piece). option_map (λ q. at + q.1) r) e)

-- ---- a string that is UTF-8

abbrev checked : List ℕ → Option Piece → Option Piece
checked bs s = option_and_then (λ q. if is_utf8 (take q.1 bs) then Some q else None) s

string_of_is : (bs : List ℕ) → string_of bs ≡ checked bs (string_from 0 bs)
unfolding string_of
string_of_is bs = refl

unclosed : (bs : List ℕ) (s : Option Piece) → None ≡ option_map (λ q. q.1) s → checked bs s ≡ None
unclosed bs None e = refl
unclosed bs (Some q) e = absurd cc

pub no_string : (bs : List ℕ) → None ≡ option_map (λ q. q.1) (string_from 0 bs) → string_of bs ≡ None
no_string bs e = string_of_is bs ∙ unclosed bs (string_from 0 bs) e

by_utf8 : (bs : List ℕ) (s : Option Piece) (n : ℕ) (t : Bool) → Some n ≡ option_map (λ q. q.1) s →
    is_utf8 (take n bs) ≡ t → checked bs s ≡ cond t s None
by_utf8 bs None n t e u = absurd cc
by_utf8 bs (Some q) n t e u =
    let same : n ≡ q.1 = cc in
    ap (λ (b : Bool). cond b (Some q) None) (ap (λ (k : ℕ). is_utf8 (take k bs)) (sym same) ∙ u)

pub string_is : (bs : List ℕ) (n : ℕ) → Some n ≡ option_map (λ q. q.1) (string_from 0 bs) → is_utf8 (take n bs) ≡ true →
    string_of bs ≡ string_from 0 bs
string_is bs n e u = string_of_is bs ∙ by_utf8 bs (string_from 0 bs) n true e u

pub not_utf8 : (bs : List ℕ) (n : ℕ) → Some n ≡ option_map (λ q. q.1) (string_from 0 bs) → is_utf8 (take n bs) ≡ false →
    string_of bs ≡ None
not_utf8 bs n e u = string_of_is bs ∙ by_utf8 bs (string_from 0 bs) n false e u

some_len : (s : Option Piece) (n : ℕ) → Some n ≡ option_map (λ q. q.1) s → is_some s ≡ true
some_len None n e = absurd cc
some_len (Some q) n e = refl

pub closed : (bs : List ℕ) (n : ℕ) → Some n ≡ option_map (λ q. q.1) (string_from 0 bs) → is_utf8 (take n bs) ≡ true →
    is_some (string_of bs) ≡ true
closed bs n e u = ap is_some (string_is bs n e u) ∙ some_len (string_from 0 bs) n e

keeps : (bs : List ℕ) (s : Option Piece) (u : (q : Piece) → Bool) →
    is_some (option_and_then (λ q. if u q then Some q else None) s) ≡ true →
    option_and_then (λ q. if u q then Some q else None) s ≡ s
keeps bs None u e = refl
keeps bs (Some q) u e = kept q (u q) e
  where
    kept : (q : Piece) (t : Bool) → is_some (cond t (Some q) None) ≡ true → cond t (Some q) None ≡ Some q
    kept q true e = refl
    kept q false e = absurd (true≢false (sym e))

pub whole_string : (bs : List ℕ) → is_some (string_of bs) ≡ true → string_of bs ≡ string_from 0 bs
whole_string bs e = string_of_is bs ∙
    keeps bs (string_from 0 bs) (λ q. is_utf8 (take q.1 bs)) (ap is_some (sym (string_of_is bs)) ∙ e)

pub said_is : (bs text : List ℕ) (at : ℕ) (rest : Option Piece) → is_some (string_of bs) ≡ true →
    string_from 0 bs ≡ option_map (after_piece (text, at)) rest → rest ≡ Some ([], 0) → text ≡ said bs
unfolding said
said_is bs text at rest e i close =
    sym (ap text_or (whole_string bs e ∙ i ∙ ap (option_map (after_piece (text, at))) close) ∙ append-nil text)

pub never : (bs text : List ℕ) (at : ℕ) (rest : Option Piece) → is_some (string_of bs) ≡ true →
    string_from 0 bs ≡ option_map (after_piece (text, at)) rest → rest ≡ None → ⊥
never bs text at rest e i none =
    true≢false (sym e ∙ ap is_some (whole_string bs e ∙ i ∙ ap (option_map (after_piece (text, at))) none))

pub not_utf8_test : (bs : List ℕ) → ¬ (IsUtf8 bs) → is_utf8 bs ≡ false
not_utf8_test bs h = by_test (is_utf8 bs) refl
  where
    by_test : (t : Bool) → is_utf8 bs ≡ t → t ≡ false
    by_test true e = absurd (h (IsUtf8-from_is_utf8 bs e))
    by_test false e = refl

as_said : (bs : List ℕ) (s : Option Piece) (n : ℕ) → Some n ≡ option_map (λ q. q.1) s → string_of bs ≡ s →
    string_of bs ≡ Some (said bs, n)
unfolding said
as_said bs None n e f = absurd cc
as_said bs (Some q) n e f =
    let same : n ≡ q.1 = cc in
    f ∙ ap₂ (λ (t : List ℕ) (k : ℕ). Some (t, k)) (sym (ap text_or f)) (sym same)

pub string_of_len : (bs : List ℕ) (n : ℕ) → Some n ≡ option_map (λ q. q.1) (string_from 0 bs) →
    is_utf8 (take n bs) ≡ true → string_of bs ≡ Some (said bs, n)
string_of_len bs n e u = as_said bs (string_from 0 bs) n e (string_is bs n e u)

raw_kept : (bs : List ℕ) (s : Option Piece) → is_some (checked bs s) ≡ true → IsUtf8 (take (len_or (checked bs s)) bs)
raw_kept bs None e = absurd (true≢false (sym e))
raw_kept bs (Some q) e = by_test (is_utf8 (take q.1 bs)) refl e
  where
    by_test : (t : Bool) → is_utf8 (take q.1 bs) ≡ t → is_some (cond t (Some q) None) ≡ true →
        IsUtf8 (take (len_or (cond t (Some q) None)) bs)
    by_test true u f = IsUtf8-from_is_utf8 (take q.1 bs) u
    by_test false u f = absurd (true≢false (sym f))

-- the bytes of a string are UTF-8
pub raw_utf8 : (bs : List ℕ) → is_some (string_of bs) ≡ true → IsUtf8 (take (len_or (string_of bs)) bs)
raw_utf8 bs e = subst (λ (s : Option Piece). IsUtf8 (take (len_or s) bs)) (sym (string_of_is bs))
    (raw_kept bs (string_from 0 bs) (ap is_some (sym (string_of_is bs)) ∙ e))
