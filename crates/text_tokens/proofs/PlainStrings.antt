-- Strings of bytes that stand for themselves.
use Rattle.text_tokens.proofs.Common.{◌≡◌, ◌≢◌, ℕ, suc, ◌+◌, ◌<◌, Bool, true, false, cond, List, [], ◌∷◌, length}
use Rattle.text_tokens.proofs.Common.{get_or, take, refl, sym, ap, subst, ◌∙◌, arith, Some, option_map, nat_eq, nat_lt}
use Rattle.text_tokens.proofs.Common.{is_some, IsUtf8, prefix_len, nat_tests, is_plain, after_piece, piece_at}
use Rattle.text_tokens.proofs.Common.{string_from, string_of, said, text_or, len_or}
use Rattle.text_tokens.proofs.Texts.{opened, is_quote, is_no_quote, whole_string, raw_utf8}

pub no_quote : (b : ℕ) → is_plain b ≡ true → b ≢ 34
no_quote b e = λ is. grind (arith, nat_tests, e, is)

no_escape : (b : ℕ) → is_plain b ≡ true → nat_eq b 92 ≡ false
no_escape b e = grind (arith, nat_tests, e)

no_control : (b : ℕ) → is_plain b ≡ true → nat_lt b 32 ≡ false
no_control b e = grind (arith, nat_tests, e)

pub plain_piece : (b : ℕ) (bs : List ℕ) → is_plain b ≡ true → piece_at b bs ≡ Some (b ∷ [], 1)
unfolding piece_at
plain_piece b bs e = rw (no_escape b e, no_control b e) refl

-- one more byte in front of a plain string
abbrev IsPlainString : List ℕ → ℕ → Type 0
IsPlainString bs n = string_from 0 bs ≡ Some (take n bs, n)

one_more : (b : ℕ) (bs : List ℕ) (n : ℕ) → is_plain b ≡ true → IsPlainString bs n → IsPlainString (b ∷ bs) (suc n)
one_more b bs n e h =
    opened b bs false (Some (b ∷ [], 1)) (is_no_quote b (no_quote b e)) (plain_piece b (b ∷ bs) e)
    ∙ ap (option_map (after_piece (b ∷ [], 1))) h ∙ ap (λ (k : ℕ). Some (b ∷ take n bs, k)) (omega arith)

by_first : (b : ℕ) (bs : List ℕ) (t : Bool) → is_plain b ≡ t → prefix_len is_plain (b ∷ bs) < length (b ∷ bs) →
    get_or (b ∷ bs) (prefix_len is_plain (b ∷ bs)) 0 ≡ 34
    → (prefix_len is_plain bs < length bs → get_or bs (prefix_len is_plain bs) 0 ≡ 34 →
    IsPlainString bs (prefix_len is_plain bs)) → IsPlainString (b ∷ bs) (prefix_len is_plain (b ∷ bs))
by_first b bs true e lt is h =
    let p = prefix_len is_plain bs in
    let one : prefix_len is_plain (b ∷ bs) ≡ suc p = ap (λ (t : Bool). cond t (1 + p) 0) e ∙ omega arith in
    subst (IsPlainString (b ∷ bs)) (sym one)
    (one_more b bs p e (h (omega (arith, one, lt)) (ap (λ (k : ℕ). get_or (b ∷ bs) k 0) (sym one) ∙ is)))
by_first b bs false e lt is h =
    let p = prefix_len is_plain bs in
    let none : prefix_len is_plain (b ∷ bs) ≡ 0 = ap (λ (t : Bool). cond t (1 + p) 0) e in
    let quote : b ≡ 34 = ap (λ (k : ℕ). get_or (b ∷ bs) k 0) (sym none) ∙ is in
    subst (IsPlainString (b ∷ bs)) (sym none) (opened b bs true (piece_at b (b ∷ bs)) (is_quote b quote) refl)

pub plain_is : (bs : List ℕ) → prefix_len is_plain bs < length bs → get_or bs (prefix_len is_plain bs) 0 ≡ 34 →
    string_from 0 bs ≡ Some (take (prefix_len is_plain bs) bs, prefix_len is_plain bs)
plain_is [] lt is = absurd (omega arith)
plain_is (b ∷ bs) lt is = by_first b bs (is_plain b) refl lt is (plain_is bs)

-- ---- what it says

pub plain_said : (bs : List ℕ) (n : ℕ) → is_some (string_of bs) ≡ true → string_from 0 bs ≡ Some (take n bs, n) →
    take n bs ≡ said bs
unfolding said
plain_said bs n e h = sym (ap text_or (whole_string bs e ∙ h))

pub plain_utf8 : (bs : List ℕ) (n : ℕ) → is_some (string_of bs) ≡ true → string_from 0 bs ≡ Some (take n bs, n) →
    IsUtf8 (take n bs)
plain_utf8 bs n e h = subst (λ (k : ℕ). IsUtf8 (take k bs)) (ap len_or (whole_string bs e ∙ h)) (raw_utf8 bs e)
