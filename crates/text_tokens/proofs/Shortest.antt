-- The string with nothing in it, which stands where no string is closed.
use Rattle.text_tokens.proofs.Common.{◌≡◌, ℕ, List, [], ◌∷◌, refl, sym, ap, ◌∙◌, arith, Some, None, option_map}
use Rattle.text_tokens.proofs.Common.{is_utf8-from_IsUtf8, string_of, said, text_or}
use Rattle.std.proofs.lemmas.Str.{IsUtf8-nil}
use Rattle.text_tokens.proofs.Texts.{closes, string_is}

pub shortest_is : string_of (34 ∷ []) ≡ Some ([], 0)
shortest_is =
    let closed = closes (34 ∷ []) 0 (omega arith) refl in
    string_is (34 ∷ []) 0 (sym (ap (option_map (λ q. q.1)) closed)) (is_utf8-from_IsUtf8 [] IsUtf8-nil) ∙ closed

pub shortest_says : said (34 ∷ []) ≡ []
unfolding said
shortest_says = ap text_or shortest_is

pub says_nothing : (bs : List ℕ) → string_of bs ≡ None → said bs ≡ []
unfolding said
says_nothing bs none = ap text_or none

pub says_that : (bs text : List ℕ) (n : ℕ) → string_of bs ≡ Some (text, n) → said bs ≡ text
unfolding said
says_that bs text n some = ap text_or some
