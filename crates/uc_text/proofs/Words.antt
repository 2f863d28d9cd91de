-- The node of a value of one token.
use Rattle.uc_text.proofs.Common.{◌≡◌, ℕ, List, [], ◌∷◌, sym, ap, subst, ◌∙◌, Scalar, long_number, scalar, number}
use Rattle.uc_text.proofs.Common.{values, drop, ◌+◌, text, said, TextNode, Token, word, length_of_numbers, IsStuck}
use Rattle.uc_text.proofs.Common.{Lexed, NextIs, StuckAt, NumberTooLong, TextFault, number_run, IsOne, decimal_in}
use Rattle.uc_text.proofs.Common.{number_of}
use Rattle.uc_text.proofs.ValueSteps.{value_stops, stuck_long}
use Rattle.uc_text.specs.declared.node.Node.TheVariants.{LargeNumber}

pub large_number : (bytes run : List ℕ) (offset : ℕ) → run ≡ number_run (drop offset bytes) →
    IsOne bytes (LargeNumber offset) (scalar (number (decimal_in (number_of run))))
large_number bytes run offset is more =
    ap (λ (r : List ℕ). scalar (number (decimal_in (number_of r))) ∷ values bytes more) (sym is)

pub text_node : (bytes behind : List ℕ) (offset : ℕ) → behind ≡ drop (offset + 1) bytes →
    IsOne bytes (TextNode offset) (scalar (text (said behind)))
text_node bytes behind offset is more = ap (λ (r : List ℕ). scalar (text (said r)) ∷ values bytes more) (sym is)

pub word_stops : (left : ℕ) (first : Lexed) (others ts : List Lexed) (s : Scalar) (f : TextFault) →
    first.token ≡ word s → s ≡ long_number → f ≡ record { code = NumberTooLong; offset = first.offset } →
    NextIs ts first others → StuckAt left [] ts f
word_stops left first others ts s f is long at n =
    value_stops left ts first others f NumberTooLong n (ap (λ (g : TextFault). g.offset) at)
    (ap (λ (g : TextFault). g.code) at)
    (subst (λ (t : Token). IsStuck left [] t length_of_numbers) (sym (is ∙ ap word long)) (stuck_long left))
