-- Which token it isn't.
use Rattle.uc_text.proofs.Common.{◌≡◌, ◌≢◌, ℕ, List, false, refl, Result, Ok, Err, IfFault, FaultIs, token_of}
use Rattle.uc_text.proofs.Common.{TextFault, TextError}
use Rattle.uc_text.specs.Grammar as grammar
use Rattle.uc_text.proofs.Spellings.{is_start}
use Rattle.uc_text.specs.declared.fault.TextError.TheVariants as errors
use Rattle.text_tokens.specs.declared.token.Word.TheVariants.{Null, Flag, Number, LargeNumber, LongNumber}
use Rattle.text_tokens.specs.declared.token.Token.{Token}
use Rattle.text_tokens.specs.declared.token.Token.TheVariants.{OpenList, CloseList, OpenObject, CloseObject, Comma}
use Rattle.text_tokens.specs.declared.token.Token.TheVariants.{Colon, Word, Text, End}

pub not_close_list : (t : Token) → (t ≡ CloseList → ⊥) → token_of t ≢ grammar.close_list
not_close_list CloseList n e = n refl
not_close_list t n e = cc

pub not_close_object : (t : Token) → (t ≡ CloseObject → ⊥) → token_of t ≢ grammar.close_object
not_close_object CloseObject n e = n refl
not_close_object t n e = cc

pub not_comma : (t : Token) → (t ≡ Comma → ⊥) → token_of t ≢ grammar.comma
not_comma Comma n e = n refl
not_comma t n e = cc

pub not_colon : (t : Token) → (t ≡ Colon → ⊥) → token_of t ≢ grammar.colon
not_colon Colon n e = n refl
not_colon t n e = cc

pub not_end : (t : Token) → (t ≡ End → ⊥) → token_of t ≢ grammar.end
not_end End n e = n refl
not_end t n e = cc

pub not_end_comma : (t : Token) → t ≡ Comma → token_of t ≢ grammar.end
not_end_comma Comma e f = cc
not_end_comma t e f = cc

pub not_end_colon : (t : Token) → t ≡ Colon → token_of t ≢ grammar.end
not_end_colon Colon e f = cc
not_end_colon t e f = cc

pub not_end_close_list : (t : Token) → t ≡ CloseList → token_of t ≢ grammar.end
not_end_close_list CloseList e f = cc
not_end_close_list t e f = cc

pub not_end_close_object : (t : Token) → t ≡ CloseObject → token_of t ≢ grammar.end
not_end_close_object CloseObject e f = cc
not_end_close_object t e f = cc

-- what holds at the fault goes on
pub passes_on : (e : TextError) (P Q : TextFault → Type 0) → ((f : TextFault) → P f → Q f) → FaultIs e P → FaultIs e Q
passes_on errors.Memory P Q g h = tt
passes_on (errors.Fault f) P Q g h = g f h

pub if_fault_then : {X : Type 0} (r : Result X TextError) (P Q : TextFault → Type 0) → ((f : TextFault) → P f → Q f) →
    IfFault r P → IfFault r Q
if_fault_then (Ok x) P Q g h = tt
if_fault_then (Err e) P Q g h = passes_on e P Q g h

pub not_text : (t : Token) → ((s : _) → t ≡ Text s → ⊥) → (k : List ℕ) → token_of t ≢ grammar.key k
not_text (Text s) n k e = n s refl
not_text (Word Null) n k e = cc
not_text (Word (Flag b)) n k e = cc
not_text (Word (Number d)) n k e = cc
not_text (Word (LargeNumber r)) n k e = cc
not_text (Word LongNumber) n k e = cc
not_text t n k e = cc

pub not_start : (t : Token) → (t ≡ OpenList → ⊥) → (t ≡ OpenObject → ⊥) → ((w : _) → t ≡ Word w → ⊥) →
    ((q : _) → t ≡ Text q → ⊥) → is_start (token_of t) ≡ false
not_start OpenList a b c d = absurd (a refl)
not_start OpenObject a b c d = absurd (b refl)
not_start (Word w) a b c d = absurd (c w refl)
not_start (Text q) a b c d = absurd (d q refl)
not_start t a b c d = refl
