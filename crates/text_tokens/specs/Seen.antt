-- What a token of the program is.
use Rattle.text_tokens.specs.Scalars.{Scalar, null, flag, number, long_number}
use Rattle.text_tokens.specs.Grammar as grammar
use Rattle.text_tokens.specs.Strings.{said}
use Rattle.text_tokens.specs.Numbers.{number_of}
use Rattle.text_tokens.specs.Decimals.{decimal_in}
use Rattle.text_tokens.specs.Small.{decimal_of}
use Rattle.text_tokens.specs.declared.token.Word.{Word}
use Rattle.text_tokens.specs.declared.token.Word.TheVariants.{Null, Flag, Number, LargeNumber}
use Rattle.text_tokens.specs.declared.token.Word.TheVariants.{LongNumber}
use Rattle.text_tokens.specs.declared.token.Token.{Token}
use Rattle.text_tokens.specs.declared.token.Token.TheVariants as tokens

abbrev pub scalar_of : Word → Scalar
scalar_of Null = null
scalar_of (Flag b) = flag b
scalar_of (Number s) = number (decimal_of s)
scalar_of (LargeNumber r) = number (decimal_in (number_of r.bytes.now))
scalar_of LongNumber = long_number

abbrev pub token_of : Token → grammar.Token
token_of tokens.OpenList = grammar.open_list
token_of tokens.CloseList = grammar.close_list
token_of tokens.OpenObject = grammar.open_object
token_of tokens.CloseObject = grammar.close_object
token_of tokens.Comma = grammar.comma
token_of tokens.Colon = grammar.colon
token_of (tokens.Word w) = grammar.word (scalar_of w)
token_of (tokens.Text q) = grammar.key (said q.bytes.now)
token_of tokens.Bad = grammar.bad
token_of tokens.End = grammar.end
