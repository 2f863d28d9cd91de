-- The command that a list of words gives, or its first fault (this project's profile). The rule of
-- a word looks at it, the next one and the words before it, here from the nearest on. Positions
-- count words from 1, the command being the first.
use Rattle.std.specs.Prelude.{◌≡◌, ℕ, ◌+◌, Bool, true, false, ◌&&◌, ◌||◌, List, [], ◌∷◌, length}
use Rattle.std.specs.Prelude.{Option, Some, None, is_some, option_and_then, map, Result, Ok, Err}
use Rattle.std.specs.Prelude.{if◌then◌else◌}
use Rattle.std.specs.Global.{Global}
use Rattle.std.specs.declared.string.String.{String}
use Rattle.std.specs.String.{string_bytes}
use Rattle.std.specs.List.{find, list_any}
use Rattle.std.specs.Str.{bytes_eq}
use Rattle.hull_words.specs.declared.kinds.CommandKind.{CommandKind}
use Rattle.hull_words.specs.declared.kinds.CommandKind.TheVariants.{Try}
use Rattle.hull_words.specs.declared.kinds.OptionKind.{OptionKind}
use Rattle.hull_words.specs.declared.kinds.OptionKind.TheVariants.{Case, Schedule, Report}
use Rattle.hull_words.specs.declared.kinds.OptionKind.TheVariants.{Proposals, Workers, Ahead}
use Rattle.hull_words.specs.declared.kinds.OptionKind.TheVariants.{Radius, Prices, Mixture}
use Rattle.hull_words.specs.declared.kinds.OptionKind.TheVariants.{Within, Rounds}
use Rattle.hull_words.specs.declared.word_fault.WordCode.{WordCode}
use Rattle.hull_words.specs.declared.word_fault.WordCode.TheVariants.{NoCommand, UnknownCommand}
use Rattle.hull_words.specs.declared.word_fault.WordCode.TheVariants.{UnknownOption, RepeatedOption}
use Rattle.hull_words.specs.declared.word_fault.WordCode.TheVariants.{NoValue, BadNumber, MissingOption}
use Rattle.hull_words.specs.declared.word_fault.WordCode.TheVariants.{StrayWord}
use Rattle.hull_words.specs.declared.word_fault.WordFault.{WordFault}
use Rattle.hull_words.specs.declared.word_fault.WordError.{WordError}
use Rattle.hull_words.specs.declared.word_fault.WordError.TheVariants as errors
use Rattle.hull_words.specs.Spelling.{command_named, options, spelling}
use Rattle.hull_words.specs.WordTexts.{is_option, option_name, own_value, takes_next, can_be_value}
use Rattle.hull_words.specs.WordTexts.{number_in}
use Rattle.hull_words.specs.Asked.{Asked, Found, asked_from}
use Rattle.plain_lists.specs.declared.limits.TheConstants.{MOST_PROPOSALS, MOST_WORKERS}
use Rattle.plain_lists.specs.declared.limits.TheConstants.{MOST_AHEAD, MOST_RADIUS}
use Rattle.hull_words.specs.declared.limits.TheConstants.{MOST_WITHIN, MOST_ROUNDS}

-- ---- one option

-- the option of the command that a name is for
abbrev pub option_in : CommandKind → List ℕ → Option OptionKind
option_in command name = find (λ o. bytes_eq name (spelling o)) (options command)

-- an option was given before by a word with its name
abbrev pub is_named : List ℕ → List ℕ → Bool
is_named name word = is_option word && bytes_eq (option_name word) name

abbrev pub is_given : List ℕ → List (List ℕ) → Bool
is_given name earlier = list_any (is_named name) earlier

-- its value follows the `=`, or else is the next word
abbrev pub or_else : Option (List ℕ) → Option (List ℕ) → Option (List ℕ)
or_else None next = next
or_else (Some value) next = Some value

unfoldable pub value_at : List ℕ → Option (List ℕ) → Option (List ℕ)
value_at word next = or_else (own_value word) next

-- the number of an option that has one, where the text is such a number within its range
abbrev pub setting : OptionKind → List ℕ → Option ℕ
setting Proposals text = number_in 1 MOST_PROPOSALS text
setting Workers text = number_in 1 MOST_WORKERS text
setting Ahead text = number_in 1 MOST_AHEAD text
setting Radius text = number_in 0 MOST_RADIUS text
setting Within text = number_in 0 MOST_WITHIN text
setting Rounds text = number_in 1 MOST_ROUNDS text
setting _ text = None

abbrev pub fits : OptionKind → List ℕ → Bool
fits Case text = true
fits Schedule text = true
fits Report text = true
fits Prices text = true
fits Mixture text = true
fits o text = is_some (setting o text)

-- what is wrong with an option that the command has, or not, that was given before, or not, and
-- with this value
abbrev pub option_fault : Option OptionKind → Bool → Option (List ℕ) → Option WordCode
option_fault None given value = Some UnknownOption
option_fault (Some o) true value = Some RepeatedOption
option_fault (Some o) false None = Some NoValue
option_fault (Some o) false (Some value) =
    if can_be_value value then (if fits o value then None else Some BadNumber) else Some NoValue

-- ---- one word that is no option

-- the word is the value of the option before it
abbrev pub is_value_after : List (List ℕ) → Bool
is_value_after [] = false
is_value_after (nearest ∷ earlier) = takes_next nearest

-- the words that are neither options nor their values, from the nearest on
abbrev pub plain_words : List (List ℕ) → List (List ℕ)
plain_words [] = []
plain_words (word ∷ earlier) =
    if is_option word || is_value_after earlier then plain_words earlier else word
    ∷ plain_words earlier

-- the number that `try` takes, a u64
abbrev pub try_number : List ℕ → Option ℕ
try_number text = number_in 0 18_446_744_073_709_551_615 text

-- such a word is the number of `try`, once
abbrev pub plain_fault : CommandKind → List (List ℕ) → List ℕ → Option WordCode
plain_fault Try [] word = if is_some (try_number word) then None else Some BadNumber
plain_fault _ _ word = Some StrayWord

-- ---- one word after the command

unfoldable pub fault_at : CommandKind → List (List ℕ) → List ℕ → Option (List ℕ) → Option WordCode
fault_at command earlier word next =
    if is_value_after earlier then None else
    (if is_option word then option_fault (option_in command (option_name word))
    (is_given (option_name word) earlier) (value_at word next)
    else plain_fault command (plain_words earlier) word)

-- ---- all words

abbrev pub first_of : List (List ℕ) → Option (List ℕ)
first_of [] = None
first_of (word ∷ words) = Some word

-- the fault of a code at a position
abbrev pub fault : WordCode → ℕ → WordFault
fault code position = record { code = code; position = position }

-- the fault at a position, or else that of the words after it
abbrev pub or_later : Option WordCode → ℕ → Option WordFault → Option WordFault
or_later None position later = later
or_later (Some code) position later = Some (fault code position)

-- the fault of the first word that has one, where earlier stands before the words; the command is
-- at position 1
unfoldable pub first_fault : CommandKind → List (List ℕ) → List (List ℕ) → Option WordFault
first_fault command earlier [] = None
first_fault command earlier (word ∷ later) =
    or_later (fault_at command earlier word (first_of later)) (length earlier + 2)
    (first_fault command (word ∷ earlier) later)

-- the words, from the nearest on
abbrev pub backwards : List (List ℕ) → List (List ℕ) → List (List ℕ)
backwards earlier [] = earlier
backwards earlier (word ∷ later) = backwards (word ∷ earlier) later

-- the value of the option of that name, where next is the word after the nearest one
unfoldable pub value_of : List ℕ → Option (List ℕ) → List (List ℕ) → Option (List ℕ)
value_of name next [] = None
value_of name next (word ∷ earlier) =
    if is_named name word then value_at word next else value_of name (Some word) earlier

-- the values that the words give
unfoldable pub found_in : List (List ℕ) → Found
found_in words = record {
  case_name = value_of (spelling Case) None words;
  schedule_name = value_of (spelling Schedule) None words;
  report_name = value_of (spelling Report) None words;
  prices_name = value_of (spelling Prices) None words;
  mixture_name = value_of (spelling Mixture) None words;
  proposals = option_and_then (setting Proposals) (value_of (spelling Proposals) None words);
  workers = option_and_then (setting Workers) (value_of (spelling Workers) None words);
  ahead = option_and_then (setting Ahead) (value_of (spelling Ahead) None words);
  radius = option_and_then (setting Radius) (value_of (spelling Radius) None words);
  within = option_and_then (setting Within) (value_of (spelling Within) None words);
  rounds = option_and_then (setting Rounds) (value_of (spelling Rounds) None words);
  number = option_and_then try_number (first_of (plain_words words));
}

-- the values that the words after the command give, or the first fault
abbrev pub or_fault : Option WordFault → Found → Result Found WordFault
or_fault None found = Ok found
or_fault (Some f) found = Err f

abbrev pub values_of : CommandKind → List (List ℕ) → Result Found WordFault
values_of command later = or_fault (first_fault command [] later) (found_in (backwards [] later))

-- what is missing comes last, at the number of words
abbrev pub or_missing : {A : Type 0} → Option A → ℕ → Result A WordFault
or_missing None count = Err (fault MissingOption count)
or_missing (Some a) count = Ok a

abbrev pub asked_of : CommandKind → ℕ → Result Found WordFault → Result Asked WordFault
asked_of command count (Err f) = Err f
asked_of command count (Ok found) = or_missing (asked_from command found) count

abbrev pub later_words : Option CommandKind → List (List ℕ) → Result Asked WordFault
later_words None later = Err (fault UnknownCommand 1)
later_words (Some command) later = asked_of command (length later + 1) (values_of command later)

-- the command that the words give, or the first fault
unfoldable pub words_of : List (List ℕ) → Result Asked WordFault
words_of [] = Err (fault NoCommand 0)
words_of (first ∷ later) = later_words (command_named first) later

-- words as their bytes
abbrev pub texts : List (String Global) → List (List ℕ)
texts words = map string_bytes words

-- ---- what a call answers

-- what a call returned, seen by view, is what a definition gives, unless memory ran out
abbrev pub Fails : {Y : Type 0} → WordError → Result Y WordFault → Type 0
Fails errors.Memory given = Unit {0}
Fails (errors.Fault f) given = given ≡ Err f

abbrev pub Gives : {X Y : Type 0} → (X → Y) → Result X WordError → Result Y WordFault → Type 0
Gives view (Ok x) given = given ≡ Ok (view x)
Gives view (Err e) given = Fails e given
