-- One pass over the words, as the reader makes it: what each step leaves.
use Rattle.std.specs.Prelude.{ℕ, ◌+◌, Bool, true, false, List, [], ◌∷◌, Option, Some, None, is_some}
use Rattle.std.specs.Prelude.{Result, Ok, Err, if◌then◌else◌}
use Rattle.std.specs.Option.{option_copied}
use Rattle.hull_words.specs.declared.kinds.CommandKind.{CommandKind}
use Rattle.hull_words.specs.declared.kinds.CommandKind.TheVariants.{Try}
use Rattle.hull_words.specs.declared.kinds.OptionKind.{OptionKind}
use Rattle.hull_words.specs.declared.kinds.OptionKind.TheVariants.{Case, Schedule, Report}
use Rattle.hull_words.specs.declared.kinds.OptionKind.TheVariants.{Proposals, Workers, Ahead}
use Rattle.hull_words.specs.declared.kinds.OptionKind.TheVariants.{Radius, Prices, Mixture}
use Rattle.hull_words.specs.declared.kinds.OptionKind.TheVariants.{Within, Rounds}
use Rattle.hull_words.specs.declared.word_fault.WordCode.{WordCode}
use Rattle.hull_words.specs.declared.word_fault.WordCode.TheVariants.{UnknownOption, RepeatedOption}
use Rattle.hull_words.specs.declared.word_fault.WordCode.TheVariants.{NoValue, BadNumber, StrayWord}
use Rattle.hull_words.specs.declared.word_fault.WordFault.{WordFault}
use Rattle.hull_words.specs.declared.given.Given.{Given}
use Rattle.hull_words.specs.WordTexts.{is_option, option_name, takes_next, can_be_value}
use Rattle.hull_words.specs.Asked.{Found}
use Rattle.hull_words.specs.Words.{option_in, value_at, setting, try_number, first_of, fault}

-- what a contract sees of the values read so far
abbrev pub found_so_far : Given → Found
found_so_far given = record {
  case_name = option_copied given.case_name;
  schedule_name = option_copied given.schedule_name;
  report_name = option_copied given.report_name;
  prices_name = option_copied given.prices_name;
  mixture_name = option_copied given.mixture_name;
  proposals = given.proposals;
  workers = given.workers;
  ahead = given.ahead;
  radius = given.radius;
  within = given.within;
  rounds = given.rounds;
  number = given.number;
}

abbrev pub nothing : Found
nothing =
    record {
      case_name = None;
      schedule_name = None;
      report_name = None;
      prices_name = None;
      mixture_name = None;
      proposals = None;
      workers = None;
      ahead = None;
      radius = None;
      within = None;
      rounds = None;
      number = None;
    }

abbrev pub is_set : OptionKind → Found → Bool
is_set Case found = is_some found.case_name
is_set Schedule found = is_some found.schedule_name
is_set Report found = is_some found.report_name
is_set Prices found = is_some found.prices_name
is_set Mixture found = is_some found.mixture_name
is_set Proposals found = is_some found.proposals
is_set Workers found = is_some found.workers
is_set Ahead found = is_some found.ahead
is_set Radius found = is_some found.radius
is_set Within found = is_some found.within
is_set Rounds found = is_some found.rounds

-- how many values are set
abbrev pub flag : Bool → ℕ
flag true = 1
flag false = 0

abbrev pub set_count : Found → ℕ
set_count f =
    flag (is_some f.case_name) + flag (is_some f.schedule_name) + flag (is_some f.report_name)
    + flag (is_some f.prices_name) + flag (is_some f.mixture_name)
    + flag (is_some f.proposals) + flag (is_some f.workers) + flag (is_some f.ahead) + flag (is_some f.radius)
    + flag (is_some f.within) + flag (is_some f.rounds) + flag (is_some f.number)

-- a step on a number that is there, and otherwise a bad one
abbrev pub with_number : Option ℕ → (ℕ → Found) → Result Found WordCode
with_number None put = Err BadNumber
with_number (Some n) put = Ok (put n)

abbrev pub set_to : OptionKind → List ℕ → Found → Result Found WordCode
set_to Case text found = Ok (record found { case_name = Some text })
set_to Schedule text found = Ok (record found { schedule_name = Some text })
set_to Report text found = Ok (record found { report_name = Some text })
set_to Prices text found = Ok (record found { prices_name = Some text })
set_to Mixture text found = Ok (record found { mixture_name = Some text })
set_to Proposals text found =
    with_number (setting Proposals text) (λ n. record found { proposals = Some n })
set_to Workers text found =
    with_number (setting Workers text) (λ n. record found { workers = Some n })
set_to Ahead text found = with_number (setting Ahead text) (λ n. record found { ahead = Some n })
set_to Radius text found = with_number (setting Radius text) (λ n. record found { radius = Some n })
set_to Within text found = with_number (setting Within text) (λ n. record found { within = Some n })
set_to Rounds text found = with_number (setting Rounds text) (λ n. record found { rounds = Some n })

-- what a text says for an option, none where it is no number within the range
abbrev pub put : OptionKind → List ℕ → Found → Found
put Case text found = record found { case_name = Some text }
put Schedule text found = record found { schedule_name = Some text }
put Report text found = record found { report_name = Some text }
put Prices text found = record found { prices_name = Some text }
put Mixture text found = record found { mixture_name = Some text }
put Proposals text found = record found { proposals = setting Proposals text }
put Workers text found = record found { workers = setting Workers text }
put Ahead text found = record found { ahead = setting Ahead text }
put Radius text found = record found { radius = setting Radius text }
put Within text found = record found { within = setting Within text }
put Rounds text found = record found { rounds = setting Rounds text }

-- an option with its value
abbrev pub value_step : OptionKind → Option (List ℕ) → Found → Result Found WordCode
value_step o None found = Err NoValue
value_step o (Some text) found = if can_be_value text then set_to o text found else Err NoValue

abbrev pub option_step : Option OptionKind → Option (List ℕ) → Found → Result Found WordCode
option_step None value found = Err UnknownOption
option_step (Some o) value found =
    if is_set o found then Err RepeatedOption else value_step o value found

-- a word that is no option
abbrev pub plain_step : CommandKind → List ℕ → Found → Result Found WordCode
plain_step Try word found =
    if is_some found.number then Err StrayWord else with_number (try_number word)
    (λ n. record found { number = Some n })
plain_step _ word found = Err StrayWord

unfoldable pub word_step : CommandKind → List ℕ → Option (List ℕ) → Found → Result Found WordCode
word_step command word next found =
    if is_option word then option_step (option_in command (option_name word)) (value_at word next)
    found else plain_step command word found

-- a step that failed is a fault at its position, and the others go on
abbrev pub then_on : Result Found WordCode → ℕ → (Found → Result Found WordFault) →
    Result Found WordFault
then_on (Err code) position go = Err (fault code position)
then_on (Ok found) position go = go found

-- the words from a position on, where the first of them is the value of the option before, or not
unfoldable pub read_from : CommandKind → ℕ → Bool → List (List ℕ) → Found → Result Found WordFault
read_from command position true [] found = Ok found
read_from command position false [] found = Ok found
read_from command position true (word ∷ later) found =
    read_from command (position + 1) false later found
read_from command position false (word ∷ later) found =
    then_on (word_step command word (first_of later) found) position
    (λ found. read_from command (position + 1) (takes_next word) later found)

-- what a function returned, its value seen by view
abbrev pub seen : {X Y E : Type 0} → (X → Y) → Result X E → Result Y E
seen view (Ok x) = Ok (view x)
seen view (Err e) = Err e
