-- One step of the reader is the rules of that word.
use Rattle.hull_words.proofs.Common.{◌≡◌, ℕ, Bool, true, false, ◌||◌, cond, List, [], ◌∷◌, Option, Some, None, is_some}
use Rattle.hull_words.proofs.Common.{Result, Ok, Err, refl, sym, ap, subst, ◌∙◌, find, bytes_eq-Decides, same_Some}
use Rattle.hull_words.proofs.Common.{CommandKind, Price, Check, Try, Bound, Fixed, Audit, Settle, Certify, Convex}
use Rattle.hull_words.proofs.Common.{OptionKind}
use Rattle.hull_words.proofs.Common.{Case, Schedule, Report, Prices, Mixture, Proposals, Workers, Ahead, Radius, Within}
use Rattle.hull_words.proofs.Common.{Rounds}
use Rattle.hull_words.proofs.Common.{WordCode, RepeatedOption, NoValue, BadNumber, options, spelling, is_option}
use Rattle.hull_words.proofs.Common.{option_name, own_value, takes_next, can_be_value, Found, option_in, is_named}
use Rattle.hull_words.proofs.Common.{is_given, or_else, value_at, setting, fits, option_fault, is_value_after}
use Rattle.hull_words.proofs.Common.{plain_words, try_number, plain_fault, fault_at, first_of, value_of, found_in}
use Rattle.hull_words.proofs.Common.{is_set, with_number, set_to, value_step, option_step, plain_step, word_step}
use Rattle.std.specs.Str.{bytes_eq}
use Rattle.hull_words.proofs.Counts.{ok_is, number_ok}
use Rattle.hull_words.proofs.TextLemmas.{is_option-value}

-- the values read so far are those that the words before give
pub record Agrees (earlier : List (List ℕ)) (found : Found) : Type 0 where
  pub values : found ≡ found_in earlier
  pub marks : (o : OptionKind) → is_set o found ≡ is_given (spelling o) earlier
  pub numbers : is_some found.number ≡ is_some (first_of (plain_words earlier))

-- ---- what the words before and one option more give

abbrev pub same : OptionKind → OptionKind → Bool
same o m = bytes_eq (spelling m) (spelling o)

pub record Grows (m : OptionKind) (text : List ℕ) (earlier grown : List (List ℕ)) : Type 0 where
  pub value : (o : OptionKind) →
      value_of (spelling o) None grown ≡ cond (same o m) (Some text) (value_of (spelling o) None earlier)
  pub given : (o : OptionKind) → is_given (spelling o) grown ≡ (same o m || is_given (spelling o) earlier)
  pub plain : plain_words grown ≡ plain_words earlier

-- where the nearest word takes no next one, the next word doesn't matter
no_next : (name nearest : List ℕ) (earlier : List (List ℕ)) (next : Option (List ℕ)) (b : Bool)
    (own : Option (List ℕ)) → is_option nearest ≡ b → own_value nearest ≡ own → takes_next nearest ≡ false
    → value_of name next (nearest ∷ earlier) ≡ value_of name None (nearest ∷ earlier)
unfolding value_of value_at
no_next name nearest earlier next false own e f h = rw e refl
no_next name nearest earlier next true None e f h = let taken : takes_next nearest ≡ true = rw (e, f) refl in absurd cc
no_next name nearest earlier next true (Some text) e f h = rw (e, f) refl

value_of-next : (name : List ℕ) (next : Option (List ℕ)) (earlier : List (List ℕ)) → is_value_after earlier ≡ false →
    value_of name next earlier ≡ value_of name None earlier
unfolding value_of
value_of-next name next [] h = refl
value_of-next name next (nearest ∷ earlier) h =
    no_next name nearest earlier next (is_option nearest) (own_value nearest) refl refl h

named : (word : List ℕ) (m o : OptionKind) → is_option word ≡ true → option_name word ≡ spelling m →
    is_named (spelling o) word ≡ same o m
named word m o e n = rw (e, n) refl

-- an option with its own value
grows_alone : (word text : List ℕ) (m : OptionKind) (earlier : List (List ℕ)) → is_option word ≡ true →
    option_name word ≡ spelling m → own_value word ≡ Some text → is_value_after earlier ≡ false
    → Grows m text earlier (word ∷ earlier)
unfolding value_of value_at
grows_alone word text m earlier e n v h = record {
  value = λ o. rw (e, n, v, value_of-next (spelling o) (Some word) earlier h) refl;
  given = λ o. rw (e, n) refl;
  plain = rw e refl;
}

-- an option with the next word
grows_next : (word text : List ℕ) (m : OptionKind) (earlier : List (List ℕ)) → is_option word ≡ true →
    option_name word ≡ spelling m → own_value word ≡ None → is_value_after earlier ≡ false → is_option text ≡ false
    → Grows m text earlier (text ∷ word ∷ earlier)
unfolding value_of value_at
grows_next word text m earlier e n v h t = record {
  value = λ o. rw (t, e, n, v, value_of-next (spelling o) (Some word) earlier h) refl;
  given = λ o. rw (t, e, n) refl;
  plain = rw (t, e, v) refl;
}

-- ---- what was read after that option

case_marks : (o : OptionKind) (text : List ℕ) (found : Found) →
    is_set o (record found { case_name = Some text }) ≡ (same o Case || is_set o found)
case_marks Case text found = refl
case_marks _ text found = refl

schedule_marks : (o : OptionKind) (text : List ℕ) (found : Found) →
    is_set o (record found { schedule_name = Some text }) ≡ (same o Schedule || is_set o found)
schedule_marks Schedule text found = refl
schedule_marks _ text found = refl

report_marks : (o : OptionKind) (text : List ℕ) (found : Found) →
    is_set o (record found { report_name = Some text }) ≡ (same o Report || is_set o found)
report_marks Report text found = refl
report_marks _ text found = refl

prices_marks : (o : OptionKind) (text : List ℕ) (found : Found) →
    is_set o (record found { prices_name = Some text }) ≡ (same o Prices || is_set o found)
prices_marks Prices text found = refl
prices_marks _ text found = refl

mixture_marks : (o : OptionKind) (text : List ℕ) (found : Found) →
    is_set o (record found { mixture_name = Some text }) ≡ (same o Mixture || is_set o found)
mixture_marks Mixture text found = refl
mixture_marks _ text found = refl

proposals_marks : (o : OptionKind) (n : ℕ) (found : Found) →
    is_set o (record found { proposals = Some n }) ≡ (same o Proposals || is_set o found)
proposals_marks Proposals n found = refl
proposals_marks _ n found = refl

workers_marks : (o : OptionKind) (n : ℕ) (found : Found) →
    is_set o (record found { workers = Some n }) ≡ (same o Workers || is_set o found)
workers_marks Workers n found = refl
workers_marks _ n found = refl

ahead_marks : (o : OptionKind) (n : ℕ) (found : Found) →
    is_set o (record found { ahead = Some n }) ≡ (same o Ahead || is_set o found)
ahead_marks Ahead n found = refl
ahead_marks _ n found = refl

radius_marks : (o : OptionKind) (n : ℕ) (found : Found) →
    is_set o (record found { radius = Some n }) ≡ (same o Radius || is_set o found)
radius_marks Radius n found = refl
radius_marks _ n found = refl

within_marks : (o : OptionKind) (n : ℕ) (found : Found) →
    is_set o (record found { within = Some n }) ≡ (same o Within || is_set o found)
within_marks Within n found = refl
within_marks _ n found = refl

rounds_marks : (o : OptionKind) (n : ℕ) (found : Found) →
    is_set o (record found { rounds = Some n }) ≡ (same o Rounds || is_set o found)
rounds_marks Rounds n found = refl
rounds_marks _ n found = refl

number_marks : (o : OptionKind) (n : ℕ) (found : Found) → is_set o (record found { number = Some n }) ≡ is_set o found
number_marks Case n found = refl
number_marks _ n found = refl

-- a step that sets one option leaves what the grown words give
agrees_more : (m : OptionKind) (text : List ℕ) (earlier grown : List (List ℕ)) (found after : Found) →
    Agrees earlier found → Grows m text earlier grown
    → ((o : OptionKind) → is_set o after ≡ (same o m || is_set o found)) → after.number ≡ found.number →
    after ≡ found_in grown → Agrees grown after
agrees_more m text earlier grown found after a g marks number values = record {
  values = values;
  marks = λ o. marks o ∙ ap (λ (b : Bool). same o m || b) (a.marks o) ∙ sym (g.given o);
  numbers = rw (number, g.plain) a.numbers;
}

proposals_values : (n : ℕ) (text : List ℕ) (earlier grown : List (List ℕ)) (found : Found) → Agrees earlier found →
    Grows Proposals text earlier grown → setting Proposals text ≡ Some n →
    record found { proposals = Some n } ≡ found_in grown
unfolding found_in
proposals_values n text earlier grown found a g e =
    rw (
      a.values,
      g.value Case,
      g.value Schedule,
      g.value Report,
      g.value Prices,
      g.value Mixture,
      g.value Proposals,
      g.value Workers,
      g.value Ahead,
      g.value Radius,
      g.value Within,
      g.value Rounds,
      g.plain,
      e,
    ) refl

workers_values : (n : ℕ) (text : List ℕ) (earlier grown : List (List ℕ)) (found : Found) → Agrees earlier found →
    Grows Workers text earlier grown → setting Workers text ≡ Some n →
    record found { workers = Some n } ≡ found_in grown
unfolding found_in
workers_values n text earlier grown found a g e =
    rw (
      a.values,
      g.value Case,
      g.value Schedule,
      g.value Report,
      g.value Prices,
      g.value Mixture,
      g.value Proposals,
      g.value Workers,
      g.value Ahead,
      g.value Radius,
      g.value Within,
      g.value Rounds,
      g.plain,
      e,
    ) refl

ahead_values : (n : ℕ) (text : List ℕ) (earlier grown : List (List ℕ)) (found : Found) → Agrees earlier found →
    Grows Ahead text earlier grown → setting Ahead text ≡ Some n → record found { ahead = Some n } ≡ found_in grown
unfolding found_in
ahead_values n text earlier grown found a g e =
    rw (
      a.values,
      g.value Case,
      g.value Schedule,
      g.value Report,
      g.value Prices,
      g.value Mixture,
      g.value Proposals,
      g.value Workers,
      g.value Ahead,
      g.value Radius,
      g.value Within,
      g.value Rounds,
      g.plain,
      e,
    ) refl

radius_values : (n : ℕ) (text : List ℕ) (earlier grown : List (List ℕ)) (found : Found) → Agrees earlier found →
    Grows Radius text earlier grown → setting Radius text ≡ Some n → record found { radius = Some n } ≡ found_in grown
unfolding found_in
radius_values n text earlier grown found a g e =
    rw (
      a.values,
      g.value Case,
      g.value Schedule,
      g.value Report,
      g.value Prices,
      g.value Mixture,
      g.value Proposals,
      g.value Workers,
      g.value Ahead,
      g.value Radius,
      g.value Within,
      g.value Rounds,
      g.plain,
      e,
    ) refl

within_values : (n : ℕ) (text : List ℕ) (earlier grown : List (List ℕ)) (found : Found) → Agrees earlier found →
    Grows Within text earlier grown → setting Within text ≡ Some n → record found { within = Some n } ≡ found_in grown
unfolding found_in
within_values n text earlier grown found a g e =
    rw (
      a.values,
      g.value Case,
      g.value Schedule,
      g.value Report,
      g.value Prices,
      g.value Mixture,
      g.value Proposals,
      g.value Workers,
      g.value Ahead,
      g.value Radius,
      g.value Within,
      g.value Rounds,
      g.plain,
      e,
    ) refl

rounds_values : (n : ℕ) (text : List ℕ) (earlier grown : List (List ℕ)) (found : Found) → Agrees earlier found →
    Grows Rounds text earlier grown → setting Rounds text ≡ Some n → record found { rounds = Some n } ≡ found_in grown
unfolding found_in
rounds_values n text earlier grown found a g e =
    rw (
      a.values,
      g.value Case,
      g.value Schedule,
      g.value Report,
      g.value Prices,
      g.value Mixture,
      g.value Proposals,
      g.value Workers,
      g.value Ahead,
      g.value Radius,
      g.value Within,
      g.value Rounds,
      g.plain,
      e,
    ) refl

pub agrees-set : (m : OptionKind) (text : List ℕ) (earlier grown : List (List ℕ)) (found after : Found) →
    Agrees earlier found → Grows m text earlier grown → set_to m text found ≡ Ok after → Agrees grown after
unfolding found_in
agrees-set Case text earlier grown found after a g e =
    subst (Agrees grown) (ok_is _ after e)
    (agrees_more Case text earlier grown found _ a g (λ o. case_marks o text found) refl
    (rw (
      a.values,
      g.value Case,
      g.value Schedule,
      g.value Report,
      g.value Prices,
      g.value Mixture,
      g.value Proposals,
      g.value Workers,
      g.value Ahead,
      g.value Radius,
      g.value Within,
      g.value Rounds,
      g.plain,
    ) refl))
agrees-set Schedule text earlier grown found after a g e =
    subst (Agrees grown) (ok_is _ after e)
    (agrees_more Schedule text earlier grown found _ a g (λ o. schedule_marks o text found) refl
    (rw (
      a.values,
      g.value Case,
      g.value Schedule,
      g.value Report,
      g.value Prices,
      g.value Mixture,
      g.value Proposals,
      g.value Workers,
      g.value Ahead,
      g.value Radius,
      g.value Within,
      g.value Rounds,
      g.plain,
    ) refl))
agrees-set Report text earlier grown found after a g e =
    subst (Agrees grown) (ok_is _ after e)
    (agrees_more Report text earlier grown found _ a g (λ o. report_marks o text found) refl
    (rw (
      a.values,
      g.value Case,
      g.value Schedule,
      g.value Report,
      g.value Prices,
      g.value Mixture,
      g.value Proposals,
      g.value Workers,
      g.value Ahead,
      g.value Radius,
      g.value Within,
      g.value Rounds,
      g.plain,
    ) refl))
agrees-set Prices text earlier grown found after a g e =
    subst (Agrees grown) (ok_is _ after e)
    (agrees_more Prices text earlier grown found _ a g (λ o. prices_marks o text found) refl
    (rw (
      a.values,
      g.value Case,
      g.value Schedule,
      g.value Report,
      g.value Prices,
      g.value Mixture,
      g.value Proposals,
      g.value Workers,
      g.value Ahead,
      g.value Radius,
      g.value Within,
      g.value Rounds,
      g.plain,
    ) refl))
agrees-set Mixture text earlier grown found after a g e =
    subst (Agrees grown) (ok_is _ after e)
    (agrees_more Mixture text earlier grown found _ a g (λ o. mixture_marks o text found) refl
    (rw (
      a.values,
      g.value Case,
      g.value Schedule,
      g.value Report,
      g.value Prices,
      g.value Mixture,
      g.value Proposals,
      g.value Workers,
      g.value Ahead,
      g.value Radius,
      g.value Within,
      g.value Rounds,
      g.plain,
    ) refl))
agrees-set Proposals text earlier grown found after a g e =
    let p = number_ok (setting Proposals text) (λ n. record found { proposals = Some n }) after e in
    subst (Agrees grown) p.2 (agrees_more Proposals text earlier grown found _ a g (λ o. proposals_marks o p.0 found)
    refl (proposals_values p.0 text earlier grown found a g p.1))
agrees-set Workers text earlier grown found after a g e =
    let p = number_ok (setting Workers text) (λ n. record found { workers = Some n }) after e in
    subst (Agrees grown) p.2 (agrees_more Workers text earlier grown found _ a g (λ o. workers_marks o p.0 found) refl
    (workers_values p.0 text earlier grown found a g p.1))
agrees-set Ahead text earlier grown found after a g e =
    let p = number_ok (setting Ahead text) (λ n. record found { ahead = Some n }) after e in
    subst (Agrees grown) p.2 (agrees_more Ahead text earlier grown found _ a g (λ o. ahead_marks o p.0 found) refl
    (ahead_values p.0 text earlier grown found a g p.1))
agrees-set Radius text earlier grown found after a g e =
    let p = number_ok (setting Radius text) (λ n. record found { radius = Some n }) after e in
    subst (Agrees grown) p.2 (agrees_more Radius text earlier grown found _ a g (λ o. radius_marks o p.0 found) refl
    (radius_values p.0 text earlier grown found a g p.1))
agrees-set Within text earlier grown found after a g e =
    let p = number_ok (setting Within text) (λ n. record found { within = Some n }) after e in
    subst (Agrees grown) p.2 (agrees_more Within text earlier grown found _ a g (λ o. within_marks o p.0 found) refl
    (within_values p.0 text earlier grown found a g p.1))
agrees-set Rounds text earlier grown found after a g e =
    let p = number_ok (setting Rounds text) (λ n. record found { rounds = Some n }) after e in
    subst (Agrees grown) p.2 (agrees_more Rounds text earlier grown found _ a g (λ o. rounds_marks o p.0 found) refl
    (rounds_values p.0 text earlier grown found a g p.1))

-- ---- one step

-- what a step leaves for the next word: the values so far, and whether the next word is a value
abbrev pub Goes : Bool → List (List ℕ) → List (List ℕ) → Found → Type 0
Goes false earlier later found = Agrees earlier found
Goes true earlier later found = (value : List ℕ) × (first_of later ≡ Some value) × (is_option value ≡ false) ×
    Agrees (value ∷ earlier) found

-- what a step answers is the rules of that word
abbrev pub Follows : CommandKind → List (List ℕ) → List ℕ → List (List ℕ) → Result Found WordCode → Type 0
Follows command earlier word later (Err code) = fault_at command earlier word (first_of later) ≡ Some code
Follows command earlier word later (Ok after) =
    (fault_at command earlier word (first_of later) ≡ None) × Goes (takes_next word) (word ∷ earlier) later after

found_here : (b : Bool) (p : OptionKind → Bool) (x o : OptionKind) (rest : Option OptionKind) → p x ≡ b →
    (rest ≡ Some o → p o ≡ true) → cond b (Some x) rest ≡ Some o → p o ≡ true
found_here true p x o rest e later h = let same_option : x ≡ o = same_Some x o h in rw (← same_option) e
found_here false p x o rest e later h = later h

found_option : (p : OptionKind → Bool) (os : List OptionKind) (o : OptionKind) → find p os ≡ Some o → p o ≡ true
found_option p [] o e = absurd cc
found_option p (x ∷ os) o e = found_here (p x) p x o (find p os) refl (found_option p os o) e

-- the option that a name is for has that name
name_is : (command : CommandKind) (name : List ℕ) (o : OptionKind) → option_in command name ≡ Some o → name ≡ spelling o
name_is command name o e = (bytes_eq-Decides name (spelling o)).0
    (found_option (λ o. bytes_eq name (spelling o)) (options command) o e)

-- setting an option fails just where its value doesn't fit
abbrev SetFollows : OptionKind → List ℕ → Result Found WordCode → Type 0
SetFollows o text (Err code) = (fits o text ≡ false) × (code ≡ BadNumber)
SetFollows o text (Ok after) = fits o text ≡ true

number_follows : (o : OptionKind) (text : List ℕ) (n : Option ℕ) (put : ℕ → Found) → fits o text ≡ is_some n →
    SetFollows o text (with_number n put)
number_follows o text None put e = (e, refl)
number_follows o text (Some n) put e = e

set_follows : (o : OptionKind) (text : List ℕ) (found : Found) → SetFollows o text (set_to o text found)
set_follows Case text found = refl
set_follows Schedule text found = refl
set_follows Report text found = refl
set_follows Prices text found = refl
set_follows Mixture text found = refl
set_follows Proposals text found =
    number_follows Proposals text (setting Proposals text) (λ n. record found { proposals = Some n }) refl
set_follows Workers text found =
    number_follows Workers text (setting Workers text) (λ n. record found { workers = Some n }) refl
set_follows Ahead text found =
    number_follows Ahead text (setting Ahead text) (λ n. record found { ahead = Some n }) refl
set_follows Radius text found =
    number_follows Radius text (setting Radius text) (λ n. record found { radius = Some n }) refl
set_follows Within text found =
    number_follows Within text (setting Within text) (λ n. record found { within = Some n }) refl
set_follows Rounds text found =
    number_follows Rounds text (setting Rounds text) (λ n. record found { rounds = Some n }) refl

-- the word at hand is an option, and the nearest word before takes no next one
pub record AtOption (command : CommandKind) (earlier : List (List ℕ)) (word : List ℕ) (found : Found) : Type 0 where
  pub option : is_option word ≡ true
  pub apart : is_value_after earlier ≡ false
  pub agrees : Agrees earlier found

-- where the value goes
goes_on : (o : OptionKind) (own : Option (List ℕ)) (command : CommandKind) (earlier : List (List ℕ)) (word : List ℕ)
    (later : List (List ℕ)) (found after : Found) (text : List ℕ) → AtOption command earlier word found
    → option_name word ≡ spelling o → own_value word ≡ own → or_else own (first_of later) ≡ Some text →
    can_be_value text ≡ true → set_to o text found ≡ Ok after → Goes (takes_next word) (word ∷ earlier) later after
goes_on o (Some value) command earlier word later found after text at name own from ok e =
    let same_text : value ≡ text = same_Some value text from in
    let g = grows_alone word text o earlier at.option name (own ∙ ap (λ (t : List ℕ). Some t) same_text) at.apart in
    rw (at.option, own) (agrees-set o text earlier (word ∷ earlier) found after at.agrees g e)
goes_on o None command earlier word later found after text at name own from ok e =
    let plain = is_option-value text ok in
    let g = grows_next word text o earlier at.option name own at.apart plain in
    rw (at.option, own) (text, from, plain, agrees-set o text earlier (text ∷ word ∷ earlier) found after at.agrees g e)

-- the fault of an option, by its parts
fault_at-option : (command : CommandKind) (earlier : List (List ℕ)) (word : List ℕ) (next : Option (List ℕ))
    (o : Option OptionKind) (given : Bool) (value : Option (List ℕ)) → is_value_after earlier ≡ false →
    is_option word ≡ true
    → option_in command (option_name word) ≡ o → is_given (option_name word) earlier ≡ given →
    value_at word next ≡ value → fault_at command earlier word next ≡ option_fault o given value
unfolding fault_at
fault_at-option command earlier word next o given value apart option kind before is =
    rw (apart, option, kind, before, is) refl

set_option : (r : Result Found WordCode) (o : OptionKind) (command : CommandKind) (earlier : List (List ℕ))
    (word : List ℕ) (later : List (List ℕ)) (found : Found) (text : List ℕ) → AtOption command earlier word found
    → option_in command (option_name word) ≡ Some o → is_given (option_name word) earlier ≡ false →
    value_at word (first_of later) ≡ Some text → can_be_value text ≡ true → set_to o text found ≡ r →
    Follows command earlier word later r
unfolding value_at
set_option (Err code) o command earlier word later found text at kind fresh value ok e =
    let f : SetFollows o text (Err code) = subst (SetFollows o text) e (set_follows o text found) in
    fault_at-option command earlier word (first_of later) (Some o) false (Some text) at.apart at.option kind fresh value
    ∙ rw (ok, f.0, f.1) refl
set_option (Ok after) o command earlier word later found text at kind fresh value ok e =
    let f : SetFollows o text (Ok after) = subst (SetFollows o text) e (set_follows o text found) in (
      fault_at-option command earlier word (first_of later) (Some o) false (Some text) at.apart at.option kind fresh
          value ∙ rw (ok, f) refl,
      goes_on o (own_value word) command earlier word later found after text at
          (name_is command (option_name word) o kind) refl value ok e,
    )

with_text : (b : Bool) (o : OptionKind) (command : CommandKind) (earlier : List (List ℕ)) (word : List ℕ)
    (later : List (List ℕ)) (found : Found) (text : List ℕ) → AtOption command earlier word found
    → option_in command (option_name word) ≡ Some o → is_given (option_name word) earlier ≡ false →
    value_at word (first_of later) ≡ Some text → can_be_value text ≡ b
    → Follows command earlier word later (cond b (set_to o text found) (Err NoValue))
with_text true o command earlier word later found text at kind fresh value ok =
    set_option (set_to o text found) o command earlier word later found text at kind fresh value ok refl
with_text false o command earlier word later found text at kind fresh value ok =
    fault_at-option command earlier word (first_of later) (Some o) false (Some text) at.apart at.option kind fresh value
    ∙ rw ok refl

with_value : (value : Option (List ℕ)) (o : OptionKind) (command : CommandKind) (earlier : List (List ℕ))
    (word : List ℕ) (later : List (List ℕ)) (found : Found) → AtOption command earlier word found
    → option_in command (option_name word) ≡ Some o → is_given (option_name word) earlier ≡ false →
    value_at word (first_of later) ≡ value → Follows command earlier word later (value_step o value found)
with_value None o command earlier word later found at kind fresh value =
    fault_at-option command earlier word (first_of later) (Some o) false None at.apart at.option kind fresh value
with_value (Some text) o command earlier word later found at kind fresh value =
    with_text (can_be_value text) o command earlier word later found text at kind fresh value refl

with_mark : (given : Bool) (o : OptionKind) (command : CommandKind) (earlier : List (List ℕ)) (word : List ℕ)
    (later : List (List ℕ)) (found : Found) → AtOption command earlier word found
    → option_in command (option_name word) ≡ Some o → is_given (option_name word) earlier ≡ given
    → Follows command earlier word later
    (cond given (Err RepeatedOption) (value_step o (value_at word (first_of later)) found))
with_mark true o command earlier word later found at kind before =
    fault_at-option command earlier word (first_of later) (Some o) true (value_at word (first_of later)) at.apart
    at.option kind before refl
with_mark false o command earlier word later found at kind before =
    with_value (value_at word (first_of later)) o command earlier word later found at kind before refl

option_follows : (o : Option OptionKind) (command : CommandKind) (earlier : List (List ℕ)) (word : List ℕ)
    (later : List (List ℕ)) (found : Found) → AtOption command earlier word found
    → option_in command (option_name word) ≡ o →
    Follows command earlier word later (option_step o (value_at word (first_of later)) found)
option_follows None command earlier word later found at kind =
    fault_at-option command earlier word (first_of later) None (is_given (option_name word) earlier)
    (value_at word (first_of later)) at.apart at.option kind refl refl
option_follows (Some o) command earlier word later found at kind =
    let name = name_is command (option_name word) o kind in
    let mark : is_set o found ≡ is_given (option_name word) earlier = rw name (at.agrees.marks o) in
    rw mark (with_mark (is_given (option_name word) earlier) o command earlier word later found at kind refl)

-- ---- a word that is no option

plain_value : (word : List ℕ) (earlier : List (List ℕ)) (o : OptionKind) → is_option word ≡ false →
    is_value_after earlier ≡ false
    → value_of (spelling o) None (word ∷ earlier) ≡ value_of (spelling o) None earlier
unfolding value_of
plain_value word earlier o plain apart = rw (plain, value_of-next (spelling o) (Some word) earlier apart) refl

agrees-number : (n : ℕ) (earlier : List (List ℕ)) (word : List ℕ) (found : Found) → Agrees earlier found →
    is_option word ≡ false → is_value_after earlier ≡ false → try_number word ≡ Some n
    → Agrees (word ∷ earlier) (record found { number = Some n })
unfolding found_in
agrees-number n earlier word found a plain apart number = record {
  values = rw (
    a.values,
    plain_value word earlier Case plain apart,
    plain_value word earlier Schedule plain apart,
    plain_value word earlier Report plain apart,
    plain_value word earlier Prices plain apart,
    plain_value word earlier Mixture plain apart,
    plain_value word earlier Proposals plain apart,
    plain_value word earlier Workers plain apart,
    plain_value word earlier Ahead plain apart,
    plain_value word earlier Radius plain apart,
    plain_value word earlier Within plain apart,
    plain_value word earlier Rounds plain apart,
    plain,
    apart,
    number,
  ) refl;
  marks = λ o. number_marks o n found ∙ a.marks o ∙ rw plain refl;
  numbers = rw (plain, apart) refl;
}

fault_at-plain : (command : CommandKind) (earlier : List (List ℕ)) (word : List ℕ) (next : Option (List ℕ))
    (plain : List (List ℕ)) → is_value_after earlier ≡ false → is_option word ≡ false → plain_words earlier ≡ plain
    → fault_at command earlier word next ≡ plain_fault command plain word
unfolding fault_at
fault_at-plain command earlier word next plain apart option before = rw (apart, option, before) refl

try_value : (n : Option ℕ) (earlier : List (List ℕ)) (word : List ℕ) (later : List (List ℕ)) (found : Found) →
    Agrees earlier found → is_option word ≡ false → is_value_after earlier ≡ false → plain_words earlier ≡ []
    → try_number word ≡ n → Follows Try earlier word later (with_number n (λ n. record found { number = Some n }))
try_value None earlier word later found a option apart plain number =
    fault_at-plain Try earlier word (first_of later) [] apart option plain ∙ rw number refl
try_value (Some n) earlier word later found a option apart plain number = (
  fault_at-plain Try earlier word (first_of later) [] apart option plain ∙ rw number refl,
  rw option (agrees-number n earlier word found a option apart number),
)

try_follows : (plain : List (List ℕ)) (earlier : List (List ℕ)) (word : List ℕ) (later : List (List ℕ))
    (found : Found) → Agrees earlier found → is_option word ≡ false → is_value_after earlier ≡ false →
    plain_words earlier ≡ plain
    → Follows Try earlier word later (plain_step Try word found)
try_follows [] earlier word later found a option apart plain =
    let unset : is_some found.number ≡ false = a.numbers ∙ ap (λ (ws : List (List ℕ)). is_some (first_of ws)) plain in
    rw unset (try_value (try_number word) earlier word later found a option apart plain refl)
try_follows (first ∷ more) earlier word later found a option apart plain =
    let set : is_some found.number ≡ true = a.numbers ∙ ap (λ (ws : List (List ℕ)). is_some (first_of ws)) plain in
    rw set (fault_at-plain Try earlier word (first_of later) (first ∷ more) apart option plain)

plain_follows : (command : CommandKind) (earlier : List (List ℕ)) (word : List ℕ) (later : List (List ℕ))
    (found : Found) → Agrees earlier found → is_option word ≡ false → is_value_after earlier ≡ false
    → Follows command earlier word later (plain_step command word found)
plain_follows Try earlier word later found a option apart =
    try_follows (plain_words earlier) earlier word later found a option apart refl
plain_follows Price earlier word later found a option apart =
    fault_at-plain Price earlier word (first_of later) (plain_words earlier) apart option refl
plain_follows Check earlier word later found a option apart =
    fault_at-plain Check earlier word (first_of later) (plain_words earlier) apart option refl
plain_follows Bound earlier word later found a option apart =
    fault_at-plain Bound earlier word (first_of later) (plain_words earlier) apart option refl
plain_follows Fixed earlier word later found a option apart =
    fault_at-plain Fixed earlier word (first_of later) (plain_words earlier) apart option refl
plain_follows Audit earlier word later found a option apart =
    fault_at-plain Audit earlier word (first_of later) (plain_words earlier) apart option refl
plain_follows Settle earlier word later found a option apart =
    fault_at-plain Settle earlier word (first_of later) (plain_words earlier) apart option refl
plain_follows Certify earlier word later found a option apart =
    fault_at-plain Certify earlier word (first_of later) (plain_words earlier) apart option refl
plain_follows Convex earlier word later found a option apart =
    fault_at-plain Convex earlier word (first_of later) (plain_words earlier) apart option refl

either_follows : (b : Bool) (command : CommandKind) (earlier : List (List ℕ)) (word : List ℕ) (later : List (List ℕ))
    (found : Found) → Agrees earlier found → is_option word ≡ b → is_value_after earlier ≡ false
    → Follows command earlier word later
    (cond b (option_step (option_in command (option_name word)) (value_at word (first_of later)) found)
    (plain_step command word found))
either_follows true command earlier word later found a option apart =
    option_follows (option_in command (option_name word)) command earlier word later found
    (record { option = option; apart = apart; agrees = a }) refl
either_follows false command earlier word later found a option apart =
    plain_follows command earlier word later found a option apart

pub word_follows : (command : CommandKind) (earlier : List (List ℕ)) (word : List ℕ) (later : List (List ℕ))
    (found : Found) → Agrees earlier found → is_value_after earlier ≡ false
    → Follows command earlier word later (word_step command word (first_of later) found)
unfolding word_step
word_follows command earlier word later found a apart =
    either_follows (is_option word) command earlier word later found a refl apart
