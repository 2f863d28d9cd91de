-- The reader's pass gives what the rules give.
use Rattle.hull_words.proofs.Common.{◌≡◌, ℕ, ◌+◌, Bool, true, false, List, [], ◌∷◌, length, Some, None, Result, Ok, Err}
use Rattle.hull_words.proofs.Common.{refl, sym, ap, ◌∙◌, arith, same_Some, CommandKind, OptionKind, Case, WordCode}
use Rattle.hull_words.proofs.Common.{WordFault, is_option, takes_next, spelling, Found, is_given, is_value_after}
use Rattle.hull_words.proofs.Common.{fault_at, first_of, first_fault, backwards, found_in, or_fault, fault, values_of}
use Rattle.hull_words.proofs.Common.{value_of, nothing, is_set, word_step, then_on, read_from}
use Rattle.hull_words.proofs.Steps.{Agrees, Goes, Follows, word_follows}

-- what the rules give for these words, where others stand before
abbrev outcome : CommandKind → List (List ℕ) → List (List ℕ) → Result Found WordFault
outcome command earlier words = or_fault (first_fault command earlier words) (found_in (backwards earlier words))

-- the pass over some words, from any state that fits the words before
abbrev Passes : CommandKind → List (List ℕ) → Type 0
Passes command words = (earlier : List (List ℕ)) (b : Bool) (position : ℕ) (found : Found) →
    is_value_after earlier ≡ b → position ≡ length earlier + 2 → Goes b earlier words found
    → read_from command position b words found ≡ outcome command earlier words

on_value : (command : CommandKind) (earlier : List (List ℕ)) (word : List ℕ) (words : List (List ℕ)) →
    is_value_after earlier ≡ true → outcome command earlier (word ∷ words) ≡ outcome command (word ∷ earlier) words
unfolding first_fault fault_at
on_value command earlier word words h = rw h refl

no_fault : (command : CommandKind) (earlier : List (List ℕ)) (word : List ℕ) (words : List (List ℕ)) →
    fault_at command earlier word (first_of words) ≡ None →
    outcome command earlier (word ∷ words) ≡ outcome command (word ∷ earlier) words
unfolding first_fault
no_fault command earlier word words h = rw h refl

here_fault : (command : CommandKind) (earlier : List (List ℕ)) (word : List ℕ) (words : List (List ℕ))
    (code : WordCode) → fault_at command earlier word (first_of words) ≡ Some code
    → outcome command earlier (word ∷ words) ≡ Err (fault code (length earlier + 2))
unfolding first_fault
here_fault command earlier word words code h = rw h refl

next_position : (word : List ℕ) (earlier : List (List ℕ)) (position : ℕ) → position ≡ length earlier + 2 →
    position + 1 ≡ length (word ∷ earlier) + 2
next_position word earlier position h = omega (arith, h)

no_next : (word : List ℕ) → is_option word ≡ false → takes_next word ≡ false
no_next word h = rw h refl

on_step : (r : Result Found WordCode) (command : CommandKind) (earlier : List (List ℕ)) (word : List ℕ)
    (words : List (List ℕ)) (position : ℕ) → Passes command words → position ≡ length earlier + 2
    → Follows command earlier word words r →
    then_on r position (λ found. read_from command (position + 1) (takes_next word) words found) ≡ outcome command
    earlier (word ∷ words)
on_step (Err code) command earlier word words position passes at f =
    ap (λ (p : ℕ). Err (fault code p)) at ∙ sym (here_fault command earlier word words code f)
on_step (Ok after) command earlier word words position passes at f =
    passes (word ∷ earlier) (takes_next word) (position + 1) after refl (next_position word earlier position at) f.1 ∙
    sym (no_fault command earlier word words f.0)

ended : (b : Bool) (command : CommandKind) (earlier : List (List ℕ)) (position : ℕ) (found : Found) →
    Goes b earlier [] found → read_from command position b [] found ≡ outcome command earlier []
unfolding read_from first_fault
ended true command earlier position found g = let none = g.1 in absurd cc
ended false command earlier position found g = ap (λ (f : Found). Ok f) g.values

one_word : (b : Bool) (command : CommandKind) (earlier : List (List ℕ)) (word : List ℕ) (words : List (List ℕ))
    (position : ℕ) (found : Found) → Passes command words → is_value_after earlier ≡ b → position ≡ length earlier + 2
    → Goes b earlier (word ∷ words) found →
    read_from command position b (word ∷ words) found ≡ outcome command earlier (word ∷ words)
unfolding read_from
one_word true command earlier word words position found passes h at g =
    let same_word : word ≡ g.0 = same_Some word g.0 g.1 in
    let plain : is_option word ≡ false = rw same_word g.2 in
    let agrees : Agrees (word ∷ earlier) found = rw same_word g.3 in
    passes (word ∷ earlier) false (position + 1) found (no_next word plain) (next_position word earlier position at)
    agrees ∙ sym (on_value command earlier word words h)
one_word false command earlier word words position found passes h at g =
    on_step (word_step command word (first_of words) found) command earlier word words position passes at
    (word_follows command earlier word words found g h)

passes : (command : CommandKind) (words : List (List ℕ)) → Passes command words
passes command [] = λ earlier b position found h at g. ended b command earlier position found g
passes command (word ∷ words) = λ earlier b position found h at g. one_word b command earlier word words position found
    (passes command words) h at g

no_marks : (o : OptionKind) → is_set o nothing ≡ is_given (spelling o) []
no_marks Case = refl
no_marks _ = refl

none_before : Agrees [] nothing
unfolding found_in value_of
none_before = record { values = refl; marks = no_marks; numbers = refl }

-- one pass gives the values or the first fault
pub read_is : (command : CommandKind) (words : List (List ℕ)) →
    read_from command 2 false words nothing ≡ values_of command words
read_is command words = passes command words [] false 2 nothing refl refl none_before
