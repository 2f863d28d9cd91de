-- The pass over the words, word by word, as the reader's loop makes it.
use Rattle.hull_words.proofs.Common.{◌≡◌, ℕ, ◌+◌, ◌*◌, ◌<◌, ◌≤◌, Bool, true, false, List, [], ◌∷◌, length, drop, get_or}
use Rattle.hull_words.proofs.Common.{Option, Some, None, Result, Ok, Err, refl, sym, ap, ◌∙◌, arith, add-one, String}
use Rattle.hull_words.proofs.Common.{string_bytes, CommandKind, WordCode, NoCommand, UnknownCommand, WordFault}
use Rattle.hull_words.proofs.Common.{command_named, takes_next, Found, asked_from, first_of, fault, texts, words_of}
use Rattle.hull_words.proofs.Common.{values_of, asked_of, or_missing, flag, nothing, word_step, read_from}
use Rattle.std.specs.Global.{Global}
use Rattle.std.proofs.Math.Seq.{drop-cons}
use Rattle.std.proofs.Math.ListN.{get_or-map, drop_of_length-le}
use Rattle.std.proofs.lemmas.List.{length-map}
use Rattle.hull_words.proofs.Counts.{flag_bound}
use Rattle.hull_words.proofs.Exact.{read_is}

pub texts-drop : (words : List (String Global)) (i : ℕ) (word : String Global) → i < length words →
    word ≡ get_or words i word → drop i (texts words) ≡ string_bytes word ∷ drop (i + 1) (texts words)
texts-drop words i word lt is =
    let within : i < length (texts words) = omega (arith, length-map words string_bytes) in
    let here : get_or (texts words) i (string_bytes word) ≡ string_bytes word =
    get_or-map string_bytes words i word ∙ ap string_bytes (sym is) in
    drop-cons (texts words) i (string_bytes word) within ∙ rw (here, add-one) refl

pub first_of-texts : (words : List (String Global)) (i : ℕ) (word : String Global) → i < length words →
    word ≡ get_or words i word → Some (string_bytes word) ≡ first_of (drop i (texts words))
first_of-texts words i word lt is = sym (ap first_of (texts-drop words i word lt is))

-- past a value
pub past_value : (command : CommandKind) (words : List (String Global)) (i : ℕ) (found : Found) → i < length words
    → read_from command (i + 2) true (drop i (texts words)) found ≡ read_from command (i + 3) false
    (drop (i + 1) (texts words)) found
unfolding read_from
past_value command words i found lt =
    let within : i < length (texts words) = omega (arith, length-map words string_bytes) in
    let position : i + 2 + 1 ≡ i + 3 = omega arith in
    rw (drop-cons (texts words) i [] within, ← add-one i)
    (ap (λ (p : ℕ). read_from command p false (drop (i + 1) (texts words)) found) position)

-- past an option or a number
pub past_word : (command : CommandKind) (texts later : List (List ℕ)) (word text : List ℕ) (next : Option (List ℕ))
    (i : ℕ) (b : Bool) (found after : Found) → texts ≡ word ∷ later → text ≡ word → next ≡ first_of later
    → Ok after ≡ word_step command text next found → b ≡ takes_next text →
    read_from command (i + 2) false texts found ≡ read_from command (i + 3) b later after
unfolding read_from
past_word command texts later word text next i b found after e t n step takes =
    let position : i + 2 + 1 ≡ i + 3 = omega arith in
    let step_here : word_step command word (first_of later) found ≡ Ok after =
    sym (step ∙ ap (λ (x : List ℕ). word_step command x next found) t ∙
    ap (λ (y : Option (List ℕ)). word_step command word y found) n) in
    let takes_here : takes_next word ≡ b = sym (takes ∙ ap (λ (x : List ℕ). takes_next x) t) in
    rw (e, step_here, takes_here) (ap (λ (p : ℕ). read_from command p b later after) position)

-- a fault ends the pass
pub at_fault : (command : CommandKind) (texts later : List (List ℕ)) (word text : List ℕ) (next : Option (List ℕ))
    (i : ℕ) (found : Found) (code : WordCode) → texts ≡ word ∷ later → text ≡ word → next ≡ first_of later
    → Err code ≡ word_step command text next found →
    read_from command (i + 2) false texts found ≡ Err (fault code (i + 2))
unfolding read_from
at_fault command texts later word text next i found code e t n step =
    let step_here : word_step command word (first_of later) found ≡ Err code =
    sym (step ∙ ap (λ (x : List ℕ). word_step command x next found) t ∙
    ap (λ (y : Option (List ℕ)). word_step command word y found) n) in
    rw (e, step_here) refl

past_all : (command : CommandKind) (position : ℕ) (b : Bool) (found : Found) →
    read_from command position b [] found ≡ Ok found
unfolding read_from
past_all command position true found = refl
past_all command position false found = refl

-- the end of the words
pub at_end : (command : CommandKind) (words : List (String Global)) (i position : ℕ) (b : Bool) (found : Found) →
    length words ≤ i → read_from command position b (drop i (texts words)) found ≡ Ok found
at_end command words i position b found le =
    let past : length (texts words) ≤ i = omega (arith, length-map words string_bytes) in
    rw (drop_of_length-le (texts words) past) (past_all command position b found)

-- the values set bound the positions
pub few_more : (i before after : ℕ) (was b : Bool) → was ≡ false → i + flag was ≤ 2 * before → after ≡ before + 1 →
    i + 1 + flag b ≤ 2 * after
few_more i before after was b unset few more = omega (arith, flag_bound b, ap flag unset)

-- ---- all words

pub words_of-none : (words : List (String Global)) → length words ≡ 0 → words_of (texts words) ≡ Err (fault NoCommand 0)
unfolding words_of
words_of-none [] e = refl
words_of-none (first ∷ later) e = absurd (omega (arith, e))

pub words_of-unknown : (words later : List (String Global)) (first : String Global) (text : List ℕ) →
    words ≡ first ∷ later → text ≡ string_bytes first → None ≡ command_named text →
    words_of (texts words) ≡ Err (fault UnknownCommand 1)
unfolding words_of
words_of-unknown words later first text e t named =
    let unknown : command_named (string_bytes first) ≡ None = sym (named ∙ ap command_named t) in
    rw (e, unknown) refl

named_words : (words later : List (String Global)) (first : String Global) (text : List ℕ) (command : CommandKind)
    (r : Result Found WordFault) → words ≡ first ∷ later → text ≡ string_bytes first → Some command ≡ command_named text
    → r ≡ read_from command 2 false (texts later) nothing →
    words_of (texts words) ≡ asked_of command (length (texts later) + 1) r
unfolding words_of
named_words words later first text command r e t named read =
    let known : command_named (string_bytes first) ≡ Some command = sym (named ∙ ap command_named t) in
    let values : values_of command (texts later) ≡ r = sym (read ∙ read_is command (texts later)) in
    rw (e, known, values) refl

pub words_of-fault : (words later : List (String Global)) (first : String Global) (text : List ℕ)
    (command : CommandKind) (f : WordFault) → words ≡ first ∷ later → text ≡ string_bytes first →
    Some command ≡ command_named text
    → Err f ≡ read_from command 2 false (texts later) nothing → words_of (texts words) ≡ Err f
words_of-fault words later first text command f e t named read =
    named_words words later first text command (Err f) e t named read

pub words_of-found : (words later : List (String Global)) (first : String Global) (text : List ℕ)
    (command : CommandKind) (found : Found) → words ≡ first ∷ later → text ≡ string_bytes first →
    Some command ≡ command_named text
    → Ok found ≡ read_from command 2 false (texts later) nothing →
    words_of (texts words) ≡ or_missing (asked_from command found) (length words)
words_of-found words later first text command found e t named read =
    let count : length (texts later) + 1 ≡ length words = omega (arith, ap length e, length-map later string_bytes) in
    named_words words later first text command (Ok found) e t named read ∙
    ap (λ (n : ℕ). or_missing (asked_from command found) n) count
