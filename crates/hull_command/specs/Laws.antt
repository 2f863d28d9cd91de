-- What holds of all words. The law is the clause of a public function of its name.
use Rattle.std.specs.Prelude.{◌≡◌, ℕ, List, Ok}
use Rattle.hull_words.specs.Asked.{Asked}
use Rattle.hull_words.specs.Words.{words_of}
use Rattle.hull_command.specs.Sizes.{HasSizes}

-- the numbers that words ask for are within their ranges
abbrev pub WordsHaveNumbersInRange : Type 0
WordsHaveNumbersInRange =
    (words : List (List ℕ)) (a : Asked) → words_of words ≡ Ok a → HasSizes a
