-- The numbers of the faults (this project's profile).
use Rattle.std.specs.Prelude.{ℕ}
use Rattle.hull_words.specs.declared.word_fault.WordCode.{WordCode}
use Rattle.hull_words.specs.declared.word_fault.WordCode.TheVariants.{NoCommand, UnknownCommand}
use Rattle.hull_words.specs.declared.word_fault.WordCode.TheVariants.{UnknownOption, RepeatedOption}
use Rattle.hull_words.specs.declared.word_fault.WordCode.TheVariants.{NoValue, BadNumber, MissingOption}
use Rattle.hull_words.specs.declared.word_fault.WordCode.TheVariants.{StrayWord}

-- the number that a fault line prints
abbrev pub code_number : WordCode → ℕ
code_number NoCommand = 1
code_number UnknownCommand = 2
code_number UnknownOption = 3
code_number RepeatedOption = 4
code_number NoValue = 5
code_number BadNumber = 6
code_number MissingOption = 7
code_number StrayWord = 8
