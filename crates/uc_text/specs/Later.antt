-- What is known of an object's names before they are compared.
use Rattle.std.specs.Prelude.{◌≡◌, ◌<◌, ℕ, List, [], ◌∷◌, length, slice_index_or}
use Rattle.text_tokens.specs.Tokens.{Lexed}
use Rattle.uc_text.specs.Grammar.{open_object}
use Rattle.uc_text.specs.Known.{names_said, IsFirst}
use Rattle.uc_text.specs.Offsets.{StuckAt}
use Rattle.uc_text.specs.declared.names.Name.{Name}
use Rattle.uc_text.specs.declared.fault.TextCode.TheVariants.{DoubleKey}
use Rattle.uc_text.specs.declared.fault.TextFault.{TextFault}

-- the first double name is the fault, wherever it stands
abbrev pub DoublesStop : ℕ → List Lexed → List Name → Type 0
DoublesStop left ts ns =
    (n : ℕ) (d : Name) (f : TextFault) → n < length ns → IsFirst (names_said ns) n →
    f.offset ≡ (slice_index_or ns n d).offset → f.code ≡ DoubleKey →
    StuckAt left (open_object ∷ []) ts f
