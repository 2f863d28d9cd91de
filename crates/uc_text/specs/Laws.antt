-- A list of bytes has one value or one first fault, where so many levels are allowed.
use Rattle.std.specs.Prelude.{◌≡◌, ℕ, List, ◌⊎◌}
use Rattle.uc_text.specs.Values.{Value}
use Rattle.uc_text.specs.Texts.{IsText, IsFirstFault}
use Rattle.uc_text.specs.declared.fault.TextFault.{TextFault}

abbrev pub BytesAreJsonTextOrHaveFault : Type 0
BytesAreJsonTextOrHaveFault =
    (limit : ℕ) (bytes : List ℕ) → ((v : Value) × IsText limit bytes v)
    ⊎ ((f : TextFault) × IsFirstFault limit bytes f)

abbrev pub JsonTextHasNoFault : Type 0
JsonTextHasNoFault =
    (limit : ℕ) (bytes : List ℕ) (v : Value) (f : TextFault) → IsText limit bytes v →
    IsFirstFault limit bytes f → ⊥

abbrev pub JsonTextHasOneValue : Type 0
JsonTextHasOneValue =
    (limit : ℕ) (bytes : List ℕ) (v w : Value) → IsText limit bytes v → IsText limit bytes w → v ≡ w

abbrev pub BadJsonTextHasOneFirstFault : Type 0
BadJsonTextHasOneFirstFault =
    (limit : ℕ) (bytes : List ℕ) (f g : TextFault) → IsFirstFault limit bytes f →
    IsFirstFault limit bytes g → f ≡ g
