-- What a call answered: memory may run out at any time.
use Rattle.std.specs.Prelude.{◌≡◌, Result, Ok, Err}
use Rattle.uc_text.specs.Values.{Value}
use Rattle.uc_text.specs.View.{tree_view}
use Rattle.uc_text.specs.declared.fault.TextFault.{TextFault}
use Rattle.uc_text.specs.declared.fault.TextError.{TextError}
use Rattle.uc_text.specs.declared.fault.TextError.TheVariants as errors
use Rattle.uc_text.specs.declared.tree.Tree.{Tree}

abbrev pub GivesTree : Result Tree TextError → Value → Type 0
GivesTree (Ok t) v = tree_view t ≡ v
GivesTree (Err errors.Memory) v = Unit {0}
GivesTree (Err (errors.Fault f)) v = ⊥

abbrev pub GivesFault : Result Tree TextError → TextFault → Type 0
GivesFault (Ok t) f = ⊥
GivesFault (Err errors.Memory) f = Unit {0}
GivesFault (Err (errors.Fault g)) f = g ≡ f
