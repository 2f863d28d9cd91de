-- An answer is the only one.
use Rattle.uc_text.proofs.Common.{ℕ, List, Result, Ok, Err, IfOk, Value, IfFault, IsText, IsFirstFault, tree_view}
use Rattle.uc_text.proofs.Common.{TextFault, TextError, Tree}
use Rattle.uc_text.specs.Answers.{GivesTree, GivesFault}
use Rattle.uc_text.specs.declared.fault.TextError.TheVariants as errors
use Rattle.uc_text.proofs.Uniqueness.{one_value, text_or_fault, one_fault}

pub is_only : (limit : ℕ) (bytes : List ℕ) (r : Result Tree TextError) →
    IfOk r (λ t. IsText limit bytes (tree_view t)) → IfFault r (λ f. IsFirstFault limit bytes f) → (v : Value) →
    IsText limit bytes v → GivesTree r v
is_only limit bytes (Ok t) found fault v h = one_value limit bytes (tree_view t) v found h
is_only limit bytes (Err errors.Memory) found fault v h = tt
is_only limit bytes (Err (errors.Fault f)) found fault v h = text_or_fault limit bytes v f h fault

pub is_refused : (limit : ℕ) (bytes : List ℕ) (r : Result Tree TextError) →
    IfOk r (λ t. IsText limit bytes (tree_view t)) → IfFault r (λ f. IsFirstFault limit bytes f) → (f : TextFault) →
    IsFirstFault limit bytes f → GivesFault r f
is_refused limit bytes (Ok t) found fault f h = text_or_fault limit bytes (tree_view t) f found h
is_refused limit bytes (Err errors.Memory) found fault f h = tt
is_refused limit bytes (Err (errors.Fault g)) found fault f h = one_fault limit bytes g f fault h
