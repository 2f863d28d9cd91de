-- What is there is one value.
use Rattle.std.proofs.Common.{◌≡◌, ℤ, Option, Some}

pub same_some : {a b : ℤ} {o : Option ℤ} → o ≡ Some a → o ≡ Some b → a ≡ b
same_some p q = cc
