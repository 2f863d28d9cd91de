-- A home counts its cells or it doesn't.
use Rattle.std.proofs.Common.{◌≡◌, true, false}

-- of a home that doesn't count anything holds that is said of one that does
pub uncounted : {P : Type 0} → false ≡ true → P
uncounted e = cc
