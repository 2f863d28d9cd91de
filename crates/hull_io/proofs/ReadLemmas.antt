-- A file read at rising offsets: what was read is the front of what is told.
use Rattle.std.proofs.Common.{◌≡◌, ℕ, ◌+◌, ◌<◌, List, ◌++◌, length, take, drop, Option, None, Some, IfSome, sym, ap}
use Rattle.std.proofs.Common.{◌∙◌, arith, take-add}
use Rattle.std.proofs.lemmas.List.{take_all, length-take}
use Rattle.hull_io.specs.Edge.{ReadsAt}

-- the next read goes on with the front
pub front_grows : (told : Option (List ℕ)) (read into : List ℕ) (count offset n : ℕ) →
    IfSome told (λ bytes. read ≡ take count bytes) → IfSome told (λ bytes. ReadsAt bytes offset n into) →
    offset ≡ count → IfSome told (λ bytes. read ++ take n into ≡ take (count + n) bytes)
front_grows None read into count offset n front next at = tt
front_grows (Some bytes) read into count offset n front next at =
    ap (λ x. x ++ take n into) front
    ∙ ap (λ x. take count bytes ++ x) (next.front ∙ ap (λ k. take n (drop k bytes)) at)
    ∙ sym (take-add count n bytes)

-- a read that gives nothing shows that the front is all
pub front_is_all : (told : Option (List ℕ)) (read into : List ℕ) (count offset n : ℕ) →
    IfSome told (λ bytes. read ≡ take count bytes) → IfSome told (λ bytes. ReadsAt bytes offset n into) →
    offset ≡ count → n ≡ 0 → 0 < length into → IfSome told (λ bytes. read ≡ bytes)
front_is_all None read into count offset n front next at none room = tt
front_is_all (Some bytes) read into count offset n front next at none room =
    front ∙ take_all count bytes (let end = next.ends none room in omega (arith, end, at))

-- no front is longer than what is told
pub front_is_within : (told : Option (List ℕ)) (read : List ℕ) (count most : ℕ) →
    IfSome told (λ bytes. read ≡ take count bytes) → length read ≡ count → most < count →
    IfSome told (λ bytes. most < length bytes)
front_is_within None read count most front same more = tt
front_is_within (Some bytes) read count most front same more = let n = length-take count bytes in
    let e = ap length front in omega (arith, n, e, same, more)
