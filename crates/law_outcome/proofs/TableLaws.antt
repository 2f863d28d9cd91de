-- What follows where a table gives a value: each of its tests held.
use Rattle.law_outcome.proofs.Common.{◌≡◌, ℕ, Bool, true, false, List, [], ◌∷◌, length, Option, None, Some, Result}
use Rattle.law_outcome.proofs.Common.{Ok, Err, refl}
use Rattle.law_outcome.proofs.Common.{sym, ap, ◌∙◌, subst, arith, All, if◌then◌else◌}
use Rattle.std.proofs.Common.{◌+◌, ◌++◌, length-append}
use Rattle.std.proofs.lemmas.List.Elements.{All-nil, All-push}
use Rattle.std.specs.Option.{option_map, option_and_then}
use Rattle.uc_text.specs.Words.{◌>>=◌, ◌>>◌, refuse, need, each}

-- the first step gave a value, and so did the next
pub first_gave : {A B F : Type 0} (r : Result A F) (f : A → Result B F) (y : B) → r >>= f ≡ Ok y →
    (x : A) × (r ≡ Ok x) × (f x ≡ Ok y)
first_gave (Ok x) f y e = (x, refl, e)
first_gave (Err g) f y e = absurd cc

pub then_gave : {A B F : Type 0} (r : Result A F) (s : Result B F) (y : B) → r >> s ≡ Ok y → s ≡ Ok y
then_gave (Ok x) s y e = e
then_gave (Err g) s y e = absurd cc

pub same_value : {A F : Type 0} (x y : A) → ◌≡◌ {A = Result A F} (Ok x) (Ok y) → x ≡ y
same_value x y e = cc

-- a test that was passed
pub passed : {B F : Type 0} (fault : F) (b : Bool) (s : Result B F) (y : B) → refuse fault b >> s ≡ Ok y →
    (b ≡ false) × (s ≡ Ok y)
passed fault true s y e = absurd cc
passed fault false s y e = (refl, e)

-- a value that was needed
pub was_there : {A F : Type 0} (fault : F) (o : Option A) (x : A) → need fault o ≡ Ok x → o ≡ Some x
was_there fault None x e = absurd cc
was_there fault (Some y) x e = cc

pub both_there : {A B : Type 0} (f : A → Option B) (o : Option A) (y : B) → option_and_then f o ≡ Some y →
    (x : A) × (o ≡ Some x) × (f x ≡ Some y)
both_there f None y e = absurd cc
both_there f (Some x) y e = (x, refl, e)

pub mapped : {A B : Type 0} (f : A → B) (o : Option A) (y : B) → option_map f o ≡ Some y →
    (x : A) × (o ≡ Some x) × (f x ≡ y)
mapped f None y e = absurd cc
mapped f (Some x) y e = (x, refl, cc)

pub chosen_if : {A : Type 0} (b : Bool) (x y : A) → (if b then Some x else None) ≡ Some y → (b ≡ true) × (x ≡ y)
chosen_if true x y e = (refl, cc)
chosen_if false x y e = absurd cc

-- each item that was read has P, where every reading of one gives such an item
module _ {A B F : Type 0} (read : List A → B → Result A F) (P : A → Type 0)
    (gives : (before : List A) (v : B) (x : A) → read before v ≡ Ok x → P x) where
  each_gave : (before : List A) (vs : List B) (xs : List A) → All P before → each read before vs ≡ Ok xs →
      All P xs × (length xs ≡ length before + length vs)
  unfolding each
  each_gave before [] xs all e =
      let same : before ≡ xs = cc in
      (subst (All P) same all, ap length (sym same) ∙ omega arith)
  each_gave before (v ∷ vs) xs all e =
      let here = first_gave (read before v) (λ x. each read (before ++ x ∷ []) vs) xs e in
      let rest = each_gave (before ++ here.0 ∷ []) vs xs
      (All-push P before here.0 all (gives before v here.0 here.1)) here.2 in
      (rest.0, rest.1 ∙ omega (arith, length-append before (here.0 ∷ [])))

  pub all_gave : (vs : List B) (xs : List A) → each read [] vs ≡ Ok xs → All P xs × (length xs ≡ length vs)
  all_gave vs xs e = let all = each_gave [] vs xs (All-nil P) e in (all.0, all.1 ∙ omega arith)
