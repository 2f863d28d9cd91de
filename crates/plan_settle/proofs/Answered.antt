-- The answers of units, one after another.
use Rattle.plan_settle.proofs.Common.{◌≡◌, ℕ, zero, suc, ◌+◌, ℤ, Some, List, [], ◌∷◌, ◌++◌, take, refl, sym, ap, ◌∙◌}
use Rattle.plan_settle.proofs.Common.{subst, arith, All, AllZip, slice_get, none_some, same_item, zip_with, AnyUnit}
use Rattle.plan_settle.proofs.Common.{PriceLists, Schedule, Market, units, earnings, Fits, schedule_of, Answered}
use Rattle.plan_settle.proofs.Common.{IsAnswerAt, AreAnswersTo, take_all, unit_count, UnitNumbersGoByKind, all_nil}
use Rattle.plan_settle.proofs.Common.{all_cons, head_of, tail_of}
use Rattle.std.proofs.lemmas.Slice.Zip.{all_zipped_more}
use Rattle.uc_model.specs.declared.units.Flow.{Flow}

pub take_item : {A : Type 0} (us : List A) (k : ℕ) (u : A) → slice_get us k ≡ Some u →
    take (k + 1) us ≡ take k us ++ u ∷ []
take_item [] k u e = absurd (none_some u e)
take_item (x ∷ us) zero u e = ap (λ z. z ∷ []) (sym (same_item x u e))
take_item (x ∷ us) (suc k) u e =
    let n : suc k + 1 ≡ suc (k + 1) = omega arith in
    ap (λ (i : ℕ). take i (x ∷ us)) n ∙ ap (λ l. x ∷ l) (take_item us k u e)

-- one more of each at the end
zip_push : {A B C : Type 0} (R : A → B → Type 0) (f : A → B → C) (xs : List A) (ys : List B) (x : A) (y : B) →
    AllZip R xs ys → zip_with f (xs ++ x ∷ []) (ys ++ y ∷ []) ≡ zip_with f xs ys ++ f x y ∷ []
zip_push R f [] [] x y z = refl
zip_push R f [] (b ∷ ys) x y z = absurd z
zip_push R f (a ∷ xs) [] x y z = absurd z
zip_push {C = C} R f (a ∷ xs) (b ∷ ys) x y z = ap (λ (l : List C). f a b ∷ l) (zip_push R f xs ys x y z.1)

pub answers_begin : (m : Market) (π : PriceLists) (rs : List Schedule) (es : List ℤ) → rs ≡ [] → es ≡ [] →
    AreAnswersTo m π 0 rs es
answers_begin m π rs es no_rs no_es =
    subst (λ (l : List Schedule). AreAnswersTo m π 0 l es) (sym no_rs)
    (subst (λ (l : List ℤ). AreAnswersTo m π 0 [] l) (sym no_es) (record { fit = tt; earnings_are = refl }))

pub answers_more : (m : Market) (π : PriceLists) (k : ℕ) (rs more : List Schedule) (es earned : List ℤ) (flow : Flow)
    (a : Answered) → AreAnswersTo m π k rs es → IsAnswerAt m π k flow a
    → more ≡ rs ++ schedule_of a.response ∷ [] → earned ≡ es ++ a.earned ∷ [] → AreAnswersTo m π (k + 1) more earned
answers_more m π k rs more es earned flow a so_far at more-is earned-is =
    let R : AnyUnit → Schedule → Type 0 = λ u r. Fits u π r in
    let f : AnyUnit → Schedule → ℤ = λ u r. earnings u π r in
    let front = take k (units m) in
    let all = sym (take_item (units m) k at.unit at.is) in
    let fit = all_zipped_more R front rs at.unit (schedule_of a.response) so_far.fit at.fit in
    let earned_more : earned ≡ zip_with f (front ++ at.unit ∷ []) (rs ++ schedule_of a.response ∷ []) =
    earned-is ∙ ap (λ (x : ℤ). es ++ x ∷ []) at.earned ∙
    ap (λ (l : List ℤ). l ++ earnings at.unit π (schedule_of a.response) ∷ []) so_far.earnings_are
    ∙ sym (zip_push R f front rs at.unit (schedule_of a.response) so_far.fit) in
    record {
      fit = subst (λ (l : List Schedule). AllZip R (take (k + 1) (units m)) l) (sym more-is)
          (subst (λ (us : List AnyUnit). AllZip R us (rs ++ schedule_of a.response ∷ [])) all fit);
      earnings_are = earned_more ∙ ap (λ (us : List AnyUnit). zip_with f us (rs ++ schedule_of a.response ∷ [])) all ∙
          ap (λ (l : List Schedule). zip_with f (take (k + 1) (units m)) l) (sym more-is);
    }

-- the answers of all units
pub record AreAll (m : Market) (π : PriceLists) (rs : List Schedule) (es : List ℤ) : Type 0 where
  pub fit : AllZip (λ u r. Fits u π r) (units m) rs
  pub earned : es ≡ zip_with (λ u r. earnings u π r) (units m) rs

pub whole_answers : UnitNumbersGoByKind → (m : Market) (π : PriceLists) (rs : List Schedule) (es : List ℤ) →
    AreAnswersTo m π (unit_count m) rs es → AreAll m π rs es
whole_answers numbered m π rs es h =
    let count = (numbered m).count in
    let all = take_all (unit_count m) (units m) (omega (arith, count)) in
    record {
      fit = subst (λ (us : List AnyUnit). AllZip (λ u r. Fits u π r) us rs) all h.fit;
      earned = h.earnings_are ∙ ap (λ (us : List AnyUnit). zip_with (λ u r. earnings u π r) us rs) all;
    }

-- the last of a list, and those before it
pub popped : {A : Type 0} (P : A → Type 0) (xs : List A) (x : A) → All P (xs ++ x ∷ []) → All P xs × P x
popped P [] x h = (all_nil P, head_of P x [] h)
popped P (y ∷ ys) x h = let rest = popped P ys x (tail_of P y (ys ++ x ∷ []) h) in
    (all_cons P y ys (head_of P y (ys ++ x ∷ []) h) rest.0, rest.1)
