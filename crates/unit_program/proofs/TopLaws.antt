-- What all units of a case earn at best, unit by unit.
use Rattle.unit_program.proofs.Common.{◌≡◌, ℕ, zero, suc, ◌+◌, ℤ, Some, List, [], ◌∷◌, ◌++◌, take, sym, ap, ◌∙◌, subst}
use Rattle.unit_program.proofs.Common.{arith, slice_get, AllZip, Answered, AnyUnit, PriceLists, Schedule, Market, units}
use Rattle.unit_program.proofs.Common.{IsTop, schedule_of, IsFeasible, HasSchedules, CanAnswer}
use Rattle.std.proofs.lemmas.Option.{none-some, same_Some}
use Rattle.std.proofs.lemmas.Slice.Zip.{all_zipped_more}
use Rattle.uc_model.specs.declared.units.Flow.{Flow}
use Rattle.unit_program.specs.Answers.{IsAnswerAt}

one_of : {A B : Type 0} (Q : A → B → Type 0) (us : List A) (ys : List B) (k : ℕ) (u : A) → AllZip Q us ys →
    slice_get us k ≡ Some u → (y : B) × Q u y
one_of Q [] ys k u h e = absurd (none-some u e)
one_of Q (x ∷ us) [] k u h e = absurd h
one_of Q (x ∷ us) (y ∷ ys) zero u h e = (y, subst (λ z. Q z y) (same_Some x u e) h.0)
one_of Q (x ∷ us) (y ∷ ys) (suc k) u h e = one_of Q us ys k u h.1 e

-- ---- answers

pub can_answer : (m : Market) → HasSchedules m → CanAnswer m
can_answer m some k u is none =
    let at = one_of (λ (u : AnyUnit) (s : Schedule). IsFeasible u m.periods s) (units m) some.0 k u some.1 is in
    none at.0 at.1

-- the answer of the unit of a number earns what its best schedules do
pub answer_top : (m : Market) (π : PriceLists) (number : ℕ) (flow : Flow) (a : Answered)
    (h : IsAnswerAt m π number flow a) → IsTop h.unit π a.earned
answer_top m π number flow a h = record { schedule = schedule_of a.response; best = h.fit.best; earns = sym h.earned }

-- ---- one unit after another

take_item : {A : Type 0} (us : List A) (k : ℕ) (u : A) → slice_get us k ≡ Some u → take (k + 1) us ≡ take k us ++ u ∷ []
take_item [] k u e = absurd (none-some u e)
take_item (x ∷ us) zero u e = ap (λ z. z ∷ []) (same_Some x u e)
take_item (x ∷ us) (suc k) u e =
    let n : suc k + 1 ≡ suc (k + 1) = omega arith in
    ap (λ (i : ℕ). take i (x ∷ us)) n ∙ ap (λ l. x ∷ l) (take_item us k u e)

-- what the first so many units earn at best
abbrev pub AreTopsTo : Market → PriceLists → ℕ → List ℤ → Type 0
AreTopsTo m π k earned = AllZip (λ (u : AnyUnit) (e : ℤ). IsTop u π e) (take k (units m)) earned

pub tops_pushed : (m : Market) (π : PriceLists) (k : ℕ) (earned more : List ℤ) (u : AnyUnit) (e : ℤ) →
    AreTopsTo m π k earned → slice_get (units m) k ≡ Some u → IsTop u π e → more ≡ earned ++ e ∷ [] →
    AreTopsTo m π (k + 1) more
tops_pushed m π k earned more u e so_far at top is =
    let Fits : List AnyUnit → List ℤ → Type 0 = AllZip (λ (u : AnyUnit) (e : ℤ). IsTop u π e) in
    subst (λ (es : List ℤ). Fits (take (k + 1) (units m)) es) (sym is)
    (subst (λ (us : List AnyUnit). Fits us (earned ++ e ∷ [])) (sym (take_item (units m) k u at))
    (all_zipped_more (λ (u : AnyUnit) (e : ℤ). IsTop u π e) (take k (units m)) earned u e so_far top))
