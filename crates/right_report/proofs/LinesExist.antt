-- A line for each unit: its name, its response, and what it earns and is owed.
use Rattle.std.proofs.Common.{◌≡◌, ℕ, ℤ, ◌-ℤ◌, List, [], ◌∷◌, map, length, refl, ap, arith}
use Rattle.std.specs.List.{AllZip}
use Rattle.uc_model.specs.Data.{AnyUnit, PriceLists, Schedule}
use Rattle.uc_model.specs.Earnings.{earnings, IsTop}
use Rattle.uc_model.specs.Runs.{Fits}
use Rattle.plain_lists.specs.Sums.{zip_with}
use Rattle.report_form.specs.ReportText.{UnitLine}

abbrev line_made : PriceLists → List ℕ → AnyUnit → Schedule → Schedule → UnitLine
line_made π name u scheduled response = record {
  name = name;
  earned = earnings u π response;
  scheduled = earnings u π scheduled;
  payment = earnings u π response -ℤ earnings u π scheduled;
  response = response;
}

abbrev pub name_in : UnitLine → List ℕ
name_in l = l.name

abbrev pub earned_in : UnitLine → ℤ
earned_in l = l.earned

abbrev pub scheduled_in : UnitLine → ℤ
scheduled_in l = l.scheduled

abbrev pub payment_in : UnitLine → ℤ
payment_in l = l.payment

abbrev pub response_in : UnitLine → Schedule
response_in l = l.response

-- these are the lines of the units with their names, their schedules in a plan and their responses
pub record AreLines (π : PriceLists) (us : List AnyUnit) (plan responses : List Schedule) (names : List (List ℕ))
    (ls : List UnitLine) : Type 0 where
  pub names_are : map name_in ls ≡ names
  pub responses_are : map response_in ls ≡ responses
  pub fit : AllZip (λ (u : AnyUnit) (l : UnitLine). Fits u π l.response) us ls
  pub tops : AllZip (λ (u : AnyUnit) (l : UnitLine). IsTop u π l.earned) us ls
  pub earned : AllZip (λ (u : AnyUnit) (e : ℤ). IsTop u π e) us (map earned_in ls)
  pub scheduled : map scheduled_in ls ≡ zip_with (λ (u : AnyUnit) (s : Schedule). earnings u π s) us plan
  pub payments : map payment_in ls ≡ zip_with (λ (e s : ℤ). e -ℤ s) (map earned_in ls) (map scheduled_in ls)

none : (π : PriceLists) → AreLines π [] [] [] [] []
none π = record {
  names_are = refl;
  responses_are = refl;
  fit = tt;
  tops = tt;
  earned = tt;
  scheduled = refl;
  payments =
      refl;
}

one_more : (π : PriceLists) (us : List AnyUnit) (plan responses : List Schedule) (names : List (List ℕ))
    (ls : List UnitLine)
    (name : List ℕ) (u : AnyUnit) (s r : Schedule) → Fits u π r → AreLines π us plan responses names ls
    → AreLines π (u ∷ us) (s ∷ plan) (r ∷ responses) (name ∷ names) (line_made π name u s r ∷ ls)
one_more π us plan responses names ls name u s r fit h =
    let top : IsTop u π (earnings u π r) = record { schedule = r; best = fit.best; earns = refl } in
    record {
      names_are = ap (λ (ns : List (List ℕ)). name ∷ ns) h.names_are;
      responses_are = ap (λ (rs : List Schedule). r ∷ rs) h.responses_are;
      fit = (fit, h.fit);
      tops = (top, h.tops);
      earned = (top, h.earned);
      scheduled = ap (λ (xs : List ℤ). earnings u π s ∷ xs) h.scheduled;
      payments = ap (λ (xs : List ℤ). (earnings u π r -ℤ earnings u π s) ∷ xs) h.payments;
    }

pub lines_exist : (π : PriceLists) (us : List AnyUnit) (plan responses : List Schedule) (names : List (List ℕ)) →
    length plan ≡ length us → length names ≡ length us
    → AllZip (λ (u : AnyUnit) (s : Schedule). Fits u π s) us responses →
    (ls : List UnitLine) × AreLines π us plan responses names ls
lines_exist π [] [] [] [] p n fit = ([], none π)
lines_exist π [] [] [] (name ∷ names) p n fit = absurd (omega (arith, n))
lines_exist π [] [] (r ∷ rs) names p n fit = absurd fit
lines_exist π [] (s ∷ ss) rs names p n fit = absurd (omega (arith, p))
lines_exist π (u ∷ us) [] rs names p n fit = absurd (omega (arith, p))
lines_exist π (u ∷ us) (s ∷ ss) [] names p n fit = absurd fit
lines_exist π (u ∷ us) (s ∷ ss) (r ∷ rs) [] p n fit = absurd (omega (arith, n))
lines_exist π (u ∷ us) (s ∷ ss) (r ∷ rs) (name ∷ names) p n fit =
    let rest = lines_exist π us ss rs names (omega (arith, p)) (omega (arith, n)) fit.1 in
    (line_made π name u s r ∷ rest.0, one_more π us ss rs names rest.0 name u s r fit.0 rest.1)
