-- Prices over the horizon have a dual value, and there is a row at those that follow any rows.
use Rattle.right_report.proofs.Common.{◌≡◌, ℕ, suc, ◌-◌, ◌≤◌, Option, ℤ, ◌-ℤ◌, List, [], ◌∷◌, map, take, length, refl}
use Rattle.right_report.proofs.Common.{sym, ap, ◌∙◌, subst, arith, cond_both, leb-false, length-map, length-take}
use Rattle.right_report.proofs.Common.{AllZip, range_with_len, nat_le, AnyUnit, PriceLists, Schedule, Market, units}
use Rattle.right_report.proofs.Common.{earnings, IsTop, Proposal, start_price, start_prices, opening_prices_of}
use Rattle.right_report.proofs.Common.{stepped_prices, age, no_prices, next_prices, price_rule, Fits, IsNextRow}
use Rattle.right_report.proofs.Common.{IsFeasible, total, AreFeasible, DualValuesExist}
use Rattle.std.proofs.lemmas.List.FromFn.{length-range_with_len}
use Rattle.std.proofs.lemmas.Option.{slice_get-get_or}
use Rattle.std.specs.Option.{option_map_or}
use Rattle.uc_model.specs.Systems.{total_power, total_reserve, worth_of_demand}
use Rattle.right_report.proofs.ResponsesExist.{best_responses_exist}

-- ---- the prices of the rule are over the horizon

start_length : (m : Market) → length (start_prices m) ≡ m.periods
start_length m = length-map (range_with_len 0 m.periods) (start_price m) ∙ length-range_with_len 0 m.periods

opening_length : (m : Market) (n : ℕ) → length (opening_prices_of (start_prices m) n).energy ≡ m.periods
opening_length m n = length-map (start_prices m) _ ∙ start_length m

next_length : (m : Market) (cost : ℤ) (rows : List Proposal) → 1 ≤ length rows →
    length (next_prices m cost rows).energy ≡ m.periods
next_length m cost [] some = absurd (omega (arith, some))
next_length m cost (r ∷ rows) some =
    let last = slice_get-get_or (r ∷ rows) (length (r ∷ rows) - 1) r (omega arith) in
    let from : Option Proposal → PriceLists = λ o. option_map_or (stepped_prices m cost (age (r ∷ rows))) o no_prices in
    ap (λ (o : Option Proposal). length (from o).energy) last
    ∙ (length-map (range_with_len 0 m.periods) _ ∙ length-range_with_len 0 m.periods)

abbrev pub proposed : Market → ℤ → ℕ → List Proposal → PriceLists
proposed m cost ahead before = price_rule m cost ahead (take (suc (length before) - ahead) before) (suc (length before))

pub proposed_length : (m : Market) (cost : ℤ) (ahead : ℕ) (before : List Proposal) → 1 ≤ ahead →
    length (proposed m cost ahead before).energy ≡ m.periods
proposed_length m cost ahead before some =
    let past = take (suc (length before) - ahead) before in
    cond_both (nat_le (suc (length before)) ahead) (opening_prices_of (start_prices m) (suc (length before)))
    (next_prices m cost past)
    (λ (π : PriceLists). length π.energy ≡ m.periods)
    (λ _. opening_length m (suc (length before)))
    (λ late.
    let less = leb-false (suc (length before)) ahead late in
    let long = length-take (suc (length before) - ahead) before in
    next_length m cost past (omega (arith, less, long, some)))

-- ---- answers to prices

abbrev EachFeasible : ℕ → List AnyUnit → List Schedule → Type 0
EachFeasible n us ss = AllZip (λ (u : AnyUnit) (s : Schedule). IsFeasible u n s) us ss

abbrev Fit : PriceLists → List AnyUnit → List Schedule → Type 0
Fit π us ss = AllZip (λ (u : AnyUnit) (s : Schedule). Fits u π s) us ss

abbrev AreTops : PriceLists → List AnyUnit → List ℤ → Type 0
AreTops π us es = AllZip (λ (u : AnyUnit) (e : ℤ). IsTop u π e) us es

answers : (π : PriceLists) (n : ℕ) → length π.energy ≡ n → (us : List AnyUnit) (ss : List Schedule) →
    EachFeasible n us ss → (rs : List Schedule) × Fit π us rs
answers π n long [] [] h = ([], tt)
answers π n long [] (s ∷ ss) h = absurd h
answers π n long (u ∷ us) [] h = absurd h
answers π n long (u ∷ us) (s ∷ ss) h =
    let here = best_responses_exist u π s (subst (λ (i : ℕ). IsFeasible u i s) (sym long) h.0) in
    let rest = answers π n long us ss h.1 in
    (here.0 ∷ rest.0, (here.1, rest.1))

tops : (π : PriceLists) (us : List AnyUnit) (rs : List Schedule) → Fit π us rs → (es : List ℤ) × AreTops π us es
tops π [] [] h = ([], tt)
tops π [] (r ∷ rs) h = absurd h
tops π (u ∷ us) [] h = absurd h
tops π (u ∷ us) (r ∷ rs) h =
    let here : IsTop u π (earnings u π r) = record { schedule = r; best = h.0.best; earns = refl } in
    let rest = tops π us rs h.1 in
    (earnings u π r ∷ rest.0, (here, rest.1))

-- ---- a value and a row of them

pub dual_values_exist : DualValuesExist
dual_values_exist m π feasible long each =
    let rs = answers π m.periods long (units m) feasible each in
    let es = tops π (units m) rs.0 rs.1 in
    (worth_of_demand m π -ℤ total es.0, record { tops = es.0; best = es.1; is = refl })

pub next_row_exists : (m : Market) (cost : ℤ) (ahead : ℕ) (feasible : List Schedule) → 1 ≤ ahead →
    AreFeasible m feasible →
    (before : List Proposal) → (r : Proposal) × IsNextRow Fits m cost ahead before r
next_row_exists m cost ahead feasible some each before =
    let π = proposed m cost ahead before in
    let long = proposed_length m cost ahead before some in
    let rs = answers π m.periods long (units m) feasible each in
    let value = dual_values_exist m π feasible long each in
    let r : Proposal = record {
      prices = π;
      value = value.0;
      supply = map (total_power (units m) rs.0) (range_with_len 0 m.periods);
      reserve = map (total_reserve (units m) rs.0) (range_with_len 0 m.periods);
    } in (
      r,
      record {
        prices = refl;
        value = value.1;
        schedules = rs.0;
        answers = rs.1;
        totals = record { supply = refl; reserve = refl };
      },
    )
