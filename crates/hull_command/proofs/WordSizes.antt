-- The numbers of a run that words ask for are within their ranges.
use Rattle.hull_command.proofs.Common.{◌≡◌, ℕ, ℤ, pos, ◌+◌, Bool, true, false, ◌&&◌, cond, leb, List, [], ◌∷◌, length}
use Rattle.hull_command.proofs.Common.{Option, Some, None, Ok, refl, subst, option_map, unwrap_or, arith}
use Rattle.hull_command.proofs.Common.{option_and_then, leb-true, ints, WordFault, Asked, Found, CheckAsked, PriceAsked}
use Rattle.hull_command.proofs.Common.{SettleAsked, price, check, try, bound, fixed, audit, settle, certify, convex}
use Rattle.hull_command.proofs.Common.{with_both}
use Rattle.std.specs.Prelude.{IfSome}
use Rattle.hull_command.proofs.Common.{names_from, settle_from, asked_from, first_fault, backwards, found_in, or_fault}
use Rattle.hull_command.proofs.Common.{or_missing, asked_of, later_words, words_of}
use Rattle.std.proofs.lemmas.Option.{same_Some}
use Rattle.gap_proof.specs.PlaneSums.{IsRadius}
use Rattle.std.specs.Str.Parse.{digits_value}
use Rattle.hull_words.specs.declared.kinds.CommandKind.{CommandKind}
use Rattle.hull_words.specs.declared.kinds.CommandKind.TheVariants as kinds
use Rattle.hull_words.specs.Spelling.{command_named}
use Rattle.hull_words.specs.WordTexts.{is_numeral, number_in}
use Rattle.hull_input.specs.Sizes.{IsWithin, IsWorkers, IsRunSize, IsSearchSize}
use Rattle.hull_command.specs.Sizes.{HasSizes}

-- ---- one number

from_tests : (b c d : Bool) (v n : ℕ) → cond (b && (c && d)) (Some v) None ≡ Some n → (c ≡ true) × (d ≡ true) × (v ≡ n)
from_tests true true true v n e = (refl, refl, same_Some v n e)
from_tests true true false v n e = absurd cc
from_tests true false d v n e = absurd cc
from_tests false c d v n e = absurd cc

number_within : (least most : ℕ) (text : List ℕ) (n : ℕ) → number_in least most text ≡ Some n → IsWithin least most n
unfolding number_in
number_within least most text n e =
    let v : ℕ = digits_value 10 text in
    let p = from_tests (is_numeral text) (leb least v) (leb v most) v n e in
    subst (IsWithin least most) p.2 (record { at_least = leb-true least v p.0; at_most = leb-true v most p.1 })

or_default : (least most default : ℕ) (number : Option ℕ) → IsWithin least most default →
    ((n : ℕ) → number ≡ Some n → IsWithin least most n) → IsWithin least most (unwrap_or number default)
or_default least most default None h read = h
or_default least most default (Some n) h read = read n refl

given_within : (least most default : ℕ) (text : Option (List ℕ)) → IsWithin least most default →
    IsWithin least most (unwrap_or (option_and_then (number_in least most) text) default)
given_within least most default None h = h
given_within least most default (Some text) h =
    or_default least most default (number_in least most text) h (number_within least most text)

where_given : (least most : ℕ) (number : Option ℕ) → ((n : ℕ) → number ≡ Some n → IsWithin least most n) →
    IfSome number (IsWithin least most)
where_given least most None read = tt
where_given least most (Some n) read = read n refl

said_within : (least most : ℕ) (text : Option (List ℕ)) →
    IfSome (option_and_then (number_in least most) text) (IsWithin least most)
said_within least most None = tt
said_within least most (Some text) =
    where_given least most (number_in least most text) (number_within least most text)

-- ---- the numbers of all words

radius_within : (n : ℕ) → IsWithin 0 20000000 n → IsRadius (pos n)
radius_within n h = let high = h.at_most in
    record { at_least = omega (arith, ints); at_most = omega (arith, ints, high) }

radius_of : (words : List (List ℕ)) → IsRadius (pos (unwrap_or (found_in words).radius 20_000_000))
unfolding found_in
radius_of words =
    radius_within _ (given_within 0 20000000 20000000 _ (record { at_least = omega arith; at_most = omega arith }))

sizes_of : (words : List (List ℕ)) → IsRunSize (unwrap_or (found_in words).proposals 100)
    (unwrap_or (found_in words).ahead 4) (unwrap_or (found_in words).workers 4)
unfolding found_in
sizes_of words = record {
  budget_in = given_within 1 10000 100 _ (record { at_least = omega arith; at_most = omega arith });
  ahead_in = given_within 1 16 4 _ (record { at_least = omega arith; at_most = omega arith });
  callers_in = given_within 1 32 4 _ (record { at_least = omega arith; at_most = omega arith });
}

search_of : (words : List (List ℕ)) →
    IsSearchSize (unwrap_or (found_in words).within 1_000_000) (found_in words).rounds
unfolding found_in
search_of words = record {
  within_in = given_within 0 1000000000000 1000000 _ (record { at_least = omega arith; at_most = omega arith });
  rounds_in = said_within 1 1000 _;
}

abbrev Gives : Option Asked → ℕ → Asked → Type 0
Gives o count a = or_missing o count ≡ Ok a

same : (a b : Asked) (count : ℕ) → Gives (Some a) count b → a ≡ b
same a b count e = cc

-- the sizes among the values of the words
record Sizes (found : Found) : Type 0 where
  run : IsRunSize (unwrap_or found.proposals 100) (unwrap_or found.ahead 4) (unwrap_or found.workers 4)
  radius : IsRadius (pos (unwrap_or found.radius 20_000_000))
  search : IsSearchSize (unwrap_or found.within 1_000_000) found.rounds

by_price : (names : Option CheckAsked) (budget ahead callers count : ℕ) (a : Asked) → IsRunSize budget ahead callers
    → Gives (option_map price
    (option_map
    (λ (n : CheckAsked).
    let p : PriceAsked = record {
      case_name = n.case_name;
      schedule_name = n.schedule_name;
      proposals = budget;
      workers = callers;
      ahead = ahead;
    } in p) names)) count a → HasSizes a
by_price None budget ahead callers count a size e = absurd cc
by_price (Some names) budget ahead callers count a size e = subst HasSizes (same _ a count e) size

by_check : (names : Option CheckAsked) (count : ℕ) (a : Asked) → Gives (option_map check names) count a → HasSizes a
by_check None count a e = absurd cc
by_check (Some names) count a e = subst HasSizes (same _ a count e) tt

by_number : (number : Option ℕ) (budget ahead callers count : ℕ) (a : Asked) → IsRunSize budget ahead callers
    → Gives (option_map (λ (n : ℕ). try (record { number = n; proposals = budget; workers = callers; ahead = ahead }))
    number) count a → HasSizes a
by_number None budget ahead callers count a size e = absurd cc
by_number (Some n) budget ahead callers count a size e = subst HasSizes (same _ a count e) size

by_run : (names : Option CheckAsked) (budget ahead callers : ℕ) (radius : ℤ) (count : ℕ) (a : Asked) →
    IsRunSize budget ahead callers → IsRadius radius
    → Gives (option_map (λ (r : PriceAsked). bound (record { run = r; radius = radius }))
    (option_map
    (λ (n : CheckAsked).
    let p : PriceAsked = record {
      case_name = n.case_name;
      schedule_name = n.schedule_name;
      proposals = budget;
      workers = callers;
      ahead = ahead;
    } in p) names)) count a → HasSizes a
by_run None budget ahead callers radius count a size wide e = absurd cc
by_run (Some names) budget ahead callers radius count a size wide e = subst HasSizes (same _ a count e) (size, wide)

by_fixed : (names : Option CheckAsked) (budget ahead callers count : ℕ) (a : Asked) → IsRunSize budget ahead callers
    → Gives (option_map fixed
    (option_map
    (λ (n : CheckAsked).
    let p : PriceAsked = record {
      case_name = n.case_name;
      schedule_name = n.schedule_name;
      proposals = budget;
      workers = callers;
      ahead = ahead;
    } in p) names)) count a → HasSizes a
by_fixed None budget ahead callers count a size e = absurd cc
by_fixed (Some names) budget ahead callers count a size e = subst HasSizes (same _ a count e) size

by_report : (names : Option CheckAsked) (report : Option (List ℕ)) (callers count : ℕ) (a : Asked) → IsWorkers callers
    → Gives (with_both names report
    (λ (n : CheckAsked) (r : List ℕ). audit
    (record { case_name = n.case_name; schedule_name = n.schedule_name; report_name = r; workers = callers })))
    count a → HasSizes a
by_report None report callers count a size e = absurd cc
by_report (Some n) None callers count a size e = absurd cc
by_report (Some n) (Some r) callers count a size e = subst HasSizes (same _ a count e) size

by_settle : (names : Option SettleAsked) (count : ℕ) (a : Asked) → Gives (option_map settle names) count a → HasSizes a
by_settle None count a e = absurd cc
by_settle (Some names) count a e = subst HasSizes (same _ a count e) tt

by_mixture : (names : Option SettleAsked) (mixture : Option (List ℕ)) (radius : ℤ) (count : ℕ) (a : Asked) →
    IsRadius radius
    → Gives (with_both names mixture (λ (n : SettleAsked) (x : List ℕ). certify
    (record { names = n; mixture_name = x; radius = radius }))) count a → HasSizes a
by_mixture None mixture radius count a wide e = absurd cc
by_mixture (Some n) None radius count a wide e = absurd cc
by_mixture (Some n) (Some x) radius count a wide e = subst HasSizes (same _ a count e) wide

by_search : (names : Option CheckAsked) (within : ℕ) (rounds : Option ℕ) (count : ℕ) (a : Asked) →
    IsSearchSize within rounds
    → Gives (option_map (λ (n : CheckAsked). convex
    (record { case_name = n.case_name; schedule_name = n.schedule_name; within = within; rounds = rounds }))
    names) count a → HasSizes a
by_search None within rounds count a size e = absurd cc
by_search (Some names) within rounds count a size e = subst HasSizes (same _ a count e) size

by_kind : (command : CommandKind) (found : Found) (count : ℕ) (a : Asked) → Sizes found →
    Gives (asked_from command found) count a → HasSizes a
by_kind kinds.Price found count a size e = by_price (names_from found) _ _ _ count a size.run e
by_kind kinds.Check found count a size e = by_check (names_from found) count a e
by_kind kinds.Try found count a size e = by_number found.number _ _ _ count a size.run e
by_kind kinds.Bound found count a size e = by_run (names_from found) _ _ _ _ count a size.run size.radius e
by_kind kinds.Fixed found count a size e = by_fixed (names_from found) _ _ _ count a size.run e
by_kind kinds.Audit found count a size e =
    by_report (names_from found) found.report_name _ count a size.run.callers_in e
by_kind kinds.Settle found count a size e = by_settle (settle_from found) count a e
by_kind kinds.Certify found count a size e = by_mixture (settle_from found) found.mixture_name _ count a size.radius e
by_kind kinds.Convex found count a size e = by_search (names_from found) _ found.rounds count a size.search e

by_values : (faulty : Option WordFault) (command : CommandKind) (found : Found) (count : ℕ) (a : Asked) → Sizes found →
    asked_of command count (or_fault faulty found) ≡ Ok a → HasSizes a
by_values None command found count a size e = by_kind command found count a size e
by_values (Some f) command found count a size e = absurd cc

by_later : (command : Option CommandKind) (later : List (List ℕ)) (a : Asked) → later_words command later ≡ Ok a →
    HasSizes a
by_later None later a e = absurd cc
by_later (Some command) later a e = by_values (first_fault command [] later) command (found_in (backwards [] later))
    (length later + 1) a (record {
      run = sizes_of (backwards [] later);
      radius = radius_of (backwards [] later);
      search = search_of (backwards [] later);
    }) e

pub words_have_sizes : (words : List (List ℕ)) (a : Asked) → words_of words ≡ Ok a → HasSizes a
unfolding words_of
words_have_sizes [] a e = absurd cc
words_have_sizes (first ∷ later) a e = by_later (command_named first) later a e
