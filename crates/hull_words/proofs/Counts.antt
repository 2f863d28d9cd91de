-- How many values are set, and what one step of the reader adds.
use Rattle.hull_words.proofs.Common.{◌≡◌, ℕ, ◌+◌, ◌≤◌, Bool, true, false, cond, List, Option, Some, None, Result, Ok}
use Rattle.hull_words.proofs.Common.{Err, refl, ap, subst, arith, is_some, CommandKind, Try, OptionKind, Case, Schedule}
use Rattle.hull_words.proofs.Common.{Report, Prices, Mixture, Proposals, Workers, Ahead, Radius, Within, Rounds}
use Rattle.hull_words.proofs.Common.{WordCode}
use Rattle.hull_words.proofs.Common.{RepeatedOption, NoValue, StrayWord, is_option, option_name, can_be_value, Found}
use Rattle.hull_words.proofs.Common.{option_in, value_at, setting, try_number, flag, set_count, is_set, with_number}
use Rattle.hull_words.proofs.Common.{set_to, value_step, option_step, plain_step, word_step}

pub flag_bound : (b : Bool) → flag b ≤ 1
flag_bound true = omega arith
flag_bound false = omega arith

pub set_count_bound : (f : Found) → set_count f ≤ 12
set_count_bound f = omega (
  arith,
  flag_bound (is_some f.case_name),
  flag_bound (is_some f.schedule_name),
  flag_bound (is_some f.report_name),
  flag_bound (is_some f.prices_name),
  flag_bound (is_some f.mixture_name),
  flag_bound (is_some f.proposals),
  flag_bound (is_some f.workers),
  flag_bound (is_some f.ahead),
  flag_bound (is_some f.radius),
  flag_bound (is_some f.within),
  flag_bound (is_some f.rounds),
  flag_bound (is_some f.number),
)

abbrev done : {A : Type 0} → A → Result A WordCode
done x = Ok x

pub ok_is : {A : Type 0} (x y : A) → done x ≡ done y → x ≡ y
ok_is x y e = cc

-- the number of a step that did not fail
pub number_ok : (o : Option ℕ) (put : ℕ → Found) (after : Found) → with_number o put ≡ Ok after →
    (n : ℕ) × (o ≡ Some n) × (put n ≡ after)
number_ok None put after e = absurd cc
number_ok (Some n) put after e = (n, refl, ok_is (put n) after e)

abbrev OneMore : Found → Found → Type 0
OneMore before after = set_count after ≡ set_count before + 1

set_to-count : (o : OptionKind) (text : List ℕ) (before after : Found) → is_set o before ≡ false →
    set_to o text before ≡ Ok after → OneMore before after
set_to-count Case text before after unset e = subst (OneMore before) (ok_is _ after e) (omega (arith, ap flag unset))
set_to-count Schedule text before after unset e =
    subst (OneMore before) (ok_is _ after e) (omega (arith, ap flag unset))
set_to-count Report text before after unset e = subst (OneMore before) (ok_is _ after e) (omega (arith, ap flag unset))
set_to-count Prices text before after unset e = subst (OneMore before) (ok_is _ after e) (omega (arith, ap flag unset))
set_to-count Mixture text before after unset e = subst (OneMore before) (ok_is _ after e) (omega (arith, ap flag unset))
set_to-count Proposals text before after unset e =
    let p = number_ok (setting Proposals text) (λ n. record before { proposals = Some n }) after e in
    subst (OneMore before) p.2 (omega (arith, ap flag unset))
set_to-count Workers text before after unset e =
    let p = number_ok (setting Workers text) (λ n. record before { workers = Some n }) after e in
    subst (OneMore before) p.2 (omega (arith, ap flag unset))
set_to-count Ahead text before after unset e =
    let p = number_ok (setting Ahead text) (λ n. record before { ahead = Some n }) after e in
    subst (OneMore before) p.2 (omega (arith, ap flag unset))
set_to-count Radius text before after unset e =
    let p = number_ok (setting Radius text) (λ n. record before { radius = Some n }) after e in
    subst (OneMore before) p.2 (omega (arith, ap flag unset))
set_to-count Within text before after unset e =
    let p = number_ok (setting Within text) (λ n. record before { within = Some n }) after e in
    subst (OneMore before) p.2 (omega (arith, ap flag unset))
set_to-count Rounds text before after unset e =
    let p = number_ok (setting Rounds text) (λ n. record before { rounds = Some n }) after e in
    subst (OneMore before) p.2 (omega (arith, ap flag unset))

value-count : (b : Bool) (o : OptionKind) (text : List ℕ) (before after : Found) → is_set o before ≡ false →
    cond b (set_to o text before) (Err NoValue) ≡ Ok after → OneMore before after
value-count true o text before after unset e = set_to-count o text before after unset e
value-count false o text before after unset e = absurd cc

value_step-count : (o : OptionKind) (value : Option (List ℕ)) (before after : Found) → is_set o before ≡ false →
    value_step o value before ≡ Ok after → OneMore before after
value_step-count o None before after unset e = absurd cc
value_step-count o (Some text) before after unset e = value-count (can_be_value text) o text before after unset e

set-count : (b : Bool) (o : OptionKind) (value : Option (List ℕ)) (before after : Found) → is_set o before ≡ b →
    cond b (Err RepeatedOption) (value_step o value before) ≡ Ok after → OneMore before after
set-count true o value before after unset e = absurd cc
set-count false o value before after unset e = value_step-count o value before after unset e

option_step-count : (o : Option OptionKind) (value : Option (List ℕ)) (before after : Found) →
    option_step o value before ≡ Ok after → OneMore before after
option_step-count None value before after e = absurd cc
option_step-count (Some o) value before after e = set-count (is_set o before) o value before after refl e

try-count : (b : Bool) (word : List ℕ) (before after : Found) → is_some before.number ≡ b →
    cond b (Err StrayWord) (with_number (try_number word) (λ n. record before { number = Some n })) ≡ Ok after →
    OneMore before after
try-count true word before after unset e = absurd cc
try-count false word before after unset e =
    let p = number_ok (try_number word) (λ n. record before { number = Some n }) after e in
    subst (OneMore before) p.2 (omega (arith, ap flag unset))

plain_step-count : (command : CommandKind) (word : List ℕ) (before after : Found) →
    plain_step command word before ≡ Ok after → OneMore before after
plain_step-count Try word before after e = try-count (is_some before.number) word before after refl e
plain_step-count _ word before after e = absurd cc

word-count : (b : Bool) (command : CommandKind) (word : List ℕ) (next : Option (List ℕ)) (before after : Found)
    → cond b (option_step (option_in command (option_name word)) (value_at word next) before)
    (plain_step command word before) ≡ Ok after → OneMore before after
word-count true command word next before after e =
    option_step-count (option_in command (option_name word)) (value_at word next) before after e
word-count false command word next before after e = plain_step-count command word before after e

-- each step sets one value more
pub word_step-count : (command : CommandKind) (word : List ℕ) (next : Option (List ℕ)) (before after : Found) →
    word_step command word next before ≡ Ok after → set_count after ≡ set_count before + 1
unfolding word_step
word_step-count command word next before after e = word-count (is_option word) command word next before after e
