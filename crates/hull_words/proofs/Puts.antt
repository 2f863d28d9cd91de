-- What was put for an option is its value, where it is set then.
use Rattle.hull_words.proofs.Common.{◌≡◌, ℕ, Bool, cond, List, Option, Some, None, Ok, Err, refl, is_some}
use Rattle.hull_words.proofs.Common.{OptionKind, Case, Schedule, Report, Prices, Mixture, Proposals, Workers, Ahead}
use Rattle.hull_words.proofs.Common.{Radius, Within, Rounds, BadNumber, Found, setting, is_set, with_number}
use Rattle.hull_words.proofs.Common.{put, set_to}

number_is : (n : Option ℕ) (fill : Option ℕ → Found) →
    cond (is_some n) (Ok (fill n)) (Err BadNumber) ≡ with_number n (λ m. fill (Some m))
number_is None fill = refl
number_is (Some m) fill = refl

put_is : (o : OptionKind) (text : List ℕ) (found : Found) →
    cond (is_set o (put o text found)) (Ok (put o text found)) (Err BadNumber) ≡ set_to o text found
put_is Case text found = refl
put_is Schedule text found = refl
put_is Report text found = refl
put_is Prices text found = refl
put_is Mixture text found = refl
put_is Proposals text found = number_is (setting Proposals text) (λ n. record found { proposals = n })
put_is Workers text found = number_is (setting Workers text) (λ n. record found { workers = n })
put_is Ahead text found = number_is (setting Ahead text) (λ n. record found { ahead = n })
put_is Radius text found = number_is (setting Radius text) (λ n. record found { radius = n })
put_is Within text found = number_is (setting Within text) (λ n. record found { within = n })
put_is Rounds text found = number_is (setting Rounds text) (λ n. record found { rounds = n })

pub set_is : (b : Bool) (o : OptionKind) (text : List ℕ) (found after : Found) → after ≡ put o text found →
    is_set o after ≡ b → cond b (Ok after) (Err BadNumber) ≡ set_to o text found
set_is b o text found after e is = rw (← is, e) (put_is o text found)
