-- How many claims, posts and halts a history has (this project's profile).
use Rattle.std.specs.Prelude.{ℕ, Bool, true, false, List, length, filter}
use Rattle.board_store.specs.Rounds.{Event, Given, Taken, Closing, Stopped, is_halt}

abbrev pub is_claim : {A : Type 0} → Event A → Bool
is_claim (Given c n u) = true
is_claim (Taken c n u a) = false
is_claim (Closing c n u a) = false
is_claim (Stopped c) = false

abbrev pub is_post : {A : Type 0} → Event A → Bool
is_post (Given c n u) = false
is_post (Taken c n u a) = true
is_post (Closing c n u a) = true
is_post (Stopped c) = false

abbrev pub claims_in : {A : Type 0} → List (Event A) → ℕ
claims_in h = length (filter is_claim h)

abbrev pub posts_in : {A : Type 0} → List (Event A) → ℕ
posts_in h = length (filter is_post h)

abbrev pub halts_in : {A : Type 0} → List (Event A) → ℕ
halts_in h = length (filter is_halt h)
