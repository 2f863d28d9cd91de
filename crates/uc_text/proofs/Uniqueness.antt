-- A text has one tree or one first fault.
use Rattle.uc_text.proofs.Common.{◌≡◌, ℕ, ◌-◌, ◌<◌, ◌≤◌, inl, inr, List, [], ◌∷◌, ◌++◌, refl, sym, ap, ap₂, subst, ◌∙◌}
use Rattle.uc_text.proofs.Common.{append_assoc, arith, cases_lt, Scalar, Value, scalar, list, object, Items, no_items}
use Rattle.uc_text.proofs.Common.{item, Members, no_members, member, keys, Token, end, Test, grammar, length_of_numbers}
use Rattle.uc_text.proofs.Common.{levels, double_keys, ScalarPasses, LevelPasses, KeysPass, Passes, ItemsPass}
use Rattle.uc_text.proofs.Common.{MembersPass, Begins, IsFault, Lexed, tokens, kinds, test_of, IsText, IsFirstFault}
use Rattle.uc_text.proofs.Common.{TextCode, NotJson, NumberTooLong, TooDeep, DoubleKey, TextFault}
use Rattle.uc_text.proofs.Spellings.{one_spelling}
use Rattle.uc_text.proofs.Lists.{passes_less}
use Rattle.uc_text.proofs.Steps.{kinds_append, first_of_two}

pub one_value : (limit : ℕ) (bytes : List ℕ) (v w : Value) → IsText limit bytes v → IsText limit bytes w → v ≡ w
one_value limit bytes v w h k = (one_spelling v w (end ∷ []) (end ∷ []) (sym h.0 ∙ k.0)).0

-- the tokens up to one, and the others
split_at : (bytes : List ℕ) (before : List Lexed) (at : Lexed) (after : List Lexed) →
    tokens bytes ≡ before ++ at ∷ after → kinds (tokens bytes) ≡ (kinds before ++ at.token ∷ []) ++ kinds after
split_at bytes before at after e = ap kinds e ∙ kinds_append before (at ∷ after) ∙
    sym (append_assoc (kinds before) (at.token ∷ []) (kinds after))

pub text_or_fault : (limit : ℕ) (bytes : List ℕ) (v : Value) (f : TextFault) → IsText limit bytes v →
    IsFirstFault limit bytes f → ⊥
text_or_fault limit bytes v f h k = k.fails.fails
    (v, kinds k.after, passes_less (test_of f.code) limit v h.1, sym h.0 ∙ split_at bytes k.before k.at k.after k.parts)

-- ---- one fault

-- which of two places in a list comes first
data Order (a : List Lexed) (p : Lexed) (cs : List Lexed) (b : List Lexed) (q : Lexed) (bs : List Lexed) : Type 0 where
  same : a ≡ b → p ≡ q → Order a p cs b q bs
  sooner : (more : List Lexed) → b ≡ a ++ p ∷ more → Order a p cs b q bs
  later : (more : List Lexed) → a ≡ b ++ q ∷ more → Order a p cs b q bs

abbrev rest_of : List Lexed → List Lexed
rest_of [] = []
rest_of (p ∷ ps) = ps

behind_of_two : (p q : Lexed) (a b : List Lexed) → p ∷ a ≡ q ∷ b → a ≡ b
behind_of_two p q a b e = ap rest_of e

order : (a : List Lexed) (p : Lexed) (cs : List Lexed) (b : List Lexed) (q : Lexed) (bs : List Lexed) →
    a ++ p ∷ cs ≡ b ++ q ∷ bs → Order a p cs b q bs
order [] p cs [] q bs e = same refl (first_of_two p q cs bs e)
order [] p cs (y ∷ b) q bs e = sooner b (ap (λ (x : Lexed). x ∷ b) (sym (first_of_two p y cs (b ++ q ∷ bs) e)))
order (x ∷ a) p cs [] q bs e = later a (ap (λ (y : Lexed). y ∷ a) (first_of_two x q (a ++ p ∷ cs) bs e))
order (x ∷ a) p cs (y ∷ b) q bs e =
    let h = first_of_two x y (a ++ p ∷ cs) (b ++ q ∷ bs) e in
    elim (order a p cs b q bs (behind_of_two x y (a ++ p ∷ cs) (b ++ q ∷ bs) e)) [
      | same s t ↦ same (ap₂ (λ (z : Lexed) (zs : List Lexed). z ∷ zs) h s) t
      | sooner more s ↦ sooner more (ap₂ (λ (z : Lexed) (zs : List Lexed). z ∷ zs) (sym h) s)
      | later more s ↦ later more (ap₂ (λ (z : Lexed) (zs : List Lexed). z ∷ zs) h s)
    ]

-- a fault's token is past no other fault's
begins_sooner : (limit : ℕ) (t : Test) (before : List Lexed) (at : Lexed) (more : List Lexed) →
    Begins double_keys limit (kinds (before ++ at ∷ more)) → Begins t limit (kinds before ++ at.token ∷ [])
begins_sooner limit t before at more b = (
  b.0,
  kinds more ++ b.1,
  passes_less t limit b.0 b.2,
  b.3 ∙
      ap (λ (ts : List Token). ts ++ b.1) (kinds_append before (at ∷ more) ∙
      sym (append_assoc (kinds before) (at.token ∷ []) (kinds more))) ∙
      append_assoc (kinds before ++ at.token ∷ []) (kinds more) b.1,
)

abbrev rank : Test → ℕ
rank grammar = 0
rank length_of_numbers = 1
rank levels = 2
rank double_keys = 3

scalar_weaker : (s t : Test) → rank s ≤ rank t → (d : Scalar) → ScalarPasses t d → ScalarPasses s d
scalar_weaker grammar t le d h = tt
scalar_weaker s double_keys le d h =
    elim s as (λ r. ScalarPasses r d) [ grammar ↦ tt | length_of_numbers ↦ h | levels ↦ h | double_keys ↦ h ]
scalar_weaker length_of_numbers length_of_numbers le d h = h
scalar_weaker length_of_numbers levels le d h = h
scalar_weaker levels levels le d h = h
scalar_weaker length_of_numbers grammar le d h = absurd (omega arith)
scalar_weaker levels grammar le d h = absurd (omega arith)
scalar_weaker levels length_of_numbers le d h = absurd (omega arith)
scalar_weaker double_keys grammar le d h = absurd (omega arith)
scalar_weaker double_keys length_of_numbers le d h = absurd (omega arith)
scalar_weaker double_keys levels le d h = absurd (omega arith)

level_weaker : (s t : Test) → rank s ≤ rank t → (n : ℕ) → LevelPasses t n → LevelPasses s n
level_weaker grammar t le n h = tt
level_weaker length_of_numbers t le n h = tt
level_weaker levels levels le n h = h
level_weaker levels double_keys le n h = h
level_weaker double_keys double_keys le n h = h
level_weaker levels grammar le n h = absurd (omega arith)
level_weaker levels length_of_numbers le n h = absurd (omega arith)
level_weaker double_keys grammar le n h = absurd (omega arith)
level_weaker double_keys length_of_numbers le n h = absurd (omega arith)
level_weaker double_keys levels le n h = absurd (omega arith)

keys_weaker : (s t : Test) → rank s ≤ rank t → (ks : List (List ℕ)) → KeysPass t ks → KeysPass s ks
keys_weaker grammar t le ks h = tt
keys_weaker length_of_numbers t le ks h = tt
keys_weaker levels t le ks h = tt
keys_weaker double_keys double_keys le ks h = h
keys_weaker double_keys grammar le ks h = absurd (omega arith)
keys_weaker double_keys length_of_numbers le ks h = absurd (omega arith)
keys_weaker double_keys levels le ks h = absurd (omega arith)

mutual
  weaker : (s t : Test) → rank s ≤ rank t → (n : ℕ) (v : Value) → Passes t n v → Passes s n v
  weaker s t le n (scalar d) h = scalar_weaker s t le d h
  weaker s t le n (list vs) h = (level_weaker s t le n h.0, items_weaker s t le (n - 1) vs h.1)
  weaker s t le n (object ms) h =
      (level_weaker s t le n h.0, keys_weaker s t le (keys ms) h.1, members_weaker s t le (n - 1) ms h.2)

  items_weaker : (s t : Test) → rank s ≤ rank t → (n : ℕ) (vs : Items) → ItemsPass t n vs → ItemsPass s n vs
  items_weaker s t le n no_items h = tt
  items_weaker s t le n (item v vs) h = (weaker s t le n v h.0, items_weaker s t le n vs h.1)

  members_weaker : (s t : Test) → rank s ≤ rank t → (n : ℕ) (ms : Members) → MembersPass t n ms → MembersPass s n ms
  members_weaker s t le n no_members h = tt
  members_weaker s t le n (member k v ms) h = (weaker s t le n v h.0, members_weaker s t le n ms h.1)

begins_weaker : (s t : Test) → rank s ≤ rank t → (limit : ℕ) (ts : List Token) → Begins t limit ts → Begins s limit ts
begins_weaker s t le limit ts b = (b.0, b.1, weaker s t le limit b.0 b.2, b.3)

-- of two tests that fail at one token the first is told
not_below : (limit : ℕ) (before : List Token) (at : Token) (s t : Test) → IsFault limit before at s →
    IsFault limit before at t → rank s < rank t → ⊥
not_below limit before at s grammar f g lt = absurd (omega arith)
not_below limit before at s length_of_numbers f g lt =
    f.fails (begins_weaker s grammar (omega arith) limit (before ++ at ∷ []) g.tried)
not_below limit before at s levels f g lt =
    f.fails (begins_weaker s length_of_numbers (omega arith) limit (before ++ at ∷ []) g.tried)
not_below limit before at s double_keys f g lt =
    f.fails (begins_weaker s levels (omega arith) limit (before ++ at ∷ []) g.tried)

code_of_rank : (c d : TextCode) → rank (test_of c) ≡ rank (test_of d) → c ≡ d
code_of_rank NotJson NotJson e = refl
code_of_rank NumberTooLong NumberTooLong e = refl
code_of_rank TooDeep TooDeep e = refl
code_of_rank DoubleKey DoubleKey e = refl
code_of_rank c d e = absurd (omega arith)

same_fault : (f g : TextFault) → f.code ≡ g.code → f.offset ≡ g.offset → f ≡ g
same_fault f g c p = ap₂ (λ (k : TextCode) (n : ℕ). record { code = k; offset = n }) c p

same_test : (limit : ℕ) (before : List Token) (at : Token) (s t : Test) → IsFault limit before at s →
    IsFault limit before at t → rank s ≡ rank t
same_test limit before at s t f g =
    elim (cases_lt (rank s) (rank t)) [
      | inl lt ↦ absurd (not_below limit before at s t f g lt)
      | inr le ↦ elim (cases_lt (rank t) (rank s)) [
        | inl lt ↦ absurd (not_below limit before at t s g f lt)
        | inr ge ↦
            omega arith
      ]
    ]

pub one_fault : (limit : ℕ) (bytes : List ℕ) (f g : TextFault) → IsFirstFault limit bytes f →
    IsFirstFault limit bytes g → f ≡ g
one_fault limit bytes f g h k =
    elim (order h.before h.at h.after k.before k.at k.after (sym h.parts ∙ k.parts)) [
      | same s t ↦
          let other : IsFault limit (kinds h.before) h.at.token (test_of g.code) =
          subst (λ (ps : List Lexed). IsFault limit (kinds ps) h.at.token (test_of g.code)) (sym s)
          (subst (λ (p : Lexed). IsFault limit (kinds k.before) p.token (test_of g.code)) (sym t) k.fails) in
          same_fault f g (code_of_rank f.code g.code
          (same_test limit (kinds h.before) h.at.token (test_of f.code) (test_of g.code) h.fails other))
          (h.offset ∙ ap (λ (p : Lexed). p.offset) t ∙ sym k.offset)
      | sooner more s ↦
          absurd (h.fails.fails (begins_sooner limit (test_of f.code) h.before h.at more
          (subst (λ (ps : List Lexed). Begins double_keys limit (kinds ps)) s k.fails.passed)))
      | later more s ↦
          absurd (k.fails.fails (begins_sooner limit (test_of g.code) k.before k.at more
          (subst (λ (ps : List Lexed). Begins double_keys limit (kinds ps)) s h.fails.passed)))
    ]
