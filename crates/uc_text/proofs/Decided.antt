-- Each text has a tree or a first fault.
use Rattle.uc_text.proofs.Common.{◌≡◌, ◌≢◌, ℕ, zero, suc, ◌+◌, ◌-◌, ◌*◌, ◌<◌, ◌≤◌, Bool, true, false, cond, ◌⊎◌, inl}
use Rattle.uc_text.proofs.Common.{inr, List, [], ◌∷◌, ◌++◌, length, refl, sym, ap, subst, ◌∙◌, arith, true≢false}
use Rattle.uc_text.proofs.Common.{cases_lt, Scalar, long_number, text, Value, scalar, list, object, Token, open_list}
use Rattle.uc_text.proofs.Common.{close_list, open_object, close_object, comma, colon, word, key, end}
use Rattle.uc_text.proofs.Common.{length_of_numbers, levels, Pair, names, items_of, members_of, IsNewName, IsStuck}
use Rattle.uc_text.proofs.Common.{Lexed, lexed, is_blank, token_at, tokens_from, tokens, goes, NextIs, StuckAt, Reads}
use Rattle.uc_text.proofs.Common.{ReadsItems, ReadsMembers, IsText, IsFirstFault, TextCode, NotJson, NumberTooLong}
use Rattle.uc_text.proofs.Common.{TooDeep, DoubleKey, TextFault, is_there}
use Rattle.uc_text.proofs.Ending.{goes-token_at}
use Rattle.uc_text.proofs.Spellings.{is_start}
use Rattle.uc_text.proofs.Objects.{of_member}
use Rattle.uc_text.proofs.Known.{there_has, there_new}
use Rattle.uc_text.proofs.Steps.{InItems, items_begin, items_empty, items_go_on, items_end, items_stop}
use Rattle.uc_text.proofs.Steps.{items_stop_behind}
use Rattle.uc_text.proofs.MemberSteps.{InMembers, members_begin, members_empty, members_go_on, members_end, name_stops}
use Rattle.uc_text.proofs.MemberSteps.{double_stops, colon_stops, value_stops, member_stops_behind}
use Rattle.uc_text.proofs.ValueSteps as first

-- ---- lists of tokens whose last is the end

abbrev IsEnded : List Lexed → Type 0
IsEnded [] = ⊥
IsEnded (p ∷ []) = p.token ≡ end
IsEnded (p ∷ q ∷ ps) = (p.token ≢ end) × IsEnded (q ∷ ps)

ended_rest : (p : Lexed) (ps : List Lexed) → IsEnded (p ∷ ps) → p.token ≢ end → IsEnded ps
ended_rest p [] h some = absurd (some h)
ended_rest p (q ∷ ps) h some = h.1

ended_last : (p : Lexed) (ps : List Lexed) → IsEnded (p ∷ ps) → p.token ≡ end → ps ≡ []
ended_last p [] h is = refl
ended_last p (q ∷ ps) h is = absurd (h.0 is)

ended_more : (p : Lexed) (ps : List Lexed) → p.token ≢ end → IsEnded ps → IsEnded (p ∷ ps)
ended_more p [] some h = absurd h
ended_more p (q ∷ ps) some h = (some, h)

ended_either : (b : Bool) (p : Lexed) (ps qs : List Lexed) → p.token ≢ end → IsEnded ps → IsEnded qs →
    IsEnded (cond b ps (p ∷ qs))
ended_either true p ps qs some h k = h
ended_either false p ps qs some h k = ended_more p qs some k

not_both : (t : Token) → t ≡ end → goes t ≡ true → ⊥
not_both t is g = true≢false (sym g ∙ ap goes is)

ended : (at passing : ℕ) (bytes : List ℕ) → IsEnded (tokens_from at passing bytes)
unfolding tokens_from
ended at zero [] = refl
ended at (suc passing) [] = refl
ended at (suc passing) (b ∷ bytes) = ended (suc at) passing bytes
ended at zero (b ∷ bytes) =
    let read = token_at b (b ∷ bytes) in
    ended_either (is_blank b) (lexed read.0 at) (tokens_from (suc at) 0 bytes) (tokens_from (suc at) (read.1 - 1) bytes)
    (λ is. not_both read.0 is (goes-token_at b (b ∷ bytes))) (ended (suc at) 0 bytes)
    (ended (suc at) (read.1 - 1) bytes)

next_of : (p : Lexed) (ps : List Lexed) → NextIs (p ∷ ps) p ps
next_of p ps = (ps, refl, λ _. refl)

abbrev fault_at : TextCode → Lexed → TextFault
fault_at code p = record { code = code; offset = p.offset }

end_or_more : (t : Token) → (t ≡ end) ⊎ (goes t ≡ true)
end_or_more end = inl refl
end_or_more t = inr refl

-- ---- what comes of the tokens from one of them on

data OfValue (left : ℕ) (ts : List Lexed) : Type 0 where
  value_read : (v : Value) (others : List Lexed) → Reads left ts v others → IsEnded others → length others < length ts →
      OfValue left ts
  value_stuck : (f : TextFault) → StuckAt left [] ts f → OfValue left ts

data OfItems (m : ℕ) (all : List Lexed) (most : ℕ) : Type 0 where
  items_read : (vs : List Value) (others : List Lexed) → ReadsItems m all vs others → IsEnded others →
      length others < most → OfItems m all most
  items_stuck : (f : TextFault) → StuckAt m (open_list ∷ []) all f → OfItems m all most

data OfMembers (m : ℕ) (all : List Lexed) (most : ℕ) : Type 0 where
  members_read : (ps : List Pair) (others : List Lexed) → ReadsMembers m all ps others → IsEnded others →
      length others < most → OfMembers m all most
  members_stuck : (f : TextFault) → StuckAt m (open_object ∷ []) all f → OfMembers m all most

-- ---- a value

of_word : (left : ℕ) (p : Lexed) (ps : List Lexed) (s : Scalar) → p.token ≡ word s → IsEnded ps → OfValue left (p ∷ ps)
of_word left p ps long_number is h =
    value_stuck (fault_at NumberTooLong p)
    (first.value_stops left (p ∷ ps) p ps (fault_at NumberTooLong p) NumberTooLong (next_of p ps) refl refl
    (subst (λ (t : Token). IsStuck left [] t length_of_numbers) (sym is) (first.stuck_long left)))
of_word left p ps s is h = value_read (scalar s) ps (first.reads_scalar left (p ∷ ps) p ps s (next_of p ps) is tt) h
    (omega arith)

none_left : (left : ℕ) → left ≤ 0 → 0 ≡ left
none_left left le = omega arith

of_list : (left : ℕ) (p : Lexed) (ps : List Lexed) → p.token ≡ open_list → (0 < left) ⊎ (left ≤ 0) →
    (0 < left → OfItems left ps (length ps)) → OfValue left (p ∷ ps)
of_list left p ps is (inr le) inside =
    value_stuck (fault_at TooDeep p)
    (first.value_stops left (p ∷ ps) p ps (fault_at TooDeep p) TooDeep (next_of p ps) refl refl
    (subst (λ (t : Token). IsStuck left [] t levels) (sym is)
    (subst (λ (m : ℕ). IsStuck m [] open_list levels) (none_left left le) first.stuck_deep_list)))
of_list left p ps is (inl lt) inside =
    elim (inside lt) [
      | items_read vs others r e n ↦ value_read (list (items_of vs)) others
          (first.reads_list left (p ∷ ps) p ps vs others lt (next_of p ps) is r) e (omega arith)
      | items_stuck f s ↦ value_stuck f (first.container_stops left (p ∷ ps) p ps open_list f (next_of p ps) is refl s)
    ]

of_object : (left : ℕ) (p : Lexed) (ps : List Lexed) → p.token ≡ open_object → (0 < left) ⊎ (left ≤ 0) →
    (0 < left → OfMembers left ps (length ps)) → OfValue left (p ∷ ps)
of_object left p ps is (inr le) inside =
    value_stuck (fault_at TooDeep p)
    (first.value_stops left (p ∷ ps) p ps (fault_at TooDeep p) TooDeep (next_of p ps) refl refl
    (subst (λ (t : Token). IsStuck left [] t levels) (sym is)
    (subst (λ (m : ℕ). IsStuck m [] open_object levels) (none_left left le) first.stuck_deep_object)))
of_object left p ps is (inl lt) inside =
    elim (inside lt) [
      | members_read ms others r e n ↦ value_read (object (members_of ms)) others
          (first.reads_object left (p ∷ ps) p ps ms others lt (next_of p ps) is r) e (omega arith)
      | members_stuck f s ↦
          value_stuck f (first.container_stops left (p ∷ ps) p ps open_object f (next_of p ps) is refl s)
    ]

no_value : (left : ℕ) (p : Lexed) (ps : List Lexed) → is_start p.token ≡ false → OfValue left (p ∷ ps)
no_value left p ps off = value_stuck (fault_at NotJson p)
    (first.value_stops left (p ∷ ps) p ps (fault_at NotJson p) NotJson (next_of p ps) refl refl
    (first.stuck_not_start left p.token off))

of_value : (left : ℕ) (p : Lexed) (ps : List Lexed) (t : Token) → p.token ≡ t → IsEnded (p ∷ ps) →
    (p.token ≢ end → 0 < left → OfItems left ps (length ps)) →
    (p.token ≢ end → 0 < left → OfMembers left ps (length ps)) → OfValue left (p ∷ ps)
of_value left p ps (word s) is h items members = of_word left p ps s is (ended_rest p ps h (λ e. cc))
of_value left p ps open_list is h items members = of_list left p ps is (cases_lt 0 left) (items (λ e. cc))
of_value left p ps open_object is h items members = of_object left p ps is (cases_lt 0 left) (members (λ e. cc))
of_value left p ps t is h items members = no_value left p ps (ap is_start is)

-- ---- the items of a list

behind_item : (m : ℕ) (all : List Lexed) (vs : List Value) (first : Lexed) (r0 : List Lexed) (most : ℕ) → 0 < m →
    (i : InItems m all vs first r0) → length i.ahead ≤ most
    → ((us : List Value) (p : Lexed) (ps : List Lexed) → InItems m all us p ps → IsEnded (p ∷ ps) →
    length (p ∷ ps) < length i.ahead → OfItems m all most)
    → (v : Value) (q : Lexed) (qs : List Lexed) → Reads (m - 1) i.ahead v (q ∷ qs) → IsEnded (q ∷ qs) →
    length (q ∷ qs) < length i.ahead → (t : Token) → q.token ≡ t → OfItems m all most
behind_item m all vs first r0 most lt i le on v q [] r e n comma is = absurd (ended_rest q [] e (λ x. cc))
behind_item m all vs first r0 most lt i le on v q (p ∷ ps) r e n comma is =
    on (vs ++ v ∷ []) p ps (items_go_on m all vs first r0 v (q ∷ p ∷ ps) q (p ∷ ps) p ps i r.takes r.pass
    (next_of q (p ∷ ps)) is (next_of p ps)) e.1 (omega arith)
behind_item m all vs first r0 most lt i le on v q qs r e n close_list is =
    items_read (vs ++ v ∷ []) qs (items_end m all vs first r0 v (q ∷ qs) q qs i r.takes r.pass (next_of q qs) is)
    (ended_rest q qs e (λ x. cc)) (omega arith)
behind_item m all vs first r0 most lt i le on v q qs r e n t is =
    items_stuck (fault_at NotJson q) (items_stop_behind m all vs first r0 v (q ∷ qs) q qs (fault_at NotJson q) lt i
    r.takes r.pass (next_of q qs) (λ x. cc) (λ x. cc) refl refl)

of_item : (m : ℕ) (all : List Lexed) (vs : List Value) (first : Lexed) (r0 : List Lexed) (most : ℕ) → 0 < m →
    (i : InItems m all vs first r0) → length i.ahead ≤ most
    → ((us : List Value) (p : Lexed) (ps : List Lexed) → InItems m all us p ps → IsEnded (p ∷ ps) →
    length (p ∷ ps) < length i.ahead → OfItems m all most)
    → OfValue (m - 1) i.ahead → OfItems m all most
of_item m all vs first r0 most lt i le on (value_stuck f s) = items_stuck f (items_stop m all vs first r0 f lt i s)
of_item m all vs first r0 most lt i le on (value_read v [] r e n) = absurd e
of_item m all vs first r0 most lt i le on (value_read v (q ∷ qs) r e n) =
    behind_item m all vs first r0 most lt i le on v q qs r e n q.token refl

-- the next item's tokens, unless the text ends
ahead_is : (m : ℕ) (all : List Lexed) (vs : List Value) (p : Lexed) (ps : List Lexed) (i : InItems m all vs p ps) →
    goes p.token ≡ true → i.ahead ≡ p ∷ ps
ahead_is m all vs p ps i g = i.next.1 ∙ ap (λ (r : List Lexed). p ∷ r) (i.next.2 g)

items_end_early : (m : ℕ) (all : List Lexed) (vs : List Value) (p : Lexed) (ps : List Lexed) (most : ℕ) → 0 < m →
    InItems m all vs p ps → p.token ≡ end → OfItems m all most
items_end_early m all vs p ps most lt i is =
    items_stuck (fault_at NotJson p)
    (items_stop m all vs p ps (fault_at NotJson p) lt i
    (first.value_stops (m - 1) i.ahead p ps (fault_at NotJson p) NotJson i.next refl refl
    (first.stuck_not_start (m - 1) p.token (ap is_start is))))

first_item : (m : ℕ) (q : Lexed) (qs : List Lexed) → IsEnded (q ∷ qs) →
    (q.token ≢ close_list → OfItems m (q ∷ qs) (length (q ∷ qs))) → (t : Token) → q.token ≡ t →
    OfItems m (q ∷ qs) (length (q ∷ qs))
first_item m q qs e loop close_list is =
    items_read [] qs (items_empty m (q ∷ qs) q qs (next_of q qs) is) (ended_rest q qs e (λ x. cc)) (omega arith)
first_item m q qs e loop t is = loop (λ x. cc)

-- ---- the members of an object

behind_member : (m : ℕ) (all : List Lexed) (ps : List Pair) (first : Lexed) (r0 : List Lexed) (most : ℕ) → 0 < m →
    InMembers m all ps first r0 → length r0 < most
    → ((us : List Pair) (p : Lexed) (rest : List Lexed) → InMembers m all us p rest → IsEnded (p ∷ rest) →
    length (p ∷ rest) < length (first ∷ r0) → OfMembers m all most)
    → (k : List ℕ) → first.token ≡ key k → IsNewName (names ps) k → (between : Lexed) (r1 : List Lexed) →
    r0 ≡ between ∷ r1 → between.token ≡ colon
    → (v : Value) (q : Lexed) (qs : List Lexed) → Reads (m - 1) r1 v (q ∷ qs) → IsEnded (q ∷ qs) →
    length (q ∷ qs) < length r1 → (t : Token) → q.token ≡ t → OfMembers m all most
behind_member m all ps first r0 most lt i le on k is new between r1 split colon_is v q [] r e n comma q_is =
    absurd (ended_rest q [] e (λ x. cc))
behind_member m all ps first r0 most lt i le on k is new between r1 split colon_is v q (p ∷ rest) r e n comma q_is =
    let l : length r0 ≡ length (between ∷ r1) = ap length split in
    on (ps ++ of_member k v ∷ []) p rest
    (members_go_on m all ps first r0 k between r1 v (q ∷ p ∷ rest) q (p ∷ rest) p rest i is new
    (r1, split, λ _. refl) colon_is r.takes r.pass (next_of q (p ∷ rest)) q_is (next_of p rest)) e.1 (omega arith)
behind_member m all ps first r0 most lt i le on k is new between r1 split colon_is v q qs r e n close_object q_is =
    let l : length r0 ≡ length (between ∷ r1) = ap length split in
    members_read (ps ++ of_member k v ∷ []) qs
    (members_end m all ps first r0 k between r1 v (q ∷ qs) q qs i is new (r1, split, λ _. refl) colon_is r.takes
    r.pass (next_of q qs) q_is) (ended_rest q qs e (λ x. cc)) (omega arith)
behind_member m all ps first r0 most lt i le on k is new between r1 split colon_is v q qs r e n t q_is =
    members_stuck (fault_at NotJson q)
    (member_stops_behind m all ps first r0 k between r1 v (q ∷ qs) q qs (fault_at NotJson q) lt i is new
    (r1, split, λ _. refl) colon_is r.takes r.pass (next_of q qs) (λ x. cc) (λ x. cc) refl refl)

of_member_value : (m : ℕ) (all : List Lexed) (ps : List Pair) (first : Lexed) (r0 : List Lexed) (most : ℕ) → 0 < m →
    InMembers m all ps first r0 → length r0 < most
    → ((us : List Pair) (p : Lexed) (rest : List Lexed) → InMembers m all us p rest → IsEnded (p ∷ rest) →
    length (p ∷ rest) < length (first ∷ r0) → OfMembers m all most)
    → (k : List ℕ) → first.token ≡ key k → IsNewName (names ps) k → (between : Lexed) (r1 : List Lexed) →
    r0 ≡ between ∷ r1 → between.token ≡ colon → OfValue (m - 1) r1 → OfMembers m all most
of_member_value m all ps first r0 most lt i le on k is new between r1 split colon_is (value_stuck f s) =
    members_stuck f (value_stops m all ps first r0 k between r1 f lt i is new (r1, split, λ _. refl) colon_is s)
of_member_value m all ps first r0 most lt i le on k is new between r1 split colon_is (value_read v [] r e n) = absurd e
of_member_value m all ps first r0 most lt i le on k is new between r1 split colon_is (value_read v (q ∷ qs) r e n) =
    behind_member m all ps first r0 most lt i le on k is new between r1 split colon_is v q qs r e n q.token refl

behind_name : (m : ℕ) (all : List Lexed) (ps : List Pair) (first : Lexed) (between : Lexed) (r1 : List Lexed)
    (most : ℕ) → 0 < m → InMembers m all ps first (between ∷ r1) → length (between ∷ r1) < most
    → ((us : List Pair) (p : Lexed) (rest : List Lexed) → InMembers m all us p rest → IsEnded (p ∷ rest) →
    length (p ∷ rest) < length (first ∷ between ∷ r1) → OfMembers m all most)
    → (k : List ℕ) → first.token ≡ key k → IsNewName (names ps) k → IsEnded (between ∷ r1) →
    (IsEnded r1 → OfValue (m - 1) r1) → (t : Token) → between.token ≡ t → OfMembers m all most
behind_name m all ps first between r1 most lt i le on k is new e inside colon colon_is =
    of_member_value m all ps first (between ∷ r1) most lt i le on k is new between r1 refl colon_is
    (inside (ended_rest between r1 e (λ x. cc)))
behind_name m all ps first between r1 most lt i le on k is new e inside t t_is =
    members_stuck (fault_at NotJson between)
    (colon_stops m all ps first (between ∷ r1) k between r1 (fault_at NotJson between) lt i is new
    (next_of between r1) (λ x. cc) refl refl)

of_name : (m : ℕ) (all : List Lexed) (ps : List Pair) (first : Lexed) (r0 : List Lexed) (most : ℕ) → 0 < m →
    InMembers m all ps first r0 → length r0 < most
    → ((us : List Pair) (p : Lexed) (rest : List Lexed) → InMembers m all us p rest → IsEnded (p ∷ rest) →
    length (p ∷ rest) < length (first ∷ r0) → OfMembers m all most)
    → (k : List ℕ) → first.token ≡ key k → IsEnded r0 →
    ((r1 : List Lexed) → length r1 < length r0 → IsEnded r1 → OfValue (m - 1) r1) → (b : Bool) →
    is_there k (names ps) ≡ b → OfMembers m all most
of_name m all ps first r0 most lt i le on k is e inside true there =
    members_stuck (fault_at DoubleKey first)
    (double_stops m all ps first r0 k (fault_at DoubleKey first) lt i is (there_has k (names ps) there) refl refl)
of_name m all ps first [] most lt i le on k is e inside false new = absurd e
of_name m all ps first (between ∷ r1) most lt i le on k is e inside false new =
    behind_name m all ps first between r1 most lt i le on k is (there_new k (names ps) new) e (inside r1 (omega arith))
    between.token refl

of_first : (m : ℕ) (all : List Lexed) (ps : List Pair) (first : Lexed) (r0 : List Lexed) (most : ℕ) → 0 < m →
    InMembers m all ps first r0 → length r0 < most
    → ((us : List Pair) (p : Lexed) (rest : List Lexed) → InMembers m all us p rest → IsEnded (p ∷ rest) →
    length (p ∷ rest) < length (first ∷ r0) → OfMembers m all most)
    → IsEnded (first ∷ r0) → ((r1 : List Lexed) → length r1 < length r0 → IsEnded r1 → OfValue (m - 1) r1) →
    (t : Token) → first.token ≡ t → OfMembers m all most
of_first m all ps first r0 most lt i le on e inside (word (text k)) is =
    of_name m all ps first r0 most lt i le on k is (ended_rest first r0 e (λ x. cc)) inside (is_there k (names ps)) refl
of_first m all ps first r0 most lt i le on e inside t is =
    members_stuck (fault_at NotJson first)
    (name_stops m all ps first r0 (fault_at NotJson first) lt i (λ k x. cc) refl refl)

first_member : (m : ℕ) (q : Lexed) (qs : List Lexed) → IsEnded (q ∷ qs) →
    (q.token ≢ close_object → OfMembers m (q ∷ qs) (length (q ∷ qs))) → (t : Token) → q.token ≡ t →
    OfMembers m (q ∷ qs) (length (q ∷ qs))
first_member m q qs e loop close_object is =
    members_read [] qs (members_empty m (q ∷ qs) q qs (next_of q qs) is) (ended_rest q qs e (λ x. cc)) (omega arith)
first_member m q qs e loop t is = loop (λ x. cc)

-- ---- all of it, where n is large enough

mutual
  values : (n left : ℕ) (ts : List Lexed) → 3 * length ts + 1 ≤ n → IsEnded ts → OfValue left ts
  values zero left ts le e = absurd (omega arith)
  values (suc n) left [] le e = absurd e
  values (suc n) left (p ∷ ps) le e =
      of_value left p ps p.token refl e (λ some lt. all_items n left ps (omega arith) (ended_rest p ps e some) lt)
      (λ some lt. all_members n left ps (omega arith) (ended_rest p ps e some) lt)

  all_items : (n m : ℕ) (all : List Lexed) → 3 * length all + 3 ≤ n → IsEnded all → 0 < m → OfItems m all (length all)
  all_items zero m all le e lt = absurd (omega arith)
  all_items (suc n) m [] le e lt = absurd e
  all_items (suc n) m (q ∷ qs) le e lt =
      first_item m q qs e (λ some. more_items n m (q ∷ qs) (length (q ∷ qs)) [] q qs lt
      (items_begin m (q ∷ qs) q qs (next_of q qs) some) e (omega arith) (omega arith)) q.token refl

  more_items : (n m : ℕ) (all : List Lexed) (most : ℕ) (vs : List Value) (p : Lexed) (ps : List Lexed) → 0 < m →
      InItems m all vs p ps → IsEnded (p ∷ ps) → 3 * length (p ∷ ps) + 2 ≤ n → length (p ∷ ps) ≤ most →
      OfItems m all most
  more_items zero m all most vs p ps lt i e le near = absurd (omega arith)
  more_items (suc n) m all most vs p ps lt i e le near =
      elim (end_or_more p.token) [
        | inl is ↦ items_end_early m all vs p ps most lt i is
        | inr g ↦
            let a : i.ahead ≡ p ∷ ps = ahead_is m all vs p ps i g in
            let l : length i.ahead ≡ length (p ∷ ps) = ap length a in
            of_item m all vs p ps most lt i (omega arith)
            (λ us q qs j x less. more_items n m all most us q qs lt j x (omega arith) (omega arith))
            (subst (λ (ts : List Lexed). OfValue (m - 1) ts) (sym a) (values n (m - 1) (p ∷ ps) (omega arith) e))
      ]

  all_members : (n m : ℕ) (all : List Lexed) → 3 * length all + 3 ≤ n → IsEnded all → 0 < m →
      OfMembers m all (length all)
  all_members zero m all le e lt = absurd (omega arith)
  all_members (suc n) m [] le e lt = absurd e
  all_members (suc n) m (q ∷ qs) le e lt =
      first_member m q qs e (λ some. more_members n m (q ∷ qs) (length (q ∷ qs)) [] q qs lt
      (members_begin m (q ∷ qs) q qs (next_of q qs) some) e (omega arith) (omega arith)) q.token refl

  more_members : (n m : ℕ) (all : List Lexed) (most : ℕ) (us : List Pair) (p : Lexed) (ps : List Lexed) → 0 < m →
      InMembers m all us p ps → IsEnded (p ∷ ps) → 3 * length (p ∷ ps) + 2 ≤ n → length (p ∷ ps) ≤ most →
      OfMembers m all most
  more_members zero m all most us p ps lt i e le near = absurd (omega arith)
  more_members (suc n) m all most us p ps lt i e le near =
      of_first m all us p ps most lt i (omega arith)
      (λ vs q qs j x less. more_members n m all most vs q qs lt j x (omega arith) (omega arith))
      e (λ r1 less x. values n (m - 1) r1 (omega arith) x) p.token refl

behind_text : (limit : ℕ) (bytes : List ℕ) (v : Value) (q : Lexed) (qs : List Lexed) →
    Reads limit (tokens bytes) v (q ∷ qs) → IsEnded (q ∷ qs) → (q.token ≡ end) ⊎ (goes q.token ≡ true)
    → ((w : Value) × IsText limit bytes w) ⊎ ((f : TextFault) × IsFirstFault limit bytes f)
behind_text limit bytes v q qs r e (inl is) =
    inl (v, first.text_read limit bytes v (q ∷ qs) q r (ap (λ (ps : List Lexed). q ∷ ps) (ended_last q qs e is)) is)
behind_text limit bytes v q qs r e (inr g) =
    inr (
      fault_at NotJson q,
      first.text_stops_behind limit bytes v (q ∷ qs) q qs (fault_at NotJson q) r (next_of q qs)
          (λ x. not_both q.token x g) refl refl,
    )

of_text : (limit : ℕ) (bytes : List ℕ) → OfValue limit (tokens bytes) →
    ((w : Value) × IsText limit bytes w) ⊎ ((f : TextFault) × IsFirstFault limit bytes f)
of_text limit bytes (value_stuck f s) = inr (f, first.text_stops limit bytes f s)
of_text limit bytes (value_read v [] r e n) = absurd e
of_text limit bytes (value_read v (q ∷ qs) r e n) = behind_text limit bytes v q qs r e (end_or_more q.token)

pub text_or_first_fault : (limit : ℕ) (bytes : List ℕ) →
    ((w : Value) × IsText limit bytes w) ⊎ ((f : TextFault) × IsFirstFault limit bytes f)
text_or_first_fault limit bytes =
    of_text limit bytes (values (3 * length (tokens bytes) + 1) limit (tokens bytes) (omega arith) (ended 0 0 bytes))
