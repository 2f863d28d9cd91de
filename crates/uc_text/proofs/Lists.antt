-- A fault within a list.
use Rattle.uc_text.proofs.Common.{◌≡◌, ◌≢◌, ℕ, ◌-◌, ◌<◌, List, [], ◌∷◌, ◌++◌, refl, sym, ap, subst, ◌∙◌, append_assoc}
use Rattle.uc_text.proofs.Common.{Scalar, Value, scalar, list, object, Items, no_items, item, Members, no_members}
use Rattle.uc_text.proofs.Common.{member, keys, append-nil, Token, open_list, close_list, comma, spell, spell_items}
use Rattle.uc_text.proofs.Common.{spell_more_items, Test, grammar, length_of_numbers, levels, double_keys, ScalarPasses}
use Rattle.uc_text.proofs.Common.{LevelPasses, KeysPass, Passes, ItemsPass, MembersPass, items_of, passed_items, opened}
use Rattle.uc_text.proofs.Common.{Starts, StartsBefore, IsStuck}
use Rattle.uc_text.proofs.Spellings.{heads, tails, not_close, one_spelling}

pub level_passes : (t : Test) (m : ℕ) → 0 < m → LevelPasses t m
level_passes grammar m h = tt
level_passes length_of_numbers m h = tt
level_passes levels m h = h
level_passes double_keys m h = h

pub more_is : (v : Value) (vs : Items) → spell_more_items (item v vs) ≡ comma ∷ spell_items (item v vs)
more_is v vs = refl

-- the items with one more behind them
pub spell_push : (vs : List Value) (v : Value) →
    spell_items (items_of (vs ++ v ∷ [])) ≡ passed_items vs ++ (spell v ++ close_list ∷ [])
spell_push [] v = refl
spell_push (u ∷ []) v = sym (append_assoc (spell u) (comma ∷ []) (spell v ++ close_list ∷ []))
spell_push (u ∷ w ∷ vs) v =
    ap (λ (ts : List Token). spell u ++ comma ∷ ts) (spell_push (w ∷ vs) v) ∙
    sym (append_assoc (spell u) (comma ∷ passed_items (w ∷ vs)) (spell v ++ close_list ∷ []))

pub passed_push : (vs : List Value) (v : Value) →
    passed_items (vs ++ v ∷ []) ≡ passed_items vs ++ (spell v ++ comma ∷ [])
passed_push [] v = refl
passed_push (u ∷ vs) v = ap (λ (ts : List Token). spell u ++ comma ∷ ts) (passed_push vs v) ∙
    sym (append_assoc (spell u) (comma ∷ passed_items vs) (spell v ++ comma ∷ []))

pub items_pass_push : (t : Test) (n : ℕ) (vs : List Value) (v : Value) → ItemsPass t n (items_of vs) → Passes t n v →
    ItemsPass t n (items_of (vs ++ v ∷ []))
items_pass_push t n [] v h p = (p, tt)
items_pass_push t n (u ∷ vs) v h p = (h.0, items_pass_push t n vs v h.1 p)

-- what a list that begins with these items has behind them
pub record Behind (t : Test) (n : ℕ) (vs : List Value) (ws : Items) (a rest : List Token) : Type 0 where
  pub items : Items
  pub pass : ItemsPass t n items
  pub spelled : spell_items items ++ a ≡ rest
  pub some : items ≡ no_items → (ws ≡ no_items) × (vs ≡ [])

pub behind : (t : Test) (n : ℕ) (vs : List Value) (ws : Items) (a rest : List Token) → ItemsPass t n ws →
    spell_items ws ++ a ≡ passed_items vs ++ rest → Behind t n vs ws a rest
behind t n [] ws a rest h e = record { items = ws; pass = h; spelled = e; some = λ none. (none, refl) }
behind t n (v ∷ vs) no_items a rest h e =
    absurd (not_close v _ a (sym (append_assoc (spell v) (comma ∷ passed_items vs) rest) ∙ sym e))
behind t n (v ∷ vs) (item w no_items) a rest h e =
    let r = one_spelling w v (close_list ∷ a) (comma ∷ (passed_items vs ++ rest))
    (sym (append_assoc (spell w) (close_list ∷ []) a) ∙ e ∙
    append_assoc (spell v) (comma ∷ passed_items vs) rest) in
    let f : close_list ∷ a ≡ comma ∷ (passed_items vs ++ rest) = r.1 in
    absurd cc
behind t n (v ∷ vs) (item w (item x ws)) a rest h e =
    let r = one_spelling w v (comma ∷ (spell_items (item x ws) ++ a)) (comma ∷ (passed_items vs ++ rest))
    (sym (append_assoc (spell w) (comma ∷ spell_items (item x ws)) a) ∙ e ∙
    append_assoc (spell v) (comma ∷ passed_items vs) rest) in
    let b = behind t n vs (item x ws) a rest h.1 (tails _ _ _ _ r.1) in
    record {
      items = b.items;
      pass = b.pass;
      spelled = b.spelled;
      some =
          λ none. let f : item x ws ≡ no_items = (b.some none).0 in absurd cc;
    }

-- ---- a fault in an item

starts_item : (t : Test) (m : ℕ) (vs : List Value) (before : List Token) → 0 < m → ItemsPass t (m - 1) (items_of vs) →
    Starts t (m - 1) before → Starts t m (opened vs before)
starts_item t m vs before lt h s =
    let v = s.0 in
    let pass : Passes t m (list (items_of (vs ++ v ∷ []))) =
    (level_passes t m lt, items_pass_push t (m - 1) vs v h s.2) in
    let spelled : spell (list (items_of (vs ++ v ∷ []))) ≡ opened vs before ++ (s.1 ++ close_list ∷ []) =
    ap (λ (ts : List Token). open_list ∷ ts)
    (spell_push vs v ∙ ap (λ (ts : List Token). passed_items vs ++ (ts ++ close_list ∷ [])) s.3
    ∙ ap (λ (ts : List Token). passed_items vs ++ ts) (append_assoc before s.1 (close_list ∷ [])) ∙
    sym (append_assoc (passed_items vs) before (s.1 ++ close_list ∷ []))) in
    (list (items_of (vs ++ v ∷ [])), s.1 ++ close_list ∷ [], pass, spelled)

-- the last test includes the others
pub scalar_passes_less : (t : Test) (s : Scalar) → ScalarPasses double_keys s → ScalarPasses t s
scalar_passes_less grammar s h = tt
scalar_passes_less length_of_numbers s h = h
scalar_passes_less levels s h = h
scalar_passes_less double_keys s h = h

pub level_passes_less : (t : Test) (m : ℕ) → LevelPasses double_keys m → LevelPasses t m
level_passes_less grammar m h = tt
level_passes_less length_of_numbers m h = tt
level_passes_less levels m h = h
level_passes_less double_keys m h = h

pub keys_pass_less : (t : Test) (ks : List (List ℕ)) → KeysPass double_keys ks → KeysPass t ks
keys_pass_less grammar ks h = tt
keys_pass_less length_of_numbers ks h = tt
keys_pass_less levels ks h = tt
keys_pass_less double_keys ks h = h

mutual
  pub passes_less : (t : Test) (n : ℕ) (v : Value) → Passes double_keys n v → Passes t n v
  passes_less t n (scalar s) h = scalar_passes_less t s h
  passes_less t n (list vs) h = (level_passes_less t n h.0, items_pass_less t (n - 1) vs h.1)
  passes_less t n (object ms) h =
      (level_passes_less t n h.0, keys_pass_less t (keys ms) h.1, members_pass_less t (n - 1) ms h.2)

  pub items_pass_less : (t : Test) (n : ℕ) (vs : Items) → ItemsPass double_keys n vs → ItemsPass t n vs
  items_pass_less t n no_items h = tt
  items_pass_less t n (item v vs) h = (passes_less t n v h.0, items_pass_less t n vs h.1)

  pub members_pass_less : (t : Test) (n : ℕ) (ms : Members) → MembersPass double_keys n ms → MembersPass t n ms
  members_pass_less t n no_members h = tt
  members_pass_less t n (member k v ms) h = (passes_less t n v h.0, members_pass_less t n ms h.1)

-- the tests before one pass what one of them passes
pub before_by : (t : Test) (n m : ℕ) (ts us : List Token) → ((s : Test) → Starts s n ts → Starts s m us) →
    StartsBefore t n ts → StartsBefore t m us
before_by grammar n m ts us f h = tt
before_by length_of_numbers n m ts us f h = f grammar h
before_by levels n m ts us f h = f length_of_numbers h
before_by double_keys n m ts us f h = f levels h

opened_one : (vs : List Value) (before : List Token) (at : Token) →
    opened vs (before ++ at ∷ []) ≡ opened vs before ++ at ∷ []
opened_one vs before at = ap (λ (ts : List Token). open_list ∷ ts)
    (sym (append_assoc (passed_items vs) before (at ∷ [])))

item_fails_behind : (t : Test) (m : ℕ) (vs : List Value) (before : List Token) (at : Token) →
    IsStuck (m - 1) before at t
    → ((a more : List Token) → close_list ∷ a ≡ before ++ at ∷ more → vs ≡ [] → ⊥)
    → (after more : List Token) (us : Items) → ItemsPass t (m - 1) us → spell_items us ++ after ≡ before ++ at ∷ more →
    (us ≡ no_items → vs ≡ []) → ⊥
item_fails_behind t m vs before at s closed after more no_items h e none = closed after more e (none refl)
item_fails_behind t m vs before at s closed after more (item u us) h e none =
    s.fails u (spell_more_items us ++ after) more h.0 (sym (append_assoc (spell u) (spell_more_items us) after) ∙ e)

item_fails : (t : Test) (m : ℕ) (vs : List Value) (before : List Token) (at : Token) → IsStuck (m - 1) before at t
    → ((a more : List Token) → close_list ∷ a ≡ before ++ at ∷ more → vs ≡ [] → ⊥)
    → (w : Value) (after more : List Token) → Passes t m w → spell w ++ after ≡ opened vs before ++ at ∷ more → ⊥
item_fails t m vs before at s closed (scalar x) after more h e = absurd cc
item_fails t m vs before at s closed (object ms) after more h e = absurd cc
item_fails t m vs before at s closed (list ws) after more h e =
    let inside : spell_items ws ++ after ≡ passed_items vs ++ (before ++ at ∷ more) =
    tails _ _ _ _ e ∙ append_assoc (passed_items vs) before (at ∷ more) in
    let b = behind t (m - 1) vs ws after (before ++ at ∷ more) h.1 inside in
    item_fails_behind t m vs before at s closed after more b.items b.pass b.spelled (λ none. (b.some none).1)

-- a fault in an item is a fault of the list
pub stuck_in_list : (t : Test) (m : ℕ) (vs : List Value) (before : List Token) (at : Token) → 0 < m →
    ItemsPass double_keys (m - 1) (items_of vs) → IsStuck (m - 1) before at t
    → ((a more : List Token) → close_list ∷ a ≡ before ++ at ∷ more → vs ≡ [] → ⊥) → IsStuck m (opened vs before) at t
stuck_in_list t m vs before at lt h s closed = record {
  passed = starts_item double_keys m vs before lt h s.passed;
  tried = before_by t (m - 1) m (before ++ at ∷ []) (opened vs before ++ at ∷ [])
      (λ r x. subst (λ (ts : List Token). Starts r m ts) (opened_one vs before at)
      (starts_item r m vs (before ++ at ∷ []) lt (items_pass_less r (m - 1) (items_of vs) h) x)) s.tried;
  fails = item_fails t m vs before at s closed;
}

separator_fails : (n : ℕ) (v : Value) (at : Token) → at ≢ comma → at ≢ close_list
    → (after more : List Token) (us : Items) → spell_items us ++ after ≡ spell v ++ at ∷ more → ⊥
separator_fails n v at not_comma not_closed after more no_items e = not_close v (at ∷ more) after (sym e)
separator_fails n v at not_comma not_closed after more (item u no_items) e =
    let r = one_spelling u v (close_list ∷ after) (at ∷ more)
    (sym (append_assoc (spell u) (close_list ∷ []) after) ∙ e) in not_closed (sym (heads _ _ _ _ r.1))
separator_fails n v at not_comma not_closed after more (item u (item w us)) e =
    let r = one_spelling u v (comma ∷ (spell_items (item w us) ++ after)) (at ∷ more)
    (sym (append_assoc (spell u) (comma ∷ spell_items (item w us)) after) ∙ e) in
    not_comma (sym (heads _ _ _ _ r.1))

separator_stops : (m : ℕ) (vs : List Value) (v : Value) (at : Token) → at ≢ comma → at ≢ close_list
    → (w : Value) (after more : List Token) → Passes grammar m w → spell w ++ after ≡ opened vs (spell v) ++ at ∷ more →
    ⊥
separator_stops m vs v at not_comma not_closed (scalar x) after more h e = absurd cc
separator_stops m vs v at not_comma not_closed (object ms) after more h e = absurd cc
separator_stops m vs v at not_comma not_closed (list ws) after more h e =
    let inside : spell_items ws ++ after ≡ passed_items vs ++ (spell v ++ at ∷ more) =
    tails _ _ _ _ e ∙ append_assoc (passed_items vs) (spell v) (at ∷ more) in
    let b = behind grammar (m - 1) vs ws after (spell v ++ at ∷ more) h.1 inside in
    separator_fails m v at not_comma not_closed after more b.items b.spelled

-- a token behind an item that is neither a comma nor the closing bracket
pub stuck_behind_item : (m : ℕ) (vs : List Value) (v : Value) (at : Token) → 0 < m →
    ItemsPass double_keys (m - 1) (items_of vs) → Passes double_keys (m - 1) v
    → at ≢ comma → at ≢ close_list → IsStuck m (opened vs (spell v)) at grammar
stuck_behind_item m vs v at lt h p not_comma not_closed = record {
  passed = starts_item double_keys m vs (spell v) lt h (v, [], p, sym (append-nil (spell v)));
  tried = tt;
  fails = separator_stops m vs v at not_comma not_closed;
}
