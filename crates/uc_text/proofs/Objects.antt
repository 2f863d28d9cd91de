-- A fault within an object.
use Rattle.uc_text.proofs.Common.{AreDifferent, ◌≡◌, ◌≢◌, ℕ, zero, suc, ◌-◌, ◌<◌, List, [], ◌∷◌, ◌++◌, length, get_or}
use Rattle.uc_text.proofs.Common.{refl, sym, ap, subst, ◌∙◌, append_assoc, arith, Contains, append-nil, length-append}
use Rattle.uc_text.proofs.Common.{get_or_append_left, null, Value, scalar, list, object, Members, no_members, member}
use Rattle.uc_text.proofs.Common.{keys, Token, open_object, close_object, comma, colon, word, key, spell, spell_members}
use Rattle.uc_text.proofs.Common.{spell_more_members, Test, grammar, length_of_numbers, levels, double_keys}
use Rattle.uc_text.proofs.Common.{ScalarPasses, KeysPass, Passes, MembersPass, Pair, members_of, names, IsNewName}
use Rattle.uc_text.proofs.Common.{passed_members, opened_object, Starts, IsStuck}
use Rattle.std.proofs.Math.Seq.{get_or-append_seam}
use Rattle.std.proofs.lemmas.List.Quantifiers.{all_pairs_push}
use Rattle.uc_text.proofs.Spellings.{heads, tails, one_spelling}
use Rattle.uc_text.proofs.Lists.{level_passes, keys_pass_less, members_pass_less, before_by}

abbrev pub of_member : List ℕ → Value → Pair
of_member k v = record { name = k; value = v }

-- what stands from the name on
abbrev at_name : List ℕ → List Token → List Token
at_name k ts = key k ∷ colon ∷ ts

pub members_push : (ps : List Pair) (p : Pair) →
    spell_members (members_of (ps ++ p ∷ [])) ≡ passed_members ps ++ at_name p.name (spell p.value ++ close_object ∷ [])
members_push [] p = refl
members_push (q ∷ []) p = ap (at_name q.name)
    (sym (append_assoc (spell q.value) (comma ∷ []) (at_name p.name (spell p.value ++ close_object ∷ []))))
members_push (q ∷ r ∷ ps) p =
    ap (λ (ts : List Token). at_name q.name (spell q.value ++ comma ∷ ts)) (members_push (r ∷ ps) p)
    ∙ ap (at_name q.name)
    (sym (append_assoc (spell q.value) (comma ∷ passed_members (r ∷ ps))
    (at_name p.name (spell p.value ++ close_object ∷ []))))

pub passed_members_push : (ps : List Pair) (p : Pair) →
    passed_members (ps ++ p ∷ []) ≡ passed_members ps ++ at_name p.name (spell p.value ++ comma ∷ [])
passed_members_push [] p = refl
passed_members_push (q ∷ ps) p =
    ap (λ (ts : List Token). at_name q.name (spell q.value ++ comma ∷ ts)) (passed_members_push ps p)
    ∙ ap (at_name q.name)
    (sym (append_assoc (spell q.value) (comma ∷ passed_members ps) (at_name p.name (spell p.value ++ comma ∷ []))))

pub members_pass_push : (t : Test) (n : ℕ) (ps : List Pair) (p : Pair) → MembersPass t n (members_of ps) →
    Passes t n p.value → MembersPass t n (members_of (ps ++ p ∷ []))
members_pass_push t n [] p h x = (x, tt)
members_pass_push t n (q ∷ ps) p h x = (h.0, members_pass_push t n ps p h.1 x)

pub keys_push : (ps : List Pair) (p : Pair) → keys (members_of (ps ++ p ∷ [])) ≡ names ps ++ p.name ∷ []
keys_push [] p = refl
keys_push (q ∷ ps) p = ap (λ (ks : List (List ℕ)). q.name ∷ ks) (keys_push ps p)

pub names_push : (ps : List Pair) (p : Pair) → names (ps ++ p ∷ []) ≡ names ps ++ p.name ∷ []
names_push [] p = refl
names_push (q ∷ ps) p = ap (λ (ks : List (List ℕ)). q.name ∷ ks) (names_push ps p)

pub keys-members_of : (ps : List Pair) → keys (members_of ps) ≡ names ps
keys-members_of [] = refl
keys-members_of (q ∷ ps) = ap (λ (ks : List (List ℕ)). q.name ∷ ks) (keys-members_of ps)

pub new_name_passes : (ks : List (List ℕ)) (k : List ℕ) → AreDifferent ks → IsNewName ks k → AreDifferent (ks ++ k ∷ [])
new_name_passes ks k h new = all_pairs_push (λ a b. a ≢ b) ks k h new

-- a name that is longer than each of these
pub fresh : List (List ℕ) → List ℕ
fresh [] = []
fresh (k ∷ ks) = 97 ∷ (k ++ fresh ks)

pub fresh_longer : (ks : List (List ℕ)) (i : ℕ) (d : List ℕ) → i < length ks →
    length (get_or ks i d) < length (fresh ks)
unfolding fresh
fresh_longer [] i d lt = absurd (omega arith)
fresh_longer (k ∷ ks) zero d lt = omega (arith, length-append k (fresh ks))
fresh_longer (k ∷ ks) (suc i) d lt = let r = fresh_longer ks i d (omega arith) in
    omega (arith, length-append k (fresh ks), r)

pub fresh_is_new : (ks : List (List ℕ)) → IsNewName ks (fresh ks)
fresh_is_new ks i d lt e = let n : length (get_or ks i d) ≡ length (fresh ks) = ap length e in
    let l = fresh_longer ks i d lt in absurd (omega (arith, n, l))

-- what the object that was read so far becomes with one member more
object_passes : (t : Test) (m : ℕ) (ps : List Pair) (p : Pair) → 0 < m → MembersPass t (m - 1) (members_of ps) →
    KeysPass t (names ps ++ p.name ∷ []) → Passes t (m - 1) p.value → Passes t m (object (members_of (ps ++ p ∷ [])))
object_passes t m ps p lt h ks x = (
  level_passes t m lt,
  subst (λ (k : List (List ℕ)). KeysPass t k) (sym (keys_push ps p)) ks,
  members_pass_push t (m - 1) ps p h x,
)

regrouped : (ps : List Pair) (p : Pair) (before more : List Token) →
    at_name p.name (spell p.value ++ close_object ∷ []) ≡ before ++ more →
    spell (object (members_of (ps ++ p ∷ []))) ≡ opened_object ps before ++ more
regrouped ps p before more e = ap (λ (ts : List Token). open_object ∷ ts)
    (members_push ps p ∙ ap (λ (ts : List Token). passed_members ps ++ ts) e ∙
    sym (append_assoc (passed_members ps) before more))

starts_member : (t : Test) (m : ℕ) (ps : List Pair) (k : List ℕ) (before : List Token) → 0 < m →
    MembersPass t (m - 1) (members_of ps) → KeysPass t (names ps ++ k ∷ []) → Starts t (m - 1) before →
    Starts t m (opened_object ps (at_name k before))
starts_member t m ps k before lt h ks s =
    let p = of_member k s.0 in (
      object (members_of (ps ++ p ∷ [])),
      s.1 ++ close_object ∷ [],
      object_passes t m ps p lt h ks s.2,
      regrouped ps p (at_name k before) (s.1 ++ close_object ∷ [])
          (ap (λ (ts : List Token). at_name k (ts ++ close_object ∷ [])) s.3 ∙
          ap (at_name k) (append_assoc before s.1 (close_object ∷ []))),
    )

null_passes : (t : Test) → ScalarPasses t null
null_passes grammar = tt
null_passes length_of_numbers = tt
null_passes levels = tt
null_passes double_keys = tt

starts_name : (t : Test) (m : ℕ) (ps : List Pair) (k : List ℕ) → 0 < m → MembersPass t (m - 1) (members_of ps) →
    KeysPass t (names ps ++ k ∷ []) → Starts t m (opened_object ps (key k ∷ []))
starts_name t m ps k lt h ks =
    let p = of_member k (scalar null) in (
      object (members_of (ps ++ p ∷ [])),
      colon ∷ word null ∷ close_object ∷ [],
      object_passes t m ps p lt h ks (null_passes t),
      regrouped ps p (key k ∷ []) (colon ∷ word null ∷ close_object ∷ []) refl,
    )

starts_members : (t : Test) (m : ℕ) (ps : List Pair) (k : List ℕ) → 0 < m → MembersPass t (m - 1) (members_of ps) →
    KeysPass t (names ps ++ k ∷ []) → Starts t m (opened_object ps [])
starts_members t m ps k lt h ks =
    let p = of_member k (scalar null) in (
      object (members_of (ps ++ p ∷ [])),
      at_name k (word null ∷ close_object ∷ []),
      object_passes t m ps p lt h ks (null_passes t),
      regrouped ps p [] (at_name k (word null ∷ close_object ∷ [])) refl,
    )

-- what an object that begins with these members has behind them
pub record Behind (t : Test) (n : ℕ) (ps : List Pair) (ns : Members) (a rest : List Token) : Type 0 where
  pub members : Members
  pub pass : MembersPass t n members
  pub spelled : spell_members members ++ a ≡ rest
  pub some : members ≡ no_members → (ns ≡ no_members) × (ps ≡ [])
  pub named : keys ns ≡ names ps ++ keys members

at_name_assoc : (k : List ℕ) (a b c : List Token) → at_name k (a ++ b) ++ c ≡ at_name k (a ++ (b ++ c))
at_name_assoc k a b c = ap (at_name k) (append_assoc a b c)

at_name_same : (k l : List ℕ) (a b : List Token) → at_name k a ≡ at_name l b → (k ≡ l) × (a ≡ b)
at_name_same k l a b e = (cc, tails _ _ _ _ (tails _ _ _ _ e))

pub behind : (t : Test) (n : ℕ) (ps : List Pair) (ns : Members) (a rest : List Token) → MembersPass t n ns →
    spell_members ns ++ a ≡ passed_members ps ++ rest → Behind t n ps ns a rest
behind t n [] ns a rest h e = record { members = ns; pass = h; spelled = e; some = λ none. (none, refl); named = refl }
behind t n (p ∷ ps) no_members a rest h e = absurd cc
behind t n (p ∷ ps) (member l w no_members) a rest h e =
    let f = at_name_same l p.name (spell w ++ close_object ∷ a) (spell p.value ++ comma ∷ (passed_members ps ++ rest))
    (sym (at_name_assoc l (spell w) (close_object ∷ []) a) ∙ e ∙
    at_name_assoc p.name (spell p.value) (comma ∷ passed_members ps) rest) in
    let r = one_spelling w p.value (close_object ∷ a) (comma ∷ (passed_members ps ++ rest)) f.1 in
    let g : close_object ∷ a ≡ comma ∷ (passed_members ps ++ rest) = r.1 in
    absurd cc
behind t n (p ∷ ps) (member l w (member k x ns)) a rest h e =
    let f = at_name_same l p.name (spell w ++ comma ∷ (spell_members (member k x ns) ++ a))
    (spell p.value ++ comma ∷ (passed_members ps ++ rest))
    (sym (at_name_assoc l (spell w) (comma ∷ spell_members (member k x ns)) a) ∙ e ∙
    at_name_assoc p.name (spell p.value) (comma ∷ passed_members ps) rest) in
    let r = one_spelling w p.value (comma ∷ (spell_members (member k x ns) ++ a)) (comma ∷ (passed_members ps ++ rest))
    f.1 in
    let b = behind t n ps (member k x ns) a rest h.1 (tails _ _ _ _ r.1) in
    record {
      members = b.members;
      pass = b.pass;
      spelled = b.spelled;
      some = λ none. let g : member k x ns ≡ no_members = (b.some none).0 in absurd cc;
      named = ap (λ (j : List ℕ). j ∷ keys (member k x ns)) f.0 ∙ ap (λ (ks : List (List ℕ)). p.name ∷ ks) b.named;
    }

-- What begins as an object with these members is one: what refuses its rest, refuses it.
pub object_fails : (t : Test) (m : ℕ) (ps : List Pair) (rest : List Token)
    → ((a : List Token) (ns us : Members) → MembersPass t (m - 1) us → KeysPass t (keys ns) →
    keys ns ≡ names ps ++ keys us → spell_members us ++ a ≡ rest → (us ≡ no_members → ps ≡ []) → ⊥)
    → (w : Value) (after : List Token) → Passes t m w → spell w ++ after ≡ open_object ∷ (passed_members ps ++ rest) → ⊥
object_fails t m ps rest refuse (scalar s) after h e = absurd cc
object_fails t m ps rest refuse (list vs) after h e = absurd cc
object_fails t m ps rest refuse (object ns) after h e =
    let b = behind t (m - 1) ps ns after rest h.2 (tails _ _ _ _ e) in
    refuse after ns b.members b.pass h.1 b.named b.spelled (λ none. (b.some none).1)

opened_assoc : (ps : List Pair) (before more : List Token) →
    opened_object ps before ++ more ≡ open_object ∷ (passed_members ps ++ (before ++ more))
opened_assoc ps before more = ap (λ (ts : List Token). open_object ∷ ts) (append_assoc (passed_members ps) before more)

opened_one : (ps : List Pair) (at : Token) → opened_object ps (at ∷ []) ≡ opened_object ps [] ++ at ∷ []
opened_one ps at = sym (opened_assoc ps [] (at ∷ []))

-- ---- a fault where a name is wanted

name_refused : (ps : List Pair) (at : Token) → ((k : List ℕ) → at ≢ key k) → (at ≡ close_object → ps ≡ [] → ⊥)
    → (more a : List Token) (us : Members) → spell_members us ++ a ≡ at ∷ more → (us ≡ no_members → ps ≡ []) → ⊥
name_refused ps at no_text no_end more a no_members e none = no_end (sym (heads _ at _ more e)) (none refl)
name_refused ps at no_text no_end more a (member k v ms) e none = no_text k (sym (heads _ at _ more e))

pub stuck_at_name : (m : ℕ) (ps : List Pair) (at : Token) → 0 < m → MembersPass double_keys (m - 1) (members_of ps) →
    AreDifferent (names ps)
    → ((k : List ℕ) → at ≢ key k) → (at ≡ close_object → ps ≡ [] → ⊥) → IsStuck m (opened_object ps []) at grammar
stuck_at_name m ps at lt h ks no_text no_end = record {
  passed = starts_members double_keys m ps (fresh (names ps)) lt h
      (new_name_passes (names ps) (fresh (names ps)) ks (fresh_is_new (names ps)));
  tried = tt;
  fails = λ v after more p e. object_fails grammar m ps (at ∷ more)
      (λ a ns us q k named spelled none. name_refused ps at no_text no_end more a us spelled none) v after p
      (e ∙ opened_assoc ps [] (at ∷ more));
}

-- ---- a name that the object has

double_refused : (ps : List Pair) (k : List ℕ) → Contains (names ps) k
    → (more a : List Token) (ns us : Members) → AreDifferent (keys ns) → keys ns ≡ names ps ++ keys us →
    spell_members us ++ a ≡ key k ∷ more → ⊥
double_refused ps k has more a ns no_members different named e = absurd cc
double_refused ps k has more a ns (member l v ms) different named e =
    let same : l ≡ k = cc in
    let is : keys ns ≡ names ps ++ k ∷ keys ms = named ∙ ap (λ (j : List ℕ). names ps ++ j ∷ keys ms) same in
    let d : AreDifferent (names ps ++ k ∷ keys ms) = subst AreDifferent is different in
    let here : get_or (names ps ++ k ∷ keys ms) has.0 k ≡ k =
    get_or_append_left (names ps) (k ∷ keys ms) k has.0 has.1 ∙ has.2 in
    let there : get_or (names ps ++ k ∷ keys ms) (length (names ps)) k ≡ k =
    get_or-append_seam (names ps) k (keys ms) k in
    d has.0 (length (names ps)) k has.1 (omega (arith, length-append (names ps) (k ∷ keys ms))) (here ∙ sym there)

pub stuck_at_double : (m : ℕ) (ps : List Pair) (k : List ℕ) → 0 < m → MembersPass double_keys (m - 1) (members_of ps) →
    AreDifferent (names ps)
    → Contains (names ps) k → IsStuck m (opened_object ps []) (key k) double_keys
stuck_at_double m ps k lt h ks has = record {
  passed = starts_members double_keys m ps (fresh (names ps)) lt h
      (new_name_passes (names ps) (fresh (names ps)) ks (fresh_is_new (names ps)));
  tried = subst (λ (ts : List Token). Starts levels m ts) (opened_one ps (key k))
      (starts_name levels m ps k lt (members_pass_less levels (m - 1) (members_of ps) h) tt);
  fails = λ v after more p e. object_fails double_keys m ps (key k ∷ more)
      (λ a ns us q d named spelled none. double_refused ps k has more a ns us d named spelled) v after p
      (e ∙ opened_assoc ps [] (key k ∷ more));
}

-- ---- behind a name

colon_refused : (k : List ℕ) (at : Token) → at ≢ colon → (more a : List Token) (us : Members) →
    spell_members us ++ a ≡ key k ∷ at ∷ more → ⊥
colon_refused k at no_colon more a no_members e = absurd cc
colon_refused k at no_colon more a (member l v ms) e = no_colon (sym (heads _ at _ more (tails _ _ _ _ e)))

pub stuck_at_colon : (m : ℕ) (ps : List Pair) (k : List ℕ) (at : Token) → 0 < m →
    MembersPass double_keys (m - 1) (members_of ps) → AreDifferent (names ps) → IsNewName (names ps) k
    → at ≢ colon → IsStuck m (opened_object ps (key k ∷ [])) at grammar
stuck_at_colon m ps k at lt h ks new no_colon = record {
  passed = starts_name double_keys m ps k lt h (new_name_passes (names ps) k ks new);
  tried = tt;
  fails = λ v after more p e. object_fails grammar m ps (key k ∷ at ∷ more)
      (λ a ns us q d named spelled none. colon_refused k at no_colon more a us spelled) v after p
      (e ∙ opened_assoc ps (key k ∷ []) (at ∷ more));
}

-- ---- within a member's value

value_refused : (t : Test) (n : ℕ) (k : List ℕ) (before : List Token) (at : Token) → IsStuck n before at t
    → (more a : List Token) (us : Members) → MembersPass t n us →
    spell_members us ++ a ≡ at_name k (before ++ at ∷ more) → ⊥
value_refused t n k before at s more a no_members h e = absurd cc
value_refused t n k before at s more a (member l v ms) h e =
    s.fails v (spell_more_members ms ++ a) more h.0
    ((at_name_same l k _ _ (sym (at_name_assoc l (spell v) (spell_more_members ms) a) ∙ e)).1)

pub stuck_in_member : (t : Test) (m : ℕ) (ps : List Pair) (k : List ℕ) (before : List Token) (at : Token) → 0 < m →
    MembersPass double_keys (m - 1) (members_of ps) → AreDifferent (names ps) → IsNewName (names ps) k
    → IsStuck (m - 1) before at t → IsStuck m (opened_object ps (at_name k before)) at t
stuck_in_member t m ps k before at lt h ks new s =
    let different = new_name_passes (names ps) k ks new in
    record {
      passed = starts_member double_keys m ps k before lt h different s.passed;
      tried = before_by t (m - 1) m (before ++ at ∷ []) (opened_object ps (at_name k before) ++ at ∷ [])
          (λ r x. subst (λ (ts : List Token). Starts r m ts) (sym (opened_assoc ps (at_name k before) (at ∷ [])))
          (starts_member r m ps k (before ++ at ∷ []) lt (members_pass_less r (m - 1) (members_of ps) h)
          (keys_pass_less r (names ps ++ k ∷ []) different) x)) s.tried;
      fails = λ v after more p e. object_fails t m ps (at_name k (before ++ at ∷ more))
          (λ a ns us q d named spelled none. value_refused t (m - 1) k before at s more a us q spelled) v after p
          (e ∙ opened_assoc ps (at_name k before) (at ∷ more));
    }

-- ---- behind a member

behind_refused : (k : List ℕ) (v : Value) (at : Token) → at ≢ comma → at ≢ close_object →
    (more a : List Token) (us : Members) → spell_members us ++ a ≡ at_name k (spell v ++ at ∷ more) → ⊥
behind_refused k v at no_comma no_end more a no_members e = absurd cc
behind_refused k v at no_comma no_end more a (member l w no_members) e =
    let r = one_spelling w v (close_object ∷ a) (at ∷ more)
    ((at_name_same l k _ _ (sym (at_name_assoc l (spell w) (close_object ∷ []) a) ∙ e)).1) in
    no_end (sym (heads _ _ _ _ r.1))
behind_refused k v at no_comma no_end more a (member l w (member j x ms)) e =
    let r = one_spelling w v (comma ∷ (spell_members (member j x ms) ++ a)) (at ∷ more)
    ((at_name_same l k _ _ (sym (at_name_assoc l (spell w) (comma ∷ spell_members (member j x ms)) a) ∙ e)).1)
    in no_comma (sym (heads _ _ _ _ r.1))

pub stuck_behind_member : (m : ℕ) (ps : List Pair) (k : List ℕ) (v : Value) (at : Token) → 0 < m →
    MembersPass double_keys (m - 1) (members_of ps) → AreDifferent (names ps) → IsNewName (names ps) k
    → Passes double_keys (m - 1) v → at ≢ comma → at ≢ close_object →
    IsStuck m (opened_object ps (at_name k (spell v))) at grammar
stuck_behind_member m ps k v at lt h ks new p no_comma no_end = record {
  passed = starts_member double_keys m ps k (spell v) lt h (new_name_passes (names ps) k ks new)
      (v, [], p, sym (append-nil (spell v)));
  tried = tt;
  fails = λ w after more q e. object_fails grammar m ps (at_name k (spell v ++ at ∷ more))
      (λ a ns us r d named spelled none. behind_refused k v at no_comma no_end more a us spelled) w after q
      (e ∙ opened_assoc ps (at_name k (spell v)) (at ∷ more));
}
