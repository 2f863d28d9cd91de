-- The steps of the reader over an object's tokens.
use Rattle.uc_text.proofs.Common.{AreDifferent, ◌≡◌, ◌≢◌, ℕ, ◌-◌, ◌<◌, true, List, [], ◌∷◌, ◌++◌, refl, sym, subst}
use Rattle.uc_text.proofs.Common.{append_assoc, Contains, arith, append-nil, Value, Token, open_object, close_object}
use Rattle.uc_text.proofs.Common.{comma, colon, key, spell, double_keys, Passes, MembersPass, Pair, members_of, names}
use Rattle.uc_text.proofs.Common.{IsNewName, passed_members, opened_object, IsStuck, Lexed, kinds, goes, test_of}
use Rattle.uc_text.proofs.Common.{NextIs, Takes, StuckAt, ReadsMembers, TextCode, NotJson, DoubleKey, TextFault}
use Rattle.uc_text.proofs.Objects.{of_member, new_name_passes, names_push, members_push, passed_members_push}
use Rattle.uc_text.proofs.Objects.{members_pass_push, stuck_at_name, stuck_at_double, stuck_at_colon, stuck_in_member}
use Rattle.uc_text.proofs.Objects.{stuck_behind_member}
use Rattle.uc_text.proofs.Steps.{Takes-then, takes_next, stuck_behind, stuck_here, push_is_some}

-- Behind the opening brace, where these members and a comma behind each were read, and then the token first.
pub record InMembers (m : ℕ) (all : List Lexed) (ps : List Pair) (first : Lexed) (others : List Lexed) : Type 0 where
  pub ahead : List Lexed
  pub passed : Takes all (passed_members ps) ahead
  pub next : NextIs ahead first others
  pub pass : MembersPass double_keys (m - 1) (members_of ps)
  pub different : AreDifferent (names ps)
  pub some : first.token ≡ close_object → ps ≡ [] → ⊥

no_names : AreDifferent []
no_names i j d lt within = absurd (omega arith)

pub members_begin : (m : ℕ) (all : List Lexed) (first : Lexed) (others : List Lexed) → NextIs all first others →
    first.token ≢ close_object → InMembers m all [] first others
members_begin m all first others n some =
    record {
      ahead = all;
      passed = record { part = []; parts = refl; kinds_are = refl };
      next = n;
      pass = tt;
      different = no_names;
      some = λ is _. some is;
    }

pub at_code : (m : ℕ) (before : List Token) (at : Token) (code : TextCode) (f : TextFault) → f.code ≡ code →
    IsStuck m before at (test_of code) → IsStuck m before at (test_of f.code)
at_code m before at code f is s = subst (λ (k : TextCode). IsStuck m before at (test_of k)) (sym is) s

pub name_stops : (m : ℕ) (all : List Lexed) (ps : List Pair) (first : Lexed) (r0 : List Lexed) (f : TextFault) → 0 < m →
    InMembers m all ps first r0
    → ((k : List ℕ) → first.token ≢ key k) → f.offset ≡ first.offset → f.code ≡ NotJson →
    StuckAt m (open_object ∷ []) all f
name_stops m all ps first r0 f lt i no_text offset code =
    stuck_behind m (open_object ∷ []) (passed_members ps) all i.ahead f i.passed
    (stuck_here m (open_object ∷ passed_members ps) i.ahead first r0 f i.next offset
    (subst (λ (ts : List Token). IsStuck m (open_object ∷ ts) first.token (test_of f.code))
    (append-nil (passed_members ps)) (at_code m (opened_object ps []) first.token NotJson f code
    (stuck_at_name m ps first.token lt i.pass i.different no_text i.some))))

pub double_stops : (m : ℕ) (all : List Lexed) (ps : List Pair) (first : Lexed) (r0 : List Lexed) (k : List ℕ)
    (f : TextFault) → 0 < m → InMembers m all ps first r0
    → first.token ≡ key k → Contains (names ps) k → f.offset ≡ first.offset → f.code ≡ DoubleKey →
    StuckAt m (open_object ∷ []) all f
double_stops m all ps first r0 k f lt i is has offset code =
    stuck_behind m (open_object ∷ []) (passed_members ps) all i.ahead f i.passed
    (stuck_here m (open_object ∷ passed_members ps) i.ahead first r0 f i.next offset
    (subst (λ (ts : List Token). IsStuck m (open_object ∷ ts) first.token (test_of f.code))
    (append-nil (passed_members ps))
    (at_code m (opened_object ps []) first.token DoubleKey f code
    (subst (λ (t : Token). IsStuck m (opened_object ps []) t double_keys) (sym is)
    (stuck_at_double m ps k lt i.pass i.different has)))))

takes_name : (m : ℕ) (all : List Lexed) (ps : List Pair) (first : Lexed) (r0 : List Lexed) (k : List ℕ) →
    InMembers m all ps first r0 → first.token ≡ key k → Takes all (passed_members ps ++ key k ∷ []) r0
takes_name m all ps first r0 k i is = Takes-then all i.ahead r0 (passed_members ps) (key k ∷ []) i.passed
    (takes_next i.ahead first r0 (key k) i.next is refl)

pub colon_stops : (m : ℕ) (all : List Lexed) (ps : List Pair) (first : Lexed) (r0 : List Lexed) (k : List ℕ)
    (between : Lexed) (r1 : List Lexed) (f : TextFault) → 0 < m → InMembers m all ps first r0
    → first.token ≡ key k → IsNewName (names ps) k → NextIs r0 between r1 → between.token ≢ colon →
    f.offset ≡ between.offset → f.code ≡ NotJson → StuckAt m (open_object ∷ []) all f
colon_stops m all ps first r0 k between r1 f lt i is new n no_colon offset code =
    stuck_behind m (open_object ∷ []) (passed_members ps ++ key k ∷ []) all r0 f (takes_name m all ps first r0 k i is)
    (stuck_here m (opened_object ps (key k ∷ [])) r0 between r1 f n offset
    (at_code m (opened_object ps (key k ∷ [])) between.token NotJson f code
    (stuck_at_colon m ps k between.token lt i.pass i.different new no_colon)))

takes_colon : (m : ℕ) (all : List Lexed) (ps : List Pair) (first : Lexed) (r0 : List Lexed) (k : List ℕ)
    (between : Lexed) (r1 : List Lexed) → InMembers m all ps first r0 → first.token ≡ key k
    → NextIs r0 between r1 → between.token ≡ colon → Takes all (passed_members ps ++ key k ∷ colon ∷ []) r1
takes_colon m all ps first r0 k between r1 i is n colon_is =
    Takes-then all i.ahead r1 (passed_members ps) (key k ∷ colon ∷ []) i.passed
    (Takes-then i.ahead r0 r1 (key k ∷ []) (colon ∷ []) (takes_next i.ahead first r0 (key k) i.next is refl)
    (takes_next r0 between r1 colon n colon_is refl))

pub value_stops : (m : ℕ) (all : List Lexed) (ps : List Pair) (first : Lexed) (r0 : List Lexed) (k : List ℕ)
    (between : Lexed) (r1 : List Lexed) (f : TextFault) → 0 < m → InMembers m all ps first r0
    → first.token ≡ key k → IsNewName (names ps) k → NextIs r0 between r1 → between.token ≡ colon →
    StuckAt (m - 1) [] r1 f → StuckAt m (open_object ∷ []) all f
value_stops m all ps first r0 k between r1 f lt i is new n colon_is s =
    stuck_behind m (open_object ∷ []) (passed_members ps ++ key k ∷ colon ∷ []) all r1 f
    (takes_colon m all ps first r0 k between r1 i is n colon_is) (record {
      before = s.before;
      at = s.at;
      after = s.after;
      parts = s.parts;
      offset = s.offset;
      stuck = subst (λ (ts : List Token). IsStuck m (open_object ∷ ts) s.at.token (test_of f.code))
          (sym (append_assoc (passed_members ps) (key k ∷ colon ∷ []) (kinds s.before)))
          (stuck_in_member (test_of f.code) m ps k (kinds s.before) s.at.token lt i.pass i.different new s.stuck);
    })

takes_member : (m : ℕ) (all : List Lexed) (ps : List Pair) (first : Lexed) (r0 : List Lexed) (k : List ℕ)
    (between : Lexed) (r1 : List Lexed) (v : Value) (r2 : List Lexed) → InMembers m all ps first r0 →
    first.token ≡ key k
    → NextIs r0 between r1 → between.token ≡ colon → Takes r1 (spell v) r2 →
    Takes all (passed_members ps ++ key k ∷ colon ∷ spell v) r2
takes_member m all ps first r0 k between r1 v r2 i is n colon_is t =
    subst (λ (ts : List Token). Takes all ts r2) (append_assoc (passed_members ps) (key k ∷ colon ∷ []) (spell v))
    (Takes-then all r1 r2 (passed_members ps ++ key k ∷ colon ∷ []) (spell v)
    (takes_colon m all ps first r0 k between r1 i is n colon_is) t)

pub member_stops_behind : (m : ℕ) (all : List Lexed) (ps : List Pair) (first : Lexed) (r0 : List Lexed) (k : List ℕ)
    (between : Lexed) (r1 : List Lexed) (v : Value) (r2 : List Lexed) (behind : Lexed) (r3 : List Lexed) (f : TextFault)
    → 0 < m → InMembers m all ps first r0 → first.token ≡ key k → IsNewName (names ps) k → NextIs r0 between r1 →
    between.token ≡ colon → Takes r1 (spell v) r2 → Passes double_keys (m - 1) v
    → NextIs r2 behind r3 → behind.token ≢ comma → behind.token ≢ close_object → f.offset ≡ behind.offset →
    f.code ≡ NotJson → StuckAt m (open_object ∷ []) all f
member_stops_behind m all ps first r0 k between r1 v r2 behind r3 f lt i is new n colon_is t p n' no_comma no_end offset
    code =
    stuck_behind m (open_object ∷ []) (passed_members ps ++ key k ∷ colon ∷ spell v) all r2 f
    (takes_member m all ps first r0 k between r1 v r2 i is n colon_is t)
    (stuck_here m (opened_object ps (key k ∷ colon ∷ spell v)) r2 behind r3 f n' offset
    (at_code m (opened_object ps (key k ∷ colon ∷ spell v)) behind.token NotJson f code
    (stuck_behind_member m ps k v behind.token lt i.pass i.different new p no_comma no_end)))

takes_separator : (m : ℕ) (all : List Lexed) (ps : List Pair) (first : Lexed) (r0 : List Lexed) (k : List ℕ)
    (between : Lexed) (r1 : List Lexed) (v : Value) (r2 : List Lexed) (behind : Lexed) (r3 : List Lexed) (t : Token) →
    InMembers m all ps first r0 → first.token ≡ key k
    → NextIs r0 between r1 → between.token ≡ colon → Takes r1 (spell v) r2 → NextIs r2 behind r3 → behind.token ≡ t →
    goes t ≡ true → Takes all (passed_members ps ++ key k ∷ colon ∷ (spell v ++ t ∷ [])) r3
takes_separator m all ps first r0 k between r1 v r2 behind r3 t i is n colon_is x n' behind_is g =
    subst (λ (ts : List Token). Takes all ts r3) (append_assoc (passed_members ps) (key k ∷ colon ∷ spell v) (t ∷ []))
    (Takes-then all r2 r3 (passed_members ps ++ key k ∷ colon ∷ spell v) (t ∷ [])
    (takes_member m all ps first r0 k between r1 v r2 i is n colon_is x) (takes_next r2 behind r3 t n' behind_is g))

pub members_go_on : (m : ℕ) (all : List Lexed) (ps : List Pair) (first : Lexed) (r0 : List Lexed) (k : List ℕ)
    (between : Lexed) (r1 : List Lexed) (v : Value) (r2 : List Lexed) (behind : Lexed) (r3 : List Lexed)
    (first' : Lexed) (r4 : List Lexed)
    → InMembers m all ps first r0 → first.token ≡ key k → IsNewName (names ps) k → NextIs r0 between r1 →
    between.token ≡ colon → Takes r1 (spell v) r2 → Passes double_keys (m - 1) v
    → NextIs r2 behind r3 → behind.token ≡ comma → NextIs r3 first' r4 →
    InMembers m all (ps ++ of_member k v ∷ []) first' r4
members_go_on m all ps first r0 k between r1 v r2 behind r3 first' r4 i is new n colon_is t p n' comma_is n'' = record {
  ahead = r3;
  passed = subst (λ (ts : List Token). Takes all ts r3) (sym (passed_members_push ps (of_member k v)))
      (takes_separator m all ps first r0 k between r1 v r2 behind r3 comma i is n colon_is t n' comma_is refl);
  next = n'';
  pass = members_pass_push double_keys (m - 1) ps (of_member k v) i.pass p;
  different = subst AreDifferent (sym (names_push ps (of_member k v))) (new_name_passes (names ps) k i.different new);
  some = λ _ none. push_is_some ps (of_member k v) none;
}

pub members_end : (m : ℕ) (all : List Lexed) (ps : List Pair) (first : Lexed) (r0 : List Lexed) (k : List ℕ)
    (between : Lexed) (r1 : List Lexed) (v : Value) (r2 : List Lexed) (behind : Lexed) (r3 : List Lexed)
    → InMembers m all ps first r0 → first.token ≡ key k → IsNewName (names ps) k → NextIs r0 between r1 →
    between.token ≡ colon → Takes r1 (spell v) r2 → Passes double_keys (m - 1) v
    → NextIs r2 behind r3 → behind.token ≡ close_object → ReadsMembers m all (ps ++ of_member k v ∷ []) r3
members_end m all ps first r0 k between r1 v r2 behind r3 i is new n colon_is t p n' end_is = record {
  takes = subst (λ (ts : List Token). Takes all ts r3) (sym (members_push ps (of_member k v)))
      (takes_separator m all ps first r0 k between r1 v r2 behind r3 close_object i is n colon_is t n' end_is refl);
  pass = members_pass_push double_keys (m - 1) ps (of_member k v) i.pass p;
  different = subst AreDifferent (sym (names_push ps (of_member k v))) (new_name_passes (names ps) k i.different new);
}

pub members_empty : (m : ℕ) (all : List Lexed) (first : Lexed) (others : List Lexed) → NextIs all first others →
    first.token ≡ close_object → ReadsMembers m all [] others
members_empty m all first others n is =
    record { takes = takes_next all first others close_object n is refl; pass = tt; different = no_names }
