-- The steps of the reader at the first token of a value, and at the end of the text.
use Rattle.uc_text.proofs.Common.{AreDifferent, ◌≡◌, ◌≢◌, ℕ, ◌<◌, true, false, List, [], ◌∷◌, ◌++◌, refl, sym, ap}
use Rattle.uc_text.proofs.Common.{subst, ◌∙◌, append_assoc, true≢false, arith, Scalar, null, flag, number, long_number}
use Rattle.uc_text.proofs.Common.{text, Value, scalar, list, object, no_items, no_members, Token, open_list, close_list}
use Rattle.uc_text.proofs.Common.{open_object, close_object, word, end, spell, spell_items, spell_members, Test}
use Rattle.uc_text.proofs.Common.{IsShort, grammar, length_of_numbers, levels, double_keys, Passes, Begins}
use Rattle.uc_text.proofs.Common.{PassesBefore, IsFault, Pair, items_of, members_of, Starts, StartsBefore, IsStuck}
use Rattle.uc_text.proofs.Common.{Lexed, kinds, tokens, goes, test_of, NextIs, StuckAt, Reads, ReadsItems, ReadsMembers}
use Rattle.uc_text.proofs.Common.{IsText, IsFirstFault, TextCode, NotJson, TextFault}
use Rattle.uc_text.proofs.Spellings.{heads, starts, is_start, one_spelling}
use Rattle.uc_text.proofs.Objects.{keys-members_of}
use Rattle.uc_text.proofs.Steps.{Takes-then, takes_next, stuck_here, stuck_behind, kinds_append}
use Rattle.uc_text.proofs.MemberSteps.{at_code}

-- ---- a value that was read

pub reads_scalar : (left : ℕ) (ts : List Lexed) (first : Lexed) (others : List Lexed) (s : Scalar) →
    NextIs ts first others → first.token ≡ word s → IsShort s → Reads left ts (scalar s) others
reads_scalar left ts first others s n is short =
    record { takes = takes_next ts first others (word s) n is refl; pass = short }

pub reads_list : (left : ℕ) (ts : List Lexed) (first : Lexed) (others : List Lexed) (vs : List Value)
    (rest : List Lexed) → 0 < left → NextIs ts first others → first.token ≡ open_list
    → ReadsItems left others vs rest → Reads left ts (list (items_of vs)) rest
reads_list left ts first others vs rest lt n is t =
    record {
      takes = Takes-then ts others rest (open_list ∷ []) (spell_items (items_of vs))
          (takes_next ts first others open_list n is refl) t.takes;
      pass = (lt, t.pass);
    }

pub reads_object : (left : ℕ) (ts : List Lexed) (first : Lexed) (others : List Lexed) (ps : List Pair)
    (rest : List Lexed) → 0 < left → NextIs ts first others → first.token ≡ open_object
    → ReadsMembers left others ps rest → Reads left ts (object (members_of ps)) rest
reads_object left ts first others ps rest lt n is w = record {
  takes = Takes-then ts others rest (open_object ∷ []) (spell_members (members_of ps))
      (takes_next ts first others open_object n is refl) w.takes;
  pass = (lt, subst AreDifferent (sym (keys-members_of ps)) w.different, w.pass);
}

-- ---- a value that was refused

nothing_read : (left : ℕ) → Starts double_keys left []
nothing_read left = (scalar null, word null ∷ [], tt, refl)

pub stuck_not_start : (left : ℕ) (at : Token) → is_start at ≡ false → IsStuck left [] at grammar
stuck_not_start left at off = record {
  passed = nothing_read left;
  tried = tt;
  fails =
      λ v after more p e. true≢false (sym (starts v after at more e) ∙ off);
}

long_fails : (left : ℕ) (v : Value) (after more : List Token) → Passes length_of_numbers left v →
    spell v ++ after ≡ word long_number ∷ more → ⊥
long_fails left (scalar null) after more p e = absurd cc
long_fails left (scalar (flag b)) after more p e = absurd cc
long_fails left (scalar (number d)) after more p e = absurd cc
long_fails left (scalar long_number) after more p e = p
long_fails left (scalar (text k)) after more p e = absurd cc
long_fails left (list vs) after more p e = absurd cc
long_fails left (object ms) after more p e = absurd cc

pub stuck_long : (left : ℕ) → IsStuck left [] (word long_number) length_of_numbers
stuck_long left = record {
  passed = nothing_read left;
  tried = (scalar long_number, [], tt, refl);
  fails =
      long_fails left;
}

pub stuck_deep_list : IsStuck 0 [] open_list levels
stuck_deep_list = record {
  passed = nothing_read 0;
  tried = (list no_items, close_list ∷ [], (tt, tt), refl);
  fails =
      deep_list_fails;
}
  where
    deep_list_fails : (v : Value) (after more : List Token) → Passes levels 0 v → spell v ++ after ≡ open_list ∷ more →
        ⊥
    deep_list_fails (scalar c) after more p e = absurd cc
    deep_list_fails (list vs) after more p e = let lt : 0 < 0 = p.0 in absurd (omega arith)
    deep_list_fails (object ms) after more p e = absurd cc

pub stuck_deep_object : IsStuck 0 [] open_object levels
stuck_deep_object = record {
  passed = nothing_read 0;
  tried =
      (object no_members, close_object ∷ [], (tt, tt, tt), refl);
  fails = deep_object_fails;
}
  where
    deep_object_fails : (v : Value) (after more : List Token) → Passes levels 0 v →
        spell v ++ after ≡ open_object ∷ more → ⊥
    deep_object_fails (scalar c) after more p e = absurd cc
    deep_object_fails (list vs) after more p e = absurd cc
    deep_object_fails (object ms) after more p e = let lt : 0 < 0 = p.0 in absurd (omega arith)

pub value_stops : (left : ℕ) (ts : List Lexed) (first : Lexed) (others : List Lexed) (f : TextFault) (code : TextCode) →
    NextIs ts first others → f.offset ≡ first.offset → f.code ≡ code → IsStuck left [] first.token (test_of code) →
    StuckAt left [] ts f
value_stops left ts first others f code n offset is s =
    stuck_here left [] ts first others f n offset (at_code left [] first.token code f is s)

-- a fault behind the opening bracket is one of the value
pub container_stops : (left : ℕ) (ts : List Lexed) (first : Lexed) (others : List Lexed) (t : Token) (f : TextFault) →
    NextIs ts first others → first.token ≡ t → goes t ≡ true → StuckAt left (t ∷ []) others f → StuckAt left [] ts f
container_stops left ts first others t f n is g s =
    stuck_behind left [] (t ∷ []) ts others f (takes_next ts first others t n is g) s

-- ---- the whole text

begins : (t : Test) (left : ℕ) (ts : List Token) → Starts t left ts → Begins t left ts
begins t left ts s =
    (s.0, s.1 ++ end ∷ [], s.2, ap (λ (us : List Token). us ++ end ∷ []) s.3 ∙ append_assoc ts s.1 (end ∷ []))

begins_before : (t : Test) (left : ℕ) (ts : List Token) → StartsBefore t left ts → PassesBefore t left ts
begins_before grammar left ts s = tt
begins_before length_of_numbers left ts s = begins grammar left ts s
begins_before levels left ts s = begins length_of_numbers left ts s
begins_before double_keys left ts s = begins levels left ts s

pub fault_within : (limit : ℕ) (before : List Token) (at : Token) (t : Test) → IsStuck limit before at t →
    IsFault limit before at t
fault_within limit before at t s = record {
  passed = begins double_keys limit before s.passed;
  tried = begins_before t limit (before ++ at ∷ []) s.tried;
  fails = λ b. s.fails b.0 (end ∷ []) b.1 b.2 (b.3 ∙ append_assoc before (at ∷ []) b.1);
}

pub fault_behind : (limit : ℕ) (v : Value) (at : Token) → Passes double_keys limit v → at ≢ end →
    IsFault limit (spell v) at grammar
fault_behind limit v at p not_end = record {
  passed = (v, end ∷ [], p, refl);
  tried = tt;
  fails = λ b. not_end
      (sym (heads end at [] b.1
      ((one_spelling b.0 v (end ∷ []) (at ∷ b.1) (b.3 ∙ append_assoc (spell v) (at ∷ []) b.1)).1)));
}

pub text_stops : (limit : ℕ) (bytes : List ℕ) (f : TextFault) → StuckAt limit [] (tokens bytes) f →
    IsFirstFault limit bytes f
text_stops limit bytes f s = record {
  before = s.before;
  at = s.at;
  after = s.after;
  parts = s.parts;
  offset = s.offset;
  fails = fault_within limit (kinds s.before) s.at.token (test_of f.code) s.stuck;
}

pub text_stops_behind : (limit : ℕ) (bytes : List ℕ) (v : Value) (r0 : List Lexed) (behind : Lexed) (r1 : List Lexed)
    (f : TextFault) → Reads limit (tokens bytes) v r0 → NextIs r0 behind r1 → behind.token ≢ end
    → f.offset ≡ behind.offset → f.code ≡ NotJson → IsFirstFault limit bytes f
text_stops_behind limit bytes v r0 behind r1 f r n not_end offset code = record {
  before = r.takes.part;
  at = behind;
  after = n.0;
  parts = r.takes.parts ∙ ap (λ (ps : List Lexed). r.takes.part ++ ps) n.1;
  offset = offset;
  fails = subst (λ (k : TextCode). IsFault limit (kinds r.takes.part) behind.token (test_of k)) (sym code)
      (subst (λ (ts : List Token). IsFault limit ts behind.token grammar) (sym r.takes.kinds_are)
      (fault_behind limit v behind.token r.pass not_end));
}

-- the token at the end is the last
pub record IsLast (ts : List Lexed) (p : Lexed) : Type 0 where
  pub alone : ts ≡ p ∷ []

pub text_read : (limit : ℕ) (bytes : List ℕ) (v : Value) (r0 : List Lexed) (behind : Lexed) →
    Reads limit (tokens bytes) v r0 → r0 ≡ behind ∷ [] → behind.token ≡ end → IsText limit bytes v
text_read limit bytes v r0 behind r last is = (
  ap kinds r.takes.parts ∙ kinds_append r.takes.part r0 ∙
      ap (λ (ts : List Token). ts ++ kinds r0) r.takes.kinds_are ∙
      ap (λ (ps : List Lexed). spell v ++ kinds ps) last ∙ ap (λ (t : Token). spell v ++ t ∷ []) is,
  r.pass,
)
