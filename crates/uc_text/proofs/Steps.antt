-- The steps of the reader over a list's tokens.
use Rattle.uc_text.proofs.Common.{◌≡◌, ◌≢◌, ℕ, ◌-◌, ◌<◌, true, List, [], ◌∷◌, ◌++◌, refl, sym, ap, subst, ◌∙◌}
use Rattle.uc_text.proofs.Common.{append_assoc, append-nil, Value, Token, open_list, close_list, comma, spell}
use Rattle.uc_text.proofs.Common.{double_keys, Passes, ItemsPass, items_of, passed_items, opened, IsStuck, Lexed, kinds}
use Rattle.uc_text.proofs.Common.{goes, test_of, AtItem, NextIs, Takes, StuckAt, ReadsItems, NotJson, TextFault}
use Rattle.uc_text.proofs.Spellings.{heads}
use Rattle.uc_text.proofs.Lists.{passed_push, spell_push, items_pass_push, stuck_in_list, stuck_behind_item}

pub kinds_append : (ps qs : List Lexed) → kinds (ps ++ qs) ≡ kinds ps ++ kinds qs
kinds_append [] qs = refl
kinds_append (p ∷ ps) qs = ap (λ (ts : List Token). p.token ∷ ts) (kinds_append ps qs)

pub Takes-then : (a b c : List Lexed) (s t : List Token) → Takes a s b → Takes b t c → Takes a (s ++ t) c
Takes-then a b c s t x y = record {
  part = x.part ++ y.part;
  parts = x.parts ∙ ap (λ (ps : List Lexed). x.part ++ ps) y.parts ∙ sym (append_assoc x.part y.part c);
  kinds_are = kinds_append x.part y.part ∙ ap (λ (ts : List Token). ts ++ kinds y.part) x.kinds_are ∙
      ap (λ (ts : List Token). s ++ ts) y.kinds_are;
}

pub takes_next : (ts : List Lexed) (first : Lexed) (others : List Lexed) (t : Token) → NextIs ts first others →
    first.token ≡ t → goes t ≡ true → Takes ts (t ∷ []) others
takes_next ts first others t n is g = record {
  part = first ∷ [];
  parts = n.1 ∙ ap (λ (ps : List Lexed). first ∷ ps) (n.2 (ap goes is ∙ g));
  kinds_are = ap (λ (u : Token). u ∷ []) is;
}

-- where the tokens that are read first are these, the fault of the others is a fault of all
pub stuck_behind : (m : ℕ) (front s : List Token) (a b : List Lexed) (f : TextFault) → Takes a s b →
    StuckAt m (front ++ s) b f → StuckAt m front a f
stuck_behind m front s a b f t x = record {
  before = t.part ++ x.before;
  at = x.at;
  after = x.after;
  parts = t.parts ∙ ap (λ (ps : List Lexed). t.part ++ ps) x.parts ∙
      sym (append_assoc t.part x.before (x.at ∷ x.after));
  offset = x.offset;
  stuck = subst (λ (ts : List Token). IsStuck m ts x.at.token (test_of f.code))
      (append_assoc front s (kinds x.before) ∙ ap (λ (ts : List Token). front ++ ts)
      (ap (λ (ts : List Token). ts ++ kinds x.before) (sym t.kinds_are) ∙ sym (kinds_append t.part x.before))) x.stuck;
}

-- a fault at the first of the tokens
pub stuck_here : (m : ℕ) (front : List Token) (ts : List Lexed) (first : Lexed) (others : List Lexed) (f : TextFault) →
    NextIs ts first others → f.offset ≡ first.offset → IsStuck m front first.token (test_of f.code) →
    StuckAt m front ts f
stuck_here m front ts first others f n offset s = record {
  before = [];
  at = first;
  after = n.0;
  parts = n.1;
  offset = offset;
  stuck = subst (λ (us : List Token). IsStuck m us first.token (test_of f.code)) (sym (append-nil front)) s;
}

abbrev first_or : Lexed → List Lexed → Lexed
first_or d [] = d
first_or d (p ∷ ps) = p

pub first_of_two : (p q : Lexed) (a b : List Lexed) → p ∷ a ≡ q ∷ b → p ≡ q
first_of_two p q a b e = ap (first_or p) e

pub push_is_some : {X : Type 0} (xs : List X) (x : X) → xs ++ x ∷ [] ≡ [] → ⊥
push_is_some [] x e = cc
push_is_some (y ∷ xs) x e = cc

-- ---- lists

-- Behind the opening bracket, where these items and a comma behind each were read, and then the token first.
pub record InItems (m : ℕ) (all : List Lexed) (vs : List Value) (first : Lexed) (others : List Lexed) : Type 0 where
  pub ahead : List Lexed
  pub passed : Takes all (passed_items vs) ahead
  pub next : NextIs ahead first others
  pub pass : ItemsPass double_keys (m - 1) (items_of vs)
  pub some : vs ≡ [] → first.token ≢ close_list

pub items_begin : (m : ℕ) (all : List Lexed) (first : Lexed) (others : List Lexed) → NextIs all first others →
    first.token ≢ close_list → InItems m all [] first others
items_begin m all first others n front =
    record {
      ahead = all;
      passed = record { part = []; parts = refl; kinds_are = refl };
      next = n;
      pass = tt;
      some =
          λ _. front;
    }

-- behind a comma, before that token is read
pub at_next : (m : ℕ) (all : List Lexed) (vs : List Value) (first : Lexed) (r0 : List Lexed) (v : Value)
    (r1 : List Lexed) (behind : Lexed) (r2 : List Lexed)
    → (i : InItems m all vs first r0) → Takes i.ahead (spell v) r1 → Passes double_keys (m - 1) v →
    NextIs r1 behind r2 → behind.token ≡ comma → AtItem m all (vs ++ v ∷ []) r2
at_next m all vs first r0 v r1 behind r2 i t p n is = record {
  passed = subst (λ (ts : List Token). Takes all ts r2) (sym (passed_push vs v))
      (Takes-then all i.ahead r2 (passed_items vs) (spell v ++ comma ∷ []) i.passed
      (Takes-then i.ahead r1 r2 (spell v) (comma ∷ []) t (takes_next r1 behind r2 comma n is refl)));
  pass = items_pass_push double_keys (m - 1) vs v i.pass p;
}

pub one_more : (m : ℕ) (all : List Lexed) (vs : List Value) (r0 : List Lexed) (v : Value) (r1 : List Lexed) →
    AtItem m all vs r0 → Takes r0 (spell v ++ comma ∷ []) r1 → Passes double_keys (m - 1) v →
    AtItem m all (vs ++ v ∷ []) r1
one_more m all vs r0 v r1 i t p = record {
  passed = subst (λ (ts : List Token). Takes all ts r1) (sym (passed_push vs v))
      (Takes-then all r0 r1 (passed_items vs) (spell v ++ comma ∷ []) i.passed t);
  pass = items_pass_push double_keys (m - 1) vs v i.pass p;
}

pub read_first : (m : ℕ) (all : List Lexed) (vs : List Value) (r0 : List Lexed) (first : Lexed) (others : List Lexed) →
    AtItem m all vs r0 → NextIs r0 first others → (vs ≡ [] → ⊥) → InItems m all vs first others
read_first m all vs r0 first others i n some =
    record { ahead = r0; passed = i.passed; next = n; pass = i.pass; some = λ none. absurd (some none) }

pub items_go_on : (m : ℕ) (all : List Lexed) (vs : List Value) (first : Lexed) (r0 : List Lexed) (v : Value)
    (r1 : List Lexed) (behind : Lexed) (r2 : List Lexed) (first' : Lexed) (r3 : List Lexed)
    → (i : InItems m all vs first r0) → Takes i.ahead (spell v) r1 → Passes double_keys (m - 1) v →
    NextIs r1 behind r2 → behind.token ≡ comma → NextIs r2 first' r3 → InItems m all (vs ++ v ∷ []) first' r3
items_go_on m all vs first r0 v r1 behind r2 first' r3 i t p n is n' =
    read_first m all (vs ++ v ∷ []) r2 first' r3 (at_next m all vs first r0 v r1 behind r2 i t p n is) n'
    (push_is_some vs v)

pub items_end : (m : ℕ) (all : List Lexed) (vs : List Value) (first : Lexed) (r0 : List Lexed) (v : Value)
    (r1 : List Lexed) (behind : Lexed) (r2 : List Lexed)
    → (i : InItems m all vs first r0) → Takes i.ahead (spell v) r1 → Passes double_keys (m - 1) v →
    NextIs r1 behind r2 → behind.token ≡ close_list → ReadsItems m all (vs ++ v ∷ []) r2
items_end m all vs first r0 v r1 behind r2 i t p n is = record {
  takes = subst (λ (ts : List Token). Takes all ts r2) (sym (spell_push vs v))
      (Takes-then all i.ahead r2 (passed_items vs) (spell v ++ close_list ∷ []) i.passed
      (Takes-then i.ahead r1 r2 (spell v) (close_list ∷ []) t (takes_next r1 behind r2 close_list n is refl)));
  pass = items_pass_push double_keys (m - 1) vs v i.pass p;
}

pub items_empty : (m : ℕ) (all : List Lexed) (first : Lexed) (others : List Lexed) → NextIs all first others →
    first.token ≡ close_list → ReadsItems m all [] others
items_empty m all first others n is = record { takes = takes_next all first others close_list n is refl; pass = tt }

pub items_stop_behind : (m : ℕ) (all : List Lexed) (vs : List Value) (first : Lexed) (r0 : List Lexed) (v : Value)
    (r1 : List Lexed) (behind : Lexed) (r2 : List Lexed) (f : TextFault)
    → 0 < m → (i : InItems m all vs first r0) → Takes i.ahead (spell v) r1 → Passes double_keys (m - 1) v →
    NextIs r1 behind r2 → behind.token ≢ comma → behind.token ≢ close_list
    → f.offset ≡ behind.offset → f.code ≡ NotJson → StuckAt m (open_list ∷ []) all f
items_stop_behind m all vs first r0 v r1 behind r2 f lt i t p n not_comma not_closed offset code =
    stuck_behind m (open_list ∷ []) (passed_items vs ++ spell v) all r1 f
    (Takes-then all i.ahead r1 (passed_items vs) (spell v) i.passed t)
    (stuck_here m (open_list ∷ (passed_items vs ++ spell v)) r1 behind r2 f n offset
    (subst (λ (k : _). IsStuck m (opened vs (spell v)) behind.token (test_of k)) (sym code)
    (stuck_behind_item m vs v behind.token lt i.pass p not_comma not_closed)))

first_not_closed : (vs : List Value) (first : Lexed) (more before after : List Lexed) (at : Lexed) →
    first ∷ more ≡ before ++ at ∷ after → (vs ≡ [] → first.token ≢ close_list)
    → (a us : List Token) → close_list ∷ a ≡ kinds before ++ at.token ∷ us → vs ≡ [] → ⊥
first_not_closed vs first more [] after at e some a us is none =
    some none (sym (heads _ _ _ _ (is ∙ ap (λ (p : Lexed). p.token ∷ us) (sym (first_of_two first at more after e)))))
first_not_closed vs first more (b ∷ before) after at e some a us is none =
    some none
    (sym (heads _ _ _ _ (is ∙ ap (λ (p : Lexed). p.token ∷ (kinds before ++ at.token ∷ us))
    (sym (first_of_two first b more (before ++ at ∷ after) e)))))

pub items_stop : (m : ℕ) (all : List Lexed) (vs : List Value) (first : Lexed) (r0 : List Lexed) (f : TextFault) →
    0 < m → (i : InItems m all vs first r0) → StuckAt (m - 1) [] i.ahead f → StuckAt m (open_list ∷ []) all f
items_stop m all vs first r0 f lt i s =
    stuck_behind m (open_list ∷ []) (passed_items vs) all i.ahead f i.passed (record {
      before = s.before;
      at = s.at;
      after = s.after;
      parts = s.parts;
      offset = s.offset;
      stuck = stuck_in_list (test_of f.code) m vs (kinds s.before) s.at.token lt i.pass s.stuck
          (first_not_closed vs first i.next.0 s.before s.after s.at (sym i.next.1 ∙ s.parts) i.some);
    })
