-- What nodes say that were put behind others.
use Rattle.uc_text.proofs.Common.{◌≡◌, ℕ, ◌+◌, List, [], ◌∷◌, ◌++◌, length, set, refl, sym, ap, ap₂, subst, ◌∙◌}
use Rattle.uc_text.proofs.Common.{arith, append_assoc, append-nil, length-append, Value, scalar, text, list, object}
use Rattle.uc_text.proofs.Common.{Pair, items_of, members_of, Adds, in_turn, IsOne, Node, first, firsts, pairs, own}
use Rattle.uc_text.proofs.Common.{value_of, values, values_from}

pub adds_none : (bytes : List ℕ) (ns : List Node) → Adds bytes ns ns []
adds_none bytes ns = record { block = []; parts = sym (append-nil ns); say = λ more. refl }

pub adds_one : (bytes : List ℕ) (old new : List Node) (n : Node) (v : Value) → new ≡ old ++ n ∷ [] → IsOne bytes n v →
    Adds bytes old new (v ∷ [])
adds_one bytes old new n v e h = record { block = n ∷ []; parts = e; say = h }

pub adds_then : (bytes : List ℕ) (a b c : List Node) (vs us : List Value) → Adds bytes a b vs → Adds bytes b c us →
    Adds bytes a c (vs ++ us)
adds_then bytes a b c vs us x y = record {
  block = x.block ++ y.block;
  parts = y.parts ∙ ap (λ (ns : List Node). ns ++ y.block) x.parts ∙ append_assoc a x.block y.block;
  say = λ more. ap (values bytes) (append_assoc x.block y.block more) ∙ x.say (y.block ++ more) ∙
      ap (λ (ws : List Value). vs ++ ws) (y.say more) ∙ sym (append_assoc vs us (values bytes more));
}

-- ---- a list and an object

firsts_all : (vs others : List Value) → firsts (length vs) (vs ++ others) ≡ vs
firsts_all [] others = refl
firsts_all (v ∷ vs) others = ap (λ (us : List Value). v ∷ us) (firsts_all vs others)

pairs_all : (ps : List Pair) (others : List Value) → pairs (length ps) (in_turn ps ++ others) ≡ ps
pairs_all [] others = refl
pairs_all (p ∷ ps) others = ap (λ (qs : List Pair). p ∷ qs) (pairs_all ps others)

-- the node at the seam of two lists, written anew
set_seam : (old block : List Node) (n m : Node) → set (old ++ n ∷ block) (length old) m ≡ old ++ m ∷ block
set_seam [] block n m = refl
set_seam (o ∷ old) block n m = ap (λ (ns : List Node). o ∷ ns) (set_seam old block n m)

-- behind a block of nodes that are inside a value
passed : (bytes : List ℕ) (block more : List Node) →
    values_from (length block) bytes (block ++ more) ≡ values bytes more
passed bytes [] more = refl
passed bytes (n ∷ block) more = passed bytes block more

-- a node that was pushed, and then written anew where those inside its value stand behind it
pub adds_anew : (bytes : List ℕ) (old begun inside new : List Node) (n m : Node) (vs : List Value) (v : Value)
    (at : ℕ) → begun ≡ old ++ n ∷ [] → at ≡ length old → new ≡ set inside at m → own m + (at + 1) ≡ length inside
    → ((ws others : List Value) → ws ≡ vs ++ others → value_of bytes m ws ≡ v) →
    Adds bytes begun inside vs → Adds bytes old new (v ∷ [])
adds_anew bytes old begun inside new n m vs v at pushed here written all one x =
    let whole : inside ≡ old ++ n ∷ x.block = x.parts ∙ ap (λ (ns : List Node). ns ++ x.block) pushed ∙
    append_assoc old (n ∷ []) x.block in
    let far : own m ≡ length x.block = omega (arith, here, all, ap length whole, length-append old (n ∷ x.block)) in
    record {
      block = m ∷ x.block;
      parts = written ∙ ap (λ (k : ℕ). set inside k m) here ∙ ap (λ (ns : List Node). set ns (length old) m) whole ∙
          set_seam old x.block n m;
      say = λ more. ap₂ (λ (w : Value) (ws : List Value). w ∷ ws)
          (one (values bytes (x.block ++ more)) (values bytes more) (x.say more))
          (ap (λ (k : ℕ). values_from k bytes (x.block ++ more)) far ∙ passed bytes x.block more);
    }

pub says_list : (k : ℕ) (vs : List Value) → k ≡ length vs → (ws others : List Value) → ws ≡ vs ++ others →
    list (items_of (firsts k ws)) ≡ list (items_of vs)
says_list k vs e ws others h =
    ap (λ (us : List Value). list (items_of us))
    (ap (λ (n : ℕ). firsts n ws) e ∙ ap (firsts (length vs)) h ∙ firsts_all vs others)

pub says_object : (k : ℕ) (ps : List Pair) → k ≡ length ps → (ws others : List Value) → ws ≡ in_turn ps ++ others →
    object (members_of (pairs k ws)) ≡ object (members_of ps)
says_object k ps e ws others h =
    ap (λ (qs : List Pair). object (members_of qs))
    (ap (λ (n : ℕ). pairs n ws) e ∙ ap (pairs (length ps)) h ∙ pairs_all ps others)

-- ---- how many nodes there are

pub one_node : (old new : List Node) (n : Node) → new ≡ old ++ n ∷ [] → length new ≡ length old + 1
one_node old new n e = omega (arith, ap length e, length-append old (n ∷ []))

pub in_turn-push : (ps : List Pair) (p : Pair) →
    in_turn (ps ++ p ∷ []) ≡ in_turn ps ++ scalar (text p.name) ∷ p.value ∷ []
in_turn-push [] p = refl
in_turn-push (q ∷ ps) p = ap (λ (vs : List Value). scalar (text q.name) ∷ q.value ∷ vs) (in_turn-push ps p)

-- a name and its value behind the members
pub adds_member : (bytes : List ℕ) (a b c d : List Node) (ps : List Pair) (p : Pair) → Adds bytes a b (in_turn ps) →
    Adds bytes b c (scalar (text p.name) ∷ []) → Adds bytes c d (p.value ∷ []) → Adds bytes a d (in_turn (ps ++ p ∷ []))
adds_member bytes a b c d ps p x y z =
    subst (λ (vs : List Value). Adds bytes a d vs) (sym (in_turn-push ps p))
    (adds_then bytes a b d (in_turn ps) (scalar (text p.name) ∷ p.value ∷ []) x
    (adds_then bytes b c d (scalar (text p.name) ∷ []) (p.value ∷ []) y z))

-- the whole text
pub says_whole : (bytes : List ℕ) (ns : List Node) (v : Value) → Adds bytes [] ns (v ∷ []) → first (values bytes ns) ≡ v
says_whole bytes ns v x = ap (λ (ms : List Node). first (values bytes ms)) (x.parts ∙ sym (append-nil x.block)) ∙
    ap first (x.say [])
