-- The values behind nodes that were passed.
use Rattle.uc_text.proofs.Common.{◌≡◌, ℕ, zero, suc, ◌-◌, ◌≤◌, List, [], ◌∷◌, length, get_or, take, drop, take_all}
use Rattle.uc_text.proofs.Common.{refl, sym, ap, ◌∙◌, arith, own, values, values_from, Node}
use Rattle.uc_text.specs.declared.node.Node.TheVariants.{Null}

-- behind so many nodes
passed : (bytes : List ℕ) (k : ℕ) (ns : List Node) → values_from k bytes ns ≡ values bytes (drop k ns)
passed bytes zero ns = refl
passed bytes (suc k) [] = refl
passed bytes (suc k) (n ∷ ns) = passed bytes k ns

-- behind the nodes inside a value is the next one
pub node_passed : (bytes : List ℕ) (ns rest : List Node) (k : ℕ) → 1 ≤ length ns → k ≡ own (get_or ns 0 Null) →
    rest ≡ drop k (take (length ns - 1) (drop 1 ns)) → values bytes rest ≡ drop 1 (values bytes ns)
node_passed bytes [] rest k some is to = absurd (omega (arith, some))
node_passed bytes (n ∷ ns) rest k some is to =
    let all : take (length (n ∷ ns) - 1) ns ≡ ns = take_all (length (n ∷ ns) - 1) ns (omega arith) in
    ap (values bytes) (to ∙ ap (drop k) all) ∙ ap (λ (m : ℕ). values bytes (drop m ns)) is ∙
    sym (passed bytes (own n) ns)

-- behind a node without nodes of its own too
pub leaf_passed : (bytes : List ℕ) (n : Node) (behind : List Node) (k : ℕ) → k ≡ own n → k ≡ 0 →
    values bytes behind ≡ drop 1 (values bytes (n ∷ behind))
leaf_passed bytes n behind k is none = ap (λ (m : ℕ). values_from m bytes behind) (sym none ∙ is)
