-- The items and members that are taken one after the other.
use Rattle.uc_text.proofs.Common.{◌≡◌, ℕ, zero, suc, ◌+◌, ◌-◌, ◌<◌, List, [], ◌∷◌, ◌++◌, length, drop, refl, sym, ap}
use Rattle.uc_text.proofs.Common.{ap₂, ◌∙◌, arith, append_assoc, Some, item_values, member_pairs, list_in, object_in}
use Rattle.uc_text.proofs.Common.{first, firsts, text_in, pairs, values, value_of, Pair, items_of, members_of, Value}
use Rattle.uc_text.proofs.Common.{view, views, member_view, member_views, Node, map_push, drop-drop}
use Rattle.text_tokens.specs.Strings.{said}
use Rattle.uc_text.specs.declared.branch.Branch.{Branch}
use Rattle.uc_text.specs.declared.node.Parts.{Parts}
use Rattle.uc_text.specs.declared.object.Member.{Member}
use Rattle.uc_text.specs.declared.node.Node.TheVariants as nodes

pub items_again : (vs : List Value) → item_values (items_of vs) ≡ vs
items_again [] = refl
items_again (v ∷ vs) = ap (λ (ws : List Value). v ∷ ws) (items_again vs)

pub members_again : (ps : List Pair) → member_pairs (members_of ps) ≡ ps
members_again [] = refl
members_again (p ∷ ps) = ap (λ (qs : List Pair). p ∷ qs) (members_again ps)

pub firsts_len : (k : ℕ) (vs : List Value) → length (firsts k vs) ≡ k
firsts_len zero vs = refl
firsts_len (suc k) vs = ap suc (firsts_len k (drop 1 vs))

pub pairs_len : (k : ℕ) (vs : List Value) → length (pairs k vs) ≡ k
pairs_len zero vs = refl
pairs_len (suc k) vs = ap suc (pairs_len k (drop 2 vs))

-- one more item behind those that were taken
one_item : (seen vs : List Value) (k i : ℕ) → i < k →
    (seen ++ first vs ∷ []) ++ firsts (k - (i + 1)) (drop 1 vs) ≡ seen ++ firsts (k - i) vs
one_item seen vs k i lt =
    let left : k - i ≡ suc (k - (i + 1)) = omega arith in
    append_assoc seen (first vs ∷ []) (firsts (k - (i + 1)) (drop 1 vs)) ∙
    ap (λ (n : ℕ). seen ++ firsts n vs) (sym left)

-- one more member
one_pair : (seen : List Pair) (vs : List Value) (k i : ℕ) → i < k
    → (seen ++ record { name = text_in (first vs); value = first (drop 1 vs) } ∷ []) ++ pairs (k - (i + 1))
    (drop 2 vs) ≡ seen ++ pairs (k - i) vs
one_pair seen vs k i lt =
    let left : k - i ≡ suc (k - (i + 1)) = omega arith in
    append_assoc seen (record { name = text_in (first vs); value = first (drop 1 vs) } ∷ [])
    (pairs (k - (i + 1)) (drop 2 vs)) ∙ ap (λ (n : ℕ). seen ++ pairs n vs) (sym left)

pub next_item : (bytes : List ℕ) (seen new : List Branch) (t : Branch) (rest behind : List Node) (k i : ℕ)
    (all : List Value) → new ≡ seen ++ t ∷ [] → view t ≡ first (values bytes rest) →
    values bytes behind ≡ drop 1 (values bytes rest) → i < k
    → views seen ++ firsts (k - i) (values bytes rest) ≡ all →
    views new ++ firsts (k - (i + 1)) (values bytes behind) ≡ all
next_item bytes seen new t rest behind k i all pushed says on lt so_far =
    let here : views new ≡ views seen ++ first (values bytes rest) ∷ [] =
    ap views pushed ∙ map_push view seen t ∙ ap (λ (v : Value). views seen ++ v ∷ []) says in
    ap₂ (λ (xs ys : List Value). xs ++ firsts (k - (i + 1)) ys) here on ∙
    one_item (views seen) (values bytes rest) k i lt ∙ so_far

pub next_member : (bytes : List ℕ) (seen new : List Member) (m : Member) (rest between behind : List Node) (k i : ℕ)
    (all : List Pair) → new ≡ seen ++ m ∷ []
    → said m.name.bytes.now ≡ text_in (first (values bytes rest)) → view m.value ≡ first (values bytes between) →
    values bytes between ≡ drop 1 (values bytes rest) → values bytes behind ≡ drop 1 (values bytes between) → i < k
    → member_views seen ++ pairs (k - i) (values bytes rest) ≡ all →
    member_views new ++ pairs (k - (i + 1)) (values bytes behind) ≡ all
next_member bytes seen new m rest between behind k i all pushed name value on past lt so_far =
    let vs = values bytes rest in
    let second : view m.value ≡ first (drop 1 vs) = value ∙ ap first on in
    let pair : member_view m ≡ record { name = text_in (first vs); value = first (drop 1 vs) } =
    ap₂ (λ (n : List ℕ) (v : Value). record { name = n; value = v }) name second in
    let here : member_views new ≡ member_views seen ++ record {
      name = text_in (first vs);
      value =
          first (drop 1 vs);
    } ∷ [] = ap member_views pushed ∙ map_push member_view seen m ∙
    ap (λ (p : Pair). member_views seen ++ p ∷ []) pair in
    let far : values bytes behind ≡ drop 2 vs = past ∙ ap (drop 1) on ∙ drop-drop 1 1 vs in
    ap₂ (λ (xs : List Pair) (ys : List Value). xs ++ pairs (k - (i + 1)) ys) here far ∙
    one_pair (member_views seen) vs k i lt ∙ so_far

-- ---- a value by its first node

pub list_of : (bytes : List ℕ) (v : Value) (n : Node) (vs : List Value) (p : Parts) → v ≡ value_of bytes n vs →
    n ≡ nodes.List p → list_in v ≡ Some (firsts p.count vs)
list_of bytes v n vs p says is =
    ap list_in (says ∙ ap (λ (m : Node). value_of bytes m vs) is) ∙ ap Some (items_again (firsts p.count vs))

pub object_of : (bytes : List ℕ) (v : Value) (n : Node) (vs : List Value) (p : Parts) → v ≡ value_of bytes n vs →
    n ≡ nodes.Object p → object_in v ≡ Some (pairs p.count vs)
object_of bytes v n vs p says is =
    ap object_in (says ∙ ap (λ (m : Node). value_of bytes m vs) is) ∙ ap Some (members_again (pairs p.count vs))

pub no_text : (bytes : List ℕ) (n : Node) (vs : List Value) → ((p : ℕ) → n ≡ nodes.Text p → ⊥) →
    text_in (value_of bytes n vs) ≡ []
no_text bytes nodes.Null vs not = refl
no_text bytes (nodes.Flag b) vs not = refl
no_text bytes (nodes.Number s) vs not = refl
no_text bytes (nodes.LargeNumber p) vs not = refl
no_text bytes (nodes.Text p) vs not = absurd (not p refl)
no_text bytes (nodes.List p) vs not = refl
no_text bytes (nodes.Object p) vs not = refl
