-- No value's tokens begin another's, and what stands before an item or a member.
use Rattle.uc_text.proofs.Common.{◌≡◌, ℕ, Bool, true, false, List, [], ◌∷◌, ◌++◌, refl, sym, ap, ◌∙◌, append_assoc}
use Rattle.uc_text.proofs.Common.{true≢false, Value, scalar, list, object, Items, no_items, item, Members, no_members}
use Rattle.uc_text.proofs.Common.{member, Token, open_list, close_list, open_object, word, end, spell, spell_items}
use Rattle.uc_text.proofs.Common.{spell_more_items, spell_members, spell_more_members}

abbrev pub is_start : Token → Bool
is_start open_list = true
is_start open_object = true
is_start (word s) = true
is_start t = false

abbrev rest_of : List Token → List Token
rest_of [] = []
rest_of (t ∷ ts) = ts

abbrev first_of_or : Token → List Token → Token
first_of_or d [] = d
first_of_or d (t ∷ ts) = t

pub heads : (t u : Token) (a b : List Token) → t ∷ a ≡ u ∷ b → t ≡ u
heads t u a b e = ap (first_of_or end) e

pub tails : (t u : Token) (a b : List Token) → t ∷ a ≡ u ∷ b → a ≡ b
tails t u a b e = ap rest_of e

pub starts : (v : Value) (x : List Token) (t : Token) (y : List Token) → spell v ++ x ≡ t ∷ y → is_start t ≡ true
starts (scalar s) x t y e = ap is_start (sym (heads _ t _ y e))
starts (list vs) x t y e = ap is_start (sym (heads _ t _ y e))
starts (object ms) x t y e = ap is_start (sym (heads _ t _ y e))

pub not_close : (v : Value) (x y : List Token) → spell v ++ x ≡ close_list ∷ y → ⊥
not_close v x y e = true≢false (sym (starts v x close_list y e))

regroup : (a b c d e f : List Token) → (a ++ b) ++ c ≡ (d ++ e) ++ f → a ++ (b ++ c) ≡ d ++ (e ++ f)
regroup a b c d e f h = sym (append_assoc a b c) ∙ h ∙ append_assoc d e f

mutual
  pub one_spelling : (v w : Value) (a b : List Token) → spell v ++ a ≡ spell w ++ b → (v ≡ w) × (a ≡ b)
  one_spelling (scalar s) (scalar r) a b e = (cc, tails _ _ a b e)
  one_spelling (scalar s) (list ws) a b e = absurd cc
  one_spelling (scalar s) (object ns) a b e = absurd cc
  one_spelling (list vs) (scalar s) a b e = absurd cc
  one_spelling (list vs) (list ws) a b e = let r = one_items vs ws a b (tails _ _ _ _ e) in (ap list r.0, r.1)
  one_spelling (list vs) (object ns) a b e = absurd cc
  one_spelling (object ms) (scalar s) a b e = absurd cc
  one_spelling (object ms) (list ws) a b e = absurd cc
  one_spelling (object ms) (object ns) a b e = let r = one_members ms ns a b (tails _ _ _ _ e) in (ap object r.0, r.1)

  one_items : (vs ws : Items) (a b : List Token) → spell_items vs ++ a ≡ spell_items ws ++ b → (vs ≡ ws) × (a ≡ b)
  one_items no_items no_items a b e = (refl, tails _ _ a b e)
  one_items no_items (item w ws) a b e =
      absurd (not_close w _ a (sym (append_assoc (spell w) (spell_more_items ws) b) ∙ sym e))
  one_items (item v vs) no_items a b e =
      absurd (not_close v _ b (sym (append_assoc (spell v) (spell_more_items vs) a) ∙ e))
  one_items (item v vs) (item w ws) a b e =
      let r = one_spelling v w (spell_more_items vs ++ a) (spell_more_items ws ++ b) (regroup _ _ a _ _ b e) in
      let s = one_more_items vs ws a b r.1 in
      (ap (λ (u : Value). item u vs) r.0 ∙ ap (item w) s.0, s.1)

  one_more_items : (vs ws : Items) (a b : List Token) → spell_more_items vs ++ a ≡ spell_more_items ws ++ b →
      (vs ≡ ws) × (a ≡ b)
  one_more_items no_items no_items a b e = (refl, tails _ _ a b e)
  one_more_items no_items (item w ws) a b e = absurd cc
  one_more_items (item v vs) no_items a b e = absurd cc
  one_more_items (item v vs) (item w ws) a b e =
      let r = one_spelling v w (spell_more_items vs ++ a) (spell_more_items ws ++ b)
      (regroup _ _ a _ _ b (tails _ _ _ _ e)) in
      let s = one_more_items vs ws a b r.1 in
      (ap (λ (u : Value). item u vs) r.0 ∙ ap (item w) s.0, s.1)

  one_members : (ms ns : Members) (a b : List Token) → spell_members ms ++ a ≡ spell_members ns ++ b →
      (ms ≡ ns) × (a ≡ b)
  one_members no_members no_members a b e = (refl, tails _ _ a b e)
  one_members no_members (member l w ns) a b e = absurd cc
  one_members (member k v ms) no_members a b e = absurd cc
  one_members (member k v ms) (member l w ns) a b e =
      let same : k ≡ l = cc in
      let r = one_spelling v w (spell_more_members ms ++ a) (spell_more_members ns ++ b)
      (regroup _ _ a _ _ b (tails _ _ _ _ (tails _ _ _ _ e))) in
      let s = one_more_members ms ns a b r.1 in
      (ap (λ (u : List ℕ). member u v ms) same ∙ ap (λ (u : Value). member l u ms) r.0 ∙ ap (member l w) s.0, s.1)

  one_more_members : (ms ns : Members) (a b : List Token) → spell_more_members ms ++ a ≡ spell_more_members ns ++ b →
      (ms ≡ ns) × (a ≡ b)
  one_more_members no_members no_members a b e = (refl, tails _ _ a b e)
  one_more_members no_members (member l w ns) a b e = absurd cc
  one_more_members (member k v ms) no_members a b e = absurd cc
  one_more_members (member k v ms) (member l w ns) a b e =
      let same : k ≡ l = cc in
      let r = one_spelling v w (spell_more_members ms ++ a) (spell_more_members ns ++ b)
      (regroup _ _ a _ _ b (tails _ _ _ _ (tails _ _ _ _ (tails _ _ _ _ e)))) in
      let s = one_more_members ms ns a b r.1 in
      (ap (λ (u : List ℕ). member u v ms) same ∙ ap (λ (u : Value). member l u ms) r.0 ∙ ap (member l w) s.0, s.1)
