-- Names that are compared only once an object ends or has a fault.
use Rattle.uc_text.proofs.Common.{◌≡◌, ℕ, ◌<◌, ◌≤◌, List, [], ◌∷◌, ◌++◌, length, get_or, take, take_all, sym, ap, subst}
use Rattle.uc_text.proofs.Common.{◌∙◌, inl, inr, arith, cases_lt, length-append, get_or_append_left, Contains}
use Rattle.uc_text.proofs.Common.{AreDifferent, IsFirst, IsNewName, DoublesStop, Name, Pair, names, names_said, said}
use Rattle.uc_text.proofs.Common.{key, Lexed}
use Rattle.std.proofs.Math.Seq.{get_or-append_seam, take-append_seam}
use Rattle.std.proofs.lemmas.List.{take-append-le}
use Rattle.uc_text.proofs.Known.{names_len, names_said-push}
use Rattle.uc_text.proofs.MemberSteps.{InMembers, double_stops}

-- names before one, and that one is new
pub split_different : (ks : List (List ℕ)) (k : List ℕ) → AreDifferent (ks ++ k ∷ []) → AreDifferent ks × IsNewName ks k
split_different ks k h = (
  λ i j d lt within e. h i j d lt (omega (arith, within, length-append ks (k ∷ [])))
      (get_or_append_left ks (k ∷ []) d i (omega (arith, lt, within)) ∙ e ∙
      sym (get_or_append_left ks (k ∷ []) d j within)),
  λ i d lt e. h i (length ks) d lt (omega (arith, length-append ks (k ∷ [])))
      (get_or_append_left ks (k ∷ []) d i lt ∙ e ∙ sym (get_or-append_seam ks k [] d)),
)

pub doubles_none : (m : ℕ) (all : List Lexed) → DoublesStop m all []
doubles_none m all n d f lt is offset code = absurd (omega arith)

-- the first double name of some is that of more
first_of_front : (ks : List (List ℕ)) (k : List ℕ) (n : ℕ) → n < length ks → IsFirst (ks ++ k ∷ []) n → IsFirst ks n
first_of_front ks k n lt is =
    let same : take n (ks ++ k ∷ []) ≡ take n ks = take-append-le n ks (k ∷ []) (omega (arith, lt)) in
    let found = is.double (omega (arith, lt, length-append ks (k ∷ []))) in
    record {
      within = omega (arith, lt);
      different = subst AreDifferent same is.different;
      double = λ _. subst (λ (js : List (List ℕ)). Contains js (get_or ks n [])) same
          (subst (λ (q : List ℕ). Contains (take n (ks ++ k ∷ [])) q) (get_or_append_left ks (k ∷ []) [] n lt) found);
    }

pub doubles_more : (m : ℕ) (all : List Lexed) (ns : List Name) (name : Name) (ps : List Pair) (first : Lexed)
    (r0 : List Lexed) (k : List ℕ) → 0 < m → DoublesStop m all ns
    → names_said ns ≡ names ps → (AreDifferent (names ps) → InMembers m all ps first r0) → first.token ≡ key k →
    name.offset ≡ first.offset → said name.quoted.bytes.now ≡ k → DoublesStop m all (ns ++ name ∷ [])
doubles_more m all ns name ps first r0 k some old said_is inside is offset says n d f lt told at code =
    let pushed : names_said (ns ++ name ∷ []) ≡ names ps ++ k ∷ [] =
    names_said-push ns name ∙ ap (λ (ks : List (List ℕ)). ks ++ said name.quoted.bytes.now ∷ []) said_is ∙
    ap (λ (q : List ℕ). names ps ++ q ∷ []) says in
    let count : length (names ps) ≡ length ns = ap length (sym said_is) ∙ names_len ns in
    let here : IsFirst (names ps ++ k ∷ []) n = subst (λ (ks : List (List ℕ)). IsFirst ks n) pushed told in
    elim (cases_lt n (length ns)) [
      | inl front ↦
          old n d f front (subst (λ (ks : List (List ℕ)). IsFirst ks n) (sym said_is)
          (first_of_front (names ps) k n (omega (arith, front, count)) here))
          (at ∙ ap (λ (x : Name). x.offset) (get_or_append_left ns (name ∷ []) d n front)) code
      | inr last ↦
          let end : n ≡ length (names ps) = omega (arith, lt, last, count, length-append ns (name ∷ [])) in
          let whole : take n (names ps ++ k ∷ []) ≡ names ps =
          ap (λ (i : ℕ). take i (names ps ++ k ∷ [])) end ∙ take-append_seam (names ps) (k ∷ []) in
          let among = here.double (omega (arith, end, length-append (names ps) (k ∷ []))) in
          let it : get_or (names ps ++ k ∷ []) n [] ≡ k =
          ap (λ (i : ℕ). get_or (names ps ++ k ∷ []) i []) end ∙ get_or-append_seam (names ps) k [] [] in
          let has : Contains (names ps) k = subst (λ (js : List (List ℕ)). Contains js k) whole
          (subst (λ (q : List ℕ). Contains (take n (names ps ++ k ∷ [])) q) it among) in
          let named : get_or (ns ++ name ∷ []) n d ≡ name =
          ap (λ (i : ℕ). get_or (ns ++ name ∷ []) i d) (omega (arith, lt, last, length-append ns (name ∷ []))) ∙
          get_or-append_seam ns name [] d in
          double_stops m all ps first r0 k f some (inside (subst AreDifferent whole here.different)) is has
          (at ∙ ap (λ (x : Name). x.offset) named ∙ offset) code
    ]

-- what the names say with one more
pub after_push : (ns new : List Name) (name : Name) (ps : List Pair) (k : List ℕ) → new ≡ ns ++ name ∷ [] →
    names_said ns ≡ names ps → said name.quoted.bytes.now ≡ k → names_said new ≡ names ps ++ k ∷ []
after_push ns new name ps k pushed said_is says =
    ap names_said pushed ∙ names_said-push ns name ∙ ap (λ (ks : List (List ℕ)). ks ++ said name.quoted.bytes.now ∷ [])
    said_is ∙ ap (λ (q : List ℕ). names ps ++ q ∷ []) says

pub split_pushed : (ks js : List (List ℕ)) (k : List ℕ) → js ≡ ks ++ k ∷ [] → AreDifferent js →
    AreDifferent ks × IsNewName ks k
split_pushed ks js k is h = split_different ks k (subst AreDifferent is h)

pub doubles_push : (m : ℕ) (all : List Lexed) (ns new : List Name) (name : Name) (ps : List Pair) (first : Lexed)
    (r0 : List Lexed) (k : List ℕ) → new ≡ ns ++ name ∷ [] → 0 < m → DoublesStop m all ns
    → names_said ns ≡ names ps → (AreDifferent (names ps) → InMembers m all ps first r0) → first.token ≡ key k →
    name.offset ≡ first.offset → said name.quoted.bytes.now ≡ k → DoublesStop m all new
doubles_push m all ns new name ps first r0 k pushed some old said_is inside is offset says =
    subst (DoublesStop m all) (sym pushed)
    (doubles_more m all ns name ps first r0 k some old said_is inside is offset says)

-- where no name is a double one, all are different
pub all_different : (ns : List Name) (ks : List (List ℕ)) (n : ℕ) → names_said ns ≡ ks → length ns ≤ n →
    IsFirst (names_said ns) n → AreDifferent ks
all_different ns ks n is le h = let count = names_len ns in
    subst AreDifferent (take_all n (names_said ns) (omega (arith, count, le)) ∙ is) h.different
