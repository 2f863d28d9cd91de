-- The first lines that differ are where the texts do.
use Rattle.report_compare.proofs.Common.{◌≡◌, ℕ, ◌+◌, Bool, cond, inl, inr, List, [], ◌∷◌, ◌++◌, length, refl, sym, ap}
use Rattle.report_compare.proofs.Common.{◌∙◌, subst, arith, append_assoc, ◌==◌, concat, eqb_tells, TextDeterminesReport}
use Rattle.report_compare.proofs.Common.{DiffersAt, IsLine, AreLines, line_feeds, DifferBehind}
use Rattle.std.proofs.lemmas.List.Sums.{sum_by-append, sum_by-cons}
use Rattle.report_compare.proofs.LineBytes.{Unbroken, AreAllLines}
use Rattle.report_compare.proofs.Texts.{concat_append}

-- ---- how many lines there are

no_feed : (xs : List ℕ) → Unbroken xs → line_feeds xs ≡ 0
no_feed [] h = refl
no_feed (x ∷ xs) h =
    elim (eqb_tells x 10) [
      | inl same ↦ absurd (h.0 same.1)
      | inr other ↦ (let rest = no_feed xs h.1 in sum_by-cons (λ b. cond (b == 10) 1 0) x xs ∙
          (ap (λ (b : Bool). cond b 1 0 + line_feeds xs) other.0 ∙ omega (arith, rest)))
    ]

pub feeds_behind : (xs ys : List ℕ) → line_feeds (xs ++ ys) ≡ line_feeds xs + line_feeds ys
feeds_behind xs ys = sum_by-append (λ b. cond (b == 10) 1 0) xs ys

pub line_feed : (x : List ℕ) → IsLine x → line_feeds x ≡ 1
line_feed x h =
    let e = ap line_feeds h.ends in
    let f = feeds_behind h.inside (10 ∷ []) in
    let n = no_feed h.inside h.unbroken in
    let one : line_feeds (10 ∷ []) ≡ 1 = refl in
    omega (arith, e, f, n, one)

feeds_are : (xs : List (List ℕ)) → AreAllLines xs → line_feeds (concat xs) ≡ length xs
feeds_are [] h = refl
feeds_are (x ∷ xs) h =
    let one = line_feed x h.0 in
    let f = feeds_behind x (concat xs) in
    let rest = feeds_are xs h.1 in
    omega (arith, one, f, rest)

pub lines_are : (xs : List (List ℕ)) → AreAllLines xs → AreLines (concat xs)
lines_are [] h = inl refl
lines_are (x ∷ xs) h =
    elim (lines_are xs h.1) [
      | inl none ↦ inr (
        h.0.inside,
        ap (λ (z : List ℕ). x ++ z) none ∙ ap (λ (z : List ℕ). z ++ []) h.0.ends ∙
            append_assoc h.0.inside (10 ∷ []) [],
      )
      | inr more ↦ inr (x ++ more.0, ap (λ (z : List ℕ). x ++ z) more.1 ∙ sym (append_assoc x more.0 (10 ∷ [])))
    ]

-- ---- one text begins with one line

same_inside : (x y u v : List ℕ) → Unbroken x → Unbroken y → x ++ 10 ∷ u ≡ y ++ 10 ∷ v → x ≡ y
same_inside [] [] u v h k e = refl
same_inside [] (b ∷ y) u v h k e = absurd (let head : 10 ≡ b = cc in k.0 (sym head))
same_inside (a ∷ x) [] u v h k e = absurd (let head : a ≡ 10 = cc in h.0 head)
same_inside (a ∷ x) (b ∷ y) u v h k e =
    let head : a ≡ b = cc in
    let tail : x ++ 10 ∷ u ≡ y ++ 10 ∷ v = cc in
    ap (λ (c : ℕ). c ∷ x) head ∙ ap (λ (z : List ℕ). b ∷ z) (same_inside x y u v h.1 k.1 tail)

pub one_front : (x y u v : List ℕ) → IsLine x → IsLine y → x ++ u ≡ y ++ v → x ≡ y
one_front x y u v h k e =
    let left : x ++ u ≡ h.inside ++ 10 ∷ u = ap (λ (z : List ℕ). z ++ u) h.ends ∙ append_assoc h.inside (10 ∷ []) u in
    let right : y ++ v ≡ k.inside ++ 10 ∷ v = ap (λ (z : List ℕ). z ++ v) k.ends ∙ append_assoc k.inside (10 ∷ []) v in
    h.ends ∙ ap (λ (z : List ℕ). z ++ 10 ∷ [])
    (same_inside h.inside k.inside u v h.unbroken k.unbroken (sym left ∙ e ∙ right)) ∙ sym k.ends

-- ---- the first lines that differ

front_lines : (xs ys : List (List ℕ)) → AreAllLines (xs ++ ys) → AreAllLines xs
front_lines [] ys h = tt
front_lines (x ∷ xs) ys h = (h.0, front_lines xs ys h.1)

rest_lines : (xs ys : List (List ℕ)) → AreAllLines (xs ++ ys) → AreAllLines ys
rest_lines [] ys h = h
rest_lines (x ∷ xs) ys h = rest_lines xs ys h.1

pub differ_there : TextDeterminesReport → (mine right : List (List ℕ)) (count : ℕ) → AreAllLines mine →
    AreAllLines right → DifferBehind mine right count → DiffersAt (concat mine) (concat right) (1 + count)
differ_there law mine right count own others h =
    let cut = subst AreAllLines h.cut own in
    let other_cut = subst AreAllLines h.other_cut others in
    let here = rest_lines h.same (h.here ∷ h.rest) cut in
    let other = rest_lines h.same (h.other ∷ h.other_rest) other_cut in
    let same = front_lines h.same (h.here ∷ h.rest) cut in
    let feeds = feeds_are h.same same in
    record {
      same = concat h.same;
      rest = h.here ++ concat h.rest;
      other_rest = h.other ++ concat h.other_rest;
      cut = ap concat h.cut ∙ concat_append h.same (h.here ∷ h.rest);
      other_cut = ap concat h.other_cut ∙ concat_append h.same (h.other ∷ h.other_rest);
      lines = lines_are h.same same;
      number = (let long = h.long in omega (arith, feeds, long));
      fails = λ line after more is e f.
          h.differ law (one_front h.here line (concat h.rest) after here.0 is e ∙
          sym (one_front h.other line (concat h.other_rest) more other.0 is f));
    }

heads : (same : List (List ℕ)) (x y : List ℕ) (xs ys : List (List ℕ)) → same ++ x ∷ xs ≡ same ++ y ∷ ys → x ≡ y
heads [] x y xs ys f = cc
heads (z ∷ same) x y xs ys f = let tail : same ++ x ∷ xs ≡ same ++ y ∷ ys = cc in heads same x y xs ys tail

-- lists that differ aren't the same
pub not_same : TextDeterminesReport → (mine right : List (List ℕ)) (count : ℕ) → DifferBehind mine right count →
    mine ≡ right → ⊥
not_same law mine right count h e =
    h.differ law (heads h.same h.here h.other h.rest h.other_rest (sym h.cut ∙ e ∙ h.other_cut))
