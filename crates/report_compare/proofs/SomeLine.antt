-- Two texts that differ have a first line that does.
use Rattle.report_compare.proofs.Common.{◌≡◌, ℕ, ◌+◌, ◌⊎◌, inl, inr, List, [], ◌∷◌, ◌++◌, length, length-append, refl}
use Rattle.report_compare.proofs.Common.{sym, ap, ◌∙◌, subst, arith, append_assoc, eqb_tells, concat}
use Rattle.report_compare.proofs.Common.{report_text, report_lines, TextDeterminesReport, RightReportHasForm}
use Rattle.report_compare.proofs.Common.{IsRightReport, DiffersAt, IsLine, AreLines}
use Rattle.right_report.specs.Existence.{RightReportsExist}
use Rattle.report_compare.specs.Right.{SomeDifference}
use Rattle.report_compare.proofs.FirstLine.{feeds_behind, line_feed, one_front}
use Rattle.report_compare.proofs.LineBytes.{AreAllLines, report_are_lines}
use Rattle.report_compare.proofs.Texts.{report_lined}
use Rattle.report_compare.proofs.Verdicts.{bounds_form}

-- whether two lines are the same
tell : (xs ys : List ℕ) → (xs ≡ ys) ⊎ (xs ≡ ys → ⊥)
tell [] [] = inl refl
tell [] (y ∷ ys) = inr (λ e. absurd cc)
tell (x ∷ xs) [] = inr (λ e. absurd cc)
tell (x ∷ xs) (y ∷ ys) =
    elim (eqb_tells x y) [
      | inl same ↦ (
          elim (tell xs ys) [
            | inl rest ↦ inl (ap (λ (z : ℕ). z ∷ xs) same.1 ∙ ap (λ (zs : List ℕ). y ∷ zs) rest)
            | inr other ↦ inr (λ e. let tail : xs ≡ ys = cc in other tail)
          ])
      | inr other ↦ inr (λ e. let head : x ≡ y = cc in other.1 head)
    ]

-- nothing begins with a line
no_line : (line after : List ℕ) → IsLine line → [] ≡ line ++ after → ⊥
no_line line after h e =
    let long = ap length (e ∙ ap (λ (z : List ℕ). z ++ after) h.ends) in
    let all = length-append (h.inside ++ 10 ∷ []) after in
    let own = length-append h.inside (10 ∷ []) in
    absurd (omega (arith, long, all, own))

-- the texts differ at their first line
at_once : (text other : List ℕ) → ((here after others : List ℕ) → IsLine here → text ≡ here ++ after
    → other ≡ here ++ others → ⊥) → DiffersAt text other 1
at_once text other fails = record {
  same = [];
  rest = text;
  other_rest = other;
  cut = refl;
  other_cut = refl;
  lines = inl refl;
  number = refl;
  fails = fails;
}

-- the texts differ one line later behind a line that both have
later : (line text other : List ℕ) (number : ℕ) → IsLine line → DiffersAt text other number
    → DiffersAt (line ++ text) (line ++ other) (1 + number)
later line text other number h f = record {
  same = line ++ f.same;
  rest = f.rest;
  other_rest = f.other_rest;
  cut = ap (λ (z : List ℕ). line ++ z) f.cut ∙ sym (append_assoc line f.same f.rest);
  other_cut = ap (λ (z : List ℕ). line ++ z) f.other_cut ∙ sym (append_assoc line f.same f.other_rest);
  lines = behind f.lines;
  number = (let one = line_feed line h in let feeds = feeds_behind line f.same in let is = f.number in omega
      (arith, one, feeds, is));
  fails = f.fails;
}
  where
    behind : AreLines f.same → AreLines (line ++ f.same)
    behind (inl none) = inr (
      h.inside,
      ap (λ (z : List ℕ). line ++ z) none ∙ ap (λ (z : List ℕ). z ++ []) h.ends ∙
          append_assoc h.inside (10 ∷ []) [],
    )
    behind (inr more) = inr (
      line ++ more.0,
      ap (λ (z : List ℕ). line ++ z) more.1 ∙ sym
          (append_assoc line more.0 (10 ∷ [])),
    )

some_line : (mine right : List (List ℕ)) → AreAllLines mine → AreAllLines right → (mine ≡ right → ⊥)
    → (line : ℕ) × DiffersAt (concat mine) (concat right) line
some_line [] [] own others n = absurd (n refl)
some_line [] (y ∷ ys) own others n = (
  1,
  at_once [] (concat (y ∷ ys))
      (λ here after rest line e f. no_line here after line e),
)
some_line (x ∷ xs) [] own others n = (
  1,
  at_once (concat (x ∷ xs)) []
      (λ here after rest line e f. no_line here rest line f),
)
some_line (x ∷ xs) (y ∷ ys) own others n =
    elim (tell x y) [
      | inl same ↦ (
          let next = some_line xs ys own.1 others.1 (λ e. n (ap (λ (z : List ℕ). z ∷ xs) same ∙ ap
          (λ (zs : List (List ℕ)). y ∷ zs) e)) in (
            1 + next.0,
            subst (λ (z : List ℕ). DiffersAt (x ++ concat xs) (z ++ concat ys) (1 + next.0)) same
                (later x (concat xs) (concat ys) next.0 own.0 next.1),
          ))
      | inr other ↦ (
        1,
        at_once (concat (x ∷ xs)) (concat (y ∷ ys)) (λ here after rest line e f.
            other (one_front x here (concat xs) after own.0 line e ∙ sym
            (one_front y here (concat ys) rest others.0 line f))),
      )
    ]

pub some_difference : TextDeterminesReport → RightReportHasForm → RightReportsExist → SomeDifference
some_difference law forms exist m plan r feasible bounds wrong =
    let there = exist m plan r.budget r.ahead feasible bounds.budget_at_least bounds.ahead_at_least in
    let right = there.0 in
    let differ : report_lines r ≡ report_lines right → ⊥ = λ e.
    let text : report_text r ≡ report_text right = sym (report_lined r) ∙ ap concat e ∙ report_lined right in
    let same = law r right (bounds_form r bounds) (forms m plan r.budget r.ahead right there.1) text in
    wrong (subst (IsRightReport m plan r.budget r.ahead) (sym same) there.1) in
    let some = some_line (report_lines r) (report_lines right) (report_are_lines r) (report_are_lines right) differ in
    let there_differs =
    subst (λ (z : List ℕ). DiffersAt z (report_text right) some.0) (report_lined r)
    (subst (λ (z : List ℕ). DiffersAt (concat (report_lines r)) z some.0) (report_lined right) some.1) in
    (some.0, (right, there.1, there_differs))
