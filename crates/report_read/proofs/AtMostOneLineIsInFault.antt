-- A file has at most one line in fault, and two texts differ first at one line.
use Rattle.report_read.proofs.Common.{◌≡◌, ℕ, suc, List, [], ◌∷◌, ◌++◌, length, refl, sym, ap, ◌∙◌, subst, arith}
use Rattle.report_read.proofs.Common.{append_assoc, length-append, inl, inr, eqb_tells, report_text, IsLine, AreLines}
use Rattle.report_read.proofs.Common.{line_feeds, IsFault}
use Rattle.report_read.specs.Differences.{DiffersAt}

-- ---- of two fronts of one list one is a front of the other

pub data Fronts (x y : List ℕ) : Type 0 where
  Same : x ≡ y → Fronts x y
  Shorter : (b : ℕ) (more : List ℕ) → y ≡ x ++ b ∷ more → Fronts x y
  Longer : (b : ℕ) (more : List ℕ) → x ≡ y ++ b ∷ more → Fronts x y

behind_byte : (b : ℕ) (x y : List ℕ) → Fronts x y → Fronts (b ∷ x) (b ∷ y)
behind_byte b x y (Same e) = Same (ap (λ (z : List ℕ). b ∷ z) e)
behind_byte b x y (Shorter c more e) = Shorter c more (ap (λ (z : List ℕ). b ∷ z) e)
behind_byte b x y (Longer c more e) = Longer c more (ap (λ (z : List ℕ). b ∷ z) e)

fronts : (x y u v : List ℕ) → x ++ u ≡ y ++ v → Fronts x y
fronts [] [] u v e = Same refl
fronts [] (d ∷ y) u v e = Shorter d y refl
fronts (c ∷ x) [] u v e = Longer c x refl
fronts (c ∷ x) (d ∷ y) u v e =
    let head : c ≡ d = cc in
    let tail : x ++ u ≡ y ++ v = cc in
    subst (λ (b : ℕ). Fronts (c ∷ x) (b ∷ y)) head (behind_byte c x y (fronts x y u v tail))

-- ---- lines behind lines begin with a line

pub record HasLine (bytes : List ℕ) : Type 0 where
  pub here : List ℕ
  pub after : List ℕ
  pub line : IsLine here
  pub cut : bytes ≡ here ++ after

with_byte : (b : ℕ) (bytes : List ℕ) → (b ≡ 10 → ⊥) → HasLine bytes → HasLine (b ∷ bytes)
with_byte b bytes ne h = record {
  here = b ∷ h.here;
  after = h.after;
  line = record {
    inside = b ∷ h.line.inside;
    unbroken = (ne, h.line.unbroken);
    ends =
        ap (λ (z : List ℕ). b ∷ z) h.line.ends;
  };
  cut = ap (λ (z : List ℕ). b ∷ z) h.cut;
}

-- bytes to a line feed begin with a line
first_line : (front rest : List ℕ) → HasLine (front ++ 10 ∷ rest)
first_line [] rest =
    record { here = 10 ∷ []; after = rest; line = record { inside = []; unbroken = tt; ends = refl }; cut = refl }
first_line (b ∷ bs) rest =
    elim (eqb_tells b 10) [
      | inl same ↦ record {
        here = 10 ∷ [];
        after = bs ++ 10 ∷ rest;
        line =
            record { inside = []; unbroken = tt; ends = refl };
        cut = ap (λ (k : ℕ). k ∷ (bs ++ 10 ∷ rest)) same.1;
      }
      | inr other ↦ with_byte b (bs ++ 10 ∷ rest) other.1 (first_line bs rest)
    ]

no_tail : (x : List ℕ) (b : ℕ) (more : List ℕ) → [] ≡ x ++ b ∷ more → ⊥
no_tail x b more e = let n = ap length e in let m = length-append x (b ∷ more) in omega arith

-- the last byte of lines is a line feed
last_of : (x : List ℕ) (b : ℕ) (more front : List ℕ) → x ++ b ∷ more ≡ front ++ 10 ∷ [] →
    (inside : List ℕ) × (b ∷ more ≡ inside ++ 10 ∷ [])
last_of [] b more front e = (front, e)
last_of (c ∷ x) b more [] e = absurd (let tail : x ++ b ∷ more ≡ [] = cc in no_tail x b more (sym tail))
last_of (c ∷ x) b more (d ∷ front) e = let tail : x ++ b ∷ more ≡ front ++ 10 ∷ [] = cc in last_of x b more front tail

line_behind : (x : List ℕ) (b : ℕ) (more : List ℕ) → AreLines (x ++ b ∷ more) → HasLine (b ∷ more)
line_behind x b more (inl none) = absurd (no_tail x b more (sym none))
line_behind x b more (inr lines) =
    let l = last_of x b more lines.0 lines.1 in
    subst HasLine (sym l.1) (first_line l.0 [])

-- ---- the line in fault comes not behind another

cancel : (x u v : List ℕ) → x ++ u ≡ x ++ v → u ≡ v
cancel [] u v e = e
cancel (c ∷ x) u v e = let tail : x ++ u ≡ x ++ v = cc in cancel x u v tail

-- where the lines before one fault are a front of those before another, they begin with the line of the first
not_before : (bytes : List ℕ) (k l : ℕ) (f : IsFault bytes k) (g : IsFault bytes l) (b : ℕ) (more : List ℕ) →
    g.before ≡ f.before ++ b ∷ more → ⊥
not_before bytes k l f g b more e =
    let lines : AreLines (f.before ++ b ∷ more) = subst AreLines e g.lines in
    let h = line_behind f.before b more lines in
    let front : g.before ≡ (f.before ++ h.here) ++ h.after =
    e ∙ ap (λ (z : List ℕ). f.before ++ z) h.cut ∙ sym (append_assoc f.before h.here h.after) in
    let whole : f.before ++ f.rest ≡ f.before ++ (h.here ++ (h.after ++ g.rest)) =
    sym f.cut ∙ g.cut ∙ ap (λ (z : List ℕ). z ++ g.rest) front ∙ append_assoc (f.before ++ h.here) h.after g.rest ∙
    append_assoc f.before h.here (h.after ++ g.rest) in
    let rest : f.rest ≡ h.here ++ (h.after ++ g.rest) = cancel f.before f.rest (h.here ++ (h.after ++ g.rest)) whole in
    let r = g.begins in
    let text : report_text r.0 ≡ (f.before ++ h.here) ++ (h.after ++ r.2) =
    r.3 ∙ ap (λ (z : List ℕ). z ++ r.2) front ∙ append_assoc (f.before ++ h.here) h.after r.2 in
    f.fails h.here (h.after ++ g.rest) h.line rest (r.0, r.1, h.after ++ r.2, text)

pub one_fault : (bytes : List ℕ) (k l : ℕ) → IsFault bytes k → IsFault bytes l → k ≡ l
one_fault bytes k l f g =
    elim (fronts f.before g.before f.rest g.rest (sym f.cut ∙ g.cut)) [
      | Same e ↦ f.number ∙ ap (λ (z : List ℕ). suc (line_feeds z)) e ∙ sym g.number
      | Shorter b more e ↦ absurd (not_before bytes k l f g b more e)
      | Longer b more e ↦ absurd (not_before bytes l k g f b more e)
    ]

-- ---- the first line that differs

not_same : (text other : List ℕ) (k l : ℕ) (f : DiffersAt text other k) (g : DiffersAt text other l) (b : ℕ)
    (more : List ℕ) → g.same ≡ f.same ++ b ∷ more → ⊥
not_same text other k l f g b more e =
    let lines : AreLines (f.same ++ b ∷ more) = subst AreLines e g.lines in
    let h = line_behind f.same b more lines in
    let front : g.same ≡ (f.same ++ h.here) ++ h.after =
    e ∙ ap (λ (z : List ℕ). f.same ++ z) h.cut ∙ sym (append_assoc f.same h.here h.after) in
    let regrouped = λ (rest : List ℕ). let made : g.same ++ rest ≡ f.same ++ (h.here ++ (h.after ++ rest)) =
    ap (λ (z : List ℕ). z ++ rest) front ∙ append_assoc (f.same ++ h.here) h.after rest ∙
    append_assoc f.same h.here (h.after ++ rest) in made in
    let one : f.rest ≡ h.here ++ (h.after ++ g.rest) =
    cancel f.same f.rest (h.here ++ (h.after ++ g.rest)) (sym f.cut ∙ g.cut ∙ regrouped g.rest) in
    let two : f.other_rest ≡ h.here ++ (h.after ++ g.other_rest) =
    cancel f.same f.other_rest (h.here ++ (h.after ++ g.other_rest))
    (sym f.other_cut ∙ g.other_cut ∙ regrouped g.other_rest) in
    f.fails h.here (h.after ++ g.rest) (h.after ++ g.other_rest) h.line one two

pub one_difference : (text other : List ℕ) (k l : ℕ) → DiffersAt text other k → DiffersAt text other l → k ≡ l
one_difference text other k l f g =
    elim (fronts f.same g.same f.rest g.rest (sym f.cut ∙ g.cut)) [
      | Same e ↦ f.number ∙ ap (λ (z : List ℕ). suc (line_feeds z)) e ∙ sym g.number
      | Shorter b more e ↦ absurd (not_same text other k l f g b more e)
      | Longer b more e ↦ absurd (not_same text other l k g f b more e)
    ]
