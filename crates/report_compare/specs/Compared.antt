-- Where two lists of lines differ first (this project's profile).
use Rattle.std.specs.Prelude.{◌≡◌, ℕ, ◌+◌, Bool, true, false, Result}
use Rattle.std.specs.Prelude.{Ok, Err, List, [], ◌∷◌, ◌++◌, length}
use Rattle.report_form.specs.Laws.{TextDeterminesReport}
use Rattle.report_compare.specs.declared.wrong.WrongLine.{WrongLine}

-- two lines differ, since a text determines its report
abbrev pub Differ : List ℕ → List ℕ → Type 0
Differ mine right = TextDeterminesReport → mine ≡ right → ⊥

-- so many lines are the same, and the next ones differ
pub record DifferBehind (mine right : List (List ℕ)) (count : ℕ) : Type 0 where
  pub same : List (List ℕ)
  pub here : List ℕ
  pub other : List ℕ
  pub rest : List (List ℕ)
  pub other_rest : List (List ℕ)
  pub cut : mine ≡ same ++ here ∷ rest
  pub other_cut : right ≡ same ++ other ∷ other_rest
  pub long : length same ≡ count
  pub differ : Differ here other

-- The lines are counted from `first`: either all are the same, and this is the number of the next
-- line, or the first that differ have this number.
abbrev pub Compares : ℕ → Result ℕ WrongLine → List (List ℕ) → List (List ℕ) → Type 0
Compares first (Ok next) mine right = (mine ≡ right) × (next ≡ first + length mine)
Compares first (Err wrong) mine right =
    (count : ℕ) × DifferBehind mine right count × (wrong.line ≡ first + count)

-- ---- lines that were compared one by one

-- the first that isn't the same, or the number of the next line
abbrev pub wrong_from : ℕ → List Bool → Result ℕ WrongLine
wrong_from line [] = Ok line
wrong_from line (true ∷ same) = wrong_from (line + 1) same
wrong_from line (false ∷ same) = Err (record { line = line })

abbrev pub Judged : Bool → List ℕ → List ℕ → Type 0
Judged true mine right = mine ≡ right
Judged false mine right = Differ mine right

-- of the lines at each place it is told whether they are the same
abbrev pub AreJudged : List Bool → List (List ℕ) → List (List ℕ) → Type 0
AreJudged [] [] [] = Unit {0}
AreJudged (same ∷ more) (x ∷ xs) (y ∷ ys) = Judged same x y × AreJudged more xs ys
AreJudged more xs ys = ⊥
