-- The first line at which one text differs from another (this project's profile).
use Rattle.std.specs.Prelude.{◌≡◌, ℕ, suc, List, ◌++◌}
use Rattle.report_read.specs.Faults.{IsLine, AreLines, line_feeds}

-- The lines before it, which is counted from 1, are the same in both; it doesn't begin what is left
-- of both.
pub record DiffersAt (text other : List ℕ) (line : ℕ) : Type 0 where
  pub same : List ℕ
  pub rest : List ℕ
  pub other_rest : List ℕ
  pub cut : text ≡ same ++ rest
  pub other_cut : other ≡ same ++ other_rest
  pub lines : AreLines same
  pub number : line ≡ suc (line_feeds same)
  pub fails : (here after others : List ℕ) → IsLine here → rest ≡ here ++ after →
      other_rest ≡ here ++ others → ⊥
