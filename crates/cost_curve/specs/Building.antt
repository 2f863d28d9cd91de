-- How a curve is built block by block (this project's profile).
use Rattle.std.specs.Prelude.{◌≡◌, ℤ, pos, ◌+ℤ◌, ◌-ℤ◌, ◌*ℤ◌, ◌≤ℤ◌, int_lt, if◌then◌else◌, List, []}
use Rattle.std.specs.Prelude.{◌∷◌, ◌++◌, Some}
use Rattle.std.specs.List.{All}
use Rattle.uc_model.specs.declared.units.Block.{Block}
use Rattle.uc_model.specs.declared.units.Point.{Point}
use Rattle.uc_model.specs.Curves.{rise_at}
use Rattle.uc_model.specs.Envelope.{envelope}
use Rattle.uc_model.specs.Limits.{IsCurve}
use Rattle.uc_model.specs.Schedules.{width_of}

-- a block is added where it has some width
abbrev pub extended : List Block → Block → List Block
extended bs b = if int_lt (pos 0) b.width then bs ++ b ∷ [] else bs

-- what the blocks add in all
abbrev pub rise_of : List Block → ℤ
rise_of [] = pos 0
rise_of (b ∷ bs) = (b.price *ℤ b.width) +ℤ rise_of bs

-- blocks from a power and a value on are the envelope up to another power; no block is dearer than
-- the price
pub record IsBuilt (ps : List Point) (at value : ℤ) (bs : List Block) (end price : ℤ) : Type 0 where
  pub ends : at +ℤ width_of bs ≡ end
  pub height : value +ℤ rise_of bs ≡ envelope ps end
  pub values : (x : ℤ) → at ≤ℤ x → x ≤ℤ end → rise_at bs (x -ℤ at) ≡ Some (envelope ps x -ℤ value)
  pub blocks : IsCurve bs
  pub below : All (λ (b : Block). b.price ≤ℤ price) bs
