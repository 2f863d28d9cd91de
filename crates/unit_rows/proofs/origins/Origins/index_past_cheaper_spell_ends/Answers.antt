use Rattle.unit_rows.proofs.Common.{arith}
use Rattle.unit_rows.proofs.origins.Origins.index_past_cheaper_spell_ends.Goals as goal

pub get-requires : goal.get-requires
get-requires c =
    omega arith
