-- What a list ends as, once a `&mut` into it has ended.
use Rattle.std.specs.Prelude.{ℕ, slice_set}
use Rattle.std.specs.Borrow.{Fml, RattleType, MutBor, Lends}
use Rattle.plain_lists.specs.Reserved.{Reserved}
use Rattle.plain_lists.specs.contracts.lists.ReservedList.{the_row}

-- the item at the place is the last one written through r; the room stays
abbrev pub lends_item : (R : RattleType) → MutBor (Reserved R.Denot) → ℕ → MutBor R.Denot → Fml
lends_item R b place r =
    Lends (the_row R) R b r (λ w. record {
      items = slice_set b.now.items place w;
      spare = b.now.spare;
    })
