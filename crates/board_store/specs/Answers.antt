-- Answers, and what they are kept in.
use Rattle.std.specs.Prelude.{◌≡◌, ℕ, ℤ, Bool, List, [], length, map, min, slice_index_or}
use Rattle.std.specs.List.{range_with_len}
use Rattle.uc_model.specs.PlainUnits.{schedule_of}
use Rattle.plain_lists.specs.Sums.{int_at}
use Rattle.uc_model.specs.declared.units.Answered.{Answered}
use Rattle.board_store.specs.Board.{Answer}
use Rattle.board_store.specs.Tables.{Rows}

-- what a contract sees of a store: its answers, whose lists have a number for each period, and how
-- many more may be put
pub record Answers : Type 0 where
  pub periods : ℕ
  pub left : ℕ
  pub answers : List Answer

-- an answer without the room of its lists
abbrev pub answer_of : Answered → Answer
answer_of a = record { schedule = schedule_of a.response; earned = a.earned }

abbrev pub answer_in : List (List Bool) → List (List ℕ) → List (List ℕ) → List ℤ → ℕ → Answer
answer_in on power reserve earned i = record {
  schedule =
      record {
        on = slice_index_or on i [];
        power = slice_index_or power i [];
        reserve = slice_index_or reserve i [];
      };
  earned = int_at earned i;
}

abbrev pub answers_in : List (List Bool) → List (List ℕ) → List (List ℕ) → List ℤ → List Answer
answers_in on power reserve earned =
    map (answer_in on power reserve earned) (range_with_len 0 (length earned))

-- how many more rows each of three tables takes
abbrev pub least_left : ℕ → ℕ → ℕ → ℕ
least_left on power reserve = min on (min power reserve)

-- the parts of a store are over the same periods, and have as many answers
pub record AreParts (on : Rows Bool) (power reserve : Rows ℕ) (earned : List ℤ) : Type 0 where
  pub on_count : length on.rows ≡ length earned
  pub power_count : length power.rows ≡ length earned
  pub reserve_count : length reserve.rows ≡ length earned
  pub power_long : power.long ≡ on.long
  pub reserve_long : reserve.long ≡ on.long
