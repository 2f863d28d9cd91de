-- The proposals of a board in their order, and what changes one of them.
use Rattle.std.specs.Prelude.{ℕ, suc, ℤ, pos, ◌+ℤ◌, List, length, map, replicate}
use Rattle.std.specs.List.{range_with_len}
use Rattle.uc_model.specs.Data.{AnyUnit, PriceLists, Schedule}
use Rattle.uc_model.specs.Earnings.{supply_in}
use Rattle.uc_model.specs.PriceRule.{Proposal}
use Rattle.uc_model.specs.Schedules.{reserve_in}
use Rattle.plain_lists.specs.Sums.{int_at}

-- the proposals in their order, each with its prices once it is open and its value once it is
-- closed, and with the totals of the answers so far; the first so many are closed, and the first so
-- many are open
pub record LedgerValue : Type 0 where
  pub proposals : List Proposal
  pub earned : List ℤ
  pub closed : ℕ
  pub opened : ℕ

-- a proposal that isn't open yet: prices of 0, and no answer
abbrev pub blank : ℕ → Proposal
blank periods = record {
  prices = record { energy = replicate periods (pos 0); reserve = replicate periods (pos 0) };
  value = pos 0;
  supply = replicate periods (pos 0);
  reserve = replicate periods (pos 0);
}

-- with other prices, and with a value
abbrev pub with_prices : Proposal → PriceLists → Proposal
with_prices r π = record r { prices = π }

abbrev pub with_value : Proposal → ℤ → Proposal
with_value r v = record r { value = v }

-- each entry with what is added to it
abbrev pub raised_by : List ℤ → (ℕ → ℤ) → List ℤ
raised_by xs f = map (λ k. int_at xs k +ℤ f k) (range_with_len 0 (length xs))

-- with one more schedule in the totals
abbrev pub with_schedule : Proposal → AnyUnit → Schedule → Proposal
with_schedule r u s =
    record r {
      supply = raised_by r.supply (λ k. supply_in u s (suc k));
      reserve = raised_by r.reserve (λ k. reserve_in s (suc k));
    }
