-- The ledger of a board without events.
use Rattle.std.specs.Prelude.{ℕ, zero, suc, ◌+◌, ℤ, pos, List, replicate, slice_index_or, slice_set}
use Rattle.uc_model.specs.Data.{PriceLists}
use Rattle.uc_model.specs.PriceRule.{opening_prices_of}
use Rattle.board_core.specs.Ledgers.{LedgerValue, blank, with_prices}

abbrev pub blank_ledger : (periods budget : ℕ) → LedgerValue
blank_ledger periods budget =
    record {
      proposals = replicate budget (blank periods);
      earned = replicate budget (pos 0);
      closed = 0;
      opened = 0;
    }

-- with one more proposal that is open, at prices
abbrev pub with_opening : PriceLists → LedgerValue → LedgerValue
with_opening π l = record l {
  proposals =
      slice_set l.proposals l.opened
      (with_prices (slice_index_or l.proposals l.opened (blank 0)) π);
  opened = l.opened + 1;
}

-- with the first n opening proposals
abbrev pub with_openings : List ℤ → LedgerValue → ℕ → LedgerValue
with_openings start l zero = l
with_openings start l (suc n) =
    with_opening (opening_prices_of start (suc n)) (with_openings start l n)
