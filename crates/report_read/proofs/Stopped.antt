-- Where a line is in fault, so is what goes on with it.
use Rattle.report_read.proofs.Common.{◌≡◌, ℕ, ℤ, pos, neg_ℤ, List, codes, Ok, refl, Read, value_line}
use Rattle.report_read.proofs.Common.{Fails, line, then_lines, count_line, amount_line, list_line, price_at, total_at}
use Rattle.report_read.proofs.Common.{head_at, row_at, rows_at, units_at, foot_at, report_at}
use Rattle.report_read.proofs.Common.{Head, Proposal, Told, Foot}
use Rattle.report_read.proofs.Common.{MOST_PERIODS, MOST_UNITS, MOST_PROPOSALS, PRICE_LIMIT}
use Rattle.plain_lists.specs.declared.limits.TheConstants.{MOST_AHEAD}
use Rattle.report_read.specs.LineForms.{plain_line}
use Rattle.report_read.specs.Words.{most_count}
use Rattle.report_read.specs.declared.stop.Stop.{Stop}
use Rattle.report_read.specs.declared.stop.Stop.TheVariants as stops

-- ---- the first seven lines

pub no_title : (e : Stop) (bytes : List ℕ) → Fails e (line (plain_line (codes "hull-report 1")) bytes) →
    Fails e (head_at bytes)
unfolding head_at
no_title stops.Memory bytes h = tt
no_title (stops.Fault left) bytes h = rw h refl

pub no_periods : (e : Stop) (bytes rest : List ℕ) →
    line (plain_line (codes "hull-report 1")) bytes ≡ Ok (tt, rest)
    → Fails e (count_line (codes "periods ") 1 MOST_PERIODS rest) → Fails e (head_at bytes)
unfolding head_at
no_periods stops.Memory bytes rest title h = tt
no_periods (stops.Fault left) bytes rest title h = rw (title, h) refl

pub no_units : (e : Stop) (bytes rest : List ℕ) (periods : ℕ) (after : List ℕ) →
    line (plain_line (codes "hull-report 1")) bytes ≡ Ok (tt, rest)
    → count_line (codes "periods ") 1 MOST_PERIODS rest ≡ Ok (periods, after)
    → Fails e (count_line (codes "units ") 1 MOST_UNITS after) → Fails e (head_at bytes)
unfolding head_at
no_units stops.Memory bytes rest periods after title long h = tt
no_units (stops.Fault left) bytes rest periods after title long h = rw (title, long, h) refl

-- from the fourth line on
abbrev run_at : List ℕ → Read (ℕ × (ℕ × (ℤ × ℕ)))
run_at =
    then_lines (count_line (codes "budget ") 1 MOST_PROPOSALS) (λ _.
    then_lines (count_line (codes "ahead ") 1 MOST_AHEAD) (λ _.
    then_lines (amount_line (codes "cost ")) (λ _.
    count_line (codes "proposals ") 1 most_count)))

pub no_budget : (e : Stop) (bytes : List ℕ) → Fails e (count_line (codes "budget ") 1 MOST_PROPOSALS bytes) →
    Fails e (run_at bytes)
no_budget stops.Memory bytes h = tt
no_budget (stops.Fault left) bytes h = rw h refl

pub no_ahead : (e : Stop) (bytes : List ℕ) (budget : ℕ) (rest : List ℕ) →
    count_line (codes "budget ") 1 MOST_PROPOSALS bytes ≡ Ok (budget, rest)
    → Fails e (count_line (codes "ahead ") 1 MOST_AHEAD rest) → Fails e (run_at bytes)
no_ahead stops.Memory bytes budget rest first h = tt
no_ahead (stops.Fault left) bytes budget rest first h = rw (first, h) refl

pub no_cost : (e : Stop) (bytes : List ℕ) (budget : ℕ) (rest : List ℕ) (ahead : ℕ) (after : List ℕ) →
    count_line (codes "budget ") 1 MOST_PROPOSALS bytes ≡ Ok (budget, rest)
    → count_line (codes "ahead ") 1 MOST_AHEAD rest ≡ Ok (ahead, after)
    → Fails e (amount_line (codes "cost ") after) → Fails e (run_at bytes)
no_cost stops.Memory bytes budget rest ahead after first next h = tt
no_cost (stops.Fault left) bytes budget rest ahead after first next h = rw (first, next, h) refl

pub no_proposals : (e : Stop) (bytes : List ℕ) (budget : ℕ) (rest : List ℕ) (ahead : ℕ) (after : List ℕ) (cost : ℤ)
    (more : List ℕ) → count_line (codes "budget ") 1 MOST_PROPOSALS bytes ≡ Ok (budget, rest)
    → count_line (codes "ahead ") 1 MOST_AHEAD rest ≡ Ok (ahead, after)
    → amount_line (codes "cost ") after ≡ Ok (cost, more)
    → Fails e (count_line (codes "proposals ") 1 most_count more) → Fails e (run_at bytes)
no_proposals stops.Memory bytes budget rest ahead after cost more first next amount h = tt
no_proposals (stops.Fault left) bytes budget rest ahead after cost more first next amount h =
    rw (first, next, amount, h) refl

pub no_run : (e : Stop) (bytes rest : List ℕ) (periods : ℕ) (after : List ℕ) (units : ℕ) (more : List ℕ) →
    line (plain_line (codes "hull-report 1")) bytes ≡ Ok (tt, rest)
    → count_line (codes "periods ") 1 MOST_PERIODS rest ≡ Ok (periods, after)
    → count_line (codes "units ") 1 MOST_UNITS after ≡ Ok (units, more)
    → Fails e (run_at more) → Fails e (head_at bytes)
unfolding head_at
no_run stops.Memory bytes rest periods after units more title long each h = tt
no_run (stops.Fault left) bytes rest periods after units more title long each h = rw (title, long, each, h) refl

-- ---- a proposal

pub no_value : (e : Stop) (periods number : ℕ) (bytes : List ℕ) →
    Fails e (line (value_line (codes "proposal ") number number) bytes) → Fails e (row_at periods number bytes)
unfolding row_at
no_value stops.Memory periods number bytes h = tt
no_value (stops.Fault left) periods number bytes h = rw h refl

pub no_energy : (e : Stop) (periods number : ℕ) (bytes : List ℕ) (valued : ℕ × ℤ) (rest : List ℕ) →
    line (value_line (codes "proposal ") number number) bytes ≡ Ok (valued, rest)
    → Fails e (list_line (codes "energy") (price_at (neg_ℤ PRICE_LIMIT) PRICE_LIMIT) periods rest) →
    Fails e (row_at periods number bytes)
unfolding row_at
no_energy stops.Memory periods number bytes valued rest value h = tt
no_energy (stops.Fault left) periods number bytes valued rest value h = rw (value, h) refl

pub no_reserve : (e : Stop) (periods number : ℕ) (bytes : List ℕ) (valued : ℕ × ℤ) (rest : List ℕ) (energy : List ℤ)
    (after : List ℕ) → line (value_line (codes "proposal ") number number) bytes ≡ Ok (valued, rest)
    → list_line (codes "energy") (price_at (neg_ℤ PRICE_LIMIT) PRICE_LIMIT) periods rest ≡ Ok (energy, after)
    → Fails e (list_line (codes "reserve") (price_at (pos 0) PRICE_LIMIT) periods after) →
    Fails e (row_at periods number bytes)
unfolding row_at
no_reserve stops.Memory periods number bytes valued rest energy after value prices h = tt
no_reserve (stops.Fault left) periods number bytes valued rest energy after value prices h = rw (value, prices, h) refl

-- the last two lines
abbrev totals_at : ℕ → List ℕ → Read (List ℤ × List ℤ)
totals_at periods =
    then_lines (list_line (codes "supplied") total_at periods) (λ _. list_line (codes "reserved") total_at periods)

pub no_supplied : (e : Stop) (periods : ℕ) (bytes : List ℕ) →
    Fails e (list_line (codes "supplied") total_at periods bytes) → Fails e (totals_at periods bytes)
no_supplied stops.Memory periods bytes h = tt
no_supplied (stops.Fault left) periods bytes h = rw h refl

pub no_reserved : (e : Stop) (periods : ℕ) (bytes : List ℕ) (supplied : List ℤ) (rest : List ℕ) →
    list_line (codes "supplied") total_at periods bytes ≡ Ok (supplied, rest)
    → Fails e (list_line (codes "reserved") total_at periods rest) → Fails e (totals_at periods bytes)
no_reserved stops.Memory periods bytes supplied rest first h = tt
no_reserved (stops.Fault left) periods bytes supplied rest first h = rw (first, h) refl

pub no_totals : (e : Stop) (periods number : ℕ) (bytes : List ℕ) (valued : ℕ × ℤ) (rest : List ℕ) (energy : List ℤ)
    (after : List ℕ) (reserve : List ℤ) (more : List ℕ) →
    line (value_line (codes "proposal ") number number) bytes ≡ Ok (valued, rest)
    → list_line (codes "energy") (price_at (neg_ℤ PRICE_LIMIT) PRICE_LIMIT) periods rest ≡ Ok (energy, after)
    → list_line (codes "reserve") (price_at (pos 0) PRICE_LIMIT) periods after ≡ Ok (reserve, more)
    → Fails e (totals_at periods more) → Fails e (row_at periods number bytes)
unfolding row_at
no_totals stops.Memory periods number bytes valued rest energy after reserve more value prices others h = tt
no_totals (stops.Fault left) periods number bytes valued rest energy after reserve more value prices others h =
    rw (value, prices, others, h) refl

-- ---- the whole report

pub no_head : (e : Stop) (bytes : List ℕ) → Fails e (head_at bytes) → Fails e (report_at bytes)
unfolding report_at
no_head stops.Memory bytes h = tt
no_head (stops.Fault left) bytes h = rw h refl

pub no_rows : (e : Stop) (bytes : List ℕ) (head : Head) (rest : List ℕ) → head_at bytes ≡ Ok (head, rest) →
    Fails e (rows_at head.periods 1 head.proposals rest) → Fails e (report_at bytes)
unfolding report_at
no_rows stops.Memory bytes head rest first h = tt
no_rows (stops.Fault left) bytes head rest first h = rw (first, h) refl

-- the lines behind the proposals
abbrev ending_at : (periods units : ℕ) → List ℕ → Read ((ℕ × ℤ) × (List Told × Foot))
ending_at periods units =
    then_lines (line (value_line (codes "chosen ") 0 most_count)) (λ _.
    then_lines (units_at periods 0 units) (λ _. foot_at))

pub no_chosen : (e : Stop) (periods units : ℕ) (bytes : List ℕ) →
    Fails e (line (value_line (codes "chosen ") 0 most_count) bytes) → Fails e (ending_at periods units bytes)
no_chosen stops.Memory periods units bytes h = tt
no_chosen (stops.Fault left) periods units bytes h = rw h refl

pub no_lines : (e : Stop) (periods units : ℕ) (bytes : List ℕ) (chosen : ℕ × ℤ) (rest : List ℕ) →
    line (value_line (codes "chosen ") 0 most_count) bytes ≡ Ok (chosen, rest)
    → Fails e (units_at periods 0 units rest) → Fails e (ending_at periods units bytes)
no_lines stops.Memory periods units bytes chosen rest first h = tt
no_lines (stops.Fault left) periods units bytes chosen rest first h = rw (first, h) refl

pub no_foot : (e : Stop) (periods units : ℕ) (bytes : List ℕ) (chosen : ℕ × ℤ) (rest : List ℕ) (told : List Told)
    (after : List ℕ) → line (value_line (codes "chosen ") 0 most_count) bytes ≡ Ok (chosen, rest)
    → units_at periods 0 units rest ≡ Ok (told, after)
    → Fails e (foot_at after) → Fails e (ending_at periods units bytes)
no_foot stops.Memory periods units bytes chosen rest told after first next h = tt
no_foot (stops.Fault left) periods units bytes chosen rest told after first next h = rw (first, next, h) refl

pub no_ending : (e : Stop) (bytes : List ℕ) (head : Head) (rest : List ℕ) (rows : List Proposal) (after : List ℕ) →
    head_at bytes ≡ Ok (head, rest) → rows_at head.periods 1 head.proposals rest ≡ Ok (rows, after)
    → Fails e (ending_at head.periods head.units after) → Fails e (report_at bytes)
unfolding report_at
no_ending stops.Memory bytes head rest rows after first each h = tt
no_ending (stops.Fault left) bytes head rest rows after first each h = rw (first, each, h) refl
