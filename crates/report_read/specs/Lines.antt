-- The lines of a report, read one after the other: what they tell and the bytes behind them, or how
-- many bytes are left where the first line in fault begins.
use Rattle.std.specs.Prelude.{◌≡◌, ℕ, zero, suc, Bool, true, ℤ, pos, neg_ℤ, List, []}
use Rattle.std.specs.Prelude.{◌∷◌, length, replicate, codes, Some, None, Result, Ok, Err}
use Rattle.uc_model.specs.declared.kinds.Kind.{Kind}
use Rattle.uc_model.specs.declared.kinds.Kind.TheVariants as kinds
use Rattle.plain_lists.specs.declared.limits.TheConstants.{MOST_UNITS}
use Rattle.uc_model.specs.declared.limits.TheConstants.{MOST_PERIODS}
use Rattle.plain_lists.specs.declared.limits.TheConstants.{MOST_PROPOSALS, MOST_AHEAD}
use Rattle.uc_model.specs.declared.limits.TheConstants.{PRICE_LIMIT}
use Rattle.uc_model.specs.Data.{Schedule}
use Rattle.uc_model.specs.PriceRule.{Proposal}
use Rattle.report_form.specs.declared.report.Head.{Head}
use Rattle.report_form.specs.ReportText.{Report}
use Rattle.report_read.specs.declared.head.Foot.{Foot}
use Rattle.report_read.specs.declared.stop.Stop.{Stop}
use Rattle.report_read.specs.declared.stop.Stop.TheVariants as stops
use Rattle.report_read.specs.Plain.{Told, rank, lines_of}
use Rattle.report_read.specs.Words.{Found, most_count, count_at, integer_at, flag_at, spaced}
use Rattle.report_read.specs.Words.{items_at}
use Rattle.report_read.specs.LineForms.{amount_at, word_line, plain_line}
use Rattle.report_read.specs.LineForms.{value_line, Title, title_line}

-- what lines tell, and the bytes behind them; or the bytes left where the line in fault begins
abbrev pub Read : Type 0 → Type 0
Read A = Result (A × List ℕ) ℕ

-- What a function of the program returned, seen by view, is what is read, unless memory ran out.
abbrev pub Fails : {Y : Type 0} → Stop → Result Y ℕ → Type 0
Fails stops.Memory read = Unit {0}
Fails (stops.Fault left) read = read ≡ Err left

abbrev pub Gives : {X Y : Type 0} → (X → Y) → Result X Stop → Result Y ℕ → Type 0
Gives view (Ok x) read = read ≡ Ok (view x)
Gives view (Err e) read = Fails e read

infixl 10 ◌>>=◌
abbrev pub ◌>>=◌ : {A B : Type 0} → Result A ℕ → (A → Result B ℕ) → Result B ℕ
(Ok x) >>= f = f x
(Err e) >>= f = Err e

-- ---- one line, lines one after the other, and what they make

abbrev pub or_left : {A : Type 0} → ℕ → Found A → Read A
or_left left (Some x) = Ok x
or_left left None = Err left

abbrev pub line : {A : Type 0} → (List ℕ → Found A) → List ℕ → Read A
line read bytes = or_left (length bytes) (read bytes)

abbrev pub then_lines : {A B : Type 0} → (List ℕ → Read A) → (A → List ℕ → Read B) → List ℕ →
    Read (A × B)
then_lines first next bytes = do
  x ← first bytes
  y ← next x.0 x.1
  Ok ((x.0, y.0), y.1)

abbrev pub making : {A B : Type 0} → (A → B) → (List ℕ → Read A) → List ℕ → Read B
making make lines bytes = do
  x ← lines bytes
  Ok (make x.0, x.1)

-- ---- the first seven lines

abbrev pub count_line : List ℕ → (least most : ℕ) → List ℕ → Read ℕ
count_line word least most = line (word_line word (count_at least most))

abbrev pub amount_line : List ℕ → List ℕ → Read ℤ
amount_line word = line (word_line word amount_at)

-- the periods and so on
abbrev pub made_head : Unit {0} × (ℕ × (ℕ × (ℕ × (ℕ × (ℤ × ℕ))))) → Head
made_head x = record {
  periods = x.1.0;
  units = x.1.1.0;
  budget = x.1.1.1.0;
  ahead = x.1.1.1.1.0;
  cost = x.1.1.1.1.1.0;
  proposals = x.1.1.1.1.1.1;
}

unfoldable pub head_at : List ℕ → Read Head
head_at =
    making made_head (then_lines (line (plain_line (codes "hull-report 1"))) (λ _.
    then_lines (count_line (codes "periods ") 1 MOST_PERIODS) (λ _.
    then_lines (count_line (codes "units ") 1 MOST_UNITS) (λ _.
    then_lines (count_line (codes "budget ") 1 MOST_PROPOSALS) (λ _.
    then_lines (count_line (codes "ahead ") 1 MOST_AHEAD) (λ _.
    then_lines (amount_line (codes "cost ")) (λ _.
    count_line (codes "proposals ") 1 most_count)))))))

-- ---- proposals

abbrev pub list_line : {A : Type 0} → List ℕ → (List ℕ → Found A) → ℕ → List ℕ → Read (List A)
list_line word item periods = line (word_line word (items_at item periods))

abbrev pub price_at : (least most : ℤ) → List ℕ → Found ℤ
price_at least most = spaced (integer_at least most)

abbrev pub total_at : List ℕ → Found ℤ
total_at = spaced amount_at

abbrev pub made_row : (ℕ × ℤ) × (List ℤ × (List ℤ × (List ℤ × List ℤ))) → Proposal
made_row x = record {
  prices = record { energy = x.1.0; reserve = x.1.1.0 };
  value = x.0.1;
  supply = x.1.1.1.0;
  reserve = x.1.1.1.1;
}

-- the proposal of that number
unfoldable pub row_at : (periods number : ℕ) → List ℕ → Read Proposal
row_at periods number =
    making made_row (then_lines (line (value_line (codes "proposal ") number number)) (λ _.
    then_lines (list_line (codes "energy") (price_at (neg_ℤ PRICE_LIMIT) PRICE_LIMIT) periods) (λ _.
    then_lines (list_line (codes "reserve") (price_at (pos 0) PRICE_LIMIT) periods) (λ _.
    then_lines (list_line (codes "supplied") total_at periods) (λ _.
    list_line (codes "reserved") total_at periods)))))

abbrev pub joined : {A : Type 0} → A × List A → List A
joined x = x.0 ∷ x.1

-- so many proposals, the first of that number
unfoldable pub rows_at : (periods number count : ℕ) → List ℕ → Read (List Proposal)
rows_at periods number zero bytes = Ok ([], bytes)
rows_at periods number (suc count) bytes =
    making joined
    (then_lines (row_at periods number) (λ _. rows_at periods (suc number) count)) bytes

-- ---- units

abbrev pub power_at : List ℕ → Found ℕ
power_at = spaced (count_at 0 most_count)

abbrev pub made_response : List Bool × (List ℕ × List ℕ) → Schedule
made_response x = record { on = x.0; power = x.1.0; reserve = x.1.1 }

abbrev pub always_on : List ℕ → Schedule
always_on power = record {
  on = replicate (length power) true;
  power = power;
  reserve = replicate (length power) 0;
}

unfoldable pub thermal_at : ℕ → List ℕ → Read Schedule
thermal_at periods =
    making made_response (then_lines (list_line (codes "on") (spaced flag_at) periods) (λ _.
    then_lines (list_line (codes "power") power_at periods) (λ _.
    list_line (codes "reserve") power_at periods)))

unfoldable pub other_at : ℕ → List ℕ → Read Schedule
other_at periods = making always_on (list_line (codes "power") power_at periods)

-- the response of a unit of that kind
abbrev pub response_at : ℕ → Kind → List ℕ → Read Schedule
response_at periods kinds.Thermal = thermal_at periods
response_at periods kinds.Renewable = other_at periods
response_at periods kinds.Bid = other_at periods
response_at periods kinds.Case = other_at periods

abbrev pub made_unit : Title × Schedule → Told
made_unit x = record {
  kind = x.0.0;
  line = record {
    name = x.0.1.0;
    earned = x.0.1.1.0;
    scheduled = x.0.1.1.1.0;
    payment = x.0.1.1.1.1;
    response = x.1;
  };
}

-- a unit of a kind of at least that rank
unfoldable pub unit_at : (periods least : ℕ) → List ℕ → Read Told
unit_at periods least =
    making made_unit (then_lines (line (title_line least)) (λ t. response_at periods t.0))

unfoldable pub units_at : (periods least count : ℕ) → List ℕ → Read (List Told)
units_at periods least zero bytes = Ok ([], bytes)
units_at periods least (suc count) bytes =
    making joined
    (then_lines (unit_at periods least) (λ u. units_at periods (rank u.kind) count)) bytes

-- ---- the last lines, and the whole

abbrev pub made_foot : ℤ × (ℤ × (ℤ × Unit {0})) → Foot
made_foot x = record { surplus = x.0; payments = x.1.0; gap = x.1.1.0 }

unfoldable pub foot_at : List ℕ → Read Foot
foot_at =
    making made_foot (then_lines (amount_line (codes "surplus ")) (λ _.
    then_lines (amount_line (codes "payments ")) (λ _.
    then_lines (amount_line (codes "gap ")) (λ _. line (plain_line (codes "end"))))))

abbrev pub made_report : Head × (List Proposal × ((ℕ × ℤ) × (List Told × Foot))) → Report
made_report x = record {
  periods = x.0.periods;
  units = x.0.units;
  budget = x.0.budget;
  ahead = x.0.ahead;
  cost = x.0.cost;
  rows = x.1.0;
  chosen = x.1.1.0.0;
  value = x.1.1.0.1;
  thermal = lines_of kinds.Thermal x.1.1.1.0;
  renewable = lines_of kinds.Renewable x.1.1.1.0;
  bids = lines_of kinds.Bid x.1.1.1.0;
  surplus = x.1.1.1.1.surplus;
  payments = x.1.1.1.1.payments;
  gap = x.1.1.1.1.gap;
}

unfoldable pub report_at : List ℕ → Read Report
report_at =
    making made_report (then_lines head_at (λ h.
    then_lines (rows_at h.periods 1 h.proposals) (λ _.
    then_lines (line (value_line (codes "chosen ") 0 most_count)) (λ _.
    then_lines (units_at h.periods 0 h.units) (λ _. foot_at)))))

-- nothing stands behind the last line
abbrev pub if_no_more : {A : Type 0} → A → List ℕ → Result A ℕ
if_no_more r [] = Ok r
if_no_more r (b ∷ bs) = Err (length (b ∷ bs))

unfoldable pub all_of : List ℕ → Result Report ℕ
all_of bytes = do
  r ← report_at bytes
  if_no_more r.0 r.1
