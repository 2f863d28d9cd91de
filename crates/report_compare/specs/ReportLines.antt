-- The text of a report, line by line (this project's profile; `report_form` says the text whole).
use Rattle.std.specs.Prelude.{ℕ, suc, ℤ, List, [], ◌∷◌, ◌++◌, length, codes}
use Rattle.std.specs.List.{concat, flat_map}
use Rattle.uc_model.specs.declared.kinds.Kind.{Kind}
use Rattle.uc_model.specs.declared.kinds.Kind.TheVariants as kinds
use Rattle.uc_model.specs.Data.{Schedule}
use Rattle.uc_model.specs.PriceRule.{Proposal}
use Rattle.report_form.specs.Numerals.{numeral, signed_numeral}
use Rattle.report_form.specs.Parts.{spaced, spaced_counts, spaced_flags, quoted}
use Rattle.report_form.specs.ReportText.{UnitLine, Report, chosen_text}
use Rattle.report_read.specs.Plain.{Told}

-- a word, what stands behind it, and the line feed
abbrev pub line : List ℕ → List ℕ → List ℕ
line word told = word ++ (told ++ codes "\n")

abbrev pub count_line : List ℕ → ℕ → List ℕ
count_line word n = line word (numeral n)

abbrev pub amount_line : List ℕ → ℤ → List ℕ
amount_line word x = line word (signed_numeral x)

-- the first six lines, which tell nothing of proposals
abbrev pub opening_lines : Report → List (List ℕ)
opening_lines r =
    codes "hull-report 1\n" ∷ count_line (codes "periods ") r.periods
    ∷ count_line (codes "units ") r.units ∷ count_line (codes "budget ") r.budget
    ∷ count_line (codes "ahead ") r.ahead ∷ amount_line (codes "cost ") r.cost ∷ []

-- how many proposals there are
abbrev pub number_line : ℕ → List ℕ
number_line proposals = count_line (codes "proposals ") proposals

abbrev pub head_lines : Report → List (List ℕ)
head_lines r = opening_lines r ++ number_line (length r.rows) ∷ []

abbrev pub row_lines : ℕ → Proposal → List (List ℕ)
row_lines number r =
    amount_line (codes "proposal " ++ (numeral number ++ codes " value ")) r.value
    ∷ line (codes "energy") (spaced r.prices.energy)
    ∷ line (codes "reserve") (spaced r.prices.reserve) ∷ line (codes "supplied") (spaced r.supply)
    ∷ line (codes "reserved") (spaced r.reserve) ∷ []

-- the rows, numbered from `first` on
abbrev pub rows_lines : ℕ → List Proposal → List (List ℕ)
rows_lines first [] = []
rows_lines first (r ∷ rs) = row_lines first r ++ rows_lines (suc first) rs

abbrev pub kind_word : Kind → List ℕ
kind_word kinds.Case = []
kind_word kinds.Thermal = codes "unit thermal "
kind_word kinds.Renewable = codes "unit renewable "
kind_word kinds.Bid = codes "unit bid "

-- the kind and name of a unit or bid, and its money
abbrev pub title_line : List ℕ → List ℕ → (earned scheduled payment : ℤ) → List ℕ
title_line word name earned scheduled payment = concat (
    word ∷ quoted name ∷ codes " earned " ∷ signed_numeral earned ∷ codes " scheduled "
    ∷ signed_numeral scheduled ∷ codes " payment " ∷ signed_numeral payment ∷ codes "\n" ∷ [])

-- a renewable unit and a bid are always on and give no reserve, so only the power is told
abbrev pub response_lines : Kind → Schedule → List (List ℕ)
response_lines kinds.Thermal s =
    line (codes "on") (spaced_flags s.on) ∷ line (codes "power") (spaced_counts s.power)
    ∷ line (codes "reserve") (spaced_counts s.reserve) ∷ []
response_lines kinds.Renewable s = line (codes "power") (spaced_counts s.power) ∷ []
response_lines kinds.Bid s = line (codes "power") (spaced_counts s.power) ∷ []
response_lines kinds.Case s = []

abbrev pub unit_lines : Kind → UnitLine → List (List ℕ)
unit_lines kind u =
    title_line (kind_word kind) u.name u.earned u.scheduled u.payment
    ∷ response_lines kind u.response

abbrev pub told_lines : Told → List (List ℕ)
told_lines t = unit_lines t.kind t.line

abbrev pub foot_lines : ℤ → ℤ → ℤ → List (List ℕ)
foot_lines surplus payments gap =
    amount_line (codes "surplus ") surplus ∷ amount_line (codes "payments ") payments
    ∷ amount_line (codes "gap ") gap ∷ codes "end\n" ∷ []

-- all lines behind the head
abbrev pub later_lines : Report → List (List ℕ)
later_lines r =
    rows_lines 1 r.rows ++ (chosen_text r.chosen r.value ∷ (
    flat_map (unit_lines kinds.Thermal) r.thermal ++ (
    flat_map (unit_lines kinds.Renewable) r.renewable ++ (
    flat_map (unit_lines kinds.Bid) r.bids ++ foot_lines r.surplus r.payments r.gap))))

abbrev pub report_lines : Report → List (List ℕ)
report_lines r = head_lines r ++ later_lines r
