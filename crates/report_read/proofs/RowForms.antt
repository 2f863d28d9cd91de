-- The first lines, proposals and last lines of a report, line by line: they are the texts that are written.
use Rattle.report_read.proofs.Common.{◌≡◌, true, ℕ, zero, suc, ◌+◌, ◌≤◌, ℤ, pos, List, [], ◌∷◌, ◌++◌, length, replicate}
use Rattle.report_read.proofs.Common.{codes, Ok, refl, sym, ap, ◌∙◌, subst, arith, append_assoc, length-append, inl}
use Rattle.report_read.proofs.Common.{rules, nil_from_length, neg_ℤ, flat_map, MOST_PERIODS, MOST_UNITS, MOST_PROPOSALS}
use Rattle.report_read.proofs.Common.{PRICE_LIMIT, All-from_recursion, IsFrom, ArePrices, Proposal, numeral}
use Rattle.report_read.proofs.Common.{signed_numeral, Head, head_text, row_text, rows_text, chosen_text, foot_text}
use Rattle.report_read.proofs.Common.{Foot, IsAmount, IsEnergyPrice, IsReservePrice, IsList, IsProposal, Found}
use Rattle.report_read.proofs.Common.{count_at, integer_at, items_at, amount_at, after, just, both, ended, value_line}
use Rattle.report_read.proofs.Common.{Read, line, then_lines, count_line, amount_line, made_head, head_at, list_line}
use Rattle.report_read.proofs.Common.{price_at, total_at, made_row, row_at, joined, rows_at, made_foot, foot_at}
use Rattle.report_form.specs.Parts.{spaced}
use Rattle.report_read.proofs.Reading.{is_inline, Stops, IsReader, after_reads, both_reads, just_reads, spaced_reads}
use Rattle.report_read.proofs.Reading.{items_reads}
use Rattle.report_read.proofs.Numerals.{IsBetween, count_reads, integer_reads}
use Rattle.report_read.proofs.Forms.{good, ok_is, reads_to_end, Form, line_form, then_form, making_form}

-- ---- lines of one form

-- a line as it is written before others
pub line_step : (word a : List ℕ) {rest other : List ℕ} → rest ≡ other →
    word ++ (a ++ 10 ∷ rest) ≡ ((word ++ a) ++ 10 ∷ []) ++ other
line_step word a {rest} {other} e =
    ap (λ (z : List ℕ). word ++ (a ++ 10 ∷ z)) e ∙ sym (append_assoc word a (10 ∷ other)) ∙
    sym (append_assoc (word ++ a) (10 ∷ []) other)

value_step : (word n s : List ℕ) {rest other : List ℕ} → rest ≡ other
    → word ++ (n ++ (codes " value " ++ (s ++ 10 ∷ rest))) ≡ ((word ++ (n ++ (codes " value " ++ s))) ++ 10 ∷ [])
    ++ other
value_step word n s {rest} {other} e =
    let value : n ++ (codes " value " ++ (s ++ 10 ∷ rest)) ≡ (n ++ (codes " value " ++ s)) ++ 10 ∷ rest =
    sym (append_assoc n (codes " value " ++ s) (10 ∷ rest)) in
    ap (λ (z : List ℕ). word ++ z) value ∙ line_step word (n ++ (codes " value " ++ s)) e

pub plain_form : (word : List ℕ) → is_inline word ≡ true →
    Form (λ (x : Unit {0}). word ++ 10 ∷ []) (λ x. Unit {0}) (line (ended (just word)))
plain_form word plain = line_form (λ (x : Unit {0}). word ++ 10 ∷ []) (λ x. Unit {0}) (ended (just word)) tt tt
    (reads_to_end (λ (x : Unit {0}). word) (λ x. Unit {0}) (just word) (just_reads word plain))

-- a word and a value
abbrev pub word_text : {A : Type 0} → List ℕ → (A → List ℕ) → A → List ℕ
word_text word text x = (word ++ text x) ++ 10 ∷ []

pub word_form : {A : Type 0} (word : List ℕ) (text : A → List ℕ) (Fits : A → Type 0) (read : List ℕ → Found A)
    (some : A) → is_inline word ≡ true → Fits some → IsReader text Fits read
    → Form (word_text word text) Fits (line (ended (after word read)))
word_form word text Fits read some plain fits p =
    line_form (word_text word text) Fits (ended (after word read)) some fits
    (reads_to_end (λ x. word ++ text x) Fits (after word read) (after_reads text Fits read word plain p))

pub count_form : (word : List ℕ) (least most : ℕ) → is_inline word ≡ true → least ≤ most →
    Form (word_text word numeral) (IsBetween least most) (count_line word least most)
count_form word least most plain h =
    word_form word numeral (IsBetween least most) (count_at least most) least plain
    (record { at_least = omega arith; at_most = h }) (count_reads least most)

pub amount_zero : IsAmount (pos 0)
amount_zero = record { at_least = search rules; at_most = search rules }

pub amount_reads : IsReader signed_numeral IsAmount amount_at
amount_reads = integer_reads (neg_ℤ (pos 170141183460469231731687303715884105728))
    (pos 170141183460469231731687303715884105727)

pub amount_form : (word : List ℕ) → is_inline word ≡ true →
    Form (word_text word signed_numeral) IsAmount (amount_line word)
amount_form word plain = word_form word signed_numeral IsAmount amount_at (pos 0) plain amount_zero amount_reads

-- a word, a number and a value
abbrev pub value_text : ℕ × ℤ → List ℕ
value_text x = numeral x.0 ++ (codes " value " ++ signed_numeral x.1)

abbrev pub IsValued : (least most : ℕ) → ℕ × ℤ → Type 0
IsValued least most x = IsBetween least most x.0 × IsAmount x.1

value_reads : (least most : ℕ) →
    IsReader value_text (IsValued least most) (both (count_at least most) (after (codes " value ") amount_at))
value_reads least most =
    both_reads numeral (IsBetween least most) (count_at least most) (λ v. codes " value " ++ signed_numeral v) IsAmount
    (after (codes " value ") amount_at)
    (count_reads least most) (after_reads signed_numeral IsAmount amount_at (codes " value ") refl amount_reads)
    (λ v rest. refl)

pub value_form : (word : List ℕ) (least most : ℕ) → is_inline word ≡ true → least ≤ most →
    Form (word_text word value_text) (IsValued least most) (line (value_line word least most))
value_form word least most plain h =
    word_form word value_text (IsValued least most) (both (count_at least most) (after (codes " value ") amount_at))
    (least, pos 0) plain
    (record { at_least = omega arith; at_most = h }, amount_zero) (value_reads least most)

-- ---- lists

pub same_items : {A : Type 0} (P : A → Type 0) (n : ℕ) (x : A) → P x → IsList P n (replicate n x)
same_items P zero x h = record { length_is = refl; items = tt }
same_items P (suc n) x h = let r = same_items P n x h in record { length_is = ap suc r.length_is; items = (h, r.items) }

pub list_form : {A : Type 0} (word : List ℕ) (text : A → List ℕ) (Fits : A → Type 0) (read : List ℕ → Found A)
    (some : A) (periods : ℕ) → is_inline word ≡ true → Fits some → IsReader text Fits read
    → ((x : A) (r : List ℕ) → Stops (text x ++ r)) →
    Form (word_text word (flat_map text)) (IsList Fits periods) (list_line word read periods)
list_form word text Fits read some periods plain fits p begins =
    word_form word (flat_map text) (IsList Fits periods) (items_at read periods) (replicate periods some) plain
    (same_items Fits periods some fits) (items_reads text Fits read periods p begins)

abbrev pub spaced_one : ℤ → List ℕ
spaced_one x = 32 ∷ signed_numeral x

pub prices_form : (word : List ℕ) (least most : ℤ) (periods : ℕ) → is_inline word ≡ true → IsFrom least most (pos 0) →
    Form (word_text word spaced) (IsList (IsFrom least most) periods) (list_line word (price_at least most) periods)
prices_form word least most periods plain zero_fits =
    list_form word spaced_one (IsFrom least most) (price_at least most) (pos 0) periods plain zero_fits
    (spaced_reads signed_numeral (IsFrom least most) (integer_at least most) (integer_reads least most)) (λ x r. refl)

pub totals_form : (word : List ℕ) (periods : ℕ) → is_inline word ≡ true →
    Form (word_text word spaced) (IsList IsAmount periods) (list_line word total_at periods)
totals_form word periods plain = list_form word spaced_one IsAmount total_at (pos 0) periods plain amount_zero
    (spaced_reads signed_numeral IsAmount amount_at amount_reads) (λ x r. refl)

-- ---- the first seven lines

pub record IsHead (h : Head) : Type 0 where
  pub periods : IsBetween 1 MOST_PERIODS h.periods
  pub units : IsBetween 1 MOST_UNITS h.units
  pub budget : IsBetween 1 MOST_PROPOSALS h.budget
  pub ahead : IsBetween 1 16 h.ahead
  pub cost : IsAmount h.cost
  pub proposals : IsBetween 1 4294967295 h.proposals

abbrev pub told_head : Head → List ℕ
told_head h = head_text h.periods h.units h.budget h.ahead h.cost h.proposals

-- two lines, the second whatever the first
pub pair_form : {A B : Type 0} (text : A → List ℕ) (Fits : A → Type 0) (read : List ℕ → Read A) (text2 : B → List ℕ)
    (Fits2 : B → Type 0) (read2 : List ℕ → Read B) (some : B) → Fits2 some
    → Form text Fits read → Form text2 Fits2 read2 →
    Form (λ (z : A × B). text z.0 ++ text2 z.1) (λ (z : A × B). Fits z.0 × Fits2 z.1) (then_lines read (λ _. read2))
pair_form text Fits read text2 Fits2 read2 some fits p q =
    then_form text Fits read (λ x y. text2 y) (λ x y. Fits2 y) (λ x. read2) p (λ x h. q) (λ x h. (some, fits))

-- the lines from the last to the first, each with those behind it
proposals_form : Form (word_text (codes "proposals ") numeral) (IsBetween 1 4294967295)
    (count_line (codes "proposals ") 1 4294967295)
proposals_form = count_form (codes "proposals ") 1 4294967295 refl (omega arith)

abbrev HeadParts : Type 0
HeadParts = Unit {0} × (ℕ × (ℕ × (ℕ × (ℕ × (ℤ × ℕ)))))

abbrev head_parts_text : HeadParts → List ℕ
head_parts_text x =
    (codes "hull-report 1" ++ 10 ∷ []) ++ (word_text (codes "periods ") numeral
    x.1.0 ++ (word_text (codes "units ") numeral x.1.1.0 ++ (word_text (codes "budget ") numeral x.1.1.1.0
    ++ (word_text (codes "ahead ") numeral
    x.1.1.1.1.0 ++ (word_text (codes "cost ") signed_numeral x.1.1.1.1.1.0 ++ word_text (codes "proposals ") numeral
    x.1.1.1.1.1.1)))))

abbrev AreHeadParts : HeadParts → Type 0
AreHeadParts x =
    Unit {0} × (IsBetween 1 MOST_PERIODS x.1.0 × (IsBetween 1 MOST_UNITS x.1.1.0 × (IsBetween 1 MOST_PROPOSALS x.1.1.1.0
    × (IsBetween 1 16 x.1.1.1.1.0 × (IsAmount x.1.1.1.1.1.0 × IsBetween 1 4294967295 x.1.1.1.1.1.1)))))

one : (most : ℕ) → 1 ≤ most → IsBetween 1 most 1
one most h = record { at_least = omega arith; at_most = h }

head_lines : Form head_parts_text AreHeadParts (then_lines (line (ended (just (codes "hull-report 1")))) (λ _.
    then_lines (count_line (codes "periods ") 1 MOST_PERIODS) (λ _.
    then_lines (count_line (codes "units ") 1 MOST_UNITS) (λ _.
    then_lines (count_line (codes "budget ") 1 MOST_PROPOSALS) (λ _.
    then_lines (count_line (codes "ahead ") 1 16) (λ _.
    then_lines (amount_line (codes "cost ")) (λ _.
    count_line (codes "proposals ") 1 4294967295)))))))
head_lines =
    let f6 = proposals_form in
    let f5 = pair_form _ _ _ _ _ _ 1 (one 4294967295 (omega arith)) (amount_form (codes "cost ") refl) f6 in
    let f4 = pair_form _ _ _ _ _ _ (pos 0, 1) (amount_zero, one 4294967295 (omega arith))
    (count_form (codes "ahead ") 1 16 refl (omega arith)) f5 in
    let f3 = pair_form _ _ _ _ _ _ (1, (pos 0, 1)) (one 16 (omega arith), (amount_zero, one 4294967295 (omega arith)))
    (count_form (codes "budget ") 1 MOST_PROPOSALS refl (omega arith)) f4 in
    let f2 = pair_form _ _ _ _ _ _ (1, (1, (pos 0, 1)))
    (one MOST_PROPOSALS (omega arith), (one 16 (omega arith), (amount_zero, one 4294967295 (omega arith))))
    (count_form (codes "units ") 1 MOST_UNITS refl (omega arith)) f3 in
    let f1 = pair_form _ _ _ _ _ _ (1, (1, (1, (pos 0, 1)))) (
      one MOST_UNITS (omega arith),
      (one MOST_PROPOSALS (omega arith), (one 16 (omega arith), (amount_zero, one 4294967295 (omega arith)))),
    )
    (count_form (codes "periods ") 1 MOST_PERIODS refl (omega arith)) f2 in
    pair_form _ _ _ _ _ _ (1, (1, (1, (1, (pos 0, 1))))) (
      one MOST_PERIODS (omega arith),
      (
        one MOST_UNITS (omega arith),
        (one MOST_PROPOSALS (omega arith), (one 16 (omega arith), (amount_zero, one 4294967295 (omega arith)))),
      ),
    )
    (plain_form (codes "hull-report 1") refl) f1

head_same : (x : HeadParts) → told_head (made_head x) ≡ head_parts_text x
unfolding head_text
head_same x =
    let last : codes "proposals " ++ (numeral x.1.1.1.1.1.1 ++ 10 ∷ []) ≡ word_text (codes "proposals ") numeral
    x.1.1.1.1.1.1 = refl in
    ap (λ (z : List ℕ). codes "hull-report 1" ++ 10 ∷ z)
    (line_step (codes "periods ") (numeral x.1.0)
    (line_step (codes "units ") (numeral x.1.1.0) (line_step (codes "budget ") (numeral x.1.1.1.0)
    (line_step (codes "ahead ") (numeral x.1.1.1.1.0)
    (line_step (codes "cost ") (signed_numeral x.1.1.1.1.1.0) last)))))

pub head_form : Form told_head IsHead head_at
unfolding head_at
head_form = making_form head_parts_text AreHeadParts _ told_head IsHead made_head head_lines (record {
  fits = λ x h. record {
    periods = h.1.0;
    units = h.1.1.0;
    budget = h.1.1.1.0;
    ahead = h.1.1.1.1.0;
    cost =
        h.1.1.1.1.1.0;
    proposals = h.1.1.1.1.1.1;
  };
  same = λ x h. head_same x;
  back = λ y. (tt, (y.periods, (y.units, (y.budget, (y.ahead, (y.cost, y.proposals))))));
  back_fits = λ y h. (tt, (h.periods, (h.units, (h.budget, (h.ahead, (h.cost, h.proposals))))));
  back_is = λ y h. refl;
})

-- ---- proposals

abbrev RowParts : Type 0
RowParts = (ℕ × ℤ) × (List ℤ × (List ℤ × (List ℤ × List ℤ)))

abbrev row_parts_text : RowParts → List ℕ
row_parts_text x =
    word_text (codes "proposal ") value_text
    x.0 ++ (word_text (codes "energy") spaced x.1.0 ++ (word_text (codes "reserve") spaced x.1.1.0
    ++ (word_text (codes "supplied") spaced x.1.1.1.0 ++ word_text (codes "reserved") spaced x.1.1.1.1)))

abbrev AreRowParts : (periods number : ℕ) → RowParts → Type 0
AreRowParts periods number x =
    IsValued number number x.0 ×
    (IsList IsEnergyPrice periods x.1.0 ×
    (IsList IsReservePrice periods x.1.1.0 ×
    (IsList IsAmount periods x.1.1.1.0 × IsList IsAmount periods x.1.1.1.1)))

pub energy_zero : IsEnergyPrice (pos 0)
energy_zero = record { at_least = search rules; at_most = search rules }

pub reserve_zero : IsReservePrice (pos 0)
reserve_zero = record { at_least = search rules; at_most = search rules }

row_lines : (periods number : ℕ) → Form row_parts_text (AreRowParts periods number)
    (then_lines (line (value_line (codes "proposal ") number number)) (λ _.
    then_lines (list_line (codes "energy") (price_at (neg_ℤ PRICE_LIMIT) PRICE_LIMIT) periods) (λ _.
    then_lines (list_line (codes "reserve") (price_at (pos 0) PRICE_LIMIT) periods) (λ _.
    then_lines (list_line (codes "supplied") total_at periods) (λ _.
    list_line (codes "reserved") total_at periods)))))
row_lines periods number =
    let zeros = replicate periods (pos 0) in
    let totals = same_items IsAmount periods (pos 0) amount_zero in
    let reserves = same_items IsReservePrice periods (pos 0) reserve_zero in
    let energies = same_items IsEnergyPrice periods (pos 0) energy_zero in
    let f3 = pair_form _ _ _ _ _ _ zeros totals (totals_form (codes "supplied") periods refl)
    (totals_form (codes "reserved") periods refl) in
    let f2 = pair_form _ _ _ _ _ _ (zeros, zeros) (totals, totals)
    (prices_form (codes "reserve") (pos 0) PRICE_LIMIT periods refl reserve_zero) f3 in
    let f1 = pair_form _ _ _ _ _ _ (zeros, (zeros, zeros)) (reserves, (totals, totals))
    (prices_form (codes "energy") (neg_ℤ PRICE_LIMIT) PRICE_LIMIT periods refl energy_zero) f2 in
    pair_form _ _ _ _ _ _ (zeros, (zeros, (zeros, zeros))) (energies, (reserves, (totals, totals)))
    (value_form (codes "proposal ") number number refl (omega arith)) f1

row_same : (x : RowParts) → row_text x.0.0 (made_row x) ≡ row_parts_text x
unfolding row_text
row_same x =
    let last : codes "reserved" ++ (spaced x.1.1.1.1 ++ 10 ∷ []) ≡ word_text (codes "reserved") spaced x.1.1.1.1 =
    refl in
    value_step (codes "proposal ") (numeral x.0.0) (signed_numeral x.0.1)
    (line_step (codes "energy") (spaced x.1.0)
    (line_step (codes "reserve") (spaced x.1.1.0) (line_step (codes "supplied") (spaced x.1.1.1.0) last)))

number_is : (number : ℕ) (x : ℕ) → IsBetween number number x → number ≡ x
number_is number x h = omega (arith, h.at_least, h.at_most)

pub row_form : (periods number : ℕ) → Form (row_text number) (IsProposal periods) (row_at periods number)
unfolding row_at
row_form periods number = making_form row_parts_text (AreRowParts periods number) _ (row_text number)
    (IsProposal periods) made_row (row_lines periods number) (record {
      fits = λ x h. record {
        value = h.0.1;
        energy = h.1.0;
        reserve = h.1.1.0;
        supplied = h.1.1.1.0;
        reserved =
            h.1.1.1.1;
      };
      same = λ x h. ap (λ (n : ℕ). row_text n (made_row x)) (number_is number x.0.0 h.0.0) ∙ row_same x;
      back = λ r. ((number, r.value), (r.prices.energy, (r.prices.reserve, (r.supply, r.reserve))));
      back_fits = λ r h. (
        (record { at_least = omega arith; at_most = omega arith }, h.value),
        (h.energy, (h.reserve, (h.supplied, h.reserved))),
      );
      back_is = λ r h. refl;
    })

zero_row : ℕ → Proposal
zero_row periods = record {
  prices = record { energy = replicate periods (pos 0); reserve = replicate periods (pos 0) };
  value = pos 0;
  supply = replicate periods (pos 0);
  reserve = replicate periods (pos 0);
}

zero_row_fits : (periods : ℕ) → IsProposal periods (zero_row periods)
unfolding zero_row
zero_row_fits periods = record {
  value = amount_zero;
  energy = same_items IsEnergyPrice periods (pos 0) energy_zero;
  reserve = same_items IsReservePrice periods (pos 0) reserve_zero;
  supplied = same_items IsAmount periods (pos 0) amount_zero;
  reserved = same_items IsAmount periods (pos 0) amount_zero;
}

pub zero_rows : (periods count : ℕ) → (rs : List Proposal) × IsList (IsProposal periods) count rs
zero_rows periods count = (
  replicate count (zero_row periods),
  same_items (IsProposal periods) count (zero_row periods) (zero_row_fits periods),
)

-- the form of no lines
pub no_lines : {A : Type 0} (text : List A → List ℕ) (Fits : List A → Type 0) (read : List ℕ → Read (List A)) →
    text [] ≡ [] → Fits [] → ((xs : List A) → Fits xs → xs ≡ [])
    → ((bytes : List ℕ) → read bytes ≡ Ok ([], bytes)) → Form text Fits read
no_lines {A} text Fits read none fits only reads = record {
  takes = λ bytes xs rest e.
      subst (λ (w : List A × List ℕ). (bytes ≡ text w.0 ++ w.1) × Fits w.0)
      (ok_is ([], bytes) (xs, rest) (sym (reads bytes) ∙ e)) (ap (λ (z : List ℕ). z ++ bytes) (sym none), fits);
  again = λ xs rest h.
      let empty : text xs ++ rest ≡ rest = ap (λ (z : List A). text z ++ rest) (only xs h) ∙
      ap (λ (z : List ℕ). z ++ rest) none in
      reads (text xs ++ rest) ∙ ap (λ (z : List ℕ). good ([], z)) empty ∙
      ap (λ (z : List A). good (z, rest)) (sym (only xs h));
  lines = λ xs h. inl (ap text (only xs h) ∙ none);
  stuck = λ bytes left e. absurd (let r = reads bytes in cc);
}

no_rows : (periods number : ℕ) → Form (rows_text number) (IsList (IsProposal periods) 0) (rows_at periods number 0)
unfolding rows_at
no_rows periods number =
    no_lines (rows_text number) (IsList (IsProposal periods) 0) (rows_at periods number 0) refl
    (record { length_is = refl; items = tt }) (λ xs h. nil_from_length xs h.length_is) (λ bytes. refl)

-- the first of a list, or another
abbrev pub first_or : {A : Type 0} → A → List A → A × List A
first_or some [] = (some, [])
first_or some (x ∷ xs) = (x, xs)

head_fits : {A : Type 0} (P : A → Type 0) (some : A) (n : ℕ) (xs : List A) → IsList P (suc n) xs →
    P (first_or some xs).0
head_fits P some n [] h = absurd (let e = h.length_is in omega arith)
head_fits P some n (x ∷ xs) h = h.items.0

tail_fits : {A : Type 0} (P : A → Type 0) (some : A) (n : ℕ) (xs : List A) → IsList P (suc n) xs →
    IsList P n (first_or some xs).1
tail_fits P some n [] h = absurd (let e = h.length_is in omega arith)
tail_fits P some n (x ∷ xs) h = record { length_is = (let e = h.length_is in omega arith); items = h.items.1 }

pub first_is : {A : Type 0} (some : A) (n : ℕ) (xs : List A) → length xs ≡ suc n → joined (first_or some xs) ≡ xs
first_is some n [] h = absurd (omega arith)
first_is some n (x ∷ xs) h = refl

pub rows_form : (periods number count : ℕ) →
    Form (rows_text number) (IsList (IsProposal periods) count) (rows_at periods number count)
unfolding rows_at
rows_form periods number zero = no_rows periods number
rows_form periods number (suc count) =
    let zeros = zero_rows periods count in
    let lines = pair_form (row_text number) (IsProposal periods) (row_at periods number) (rows_text (suc number))
    (IsList (IsProposal periods) count) (rows_at periods (suc number) count)
    zeros.0 zeros.1 (row_form periods number) (rows_form periods (suc number) count) in
    making_form (λ (z : Proposal × List Proposal). row_text number z.0 ++ rows_text (suc number) z.1)
    (λ (z : Proposal × List Proposal). IsProposal periods z.0 × IsList (IsProposal periods) count z.1)
    (then_lines (row_at periods number) (λ _. rows_at periods (suc number) count)) (rows_text number)
    (IsList (IsProposal periods) (suc count)) joined lines (record {
      fits = λ x h. record { length_is = ap suc h.1.length_is; items = (h.0, h.1.items) };
      same = λ x h. refl;
      back = first_or (zero_row periods);
      back_fits = λ rs h. (
        head_fits (IsProposal periods) (zero_row periods) count rs h,
        tail_fits (IsProposal periods) (zero_row periods) count rs h,
      );
      back_is = λ rs h. first_is (zero_row periods) count rs h.length_is;
    })

-- ---- the line of the chosen proposal, and the last lines

abbrev pub told_chosen : ℕ × ℤ → List ℕ
told_chosen x = chosen_text x.0 x.1

pub chosen_same : (x : ℕ × ℤ) → told_chosen x ≡ word_text (codes "chosen ") value_text x
unfolding chosen_text
chosen_same x = simp append_assoc

abbrev pub told_foot : Foot → List ℕ
told_foot f = foot_text f.surplus f.payments f.gap

pub record IsFoot (f : Foot) : Type 0 where
  pub surplus : IsAmount f.surplus
  pub payments : IsAmount f.payments
  pub gap : IsAmount f.gap

abbrev FootParts : Type 0
FootParts = ℤ × (ℤ × (ℤ × Unit {0}))

abbrev foot_parts_text : FootParts → List ℕ
foot_parts_text x =
    word_text (codes "surplus ") signed_numeral
    x.0 ++ (word_text (codes "payments ") signed_numeral
    x.1.0 ++ (word_text (codes "gap ") signed_numeral x.1.1.0 ++ (codes "end" ++ 10 ∷ [])))

abbrev AreFootParts : FootParts → Type 0
AreFootParts x = IsAmount x.0 × (IsAmount x.1.0 × (IsAmount x.1.1.0 × Unit {0}))

foot_lines : Form foot_parts_text AreFootParts (then_lines (amount_line (codes "surplus ")) (λ _.
    then_lines (amount_line (codes "payments ")) (λ _.
    then_lines (amount_line (codes "gap ")) (λ _. line (ended (just (codes "end")))))))
foot_lines =
    let f2 = pair_form _ _ _ _ _ _ tt tt (amount_form (codes "gap ") refl) (plain_form (codes "end") refl) in
    let f1 = pair_form _ _ _ _ _ _ (pos 0, tt) (amount_zero, tt) (amount_form (codes "payments ") refl) f2 in
    pair_form _ _ _ _ _ _ (pos 0, (pos 0, tt)) (amount_zero, (amount_zero, tt)) (amount_form (codes "surplus ") refl) f1

foot_same : (x : FootParts) → told_foot (made_foot x) ≡ foot_parts_text x
unfolding foot_text
foot_same x =
    let last : codes "end" ++ 10 ∷ [] ≡ codes "end" ++ 10 ∷ [] = refl in
    line_step (codes "surplus ") (signed_numeral x.0)
    (line_step (codes "payments ") (signed_numeral x.1.0) (line_step (codes "gap ") (signed_numeral x.1.1.0) last))

pub foot_form : Form told_foot IsFoot foot_at
unfolding foot_at
foot_form = making_form foot_parts_text AreFootParts _ told_foot IsFoot made_foot foot_lines (record {
  fits = λ x h. record { surplus = h.0; payments = h.1.0; gap = h.1.1.0 };
  same = λ x h. foot_same x;
  back = λ f. (f.surplus, (f.payments, (f.gap, tt)));
  back_fits = λ f h. (h.surplus, (h.payments, (h.gap, tt)));
  back_is = λ f h. refl;
})

-- ---- how long a proposal is

row_parts_long : (x : RowParts) → 50 ≤ length (row_parts_text x)
row_parts_long x = simp length-append (omega arith)

pub row_shortens : (periods number : ℕ) (bytes : List ℕ) (r : Proposal) (rest : List ℕ) →
    row_at periods number bytes ≡ Ok (r, rest) → length rest + 50 ≤ length bytes
unfolding row_at
row_shortens periods number bytes r rest e =
    let x : RowParts = ((number, r.value), (r.prices.energy, (r.prices.reserve, (r.supply, r.reserve)))) in
    let t = (row_form periods number).takes bytes r rest e in
    let whole : bytes ≡ row_parts_text x ++ rest = t.0 ∙ ap (λ (z : List ℕ). z ++ rest) (row_same x) in
    let long = row_parts_long x in
    let sum = length-append (row_parts_text x) rest in
    let all = ap length whole in
    omega arith

-- ---- what the lists of a proposal keep

pub prices_are : (word : List ℕ) (least most : ℤ) (periods : ℕ) (bytes : List ℕ) (xs : List ℤ) (rest : List ℕ) →
    is_inline word ≡ true → IsFrom least most (pos 0)
    → list_line word (price_at least most) periods bytes ≡ Ok (xs, rest) → IsList (IsFrom least most) periods xs
prices_are word least most periods bytes xs rest plain zero_fits e =
    ((prices_form word least most periods plain zero_fits).takes bytes xs rest e).1

pub totals_are : (word : List ℕ) (periods : ℕ) (bytes : List ℕ) (xs : List ℤ) (rest : List ℕ) → is_inline word ≡ true →
    list_line word total_at periods bytes ≡ Ok (xs, rest) → IsList IsAmount periods xs
totals_are word periods bytes xs rest plain e = ((totals_form word periods plain).takes bytes xs rest e).1

pub prices_valid : (periods : ℕ) (energy reserve : List ℤ) → 1 ≤ periods → periods ≤ 168 →
    IsList IsEnergyPrice periods energy → IsList IsReservePrice periods reserve
    → ArePrices (record { energy = energy; reserve = reserve })
prices_valid periods energy reserve low high e r = record {
  lengths = e.length_is ∙ sym r.length_is;
  horizon = record { at_least = (let n = e.length_is in omega arith); at_most = (let n = e.length_is in omega arith) };
  energy = All-from_recursion IsEnergyPrice energy e.items;
  reserve = All-from_recursion IsReservePrice reserve r.items;
}
