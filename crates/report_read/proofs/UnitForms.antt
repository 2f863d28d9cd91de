-- The lines of units and bids: they are the texts that are written.
use Rattle.report_read.proofs.Common.{◌≡◌, ℕ, zero, suc, ◌≤◌, Bool, true, false, cond, nat_le, ◌==◌, ◌⊎◌, ℤ, pos, List}
use Rattle.report_read.proofs.Common.{[], ◌∷◌, ◌++◌, length, replicate, codes, Option, Some, None, Ok, refl, sym, ap}
use Rattle.report_read.proofs.Common.{◌∙◌, subst, arith, append_assoc, inl, inr, rules, neg_ℤ, IsUtf8, flat_map}
use Rattle.report_read.proofs.Common.{AllByRecursion, nil_from_length, nat_tests, Kind, numeral, signed_numeral}
use Rattle.report_read.proofs.Common.{spaced_counts, spaced_flags, escaped, UnitLine, thermal_text, flat_text}
use Rattle.report_read.proofs.Common.{renewable_text, bid_text, Told, rank, IsCount, IsNumber, IsList, IsTold, Found}
use Rattle.report_read.proofs.Common.{◌>>=◌, behind, count_at, spaced, flag_at, name_at, of_kind, or_else, kind_at}
use Rattle.report_read.proofs.Common.{number_at, after, both, in_order, opening_at, owed_at, Title, title_line, line}
use Rattle.report_read.proofs.Common.{then_lines, list_line, power_at, made_response, always_on, thermal_at, other_at}
use Rattle.report_read.proofs.Common.{response_at, made_unit, unit_at, joined, units_at}
use Rattle.uc_model.specs.declared.kinds.Kind.TheVariants as kinds
use Rattle.uc_model.specs.Data.{Schedule}
use Rattle.report_read.proofs.Reading.{bind_some, if_some, some_is, behind_takes, behind_again, is_inline}
use Rattle.report_read.proofs.Reading.{inline_append, IsReader, after_reads, both_reads, both_behind, spaced_reads}
use Rattle.report_read.proofs.Numerals.{IsBetween, count_reads, integer_reads}
use Rattle.report_read.proofs.QuotedNames.{name_reads}
use Rattle.report_read.proofs.Forms.{reads_to_end, Form, line_form, then_form, making_form}
use Rattle.report_read.proofs.RowForms.{word_text, list_form, same_items, pair_form, no_lines, first_or, first_is}
use Rattle.report_read.proofs.RowForms.{line_step}

pub length-replicate : {A : Type 0} (n : ℕ) (x : A) → length (replicate n x) ≡ n
length-replicate zero x = refl
length-replicate (suc n) x = ap suc (length-replicate n x)

-- ---- powers and flags

as_count : (n : ℕ) → IsBetween 0 4294967295 n → IsCount n
as_count n h = omega (arith, h.at_most)

as_between : (n : ℕ) → IsCount n → IsBetween 0 4294967295 n
as_between n h = record { at_least = omega arith; at_most = omega arith }

-- the same texts, what fits told otherwise
pub reads_as : {A : Type 0} (text : A → List ℕ) (P Q : A → Type 0) (read : List ℕ → Found A) → ((x : A) → P x → Q x) →
    ((x : A) → Q x → P x) → IsReader text P read → IsReader text Q read
reads_as text P Q read f g p = record {
  takes = λ bytes x rest e. (let t = p.takes bytes x rest e in (t.0, f x t.1));
  again = λ x rest h stops. p.again x rest (g x h) stops;
  inline = λ x h. p.inline x (g x h);
}

number_reads : IsReader numeral IsCount (count_at 0 4294967295)
number_reads = reads_as numeral (IsBetween 0 4294967295) IsCount (count_at 0 4294967295) as_count as_between
    (count_reads 0 4294967295)

abbrev spaced_number : ℕ → List ℕ
spaced_number n = 32 ∷ numeral n

pub powers_form : (word : List ℕ) (periods : ℕ) → is_inline word ≡ true →
    Form (word_text word spaced_counts) (IsList IsCount periods) (list_line word power_at periods)
powers_form word periods plain = list_form word spaced_number IsCount power_at 0 periods plain (omega arith)
    (spaced_reads numeral IsCount (count_at 0 4294967295) number_reads) (λ x r. refl)

abbrev Anything : Bool → Type 0
Anything b = Unit {0}

abbrev flag_byte : Bool → List ℕ
flag_byte true = 49 ∷ []
flag_byte false = 48 ∷ []

bit_takes : (bytes : List ℕ) (x : Bool × List ℕ) → flag_at bytes ≡ Some x → bytes ≡ flag_byte x.0 ++ x.1
unfolding flag_at
bit_takes [] x e = absurd cc
bit_takes (b ∷ bs) x e =
    elim (b == 49) as (λ t. (b == 49) ≡ t → cond {A = Found Bool} t (Some (true, bs))
    (cond {A = Found Bool} (b == 48) (Some (false, bs)) None) ≡ Some x → b ∷ bs ≡ flag_byte x.0 ++ x.1) [
      | true ↦ λ t f.
          let one : b ≡ 49 = grind (arith, nat_tests) in
          subst (λ (w : Bool × List ℕ). b ∷ bs ≡ flag_byte w.0 ++ w.1) (some_is (true, bs) x f)
          (ap (λ (k : ℕ). k ∷ bs) one)
      | false ↦ λ t f.
          let g = if_some (b == 48) (Some (false, bs)) x f in
          let none : b ≡ 48 = grind (arith, nat_tests, g.0) in
          subst (λ (w : Bool × List ℕ). b ∷ bs ≡ flag_byte w.0 ++ w.1) (some_is (false, bs) x g.1)
          (ap (λ (k : ℕ). k ∷ bs) none)
    ] refl e

bit_again : (b : Bool) (rest : List ℕ) → flag_at (flag_byte b ++ rest) ≡ Some (b, rest)
unfolding flag_at
bit_again true rest = refl
bit_again false rest = refl

bit_inline : (b : Bool) → is_inline (flag_byte b) ≡ true
bit_inline true = refl
bit_inline false = refl

bit_reads : IsReader flag_byte Anything flag_at
bit_reads = record {
  takes = λ bytes b rest e. (bit_takes bytes (b, rest) e, tt);
  again = λ b rest h stops. bit_again b rest;
  inline = λ b h. bit_inline b;
}

-- each flag is written so
flags_written : (flags : List Bool) → flat_map (λ b. 32 ∷ flag_byte b) flags ≡ spaced_flags flags
flags_written [] = refl
flags_written (true ∷ bs) = ap (λ (z : List ℕ). 32 ∷ 49 ∷ z) (flags_written bs)
flags_written (false ∷ bs) = ap (λ (z : List ℕ). 32 ∷ 48 ∷ z) (flags_written bs)

abbrev flag_bytes : List Bool → List ℕ
flag_bytes = flat_map (λ b. 32 ∷ flag_byte b)

pub flags_form : (word : List ℕ) (periods : ℕ) → is_inline word ≡ true →
    Form (word_text word flag_bytes) (IsList Anything periods) (list_line word (spaced flag_at) periods)
flags_form word periods plain = list_form word (λ b. 32 ∷ flag_byte b) Anything (spaced flag_at) true periods plain tt
    (spaced_reads flag_byte Anything flag_at bit_reads) (λ x r. refl)

pub powers_are : (word : List ℕ) (periods : ℕ) (bytes : List ℕ) (xs : List ℕ) (rest : List ℕ) → is_inline word ≡ true →
    list_line word power_at periods bytes ≡ Ok (xs, rest) → IsList IsCount periods xs
powers_are word periods bytes xs rest plain e = ((powers_form word periods plain).takes bytes xs rest e).1

pub flags_are : (word : List ℕ) (periods : ℕ) (bytes : List ℕ) (xs : List Bool) (rest : List ℕ) →
    is_inline word ≡ true → list_line word (spaced flag_at) periods bytes ≡ Ok (xs, rest) → IsList Anything periods xs
flags_are word periods bytes xs rest plain e = ((flags_form word periods plain).takes bytes xs rest e).1

-- ---- the first line of a unit

abbrev pub kind_text : Kind → List ℕ
kind_text kinds.Thermal = codes "thermal "
kind_text kinds.Renewable = codes "renewable "
kind_text kinds.Bid = codes "bid "
kind_text kinds.Case = []

some_kind : (kind : Kind) (r : Option (List ℕ)) (x : Kind × List ℕ) → of_kind kind r ≡ Some x →
    (bytes : List ℕ) × (r ≡ Some bytes) × (kind ≡ x.0) × (bytes ≡ x.1)
some_kind kind (Some bytes) x e = let same = some_is (kind, bytes) x e in
    (bytes, refl, ap (λ (w : Kind × List ℕ). w.0) same, ap (λ (w : Kind × List ℕ). w.1) same)
some_kind kind None x e = absurd cc

either : {A : Type 0} (a b : Option A) (x : A) → or_else a b ≡ Some x → (a ≡ Some x) ⊎ (b ≡ Some x)
either (Some y) b x e = inl e
either None b x e = inr e

-- a kind that is found is in a report, and its word stands in front
pub record IsKind (bytes : List ℕ) (k : Kind) (rest : List ℕ) : Type 0 where
  pub parts : bytes ≡ kind_text k ++ rest
  pub told : rank k ≤ 2

found_kind : (kind : Kind) (bytes : List ℕ) (x : Kind × List ℕ) → rank kind ≤ 2 →
    of_kind kind (behind (kind_text kind) bytes) ≡ Some x → IsKind bytes x.0 x.1
found_kind kind bytes x h e =
    let s = some_kind kind (behind (kind_text kind) bytes) x e in
    let parts : bytes ≡ kind_text kind ++ s.0 = behind_takes (kind_text kind) bytes s.0 s.1 in
    record {
      parts = parts ∙ ap (λ (k : Kind). kind_text k ++ s.0) s.2 ∙ ap (λ (z : List ℕ). kind_text x.0 ++ z) s.3;
      told = subst (λ (k : Kind). rank k ≤ 2) s.2 h;
    }

kind_takes : (bytes : List ℕ) (x : Kind × List ℕ) → kind_at bytes ≡ Some x → IsKind bytes x.0 x.1
unfolding kind_at
kind_takes bytes x e =
    elim (either (of_kind kinds.Thermal (behind (codes "thermal ") bytes))
    (or_else (of_kind kinds.Renewable (behind (codes "renewable ") bytes))
    (of_kind kinds.Bid (behind (codes "bid ") bytes))) x e) [
      | inl first ↦ found_kind kinds.Thermal bytes x (omega arith) first
      | inr others ↦
          elim (either (of_kind kinds.Renewable (behind (codes "renewable ") bytes))
          (of_kind kinds.Bid (behind (codes "bid ") bytes)) x others) [
            | inl second ↦ found_kind kinds.Renewable bytes x (omega arith) second
            | inr third ↦ found_kind kinds.Bid bytes x (omega arith) third
          ]
    ]

other_word : (c d : ℕ) (cs ds : List ℕ) → (d == c) ≡ false → behind (c ∷ cs) (d ∷ ds) ≡ None
unfolding behind
other_word c d cs ds h = rw h refl

kind_again : (k : Kind) (rest : List ℕ) → rank k ≤ 2 → kind_at (kind_text k ++ rest) ≡ Some (k, rest)
unfolding kind_at
kind_again kinds.Thermal rest h = rw (behind_again (codes "thermal ") rest) refl
kind_again kinds.Renewable rest h =
    let no_thermal : behind (codes "thermal ") (codes "renewable " ++ rest) ≡ None = other_word 116 114 _ _ refl in
    rw (no_thermal, behind_again (codes "renewable ") rest) refl
kind_again kinds.Bid rest h =
    let no_thermal : behind (codes "thermal ") (codes "bid " ++ rest) ≡ None = other_word 116 98 _ _ refl in
    let no_renewable : behind (codes "renewable ") (codes "bid " ++ rest) ≡ None = other_word 114 98 _ _ refl in
    rw (no_thermal, no_renewable, behind_again (codes "bid ") rest) refl
kind_again kinds.Case rest h = absurd (omega arith)

kind_inline : (k : Kind) → is_inline (kind_text k) ≡ true
kind_inline kinds.Thermal = refl
kind_inline kinds.Renewable = refl
kind_inline kinds.Bid = refl
kind_inline kinds.Case = refl

kind_reads : IsReader kind_text (λ k. rank k ≤ 2) kind_at
kind_reads = record {
  takes = λ bytes k rest e. (let f = kind_takes bytes (k, rest) e in (f.parts, f.told));
  again = λ k rest h stops. kind_again k rest h;
  inline = λ k h. kind_inline k;
}

-- a kind that may come next
pub record MayCome (least : ℕ) (k : Kind) : Type 0 where
  pub in_order : least ≤ rank k
  pub told : rank k ≤ 2

abbrev pub opening_text : Kind → List ℕ
opening_text k = codes "unit " ++ (kind_text k ++ codes "\"")

opening_takes : (least : ℕ) (bytes : List ℕ) (k : Kind) (rest : List ℕ) → opening_at least bytes ≡ Some (k, rest) →
    (bytes ≡ opening_text k ++ rest) × MayCome least k
unfolding opening_at
opening_takes least bytes k rest e =
    let a = bind_some (after (codes "unit ") kind_at bytes)
    (λ found. in_order least found >>= λ kind. behind
    (codes "\"") kind.1 >>= λ rest. Some (kind.0, rest)) (k, rest) e in
    let b = bind_some (in_order least a.0)
    (λ kind. behind (codes "\"") kind.1 >>= λ rest. Some (kind.0, rest)) (k, rest) a.2 in
    let d = bind_some (behind (codes "\"") b.0.1) (λ rest. Some (b.0.0, rest)) (k, rest) b.2 in
    let s = (after_reads kind_text (λ k. rank k ≤ 2) kind_at (codes "unit ") refl kind_reads).takes bytes a.0.0 a.0.1
    a.1 in
    let t = if_some (nat_le least (rank a.0.0)) (Some a.0) b.0 b.1 in
    let same : a.0 ≡ b.0 = some_is a.0 b.0 t.1 in
    let test = t.0 in
    let order : least ≤ rank a.0.0 = grind (arith, nat_tests) in
    let quote = behind_takes (codes "\"") b.0.1 d.0 d.1 in
    let whole : bytes ≡ (codes "unit " ++ kind_text b.0.0) ++ (codes "\"" ++ d.0) =
    s.0 ∙ ap (λ (w : Kind × List ℕ). (codes "unit " ++ kind_text w.0) ++ w.1) same ∙
    ap (λ (z : List ℕ). (codes "unit " ++ kind_text b.0.0) ++ z) quote in
    let parts : bytes ≡ opening_text b.0.0 ++ d.0 =
    whole ∙ append_assoc (codes "unit ") (kind_text b.0.0) (codes "\"" ++ d.0) ∙
    ap (λ (z : List ℕ). codes "unit " ++ z) (sym (append_assoc (kind_text b.0.0) (codes "\"") d.0)) in
    let may : MayCome least b.0.0 =
    subst (λ (w : Kind × List ℕ). MayCome least w.0) same (record { in_order = order; told = s.1 }) in
    subst (λ (w : Kind × List ℕ). (bytes ≡ opening_text w.0 ++ w.1) × MayCome least w.0)
    (some_is (b.0.0, d.0) (k, rest) d.2) (parts, may)

opening_again : (least : ℕ) (k : Kind) (rest : List ℕ) → MayCome least k →
    opening_at least (opening_text k ++ rest) ≡ Some (k, rest)
unfolding opening_at
opening_again least k rest h =
    let regrouped : opening_text k ++ rest ≡ (codes "unit " ++ kind_text k) ++ (34 ∷ rest) =
    ap (λ (z : List ℕ). codes "unit " ++ z)
    (append_assoc (kind_text k) (codes "\"") rest) ∙ sym (append_assoc (codes "unit ") (kind_text k) (34 ∷ rest)) in
    let found : after (codes "unit ") kind_at ((codes "unit " ++ kind_text k) ++ (34 ∷ rest)) ≡ Some (k, 34 ∷ rest) =
    (after_reads kind_text (λ k. rank k ≤ 2) kind_at (codes "unit ") refl kind_reads).again k (34 ∷ rest) h.told refl in
    let t : nat_le least (rank k) ≡ true = (let o = h.in_order in grind (arith, nat_tests)) in
    ap (opening_at least) regrouped ∙ rw (found, t, behind_again (codes "\"") rest) refl

opening_reads : (least : ℕ) → IsReader opening_text (MayCome least) (opening_at least)
opening_reads least = record {
  takes = opening_takes least;
  again = λ k rest h stops. opening_again least k rest h;
  inline = λ k h. inline_append (codes "unit ")
      (kind_text k ++ codes "\"") refl (inline_append (kind_text k) (codes "\"") (kind_inline k) refl);
}

signed_reads : IsReader signed_numeral IsNumber number_at
signed_reads = integer_reads (neg_ℤ (pos 9223372036854775808)) (pos 9223372036854775807)

abbrev Owed : Type 0
Owed = ℤ × (ℤ × ℤ)

abbrev pub owed_text : Owed → List ℕ
owed_text o = (codes " earned " ++ signed_numeral o.0)
    ++ ((codes " scheduled " ++ signed_numeral o.1.0) ++ (codes " payment " ++ signed_numeral o.1.1))

abbrev IsOwed : Owed → Type 0
IsOwed o = IsNumber o.0 × (IsNumber o.1.0 × IsNumber o.1.1)

money_reads : (word : List ℕ) → is_inline word ≡ true →
    IsReader (λ x. word ++ signed_numeral x) IsNumber (after word number_at)
money_reads word plain = after_reads signed_numeral IsNumber number_at word plain signed_reads

owed_reads : IsReader owed_text IsOwed owed_at
owed_reads =
    both_reads (λ x. codes " earned " ++ signed_numeral x) IsNumber (after (codes " earned ") number_at)
    (λ (y : ℤ × ℤ). (codes " scheduled " ++ signed_numeral y.0) ++ (codes " payment " ++ signed_numeral y.1))
    (λ (y : ℤ × ℤ). IsNumber y.0 × IsNumber y.1)
    (both (after (codes " scheduled ") number_at) (after (codes " payment ") number_at))
    (money_reads (codes " earned ") refl)
    (both_reads (λ x. codes " scheduled " ++ signed_numeral x) IsNumber (after (codes " scheduled ") number_at)
    (λ x. codes " payment " ++ signed_numeral x) IsNumber (after (codes " payment ") number_at)
    (money_reads (codes " scheduled ") refl) (money_reads (codes " payment ") refl) (λ y rest. refl)) (λ y rest. refl)

abbrev pub closed_text : List ℕ → List ℕ
closed_text name = flat_map escaped name ++ 34 ∷ []

abbrev pub title_text : Title → List ℕ
title_text t = opening_text t.0 ++ (closed_text t.1.0 ++ owed_text t.1.1)

abbrev IsTitle : ℕ → Title → Type 0
IsTitle least t = MayCome least t.0 × (IsUtf8 t.1.0 × IsOwed t.1.1)

name_owed_reads : IsReader (λ (y : List ℕ × Owed). closed_text y.0 ++ owed_text y.1)
    (λ (y : List ℕ × Owed). IsUtf8 y.0 × IsOwed y.1) (both name_at owed_at)
name_owed_reads = both_reads closed_text IsUtf8 name_at owed_text IsOwed owed_at name_reads owed_reads (λ y rest. refl)

title_reads : (least : ℕ) → IsReader title_text (IsTitle least) (both (opening_at least) (both name_at owed_at))
title_reads least =
    both_behind opening_text (MayCome least) (opening_at least)
    (λ (y : List ℕ × Owed). closed_text y.0 ++ owed_text y.1) (λ (y : List ℕ × Owed). IsUtf8 y.0 × IsOwed y.1)
    (both name_at owed_at)
    (opening_reads least) name_owed_reads (λ k rest h. opening_again least k rest h)

abbrev pub title_line_text : Title → List ℕ
title_line_text t = title_text t ++ 10 ∷ []

number_zero : IsNumber (pos 0)
number_zero = record { at_least = search rules; at_most = search rules }

no_text : IsUtf8 []
no_text = ([], (refl, refl))

zero_title : Kind → Title
zero_title k = (k, ([], (pos 0, (pos 0, pos 0))))

zero_title_fits : (least : ℕ) (k : Kind) → MayCome least k → IsTitle least (zero_title k)
unfolding zero_title
zero_title_fits least k h = (h, (no_text, (number_zero, (number_zero, number_zero))))

bid_may_come : (least : ℕ) → least ≤ 2 → MayCome least kinds.Bid
bid_may_come least h = record { in_order = h; told = omega arith }

title_form : (least : ℕ) → least ≤ 2 → Form title_line_text (IsTitle least) (line (title_line least))
title_form least h =
    line_form title_line_text (IsTitle least) (title_line least) (zero_title kinds.Bid)
    (zero_title_fits least kinds.Bid (bid_may_come least h))
    (reads_to_end title_text (IsTitle least) (both (opening_at least) (both name_at owed_at)) (title_reads least))

-- ---- responses

-- a response of a unit of that kind
abbrev pub response_text : Kind → Schedule → List ℕ
response_text kinds.Thermal s = word_text (codes "on") flag_bytes
    s.on ++ (word_text (codes "power") spaced_counts s.power ++ word_text (codes "reserve") spaced_counts s.reserve)
response_text kinds.Renewable s = word_text (codes "power") spaced_counts s.power
response_text kinds.Bid s = word_text (codes "power") spaced_counts s.power
response_text kinds.Case s = word_text (codes "power") spaced_counts s.power

pub record IsThermalResponse (periods : ℕ) (s : Schedule) : Type 0 where
  pub on : length s.on ≡ periods
  pub power : IsList IsCount periods s.power
  pub reserve : IsList IsCount periods s.reserve

pub record IsOtherResponse (periods : ℕ) (s : Schedule) : Type 0 where
  pub on : s.on ≡ replicate (length s.power) true
  pub reserve : s.reserve ≡ replicate (length s.power) 0
  pub power : IsList IsCount periods s.power

abbrev pub IsResponse : ℕ → Kind → Schedule → Type 0
IsResponse periods kinds.Thermal s = IsThermalResponse periods s
IsResponse periods kinds.Renewable s = IsOtherResponse periods s
IsResponse periods kinds.Bid s = IsOtherResponse periods s
IsResponse periods kinds.Case s = IsOtherResponse periods s

abbrev ThermalParts : Type 0
ThermalParts = List Bool × (List ℕ × List ℕ)

abbrev thermal_parts_text : ThermalParts → List ℕ
thermal_parts_text x = word_text (codes "on") flag_bytes
    x.0 ++ (word_text (codes "power") spaced_counts x.1.0 ++ word_text (codes "reserve") spaced_counts x.1.1)

all_flags : (bs : List Bool) → AllByRecursion Anything bs
all_flags [] = tt
all_flags (b ∷ bs) = (tt, all_flags bs)

thermal_form : (periods : ℕ) → Form (response_text kinds.Thermal) (IsThermalResponse periods) (thermal_at periods)
unfolding thermal_at
thermal_form periods =
    let numbers = same_items IsCount periods 0 (omega arith) in
    let zeros = replicate periods 0 in
    let f1 = pair_form _ _ _ _ _ _ zeros numbers (powers_form (codes "power") periods refl)
    (powers_form (codes "reserve") periods refl) in
    let lines = pair_form _ _ _ _ _ _ (zeros, zeros) (numbers, numbers) (flags_form (codes "on") periods refl) f1 in
    making_form thermal_parts_text (λ (x : ThermalParts). IsList Anything periods x.0 ×
    (IsList IsCount periods x.1.0 × IsList IsCount periods x.1.1)) _ (response_text kinds.Thermal)
    (IsThermalResponse periods) made_response lines (record {
      fits = λ x h. record { on = h.0.length_is; power = h.1.0; reserve = h.1.1 };
      same = λ x h. refl;
      back = λ s. (s.on, (s.power, s.reserve));
      back_fits = λ s h. (record { length_is = h.on; items = all_flags s.on }, (h.power, h.reserve));
      back_is = λ s h. refl;
    })

other_form : (periods : ℕ) → Form (response_text kinds.Bid) (IsOtherResponse periods) (other_at periods)
unfolding other_at
other_form periods =
    making_form (word_text (codes "power") spaced_counts) (IsList IsCount periods) _ (response_text kinds.Bid)
    (IsOtherResponse periods) always_on (powers_form (codes "power") periods refl) (record {
      fits = λ x h. record { on = refl; reserve = refl; power = h };
      same = λ x h. refl;
      back = λ s. s.power;
      back_fits = λ s h. h.power;
      back_is = λ s h i. record { on = sym h.on i; power = s.power; reserve = sym h.reserve i };
    })

response_form : (periods : ℕ) (k : Kind) → Form (response_text k) (IsResponse periods k) (response_at periods k)
response_form periods kinds.Thermal = thermal_form periods
response_form periods kinds.Renewable = other_form periods
response_form periods kinds.Bid = other_form periods
response_form periods kinds.Case = other_form periods

zero_other : (periods : ℕ) → IsOtherResponse periods (always_on (replicate periods 0))
zero_other periods = record { on = refl; reserve = refl; power = same_items IsCount periods 0 (omega arith) }

some_response : (periods : ℕ) (k : Kind) → (s : Schedule) × IsResponse periods k s
some_response periods kinds.Thermal = (
  record { on = replicate periods true; power = replicate periods 0; reserve = replicate periods 0 },
  record {
    on = length-replicate periods true;
    power = same_items IsCount periods 0 (omega arith);
    reserve =
        same_items IsCount periods 0 (omega arith);
  },
)
some_response periods kinds.Renewable = (always_on (replicate periods 0), zero_other periods)
some_response periods kinds.Bid = (always_on (replicate periods 0), zero_other periods)
some_response periods kinds.Case = (always_on (replicate periods 0), zero_other periods)

-- ---- units

-- the lines of a unit or bid
abbrev pub told_text : Told → List ℕ
told_text t = title_line_text
    (t.kind, (t.line.name, (t.line.earned, (t.line.scheduled, t.line.payment)))) ++ response_text t.kind t.line.response

pub record IsUnit (periods least : ℕ) (t : Told) : Type 0 where
  pub kind : MayCome least t.kind
  pub told : IsTold t.line
  pub response : IsResponse periods t.kind t.line.response

unit_form : (periods least : ℕ) → least ≤ 2 → Form told_text (IsUnit periods least) (unit_at periods least)
unfolding unit_at
unit_form periods least h =
    let lines = then_form title_line_text (IsTitle least) (line (title_line least)) (λ t s. response_text t.0 s)
    (λ t s. IsResponse periods t.0 s) (λ t. response_at periods t.0)
    (title_form least h) (λ t fits. response_form periods t.0) (λ t fits. some_response periods t.0) in
    making_form (λ (z : Title × Schedule). title_line_text z.0 ++ response_text z.0.0 z.1)
    (λ (z : Title × Schedule). IsTitle least z.0 × IsResponse periods z.0.0 z.1) _ told_text (IsUnit periods least)
    made_unit lines (record {
      fits = λ x h. record {
        kind = h.0.0;
        told =
            record { name = h.0.1.0; earned = h.0.1.1.0; scheduled = h.0.1.1.1.0; payment = h.0.1.1.1.1 };
        response =
            h.1;
      };
      same = λ x h. refl;
      back = λ t. ((t.kind, (t.line.name, (t.line.earned, (t.line.scheduled, t.line.payment)))), t.line.response);
      back_fits = λ t h. ((h.kind, (h.told.name, (h.told.earned, (h.told.scheduled, h.told.payment)))), h.response);
      back_is = λ t h. refl;
    })

-- units with their kinds in order
abbrev pub AreUnits : ℕ → ℕ → List Told → Type 0
AreUnits periods least [] = Unit {0}
AreUnits periods least (t ∷ ts) = IsUnit periods least t × AreUnits periods (rank t.kind) ts

pub record AreSomeUnits (periods least count : ℕ) (ts : List Told) : Type 0 where
  pub length_is : length ts ≡ count
  pub units : AreUnits periods least ts

abbrev pub told_texts : List Told → List ℕ
told_texts = flat_map told_text

pub zero_unit : ℕ → Told
zero_unit periods = record {
  kind = kinds.Bid;
  line = record {
    name = [];
    earned = pos 0;
    scheduled = pos 0;
    payment = pos 0;
    response =
        always_on (replicate periods 0);
  };
}

zero_unit_fits : (periods least : ℕ) → least ≤ 2 → IsUnit periods least (zero_unit periods)
unfolding zero_unit
zero_unit_fits periods least h = record {
  kind = bid_may_come least h;
  told = record { name = no_text; earned = number_zero; scheduled = number_zero; payment = number_zero };
  response = zero_other periods;
}

zero_units_are : (periods least count : ℕ) → least ≤ 2 → AreUnits periods least (replicate count (zero_unit periods))
unfolding zero_unit
zero_units_are periods least zero h = tt
zero_units_are periods least (suc count) h =
    (zero_unit_fits periods least h, zero_units_are periods 2 count (omega arith))

pub zero_units : (periods least count : ℕ) → least ≤ 2 →
    AreSomeUnits periods least count (replicate count (zero_unit periods))
zero_units periods least count h =
    record { length_is = length-replicate count (zero_unit periods); units = zero_units_are periods least count h }

no_units : (periods least : ℕ) → Form told_texts (AreSomeUnits periods least 0) (units_at periods least 0)
unfolding units_at
no_units periods least =
    no_lines told_texts (AreSomeUnits periods least 0) (units_at periods least 0) refl
    (record { length_is = refl; units = tt }) (λ xs h. nil_from_length xs h.length_is) (λ bytes. refl)

first_fits : (periods least count : ℕ) (ts : List Told) → AreSomeUnits periods least (suc count) ts →
    IsUnit periods least (first_or (zero_unit periods) ts).0
first_fits periods least count [] h = absurd (let e = h.length_is in omega arith)
first_fits periods least count (t ∷ ts) h = h.units.0

others_fit : (periods least count : ℕ) (ts : List Told) → AreSomeUnits periods least (suc count) ts →
    AreSomeUnits periods (rank (first_or (zero_unit periods) ts).0.kind) count (first_or (zero_unit periods) ts).1
others_fit periods least count [] h = absurd (let e = h.length_is in omega arith)
others_fit periods least count (t ∷ ts) h =
    record { length_is = (let e = h.length_is in omega arith); units = h.units.1 }

pub units_form : (periods least count : ℕ) → least ≤ 2 →
    Form told_texts (AreSomeUnits periods least count) (units_at periods least count)
unfolding units_at
units_form periods least zero h = no_units periods least
units_form periods least (suc count) h =
    let lines = then_form told_text (IsUnit periods least) (unit_at periods least) (λ u ts. told_texts ts)
    (λ u ts. AreSomeUnits periods (rank u.kind) count ts) (λ u. units_at periods (rank u.kind) count)
    (unit_form periods least h) (λ u fits. units_form periods (rank u.kind) count fits.kind.told)
    (λ u fits. (replicate count (zero_unit periods), zero_units periods (rank u.kind) count fits.kind.told)) in
    making_form (λ (z : Told × List Told). told_text z.0 ++ told_texts z.1)
    (λ (z : Told × List Told). IsUnit periods least z.0 × AreSomeUnits periods (rank z.0.kind) count z.1)
    (then_lines (unit_at periods least) (λ u. units_at periods (rank u.kind) count)) told_texts
    (AreSomeUnits periods least (suc count)) joined lines (record {
      fits = λ x h. record { length_is = ap suc h.1.length_is; units = (h.0, h.1.units) };
      same = λ x h. refl;
      back = first_or (zero_unit periods);
      back_fits = λ ts h. (first_fits periods least count ts h, others_fit periods least count ts h);
      back_is = λ ts h. first_is (zero_unit periods) count ts h.length_is;
    })

-- ---- the same lines as they are written

regrouped : (a b c d e f g h n rest : List ℕ)
    → a ++ (b ++ (c ++ (d ++ (e ++ (f ++ (g ++ (h ++ (n ++ rest))))))))
    ≡ ((a ++ (b ++ ((c ++ d) ++ ((e ++ f) ++ (g ++ h))))) ++ n) ++ rest
regrouped a b c d e f g h n rest = simp append_assoc

abbrev line_told : Kind → UnitLine → Told
line_told k l = record { kind = k; line = l }

abbrev title_of : Kind → UnitLine → Title
title_of k l = (k, (l.name, (l.earned, (l.scheduled, l.payment))))

-- the first line of a unit before others
title_step : (k : Kind) (l : UnitLine) (rest : List ℕ)
    → opening_text
    k ++ (closed_text
    l.name ++ (codes " earned " ++ (signed_numeral
    l.earned ++ (codes " scheduled " ++ (signed_numeral
    l.scheduled ++ (codes " payment " ++ (signed_numeral l.payment ++ 10 ∷ rest)))))))
    ≡ title_line_text (title_of k l) ++ rest
title_step k l rest =
    regrouped (opening_text k) (closed_text l.name) (codes " earned ") (signed_numeral l.earned) (codes " scheduled ")
    (signed_numeral l.scheduled) (codes " payment ") (signed_numeral l.payment) (10 ∷ []) rest

pub thermal_told : (l : UnitLine) → told_text (line_told kinds.Thermal l) ≡ thermal_text l
unfolding thermal_text
thermal_told l =
    let last : codes "reserve" ++ (spaced_counts l.response.reserve ++ 10 ∷ []) ≡ word_text (codes "reserve")
    spaced_counts l.response.reserve = refl in
    let lists = line_step (codes "on") (spaced_flags l.response.on)
    (line_step (codes "power") (spaced_counts l.response.power) last) in
    let flags : word_text (codes "on") flag_bytes
    l.response.on ≡ (codes "on" ++ spaced_flags l.response.on) ++ 10 ∷ [] =
    ap (λ (z : List ℕ). (codes "on" ++ z) ++ 10 ∷ []) (flags_written l.response.on) in
    ap (λ (z : List ℕ). title_line_text
    (title_of kinds.Thermal l)
    ++ (z ++ (word_text (codes "power") spaced_counts l.response.power ++ word_text (codes "reserve") spaced_counts
    l.response.reserve))) flags
    ∙ ap (λ (z : List ℕ). title_line_text (title_of kinds.Thermal l) ++ z) (sym lists)
    ∙ sym (title_step kinds.Thermal l
    (codes "on" ++ (spaced_flags
    l.response.on ++ 10 ∷ (codes "power" ++ (spaced_counts
    l.response.power ++ 10 ∷ (codes "reserve" ++ (spaced_counts l.response.reserve ++ 10 ∷ [])))))))

pub renewable_told : (l : UnitLine) → told_text (line_told kinds.Renewable l) ≡ renewable_text l
unfolding flat_text
renewable_told l = sym (title_step kinds.Renewable l (codes "power" ++ (spaced_counts l.response.power ++ 10 ∷ [])))

pub bid_told : (l : UnitLine) → told_text (line_told kinds.Bid l) ≡ bid_text l
unfolding flat_text
bid_told l = sym (title_step kinds.Bid l (codes "power" ++ (spaced_counts l.response.power ++ 10 ∷ [])))
