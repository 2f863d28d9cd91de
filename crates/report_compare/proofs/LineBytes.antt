-- Each line of a report is a line of its text: its one line feed ends it.
use Rattle.report_compare.proofs.Common.{◌≡◌, ℕ, zero, suc, ◌+◌, ◌-◌, ◌/◌, ◌%◌, ◌<◌, ◌≤◌, ℤ, pos, negsuc, Bool, true}
use Rattle.report_compare.proofs.Common.{false, cond, not, ◌&&◌, inl, inr, nat_lt, List, [], ◌∷◌, ◌++◌, length, refl}
use Rattle.report_compare.proofs.Common.{sym, ap, subst, arith, codes, append_assoc, ◌==◌, nat_le, AllByRecursion}
use Rattle.report_compare.proofs.Common.{flat_map, list_all, eqb_tells, nat_tests, Kind, Schedule, Proposal}
use Rattle.report_compare.proofs.Common.{digits_up_to, numeral, signed_numeral, spaced, spaced_counts, spaced_flags}
use Rattle.report_compare.proofs.Common.{flag_text, quoted, closed, escaped, hex_of, stands_as_is, UnitLine, Report}
use Rattle.report_compare.proofs.Common.{chosen_text, IsLine, line, row_lines, rows_lines, kind_word, title_line}
use Rattle.report_compare.proofs.Common.{response_lines, unit_lines, head_lines, foot_lines, report_lines}
use Rattle.std.proofs.lemmas.Bool.{cases_lt}
use Rattle.uc_model.specs.declared.kinds.Kind.TheVariants as kinds

abbrev Other : ℕ → Type 0
Other b = b ≡ 10 → ⊥

abbrev pub Unbroken : List ℕ → Type 0
Unbroken xs = AllByRecursion Other xs

above : (b : ℕ) → 32 ≤ b → Other b
above b h = λ e. omega (arith, h, e)

tested : (xs : List ℕ) → list_all (λ b. not (b == 10)) xs ≡ true → Unbroken xs
tested [] e = tt
tested (x ∷ xs) e =
    elim (eqb_tells x 10) [
      | inl same ↦
          absurd (
          let no : (not true && list_all (λ b. not (b == 10)) xs) ≡ true =
          subst (λ (z : Bool). (not z && list_all (λ b. not (b == 10)) xs) ≡ true) same.0 e in
          let n : false ≡ true = no in cc)
      | inr other ↦
          (other.1, tested xs (subst (λ (z : Bool). (not z && list_all (λ b. not (b == 10)) xs) ≡ true) other.0 e))
    ]

pub both : (xs ys : List ℕ) → Unbroken xs → Unbroken ys → Unbroken (xs ++ ys)
both [] ys h k = k
both (x ∷ xs) ys h k = (h.0, both xs ys h.1 k)

pub each : {X : Type 0} (f : X → List ℕ) → ((x : X) → Unbroken (f x)) → (xs : List X) → Unbroken (flat_map f xs)
each f h [] = tt
each f h (x ∷ xs) = both (f x) (flat_map f xs) (h x) (each f h xs)

-- ---- numbers

low : (n : ℕ) → n < 10 → nat_lt n 10 ≡ true
low n h = grind (arith, nat_tests)

high : (n : ℕ) → 10 ≤ n → nat_lt n 10 ≡ false
high n h = grind (arith, nat_tests)

digits : (most n : ℕ) → Unbroken (digits_up_to most n)
digits zero n = tt
digits (suc most) n =
    elim (cases_lt n 10) [
      | inl less ↦
          subst (λ (b : Bool). Unbroken (cond b ((48 + n) ∷ []) (digits_up_to most (n / 10) ++ (48 + n % 10) ∷ [])))
          (sym (low n less)) (above (48 + n) (omega arith), tt)
      | inr more ↦
          subst (λ (b : Bool). Unbroken (cond b ((48 + n) ∷ []) (digits_up_to most (n / 10) ++ (48 + n % 10) ∷ [])))
          (sym (high n more)) (both (digits_up_to most (n / 10)) ((48 + n % 10) ∷ []) (digits most (n / 10))
          (above (48 + n % 10) (omega arith), tt))
    ]

pub count_bytes : (n : ℕ) → Unbroken (numeral n)
unfolding numeral
count_bytes n = digits (suc n) n

pub amount_bytes : (x : ℤ) → Unbroken (signed_numeral x)
amount_bytes (pos n) = count_bytes n
amount_bytes (negsuc n) = (above 45 (omega arith), count_bytes (suc n))

pub amounts_bytes : (xs : List ℤ) → Unbroken (spaced xs)
amounts_bytes xs = each (λ (x : ℤ). 32 ∷ signed_numeral x) (λ x. (above 32 (omega arith), amount_bytes x)) xs

pub counts_bytes : (ns : List ℕ) → Unbroken (spaced_counts ns)
counts_bytes ns = each (λ (n : ℕ). 32 ∷ numeral n) (λ n. (above 32 (omega arith), count_bytes n)) ns

flag_bytes : (b : Bool) → Unbroken (flag_text b)
flag_bytes true = tested (codes " 1") refl
flag_bytes false = tested (codes " 0") refl

pub flags_bytes : (bs : List Bool) → Unbroken (spaced_flags bs)
flags_bytes bs = each flag_text flag_bytes bs

-- ---- names

hex_bytes : (k : ℕ) → Other (hex_of k)
hex_bytes k =
    elim (cases_lt k 10) [
      | inl less ↦ subst (λ (b : Bool). Other (cond b (48 + k) (97 + (k - 10)))) (sym (low k less))
          (above (48 + k) (omega arith))
      | inr more ↦ subst (λ (b : Bool). Other (cond b (48 + k) (97 + (k - 10)))) (sym (high k more))
          (above (97 + (k - 10)) (omega arith))
    ]

control : (n : ℕ) → n < 32 → (nat_lt n 32 ≡ true) × (nat_le 32 n ≡ false)
control n h = (grind (arith, nat_tests), grind (arith, nat_tests))

printed : (n : ℕ) → 32 ≤ n → nat_lt n 32 ≡ false
printed n h = grind (arith, nat_tests)

as_is : (plain : Bool) (n : ℕ) → 32 ≤ n → Unbroken (cond plain (n ∷ []) (92 ∷ n ∷ []))
as_is true n h = (above n h, tt)
as_is false n h = (above 92 (omega arith), (above n h, tt))

abbrev escape_of : Bool → Bool → ℕ → List ℕ
escape_of plain low n =
    cond plain (n ∷ []) (cond low (codes "\\u00" ++ hex_of (n / 16) ∷ hex_of (n % 16) ∷ []) (92 ∷ n ∷ []))

escape_bytes : (n : ℕ) → Unbroken (escaped n)
unfolding escaped
escape_bytes n =
    elim (cases_lt n 32) [
      | inl less ↦ (
          let c = control n less in
          let plain : stands_as_is n ≡ false = ap (λ (b : Bool). b && (not (n == 34) && not (n == 92))) c.1 in
          subst (λ (b : Bool). Unbroken (escape_of b (nat_lt n 32) n)) (sym plain)
          (subst (λ (b : Bool). Unbroken (escape_of false b n)) (sym c.0)
          (both (codes "\\u00") (hex_of (n / 16) ∷ hex_of (n % 16) ∷ []) (tested (codes "\\u00") refl)
          (hex_bytes (n / 16), (hex_bytes (n % 16), tt)))))
      | inr more ↦ subst (λ (b : Bool). Unbroken (escape_of (stands_as_is n) b n)) (sym (printed n more))
          (as_is (stands_as_is n) n more)
    ]

pub name_bytes : (name : List ℕ) → Unbroken (quoted name)
name_bytes name = both (codes "\"") (closed name) (tested (codes "\"") refl)
    (both (flat_map escaped name) (codes "\"") (each escaped escape_bytes name) (tested (codes "\"") refl))

-- ---- lines

abbrev pub AreAllLines : List (List ℕ) → Type 0
AreAllLines xs = AllByRecursion IsLine xs

pub is_line : (word told : List ℕ) → list_all (λ b. not (b == 10)) word ≡ true → Unbroken told → IsLine (line word told)
is_line word told e h = record {
  inside = word ++ told;
  unbroken = both word told (tested word e) h;
  ends = sym (append_assoc word told (10 ∷ []));
}

pub lines_behind : (xs ys : List (List ℕ)) → AreAllLines xs → AreAllLines ys → AreAllLines (xs ++ ys)
lines_behind [] ys h k = k
lines_behind (x ∷ xs) ys h k = (h.0, lines_behind xs ys h.1 k)

lines_each : {X : Type 0} (f : X → List (List ℕ)) → ((x : X) → AreAllLines (f x)) → (xs : List X) →
    AreAllLines (flat_map f xs)
lines_each f h [] = tt
lines_each f h (x ∷ xs) = lines_behind (f x) (flat_map f xs) (h x) (lines_each f h xs)

pub rows_are_lines : (n : ℕ) (rs : List Proposal) → AreAllLines (rows_lines n rs)
rows_are_lines n [] = tt
rows_are_lines n (r ∷ rs) =
    let word = both (codes "proposal ") (numeral n ++ codes " value ") (tested (codes "proposal ") refl)
    (both (numeral n) (codes " value ") (count_bytes n) (tested (codes " value ") refl)) in
    let first : IsLine (line (codes "proposal " ++ (numeral n ++ codes " value ")) (signed_numeral r.value)) = record {
      inside = (codes "proposal " ++ (numeral n ++ codes " value ")) ++ signed_numeral r.value;
      unbroken = both (codes "proposal " ++ (numeral n ++ codes " value ")) (signed_numeral r.value) word
          (amount_bytes r.value);
      ends = sym (append_assoc (codes "proposal " ++ (numeral n ++ codes " value ")) (signed_numeral r.value)
          (10 ∷ []));
    } in
    lines_behind (row_lines n r) (rows_lines (suc n) rs) (
      first,
      (
        is_line (codes "energy") (spaced r.prices.energy) refl (amounts_bytes r.prices.energy),
        (
          is_line (codes "reserve") (spaced r.prices.reserve) refl (amounts_bytes r.prices.reserve),
          (
            is_line (codes "supplied") (spaced r.supply) refl (amounts_bytes r.supply),
            (is_line (codes "reserved") (spaced r.reserve) refl (amounts_bytes r.reserve), tt),
          ),
        ),
      ),
    )
    (rows_are_lines (suc n) rs)

pub chosen_is_line : (n : ℕ) (x : ℤ) → IsLine (chosen_text n x)
unfolding chosen_text
chosen_is_line n x = record {
  inside = codes "chosen " ++ (numeral n ++ (codes " value " ++ signed_numeral x));
  unbroken = both (codes "chosen ") (numeral n ++ (codes " value " ++ signed_numeral x)) (tested (codes "chosen ") refl)
      (both (numeral n) (codes " value " ++ signed_numeral x) (count_bytes n)
      (both (codes " value ") (signed_numeral x) (tested (codes " value ") refl) (amount_bytes x)));
  ends = simp append_assoc refl;
}

kind_bytes : (k : Kind) → Unbroken (kind_word k)
kind_bytes kinds.Case = tt
kind_bytes kinds.Thermal = tested (codes "unit thermal ") refl
kind_bytes kinds.Renewable = tested (codes "unit renewable ") refl
kind_bytes kinds.Bid = tested (codes "unit bid ") refl

title_is_line : (k : Kind) (name : List ℕ) (e s p : ℤ) → IsLine (title_line (kind_word k) name e s p)
title_is_line k name e s p =
    let money =
    codes " earned " ++ (signed_numeral
    e ++ (codes " scheduled " ++ (signed_numeral s ++ (codes " payment " ++ signed_numeral p)))) in
    let paid = both (codes " payment ") (signed_numeral p) (tested (codes " payment ") refl) (amount_bytes p) in
    let planned = both (codes " scheduled ") (signed_numeral s ++ (codes " payment " ++ signed_numeral p))
    (tested (codes " scheduled ") refl)
    (both (signed_numeral s) (codes " payment " ++ signed_numeral p) (amount_bytes s) paid) in
    let all = both (codes " earned ")
    (signed_numeral e ++ (codes " scheduled " ++ (signed_numeral s ++ (codes " payment " ++ signed_numeral p))))
    (tested (codes " earned ") refl)
    (both (signed_numeral e)
    (codes " scheduled " ++ (signed_numeral s ++ (codes " payment " ++ signed_numeral p))) (amount_bytes e)
    planned) in
    record {
      inside = kind_word k ++ (quoted name ++ money);
      unbroken = both (kind_word k) (quoted name ++ money) (kind_bytes k)
          (both (quoted name) money (name_bytes name) all);
      ends = simp append_assoc refl;
    }

power_is_line : (s : Schedule) → IsLine (line (codes "power") (spaced_counts s.power))
power_is_line s = is_line (codes "power") (spaced_counts s.power) refl (counts_bytes s.power)

response_are_lines : (k : Kind) (s : Schedule) → AreAllLines (response_lines k s)
response_are_lines kinds.Case s = tt
response_are_lines kinds.Thermal s = (
  is_line (codes "on") (spaced_flags s.on) refl (flags_bytes s.on),
  (power_is_line s, (is_line (codes "reserve") (spaced_counts s.reserve) refl (counts_bytes s.reserve), tt)),
)
response_are_lines kinds.Renewable s = (power_is_line s, tt)
response_are_lines kinds.Bid s = (power_is_line s, tt)

unit_are_lines : (k : Kind) (u : UnitLine) → AreAllLines (unit_lines k u)
unit_are_lines k u = (title_is_line k u.name u.earned u.scheduled u.payment, response_are_lines k u.response)

pub report_are_lines : (r : Report) → AreAllLines (report_lines r)
report_are_lines r =
    let head : AreAllLines (head_lines r) = (
      record { inside = codes "hull-report 1"; unbroken = tested (codes "hull-report 1") refl; ends = refl },
      (
        is_line (codes "periods ") (numeral r.periods) refl (count_bytes r.periods),
        (
          is_line (codes "units ") (numeral r.units) refl (count_bytes r.units),
          (
            is_line (codes "budget ") (numeral r.budget) refl (count_bytes r.budget),
            (
              is_line (codes "ahead ") (numeral r.ahead) refl (count_bytes r.ahead),
              (
                is_line (codes "cost ") (signed_numeral r.cost) refl (amount_bytes r.cost),
                (
                  is_line (codes "proposals ") (numeral (length r.rows)) refl (count_bytes (length r.rows)),
                  tt,
                ),
              ),
            ),
          ),
        ),
      ),
    ) in
    let foot : AreAllLines (foot_lines r.surplus r.payments r.gap) = (
      is_line (codes "surplus ") (signed_numeral r.surplus) refl (amount_bytes r.surplus),
      (
        is_line (codes "payments ") (signed_numeral r.payments) refl (amount_bytes r.payments),
        (
          is_line (codes "gap ") (signed_numeral r.gap) refl (amount_bytes r.gap),
          (
            record { inside = codes "end"; unbroken = tested (codes "end") refl; ends = refl },
            tt,
          ),
        ),
      ),
    ) in
    let kind =
    λ (k : Kind).
    let all : (us : List UnitLine) → AreAllLines (flat_map (unit_lines k) us) =
    lines_each (unit_lines k) (unit_are_lines k) in
    all in
    lines_behind (head_lines r) _ head (lines_behind (rows_lines 1 r.rows) _ (rows_are_lines 1 r.rows) (
      chosen_is_line r.chosen r.value,
      lines_behind _ _ (kind kinds.Thermal r.thermal)
          (lines_behind _ _ (kind kinds.Renewable r.renewable) (lines_behind _ _ (kind kinds.Bid r.bids) foot)),
    ))
