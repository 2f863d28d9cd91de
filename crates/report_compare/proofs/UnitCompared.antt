-- The lines of a unit, and those of all units one after another.
use Rattle.report_compare.proofs.Common.{◌≡◌, ℕ, suc, ◌+◌, ◌≤◌, Bool, ◌⊎◌, inl, inr, codes, Result, Ok, Err, Some, List}
use Rattle.report_compare.proofs.Common.{[], ◌∷◌, drop, length, refl, sym, ap, subst, arith, ℤ, slice_get}
use Rattle.report_compare.proofs.Common.{slice_index_or, flat_map, Decides, Kind, Schedule, Proposal, Told, Differ}
use Rattle.report_compare.proofs.Common.{Compares, wrong_from, kind_word, response_lines, unit_lines, told_lines}
use Rattle.report_compare.proofs.Common.{row_lines, rows_lines, Title, Answers, idle, line_at, told_from, WrongLine}
use Rattle.uc_model.specs.declared.kinds.Kind.TheVariants as kinds
use Rattle.plain_lists.specs.Sums.{int_at}
use Rattle.report_compare.proofs.Comparing.{behind, stops, judged_compare}
use Rattle.report_compare.proofs.Judging.{kind_told, flags_judged, counts_judged}
use Rattle.report_compare.proofs.OneLine.{Titled, title_text, title_told}
use Rattle.report_compare.proofs.UnitLaws.{drop_item, drop_all}

-- ---- one unit

pub titles_differ : (k l : Kind) (t u : Titled) → ((k ≡ l) → (t ≡ u) → ⊥) →
    Differ (title_text (kind_word k) t) (title_text (kind_word l) u)
titles_differ k l t u apart = λ law e.
    let kind = kind_told k l t u e in
    apart kind (title_told law (kind_word l) t u
    (subst (λ (z : Kind). title_text (kind_word z) t ≡ title_text (kind_word l) u) kind e))

pub unit_compared : (first : ℕ) (result : Result ℕ WrongLine) (k l : Kind) (t u : Titled) (s r : Schedule) → k ≡ l →
    t ≡ u
    → Compares (first + 1) result (response_lines l s) (response_lines l r)
    → Compares first result (title_text (kind_word k) t ∷ response_lines k s)
    (title_text (kind_word l) u ∷ response_lines l r)
unit_compared first result k l t u s r kind same h =
    let one : Compares first (Ok (first + 1)) (title_text (kind_word l) t ∷ []) (title_text (kind_word l) u ∷ []) =
    (ap (λ (z : Titled). title_text (kind_word l) z ∷ []) same, refl) in
    subst (λ (z : Kind). Compares first result (title_text (kind_word z) t ∷ response_lines z s)
    (title_text (kind_word l) u ∷ response_lines l r)) (sym kind)
    (behind first (first + 1) result (title_text (kind_word l) t ∷ []) (title_text (kind_word l) u ∷ [])
    (response_lines l s) (response_lines l r) one h)

-- ---- rows one after another

pub rows_step : (line next : ℕ) (result : Result ℕ WrongLine) (index : ℕ) (ps qs : List Proposal) (p q : Proposal) →
    slice_get ps index ≡ Some p → slice_get qs index ≡ Some q
    → Compares line (Ok next) (row_lines (suc index) p) (row_lines (suc index) q)
    → Compares next result (rows_lines (suc (index + 1)) (drop (index + 1) ps))
    (rows_lines (suc (index + 1)) (drop (index + 1) qs))
    → Compares line result (rows_lines (suc index) (drop index ps)) (rows_lines (suc index) (drop index qs))
rows_step line next result index ps qs p q e f here h =
    let n : suc (index + 1) ≡ suc (suc index) = omega arith in
    let rest = subst (λ (i : ℕ). Compares next result (rows_lines i (drop (index + 1) ps))
    (rows_lines i (drop (index + 1) qs))) n h in
    rw (drop_item ps index p e, drop_item qs index q f)
    (behind line next result (row_lines (suc index) p) (row_lines (suc index) q)
    (rows_lines (suc (suc index)) (drop (index + 1) ps)) (rows_lines (suc (suc index)) (drop (index + 1) qs)) here
    rest)

pub rows_stop : (line : ℕ) (wrong : WrongLine) (index : ℕ) (ps qs : List Proposal) (p q : Proposal) →
    slice_get ps index ≡ Some p → slice_get qs index ≡ Some q
    → Compares line (Err wrong) (row_lines (suc index) p) (row_lines (suc index) q)
    → Compares line (Err wrong) (rows_lines (suc index) (drop index ps)) (rows_lines (suc index) (drop index qs))
rows_stop line wrong index ps qs p q e f here =
    rw (drop_item ps index p e, drop_item qs index q f)
    (stops line wrong (row_lines (suc index) p) (row_lines (suc index) q)
    (rows_lines (suc (suc index)) (drop (index + 1) ps)) (rows_lines (suc (suc index)) (drop (index + 1) qs)) here)

-- ---- units one after another

abbrev pub right_told : Answers → ℕ → Title → Told
right_told a number t = record { kind = t.kind; line = line_at a number t.name }

pub units_step : (a : Answers) (line next : ℕ) (result : Result ℕ WrongLine) (number : ℕ) (ms : List Told)
    (ts : List Title) (m : Told) (t : Title)
    → slice_get ms number ≡ Some m → slice_get ts number ≡ Some t
    → Compares line (Ok next) (told_lines m) (told_lines (right_told a number t))
    → Compares next result (flat_map told_lines (drop (number + 1) ms))
    (flat_map told_lines (told_from a (number + 1) (drop (number + 1) ts)))
    → Compares line result (flat_map told_lines (drop number ms))
    (flat_map told_lines (told_from a number (drop number ts)))
units_step a line next result number ms ts m t e f here h =
    rw (drop_item ms number m e, drop_item ts number t f)
    (behind line next result (told_lines m) (told_lines (right_told a number t))
    (flat_map told_lines (drop (number + 1) ms))
    (flat_map told_lines (told_from a (number + 1) (drop (number + 1) ts))) here h)

pub units_stop : (a : Answers) (line : ℕ) (wrong : WrongLine) (number : ℕ) (ms : List Told) (ts : List Title) (m : Told)
    (t : Title)
    → slice_get ms number ≡ Some m → slice_get ts number ≡ Some t
    → Compares line (Err wrong) (told_lines m) (told_lines (right_told a number t))
    → Compares line (Err wrong) (flat_map told_lines (drop number ms))
    (flat_map told_lines (told_from a number (drop number ts)))
units_stop a line wrong number ms ts m t e f here =
    rw (drop_item ms number m e, drop_item ts number t f)
    (stops line wrong (told_lines m) (told_lines (right_told a number t)) (flat_map told_lines (drop (number + 1) ms))
    (flat_map told_lines (told_from a (number + 1) (drop (number + 1) ts))) here)

-- ---- a response

pub thermal_response : (first : ℕ) (k : Kind) (on power reserve : Bool) (s r : Schedule) → k ≡ kinds.Thermal →
    Decides on (s.on ≡ r.on) → Decides power (s.power ≡ r.power) → Decides reserve (s.reserve ≡ r.reserve)
    → Compares first (wrong_from first (on ∷ power ∷ reserve ∷ [])) (response_lines k s) (response_lines k r)
thermal_response first k on power reserve s r kind x y z =
    subst (λ (l : Kind). Compares first (wrong_from first (on ∷ power ∷ reserve ∷ [])) (response_lines l s)
    (response_lines l r)) (sym kind)
    (judged_compare first (on ∷ power ∷ reserve ∷ [])
    (response_lines kinds.Thermal s) (response_lines kinds.Thermal r) (
      flags_judged (codes "on") on s.on r.on x,
      (
        counts_judged (codes "power") power s.power r.power y,
        (counts_judged (codes "reserve") reserve s.reserve r.reserve z, tt),
      ),
    ))

pub other_response : (first : ℕ) (k : Kind) (power : Bool) (s r : Schedule) → (k ≡ kinds.Renewable) ⊎ (k ≡ kinds.Bid) →
    Decides power (s.power ≡ r.power)
    → Compares first (wrong_from first (power ∷ [])) (response_lines k s) (response_lines k r)
other_response first k power s r (inl kind) y =
    subst (λ (l : Kind). Compares first (wrong_from first (power ∷ [])) (response_lines l s) (response_lines l r))
    (sym kind)
    (judged_compare first (power ∷ []) (response_lines kinds.Renewable s) (response_lines kinds.Renewable r)
    (counts_judged (codes "power") power s.power r.power y, tt))
other_response first k power s r (inr kind) y =
    subst (λ (l : Kind). Compares first (wrong_from first (power ∷ [])) (response_lines l s) (response_lines l r))
    (sym kind)
    (judged_compare first (power ∷ []) (response_lines kinds.Bid s) (response_lines kinds.Bid r)
    (counts_judged (codes "power") power s.power r.power y, tt))

-- ---- where nothing is left

pub rows_end : (line index : ℕ) (ps qs : List Proposal) → length ps ≤ index → length qs ≤ index →
    Compares line (Ok line) (rows_lines (suc index) (drop index ps)) (rows_lines (suc index) (drop index qs))
rows_end line index ps qs h k = rw (drop_all ps index h, drop_all qs index k) (refl, omega arith)

pub units_end : (a : Answers) (line number : ℕ) (ms : List Told) (ts : List Title) → length ms ≤ number →
    length ts ≤ number
    → Compares line (Ok line) (flat_map told_lines (drop number ms))
    (flat_map told_lines (told_from a number (drop number ts)))
units_end a line number ms ts h k = rw (drop_all ms number h, drop_all ts number k) (refl, omega arith)

-- ---- what is due

pub due_lines : (a : Answers) (number : ℕ) (kind : Kind) (name : List ℕ) (e s p : ℤ) (r : Schedule) →
    e ≡ int_at a.earned number → s ≡ int_at a.scheduled number → p ≡ int_at a.payments number →
    r ≡ slice_index_or a.responses number idle
    → unit_lines kind (record { name = name; earned = e; scheduled = s; payment = p; response = r }) ≡ told_lines
    (right_told a number (record { kind = kind; name = name }))
due_lines a number kind name e s p r x y z w =
    λ i. unit_lines kind (record { name = name; earned = x i; scheduled = y i; payment = z i; response = w i })
