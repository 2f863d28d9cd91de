-- The forms of a report's lines, each read to its end.
use Rattle.std.specs.Prelude.{ℕ, nat_le, if◌then◌else◌, ℤ, pos, neg_ℤ}
use Rattle.std.specs.Prelude.{List, [], ◌∷◌, codes, Some, None}
use Rattle.uc_model.specs.declared.kinds.Kind.{Kind}
use Rattle.report_read.specs.declared.units.Title.{Title as KeptTitle}
use Rattle.report_read.specs.Plain.{rank}
use Rattle.report_read.specs.Words.{◌>>=◌, Found, behind, count_at, integer_at, name_at, kind_at}

-- a number of 64 or of 128 bits
abbrev pub number_at : List ℕ → Found ℤ
number_at = integer_at (neg_ℤ (pos 9223372036854775808)) (pos 9223372036854775807)

abbrev pub amount_at : List ℕ → Found ℤ
amount_at =
    integer_at (neg_ℤ (pos 170141183460469231731687303715884105728))
    (pos 170141183460469231731687303715884105727)

-- a value behind a word
unfoldable pub after : {A : Type 0} → List ℕ → (List ℕ → Found A) → List ℕ → Found A
after word read bytes = do
  rest ← behind word bytes
  read rest

-- a word alone
unfoldable pub just : List ℕ → List ℕ → Found (Unit {0})
just word bytes = do
  rest ← behind word bytes
  Some (tt, rest)

-- one value and then another
unfoldable pub both : {A B : Type 0} → (List ℕ → Found A) → (List ℕ → Found B) → List ℕ →
    Found (A × B)
both first second bytes = do
  x ← first bytes
  y ← second x.1
  Some ((x.0, y.0), y.1)

-- a value, and the end of the line
unfoldable pub ended : {A : Type 0} → (List ℕ → Found A) → List ℕ → Found A
ended read bytes = do
  x ← read bytes
  rest ← behind (10 ∷ []) x.1
  Some (x.0, rest)

abbrev pub word_line : {A : Type 0} → List ℕ → (List ℕ → Found A) → List ℕ → Found A
word_line word read = ended (after word read)

abbrev pub plain_line : List ℕ → List ℕ → Found (Unit {0})
plain_line word = ended (just word)

-- which proposal, and its dual value
abbrev pub value_line : List ℕ → (least most : ℕ) → List ℕ → Found (ℕ × ℤ)
value_line word least most =
    word_line word (both (count_at least most) (after (codes " value ") amount_at))

-- what a unit or bid earns at best and in the plan, and what it is owed
abbrev pub owed_at : List ℕ → Found (ℤ × (ℤ × ℤ))
owed_at =
    both (after (codes " earned ") number_at)
    (both (after (codes " scheduled ") number_at) (after (codes " payment ") number_at))

-- a kind of at least that rank
abbrev pub in_order : ℕ → Kind × List ℕ → Found Kind
in_order least kind = if nat_le least (rank kind.0) then Some kind else None

-- a unit's kind, to the opening quote of the name
unfoldable pub opening_at : ℕ → List ℕ → Found Kind
opening_at least bytes = do
  found ← after (codes "unit ") kind_at bytes
  kind ← in_order least found
  rest ← behind (codes "\"") kind.1
  Some (kind.0, rest)

-- a unit's kind, its name and its money
abbrev pub Title : Type 0
Title = Kind × (List ℕ × (ℤ × (ℤ × ℤ)))

abbrev pub titled : KeptTitle → Title
titled t = (t.kind, (t.name.items, (t.owed.earned, (t.owed.scheduled, t.owed.payment))))

abbrev pub title_line : ℕ → List ℕ → Found Title
title_line least = ended (both (opening_at least) (both name_at owed_at))
