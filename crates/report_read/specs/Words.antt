-- What stands in a line, read from the left: a value and the bytes behind it, where the bytes begin
-- with its text.
use Rattle.std.specs.Prelude.{◌≡◌, ℕ, zero, suc, ◌+◌, ◌-◌, ◌*◌, ◌==◌, ◌&&◌, ◌||◌, nat_lt}
use Rattle.std.specs.Prelude.{nat_le, int_le, Bool, true, false, if◌then◌else◌, ℤ, pos, neg_ℤ}
use Rattle.std.specs.Prelude.{List, [], ◌∷◌, length, codes, Option, Some, None, Result, Ok, Err}
use Rattle.std.specs.Char.{is_ascii_digit}
use Rattle.std.specs.Str.{is_utf8}
use Rattle.uc_model.specs.declared.kinds.Kind.{Kind}
use Rattle.uc_model.specs.declared.kinds.Kind.TheVariants as kinds
use Rattle.report_form.specs.Parts.{stands_as_is}

-- what is read: a value, and the bytes behind it
abbrev pub Found : Type 0 → Type 0
Found A = Option (A × List ℕ)

infixl 10 ◌>>=◌
abbrev pub ◌>>=◌ : {A B : Type 0} → Option A → (A → Option B) → Option B
(Some x) >>= f = f x
None >>= f = None

abbrev pub or_else : {A : Type 0} → Option A → Option A → Option A
or_else (Some x) other = Some x
or_else None other = other

-- a function of the program, its answer seen by view, finds what is read
abbrev pub Finds : {X Y : Type 0} → (X → Y) → Option X → Option Y → Type 0
Finds view (Some x) read = read ≡ Some (view x)
Finds view None read = read ≡ None

-- the same where memory doesn't run out
abbrev pub FindsIfOk : {X Y E : Type 0} → (X → Y) → Result (Option X) E → Option Y → Type 0
FindsIfOk view (Ok found) read = Finds view found read
FindsIfOk view (Err e) read = Unit {0}

-- the bytes behind a word
unfoldable pub behind : (word bytes : List ℕ) → Option (List ℕ)
behind [] bytes = Some bytes
behind (c ∷ cs) [] = None
behind (c ∷ cs) (b ∷ bs) = if b == c then behind cs bs else None

-- ---- numbers

-- digits go on: the number with them, and the bytes behind the last digit
unfoldable pub digits_from : ℕ → List ℕ → ℕ × List ℕ
digits_from n [] = (n, [])
digits_from n (b ∷ bs) = if is_ascii_digit b then digits_from (10 * n + (b - 48)) bs else (n, b ∷ bs)

-- 0, or digits of which the first isn't 0
unfoldable pub numeral_at : List ℕ → Found ℕ
numeral_at [] = None
numeral_at (b ∷ bs) =
    if b == 48 then Some (0, bs) else if is_ascii_digit b then Some (digits_from (b - 48) bs) else None

-- the greatest number of 32 bits, the most that a count in a line can be
abbrev pub most_count : ℕ
most_count = 4294967295

abbrev pub count_between : ℕ → ℕ → ℕ × List ℕ → Found ℕ
count_between least most x = if nat_le least x.0 && nat_le x.0 most then Some x else None

unfoldable pub count_at : (least most : ℕ) → List ℕ → Found ℕ
count_at least most bytes = do
  n ← numeral_at bytes
  count_between least most n

-- behind a `-` stands no 0
abbrev pub negative : ℕ × List ℕ → Found ℤ
negative n = if n.0 == 0 then None else Some (neg_ℤ (pos n.0), n.1)

unfoldable pub signed_at : List ℕ → Found ℤ
signed_at [] = None
signed_at (b ∷ bs) =
    if b == 45 then numeral_at bs >>= negative
    else numeral_at (b ∷ bs) >>= λ n. Some (pos n.0, n.1)

abbrev pub integer_between : ℤ → ℤ → ℤ × List ℕ → Found ℤ
integer_between least most x = if int_le least x.0 && int_le x.0 most then Some x else None

unfoldable pub integer_at : (least most : ℤ) → List ℕ → Found ℤ
integer_at least most bytes = do
  x ← signed_at bytes
  integer_between least most x

-- ---- lists: each item behind a space

unfoldable pub spaced : {A : Type 0} → (List ℕ → Found A) → List ℕ → Found A
spaced item bytes = do
  rest ← behind (32 ∷ []) bytes
  item rest

unfoldable pub flag_at : List ℕ → Found Bool
flag_at [] = None
flag_at (b ∷ bs) = if b == 49 then Some (true, bs) else if b == 48 then Some (false, bs) else None

unfoldable pub items_at : {A : Type 0} → (List ℕ → Found A) → ℕ → List ℕ → Found (List A)
items_at item zero bytes = Some ([], bytes)
items_at item (suc n) bytes = do
  x ← item bytes
  xs ← items_at item n x.1
  Some (x.0 ∷ xs.0, xs.1)

-- ---- names

abbrev pub hex_value : ℕ → Option ℕ
hex_value b =
    if is_ascii_digit b then Some (b - 48)
    else if nat_le 97 b && nat_le b 102 then Some (b - 87) else None

abbrev pub two_digits : List ℕ → Found ℕ
two_digits [] = None
two_digits (h ∷ []) = None
two_digits (h ∷ l ∷ bs) = do
  high ← hex_value h
  low ← hex_value l
  if nat_lt high 2 then Some (16 * high + low, bs) else None

-- behind `\u`: a character below 32
unfoldable pub control_at : List ℕ → Found ℕ
control_at bytes = do
  rest ← behind (codes "00") bytes
  two_digits rest

-- behind a backslash
unfoldable pub backslashed_at : List ℕ → Found ℕ
backslashed_at [] = None
backslashed_at (b ∷ bs) =
    if b == 34 || b == 92 then Some (b, bs) else if b == 117 then control_at bs else None

unfoldable pub escaped_at : List ℕ → Found ℕ
escaped_at [] = None
escaped_at (b ∷ bs) =
    if stands_as_is b then Some (b, bs) else if b == 92 then backslashed_at bs else None

-- a name to its closing quote, of fewer characters than so many
unfoldable pub closed_within : ℕ → List ℕ → Found (List ℕ)
closed_within zero bytes = None
closed_within (suc most) [] = None
closed_within (suc most) (b ∷ bs) =
    if b == 34 then Some ([], bs)
    else escaped_at (b ∷ bs) >>= λ x. closed_within most x.1 >>= λ xs. Some (x.0 ∷ xs.0, xs.1)

-- it is UTF-8
abbrev pub text_only : List ℕ × List ℕ → Found (List ℕ)
text_only name = if is_utf8 name.0 then Some name else None

-- behind the opening quote
unfoldable pub name_at : List ℕ → Found (List ℕ)
name_at bytes = do
  name ← closed_within (length bytes) bytes
  text_only name

-- ---- kinds

abbrev pub of_kind : Kind → Option (List ℕ) → Found Kind
of_kind kind rest = rest >>= λ bytes. Some (kind, bytes)

unfoldable pub kind_at : List ℕ → Found Kind
kind_at bytes =
    or_else (of_kind kinds.Thermal (behind (codes "thermal ") bytes))
    (or_else (of_kind kinds.Renewable (behind (codes "renewable ") bytes))
    (of_kind kinds.Bid (behind (codes "bid ") bytes)))
