-- What the reader's functions say of the tokens with their offsets.
use Rattle.std.specs.Prelude.{◌≡◌, ◌≢◌, ℕ, ◌-◌, List, ◌∷◌, ◌++◌, AllPairs, Result, Ok, Err}
use Rattle.uc_text.specs.Values.{Value}
use Rattle.uc_text.specs.Grammar as grammar
use Rattle.uc_text.specs.Grammar.{spell, spell_items, spell_members}
use Rattle.uc_text.specs.Faults.{Test, length_of_numbers, levels, double_keys, Passes, ItemsPass}
use Rattle.uc_text.specs.Faults.{MembersPass}
use Rattle.uc_text.specs.Parts.{IsStuck, names, passed_items}
use Rattle.uc_text.specs.Pairs.{Pair, items_of, members_of}
use Rattle.text_tokens.specs.Tokens.{Lexed, kinds}
pub use Rattle.text_tokens.specs.Offsets.{seen, NextIs, Takes}
use Rattle.uc_text.specs.declared.fault.TextCode.{TextCode}
use Rattle.uc_text.specs.declared.fault.TextCode.TheVariants.{NotJson, NumberTooLong, TooDeep}
use Rattle.uc_text.specs.declared.fault.TextCode.TheVariants.{DoubleKey}
use Rattle.uc_text.specs.declared.fault.TextFault.{TextFault}
use Rattle.uc_text.specs.declared.fault.TextError.{TextError}
use Rattle.uc_text.specs.declared.fault.TextError.TheVariants as errors

abbrev pub test_of : TextCode → Test
test_of NotJson = Test.grammar
test_of NumberTooLong = length_of_numbers
test_of TooDeep = levels
test_of DoubleKey = double_keys

-- Behind what was opened these tokens come, and the fault is at one of them.
pub record StuckAt (left : ℕ) (front : List grammar.Token) (ts : List Lexed) (f : TextFault) : Type
    0 where
  pub before : List Lexed
  pub at : Lexed
  pub after : List Lexed
  pub parts : ts ≡ before ++ at ∷ after
  pub offset : f.offset ≡ at.offset
  pub stuck : IsStuck left (front ++ kinds before) at.token (test_of f.code)

abbrev pub FaultIs : TextError → (TextFault → Type 0) → Type 0
FaultIs errors.Memory P = Unit {0}
FaultIs (errors.Fault f) P = P f

-- P, where there is a fault
abbrev pub IfFault : {X : Type 0} → Result X TextError → (TextFault → Type 0) → Type 0
IfFault (Ok x) P = Unit {0}
IfFault (Err e) P = FaultIs e P

-- A value was read from the front of these tokens, and it passes every test.
pub record Reads (left : ℕ) (ts : List Lexed) (v : Value) (others : List Lexed) : Type 0 where
  pub takes : Takes ts (spell v) others
  pub pass : Passes double_keys left v

-- Behind the opening bracket, where these items and a comma behind each were passed.
pub record AtItem (left : ℕ) (all : List Lexed) (vs : List Value) (ahead : List Lexed) : Type 0
  where
    pub passed : Takes all (passed_items vs) ahead
    pub pass : ItemsPass double_keys (left - 1) (items_of vs)

-- the same of the items behind an opening bracket, and of the members behind an opening brace
pub record ReadsItems (left : ℕ) (ts : List Lexed) (vs : List Value) (others : List Lexed) : Type
    0 where
  pub takes : Takes ts (spell_items (items_of vs)) others
  pub pass : ItemsPass double_keys (left - 1) (items_of vs)

pub record ReadsMembers (left : ℕ) (ts : List Lexed) (ps : List Pair) (others : List Lexed) : Type
    0 where
  pub takes : Takes ts (spell_members (members_of ps)) others
  pub pass : MembersPass double_keys (left - 1) (members_of ps)
  pub different : AllPairs (λ a b. a ≢ b) (names ps)
