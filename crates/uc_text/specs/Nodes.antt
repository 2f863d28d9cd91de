-- The values that a list of nodes says, over the bytes of the text. Any list says some.
use Rattle.std.specs.Prelude.{ℕ, zero, suc, ◌+◌, List, [], ◌∷◌, drop}
use Rattle.text_tokens.specs.Decimals.{decimal_in}
use Rattle.text_tokens.specs.Small.{decimal_of}
use Rattle.text_tokens.specs.Strings.{said}
use Rattle.text_tokens.specs.Tokens.{number_at}
use Rattle.uc_text.specs.Values.{null, flag, number, text, Value, scalar, list, object}
use Rattle.uc_text.specs.Pairs.{Pair, items_of, members_of}
use Rattle.uc_text.specs.declared.node.Node.{Node}
use Rattle.uc_text.specs.declared.node.Node.TheVariants as nodes

-- the first value, and null where there is none
abbrev pub first : List Value → Value
first [] = scalar null
first (v ∷ vs) = v

-- so many values from the front
abbrev pub firsts : ℕ → List Value → List Value
firsts zero vs = []
firsts (suc k) vs = first vs ∷ firsts k (drop 1 vs)

-- what a text says
abbrev pub text_in : Value → List ℕ
text_in (scalar (text t)) = t
text_in v = []

-- so many names from the front, each with the value behind it
abbrev pub pairs : ℕ → List Value → List Pair
pairs zero vs = []
pairs (suc k) vs =
    record { name = text_in (first vs); value = first (drop 1 vs) } ∷ pairs k (drop 2 vs)

-- how many of the nodes behind a node are inside its value
abbrev pub own : Node → ℕ
own (nodes.List p) = p.nodes
own (nodes.Object p) = p.nodes
own n = 0

-- the value of a node, with these values behind it
abbrev pub value_of : List ℕ → Node → List Value → Value
value_of bytes nodes.Null vs = scalar null
value_of bytes (nodes.Flag b) vs = scalar (flag b)
value_of bytes (nodes.Number s) vs = scalar (number (decimal_of s))
value_of bytes (nodes.LargeNumber p) vs = scalar (number (decimal_in (number_at (drop p bytes)).0))
value_of bytes (nodes.Text p) vs = scalar (text (said (drop (p + 1) bytes)))
value_of bytes (nodes.List p) vs = list (items_of (firsts p.count vs))
value_of bytes (nodes.Object p) vs = object (members_of (pairs p.count vs))

-- The values of nodes, one after the other, where so many nodes are still to be passed that are
-- inside the last one.
abbrev pub values_from : ℕ → List ℕ → List Node → List Value
values_from passing bytes [] = []
values_from (suc passing) bytes (n ∷ ns) = values_from passing bytes ns
values_from zero bytes (n ∷ ns) =
    value_of bytes n (values_from 0 bytes ns) ∷ values_from (own n) bytes ns

-- the values of nodes, from the first one on
abbrev pub values : List ℕ → List Node → List Value
values bytes ns = values_from 0 bytes ns
