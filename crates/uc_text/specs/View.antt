-- What a part of a tree says, apart from where it lies in memory.
use Rattle.std.specs.Prelude.{List, map}
use Rattle.text_tokens.specs.Strings.{said}
use Rattle.uc_text.specs.Values.{Value}
use Rattle.uc_text.specs.Pairs.{Pair}
use Rattle.uc_text.specs.Nodes.{first, firsts, pairs, values}
use Rattle.uc_text.specs.declared.tree.Tree.{Tree}
use Rattle.uc_text.specs.declared.branch.Branch.{Branch}
use Rattle.uc_text.specs.declared.list.ListBranch.{ListBranch}
use Rattle.uc_text.specs.declared.object.ObjectBranch.{ObjectBranch}
use Rattle.uc_text.specs.declared.object.Member.{Member}

abbrev pub view : Branch → Value
view t = first (values t.bytes.now t.nodes.now)

abbrev pub views : List Branch → List Value
views ts = map view ts

abbrev pub items_in : ListBranch → List Value
items_in l = firsts l.count (values l.bytes.now l.nodes.now)

abbrev pub member_view : Member → Pair
member_view m = record { name = said m.name.bytes.now; value = view m.value }

abbrev pub member_views : List Member → List Pair
member_views ms = map member_view ms

abbrev pub members_in : ObjectBranch → List Pair
members_in o = pairs o.count (values o.bytes.now o.nodes.now)

-- the value of the whole text
abbrev pub tree_view : Tree → Value
tree_view t = first (values t.bytes.now t.nodes.items)
