use Rattle.uc_case.proofs.Common.{◌≡◌, Ok, Err, ap, rules, IsFirstFault, view, tree_view, case_of, of_value}
use Rattle.uc_case.proofs.read.case_of_bytes.Goals as goal

pub returns-in-Err-Fault : goal.returns-in-Err-Fault
returns-in-Err-Fault c =
    let first : IsFirstFault 32 c.args.bytes.now c.in-Err-Fault.fault = search rules in
    (Err c.in-Err-Fault.fault, first, search rules)

pub returns-in-Ok-case_of_json_tree : goal.returns-in-Ok-case_of_json_tree
returns-in-Ok-case_of_json_tree c = (
  Ok (tree_view c.in-Ok.tree),
  c.in-Ok.ensures.found,
  ap of_value (rw c.root.ensures at c.in-Ok-case_of_json_tree.ensures),
)

pub returns-in-Err-Fault-case_of_json_tree : goal.returns-in-Err-Fault-case_of_json_tree
returns-in-Err-Fault-case_of_json_tree c =
    let refused : case_of (view c.root.result) ≡ Err c.in-Err-Fault-case_of_json_tree.fault = search rules in
    (Ok (tree_view c.in-Ok.tree), c.in-Ok.ensures.found, ap of_value (rw c.root.ensures at refused))
