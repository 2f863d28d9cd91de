use Rattle.uc_prices.proofs.Common.{◌≡◌, Ok, Err, ap, rules, view, tree_view, of_value, prices_in}
use Rattle.uc_text.specs.Texts.{IsFirstFault}
use Rattle.uc_prices.proofs.read.prices_of_bytes.Goals as goal

pub returns-in-Err-Fault-clause-answer : goal.returns-in-Err-Fault-clause-answer
returns-in-Err-Fault-clause-answer c =
    let first : IsFirstFault 32 c.args.bytes.now c.in-Err-Fault.fault = search rules in
    (Err c.in-Err-Fault.fault, first, search rules)

pub returns-in-Ok-prices_of_json_tree-clause-answer : goal.returns-in-Ok-prices_of_json_tree-clause-answer
returns-in-Ok-prices_of_json_tree-clause-answer c = (
  Ok (tree_view c.in-Ok.tree),
  c.in-Ok.ensures.found,
  ap of_value (rw c.root.ensures at c.in-Ok-prices_of_json_tree.ensures.value),
)

pub returns-in-Err-Fault-prices_of_json_tree-clause-answer : goal.returns-in-Err-Fault-prices_of_json_tree-clause-answer
returns-in-Err-Fault-prices_of_json_tree-clause-answer c =
    let refused : prices_in c.args.periods (view c.root.result) ≡ Err c.in-Err-Fault-prices_of_json_tree.fault =
    search rules in
    (Ok (tree_view c.in-Ok.tree), c.in-Ok.ensures.found, ap of_value (rw c.root.ensures at refused))
