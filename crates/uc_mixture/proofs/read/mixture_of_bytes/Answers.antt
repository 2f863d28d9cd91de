use Rattle.uc_mixture.proofs.Common.{◌≡◌, Ok, Err, ap, rules, view, tree_view, market_of, of_value, mixture_in}
use Rattle.uc_text.specs.Texts.{IsFirstFault}
use Rattle.uc_mixture.proofs.read.mixture_of_bytes.Goals as goal

pub returns-in-Err-Fault-clause-answer : goal.returns-in-Err-Fault-clause-answer
returns-in-Err-Fault-clause-answer c =
    let first : IsFirstFault 32 c.args.bytes.now c.in-Err-Fault.fault = search rules in
    (Err c.in-Err-Fault.fault, first, search rules)

pub returns-in-Ok-mixture_of_json_tree-clause-answer : goal.returns-in-Ok-mixture_of_json_tree-clause-answer
returns-in-Ok-mixture_of_json_tree-clause-answer c = (
  Ok (tree_view c.in-Ok.tree),
  c.in-Ok.ensures.found,
  ap of_value (rw c.root.ensures at c.in-Ok-mixture_of_json_tree.ensures.value),
)

pub returns-in-Err-Fault-mixture_of_json_tree-clause-answer :
    goal.returns-in-Err-Fault-mixture_of_json_tree-clause-answer
returns-in-Err-Fault-mixture_of_json_tree-clause-answer c =
    let refused : mixture_in (market_of c.args.case.now) (view c.root.result) ≡ Err
    c.in-Err-Fault-mixture_of_json_tree.fault = search rules in
    (Ok (tree_view c.in-Ok.tree), c.in-Ok.ensures.found, ap of_value (rw c.root.ensures at refused))
