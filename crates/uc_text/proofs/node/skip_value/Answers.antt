use Rattle.uc_text.proofs.Common.{arith}
use Rattle.uc_text.proofs.Lemmas.{node_passed}
use Rattle.uc_text.proofs.node.skip_value.Goals as goal

pub returns-else-inside-eq0 : goal.returns-else-inside-eq0
returns-else-inside-eq0 c = λ bytes.
    node_passed bytes c.args.nodes.now c.nodes_from.result.now c.nodes_inside-inside.result
    (omega (arith, c.in-len1-up.len_at_least)) c.nodes_inside-inside.ensures c.nodes_from.ensures
