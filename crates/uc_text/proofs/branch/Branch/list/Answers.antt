use Rattle.uc_text.proofs.Common.{sym, view, values}
use Rattle.uc_text.proofs.Lemmas.{list_of}
use Rattle.uc_text.proofs.branch.Branch.list.Goals as goal

pub returns-in-List : goal.returns-in-List
returns-in-List c =
    let bytes = c.args.self.bytes.now in
    sym (list_of bytes (view c.args.self) c.split-node.result.0 (values bytes c.split-node.result.1.now) c.in-List.parts
    c.split-node.ensures c.in-List.is)
