use Rattle.uc_text.proofs.Common.{sym, view, values}
use Rattle.uc_text.proofs.Lemmas.{object_of}
use Rattle.uc_text.proofs.branch.Branch.object.Goals as goal

pub returns-in-Object : goal.returns-in-Object
returns-in-Object c =
    let bytes = c.args.self.bytes.now in
    sym (object_of bytes (view c.args.self) c.split-node.result.0 (values bytes c.split-node.result.1.now)
    c.in-Object.parts c.split-node.ensures c.in-Object.is)
