use Rattle.uc_text.proofs.Common.{sym, ap, ◌∙◌, text_in, values}
use Rattle.uc_text.proofs.Lemmas.{no_text}
use Rattle.uc_text.proofs.branch.Branch.text.Goals as goal

pub returns-in_default : goal.returns-in_default
returns-in_default c =
    let bytes = c.args.self.bytes.now in
    c.empty.ensures ∙ sym (ap text_in c.split-node.ensures ∙
    no_text bytes c.split-node.result.0 (values bytes c.split-node.result.1.now) c.in_default.not-Text)
