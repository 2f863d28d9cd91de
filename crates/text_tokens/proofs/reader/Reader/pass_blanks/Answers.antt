use Rattle.text_tokens.proofs.Common.{sym, ◌∙◌, arith}
use Rattle.text_tokens.proofs.Lemmas.{blank_step}
use Rattle.text_tokens.proofs.reader.Reader.pass_blanks.Goals as goal

pub blanks-preserved : goal.blanks-preserved
blanks-preserved c = record {
  same = c.blanks.invariant.same;
  on = omega arith;
  rest = sym (blank_step c.blanks.self.bytes.now c.blanks.self.at c.blanks-test.true
      (sym c.is_blank.ensures ∙ c.if-is_blank.true)) ∙ c.blanks.invariant.rest;
}
