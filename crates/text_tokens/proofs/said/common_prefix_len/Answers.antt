use Rattle.text_tokens.proofs.Common.{◌≡◌, ◌<◌, true, length, get_or, sym, ap, ◌∙◌, arith, is_plain}
use Rattle.text_tokens.proofs.Lemmas.{passes_one, same_one}
use Rattle.text_tokens.proofs.said.common_prefix_len.Goals as goal

pub loop-i-preserved : goal.loop-i-preserved
loop-i-preserved c =
    let bytes = c.args.bytes.now in
    let text = c.args.text.now in
    let i = c.loop-i.i in
    let within : i < length bytes = omega (arith, c.if-bytes-i.false) in
    let same = c.if-bytes-i-2.false in
    let plain : is_plain (get_or bytes i 0) ≡ true =
    ap is_plain same ∙ sym c.is_unescaped_byte.ensures ∙ c.if-not-is_unescaped_byte.false in
    record {
      same = same_one text bytes i c.loop-i-test.true within (sym same) c.loop-i.invariant.same;
      front = passes_one bytes i within plain c.loop-i.invariant.front;
      near = omega (arith, within);
    }
