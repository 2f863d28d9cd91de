use Rattle.text_tokens.proofs.Common.{◌≡◌, ◌≤◌, length, take}
use Rattle.text_tokens.proofs.Lemmas.{PassesPlain}
use Rattle.text_tokens.proofs.said.common_prefix_len.Given as goal

abbrev pub invariant-loop-i : goal.invariant-loop-i
invariant-loop-i l = record {
  same : take l.i l.text ≡ take l.i l.bytes;
  front : PassesPlain l.bytes l.i;
  near : l.i ≤ length l.bytes;
}
