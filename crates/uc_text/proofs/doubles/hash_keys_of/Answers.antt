use Rattle.uc_text.proofs.Common.{◌<◌, arith, ◌∙◌, length, names_said}
use Rattle.std.proofs.lemmas.List.{get_or_default}
use Rattle.uc_text.specs.Known.{key_at}
use Rattle.uc_text.proofs.Lemmas.{names_len}
use Rattle.uc_text.proofs.doubles.hash_keys_of.Goals as goal

pub returns : goal.returns
returns c = λ i lt.
    let ns = c.args.names.now in
    let count = names_len ns in
    let known = c.loop-index.invariant in
    let keys = c.loop-index.keys.items in
    let before : i < length keys = omega (arith, known.count, lt, count, c.loop-index-test.false) in (
      i,
      before,
      get_or_default keys i (key_at (names_said ns) i) 0 before ∙
          known.each i (omega (arith, lt, count, c.loop-index-test.false)),
    )
