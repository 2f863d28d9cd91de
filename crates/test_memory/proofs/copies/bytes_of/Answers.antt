use Rattle.std.proofs.Common.{None, Some, sym}
use Rattle.test_memory.proofs.EntryLemmas.{told_by_first}
use Rattle.test_memory.proofs.copies.bytes_of.Goals as goal

pub returns-in_err-file : goal.returns-in_err-file
returns-in_err-file c =
    let told = told_by_first c.args.files.now c.args.name.now None c.in_err-file.ensures in
    rw c.from_residual.ensures (sym told)

pub returns : goal.returns
returns c =
    let told = told_by_first c.args.files.now c.args.name.now (Some c.in_ok-file.file.now) c.in_ok-file.ensures in cc
