use Rattle.std.proofs.Common.{◌≡◌, take}
use Rattle.test_memory.specs.Named.{entries_of}
use Rattle.test_memory.proofs.copies.copies_of.Given as goal

-- the files so far were copied
abbrev pub invariant-loop-file : goal.invariant-loop-file
invariant-loop-file l = entries_of l.copies.items ≡ entries_of (take l.file-index l.files)
