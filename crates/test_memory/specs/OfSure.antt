-- What a sure shelf shows. This project's profile.
use Rattle.std.specs.Prelude.{ℕ, List}
use Rattle.test_memory.specs.declared.sure.SureShelf.{SureShelf}
use Rattle.test_memory.specs.Named.{sure_in}

-- the bytes under a name
abbrev pub sure_of : SureShelf → List ℕ → List ℕ
sure_of shelf = sure_in shelf.files.items
