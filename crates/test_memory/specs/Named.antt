-- Bytes under names, in memory. This project's profile.
use Rattle.std.specs.Prelude.{ℕ, List, map, Option, position, find, string_bytes, unwrap_or, []}
use Rattle.std.specs.Option.{option_map}
use Rattle.std.specs.Str.{bytes_eq}
use Rattle.test_memory.specs.declared.memory.File.{File}

-- the name and the bytes of a file
pub record Entry : Type 0 where
  pub name : List ℕ
  pub bytes : List ℕ

abbrev pub entry_of : File → Entry
entry_of file = record { name = string_bytes file.name; bytes = file.bytes.items }

abbrev pub entries_of : List File → List Entry
entries_of = map entry_of

-- the bytes under a name: those of its first file
abbrev pub told_in : List File → List ℕ → Option (List ℕ)
told_in files name =
    option_map (λ entry. entry.bytes) (find (λ entry. bytes_eq entry.name name) (entries_of files))

-- the first file of this name
abbrev pub first_in : List File → List ℕ → Option File
first_in files name = find (λ file. bytes_eq (string_bytes file.name) name) files

-- the place of the first file of this name
abbrev pub place_in : List File → List ℕ → Option ℕ
place_in files name = position (λ file. bytes_eq (string_bytes file.name) name) files

-- the same where every name has bytes: none where there is no file
abbrev pub sure_in : List File → List ℕ → List ℕ
sure_in files name = unwrap_or (told_in files name) []
