-- The first file of a name, and the first entry of that name.
use Rattle.std.proofs.Common.{◌≡◌, ◌∙◌, ℕ, List, [], ◌∷◌, Bool, true, false, cond, refl, sym, ap, find, Option, Some}
use Rattle.std.specs.Option.{option_map}
use Rattle.std.specs.Prelude.{string_bytes}
use Rattle.std.specs.Str.{bytes_eq}
use Rattle.test_memory.specs.declared.memory.File.{File}
use Rattle.test_memory.specs.Named.{Entry, entry_of, entries_of, first_in, told_in}

-- the bytes of the first file whose name passes are those of the first such entry
pub find_entry : (passes : List ℕ → Bool) (files : List File) →
    option_map (λ (file : File). file.bytes.items)
    (find (λ (file : File). passes (string_bytes file.name)) files) ≡ option_map (λ (entry : Entry). entry.bytes)
    (find (λ (entry : Entry). passes entry.name) (entries_of files))
find_entry passes [] = refl
find_entry passes (file ∷ files) =
    elim (passes (string_bytes file.name))
    as (λ b. option_map (λ (file : File). file.bytes.items)
    (cond b (Some file) (find (λ (file : File). passes (string_bytes file.name)) files)) ≡ option_map
    (λ (entry : Entry). entry.bytes)
    (cond b (Some (entry_of file)) (find (λ (entry : Entry). passes entry.name) (entries_of files))))
    [ true ↦ refl | false ↦ find_entry passes files ]

-- what is told of a name, once its first file is known
pub told_by_first : (files : List File) (name : List ℕ) (first : Option File) → first ≡ first_in files name →
    told_in files name ≡ option_map (λ (file : File). file.bytes.items) first
told_by_first files name first is =
    sym (ap (option_map (λ (file : File). file.bytes.items)) is ∙ find_entry (λ n. bytes_eq n name) files)
