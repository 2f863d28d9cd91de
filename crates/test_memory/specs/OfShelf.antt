-- What a shelf in memory shows. This project's profile.
use Rattle.std.specs.Prelude.{◌≡◌, ℕ, ◌-◌, ◌==◌, min, List, length, Option, None, slice_index}
use Rattle.std.specs.Prelude.{if◌then◌else◌}
use Rattle.std.specs.List.{list_any}
use Rattle.std.specs.Option.{option_map, option_map_or}
use Rattle.test_memory.specs.declared.memory.MemoryShelf.{MemoryShelf}
use Rattle.test_memory.specs.Named.{told_in, place_in}

-- the bytes under a name
abbrev pub told_of : MemoryShelf → List ℕ → Option (List ℕ)
told_of shelf = told_in shelf.files.items

-- the place of a file that it holds
abbrev pub place_of : MemoryShelf → List ℕ → Option ℕ
place_of shelf = place_in shelf.files.items

-- the count of a name: its own, or that of all names that it doesn't hold
abbrev pub count_of : MemoryShelf → List ℕ → ℕ
count_of shelf name =
    option_map_or (λ i. slice_index shelf.counts.items i) (place_of shelf name) shelf.others

-- how many reads there were
abbrev pub reads_of : MemoryShelf → ℕ
reads_of shelf = shelf.reads

-- how many bytes read number `number` gives to a buffer with this room: none where it is to fail or
-- the name is missing, else all that there are from the offset on, as far as there is room
abbrev pub given_by : MemoryShelf → ℕ → List ℕ → ℕ → ℕ → Option ℕ
given_by shelf number name offset room =
    if list_any (λ k. k == number) shelf.failing.items then None else option_map
    (λ bytes. min (length bytes - offset) room) (told_of shelf name)

-- a shelf as it is made: what it tells, the numbers of the reads that fail, and no read or fault
-- yet
pub record IsNewShelf (shelf : MemoryShelf) (told : List ℕ →
    Option (List ℕ)) (failing : List ℕ) : Type 0 where
  pub tells : told_of shelf ≡ told
  pub fails : shelf.failing.items ≡ failing
  pub unread : shelf.reads ≡ 0
  pub faultless : (name : List ℕ) → count_of shelf name ≡ 0
