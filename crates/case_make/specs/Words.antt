-- The words that a generated case is drawn from, and a draw from a word (this project's profile).
-- The generator is PCG32 (O'Neill 2014), on stream 54.
use Rattle.std.specs.Prelude.{ℕ, ◌+◌, ◌-◌, ◌%◌}
use Rattle.rand_pcg.specs.Lcg.{Lcg, advance, started, increment_of}
use Rattle.rand_pcg.specs.Pcg.{multiplier_64, pcg32}

-- the generator that a number starts
unfoldable pub start_of : ℕ → Lcg
start_of number = started 64 multiplier_64 number (increment_of 64 54)

-- the generator after so many words
unfoldable pub moved_on : ℕ → Lcg → Lcg
moved_on count g = advance 64 multiplier_64 count g

-- the word at an index, counted from 0, of those that the generator gives
unfoldable pub word_at : Lcg → ℕ → ℕ
word_at g index = (pcg32 (moved_on index g)).0

-- the number from low to high that a word stands for
unfoldable pub draw : ℕ → ℕ → ℕ → ℕ
draw low high word = low + word % (high - low + 1)
