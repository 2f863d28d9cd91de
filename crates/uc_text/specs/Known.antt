-- What the names of an object say, and which is the first that stands before it too.
use Rattle.std.specs.Prelude.{◌≢◌, ◌+◌, ◌*◌, ◌/◌, ◌<◌, ◌≤◌, ℕ, Bool, List, [], map}
use Rattle.std.specs.Prelude.{take, length, bytes_eq}
use Rattle.std.specs.Prelude.{Contains, AllPairs, slice_index_or}
use Rattle.std.specs.List.{list_any}
use Rattle.std.specs.Hash.DefaultHasher as sip
use Rattle.text_tokens.specs.Strings.{said}
use Rattle.uc_text.specs.declared.names.Name.{Name}

-- one of the names is this
abbrev pub is_there : List ℕ → List (List ℕ) → Bool
is_there q ks = list_any (λ k. bytes_eq q k) ks

abbrev pub names_said : List Name → List (List ℕ)
names_said ns = map (λ n. said n.quoted.bytes.now) ns

-- SipHash with keys 0
unfoldable pub hash_of : List ℕ → ℕ
hash_of bytes = sip.finish (sip.write sip.initial bytes)

abbrev pub AreDifferent : List (List ℕ) → Type 0
AreDifferent ks = AllPairs (λ a b. a ≢ b) ks

-- So many names are different, and the one behind them, if there is one, stands among them.
pub record IsFirst (ks : List (List ℕ)) (n : ℕ) : Type 0 where
  pub within : n ≤ length ks
  pub different : AreDifferent (take n ks)
  pub double : n < length ks → Contains (take n ks) (slice_index_or ks n [])

-- the front of a name's hash, and behind it the name's index
abbrev pub key_at : List (List ℕ) → ℕ → ℕ
key_at ks i = hash_of (slice_index_or ks i []) / 16777216 * 16777216 + i

-- each name has its key among these
abbrev pub AreKeys : List (List ℕ) → List ℕ → Type 0
AreKeys ks keys = (i : ℕ) → i < length ks → Contains keys (key_at ks i)
