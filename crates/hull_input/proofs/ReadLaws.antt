-- What was read of a file, of the two files of an input, and of those beside them.
use Rattle.hull_input.proofs.Common.{◌≡◌, ℕ, ◌+◌, ◌<◌, ◌≤◌, Bool, true, false, List, [], length, replicate, Option}
use Rattle.hull_input.proofs.Common.{None, Some, Ok, Err, refl, inl, inr, arith, IfSome, nat_lt, if◌then◌else◌}
use Rattle.hull_input.proofs.Common.{length-replicate, le-ltb, lt-ltb, Rose, CaseFile, ScheduleFile, ReportFile}
use Rattle.hull_input.proofs.Common.{PricesFile, MixtureFile, TooBig, Reads, bytes_of, IsBytes, IsReadOf}
use Rattle.hull_input.proofs.Common.{case_and_schedule, with_report, with_prices, with_mixture, SettleAsked, AreReads}
use Rattle.hull_input.proofs.Common.{HasRead}
use Rattle.plain_lists.specs.declared.limits.TheConstants.{MOST_BYTES}
use Rattle.hull_fault.specs.declared.fault.FileKind.{FileKind}

-- ---- the bytes of one file

-- something may have been read of a file, whatever is told of it
abbrev pub unread : Option (List ℕ) → Option (List ℕ)
unread None = Some []
unread (Some all) = Some all

pub unread_is : (told : Option (List ℕ)) (rose : Type 0) → IsReadOf told rose (unread told)
unread_is None rose = tt
unread_is (Some all) rose = refl

as_test : {X : Type 0} (b : Bool) (x y z : X) → b ≡ false → z ≡ y → z ≡ (if b then x else y)
as_test true x y z e h = absurd cc
as_test false x y z e h = h

passed_test : {X : Type 0} (b : Bool) (x y z : X) → b ≡ true → z ≡ x → z ≡ (if b then x else y)
passed_test true x y z e h = h
passed_test false x y z e h = absurd cc

read_whole_file : (file : FileKind) (bytes : List ℕ) → length bytes ≤ MOST_BYTES → Ok bytes ≡ bytes_of file (Some bytes)
read_whole_file file bytes fits = as_test (nat_lt MOST_BYTES (length bytes)) (Err (TooBig file)) (Ok bytes) (Ok bytes)
    (le-ltb MOST_BYTES (length bytes) fits) refl

too_long : (file : FileKind) (bytes : List ℕ) → MOST_BYTES < length bytes →
    Err (TooBig file) ≡ bytes_of file (Some bytes)
too_long file bytes long = passed_test (nat_lt MOST_BYTES (length bytes)) (Err (TooBig file)) (Ok bytes)
    (Err (TooBig file)) (lt-ltb MOST_BYTES (length bytes) long) refl

-- some bytes are longer
longer : (n : ℕ) → (bytes : List ℕ) × (n < length bytes)
longer n = (replicate (n + 1) 0, omega (arith, length-replicate {A = ℕ} (n + 1) 0))

module _ (told : Option (List ℕ)) (rose : Type 0) (file : FileKind) where
  pub was_read : (bytes : List ℕ) → IfSome told (λ all. bytes ≡ all) → length bytes ≤ MOST_BYTES →
      HasRead told rose (λ read. IsBytes file read (Ok bytes))
  was_read bytes is fits = (Some bytes, is, read_whole_file file bytes fits)

pub was_too_big : (told : Option (List ℕ)) (rose : Type 0) (file : FileKind) →
    IfSome told (λ all. MOST_BYTES < length all) → HasRead told rose (λ read. IsBytes file read (Err (TooBig file)))
was_too_big None rose file h = let some = longer MOST_BYTES in (Some some.0, tt, too_long file some.0 some.1)
was_too_big (Some all) rose file h = (Some all, refl, too_long file all h)

-- the bytes that were read of it
pub got : (file : FileKind) (read : Option (List ℕ)) (bytes : List ℕ) → Ok bytes ≡ bytes_of file read →
    read ≡ Some bytes
got file None bytes e = absurd cc
got file (Some all) bytes e = more (nat_lt MOST_BYTES _) e
  where
    more : (b : Bool) → Ok bytes ≡ (if b then Err (TooBig file) else Ok all) → Some all ≡ Some bytes
    more true e = absurd cc
    more false e = cc

-- ---- a later shelf

-- a later start, or a count that goes on, leaves what rose risen
rose_wider : (last : Option ℕ) (a b c d : ℕ) → a ≤ b → Rose last b c → c ≤ d → Rose last a d
rose_wider None a b c d p h q = omega arith
rose_wider (Some most) a b c d p (inl h) q = inl (omega arith)
rose_wider (Some most) a b c d p (inr h) q = inr (omega arith)

pub read_wider : (told : Option (List ℕ)) (last : Option ℕ) (a b c d : ℕ) (read : Option (List ℕ)) → a ≤ b → c ≤ d →
    IsReadOf told (Rose last b c) read → IsReadOf told (Rose last a d) read
read_wider told last a b c d None p q h = rose_wider last a b c d p h q
read_wider told last a b c d (Some bytes) p q h = h

-- ---- the two files of an input

abbrev pub two_reads : (case_read schedule_read : Option (List ℕ)) → Reads
two_reads case_read schedule_read CaseFile = case_read
two_reads case_read schedule_read ScheduleFile = schedule_read
two_reads case_read schedule_read ReportFile = None
two_reads case_read schedule_read PricesFile = None
two_reads case_read schedule_read MixtureFile = None

pub are_two_reads : (told : List ℕ → Option (List ℕ)) (rose : List ℕ → Type 0) (case_name schedule_name : List ℕ)
    (case_read schedule_read : Option (List ℕ))
    → IsReadOf (told case_name) (rose case_name) case_read →
    IsReadOf (told schedule_name) (rose schedule_name) schedule_read
    → AreReads told rose (case_and_schedule case_name schedule_name) (two_reads case_read schedule_read)
are_two_reads told rose case_name schedule_name case_read schedule_read p q CaseFile = p
are_two_reads told rose case_name schedule_name case_read schedule_read p q ScheduleFile = q
are_two_reads told rose case_name schedule_name case_read schedule_read p q ReportFile = tt
are_two_reads told rose case_name schedule_name case_read schedule_read p q PricesFile = tt
are_two_reads told rose case_name schedule_name case_read schedule_read p q MixtureFile = tt

-- what was read of a report too
abbrev pub report_added : Reads → Option (List ℕ) → Reads
report_added reads read CaseFile = reads CaseFile
report_added reads read ScheduleFile = reads ScheduleFile
report_added reads read ReportFile = read
report_added reads read PricesFile = reads PricesFile
report_added reads read MixtureFile = reads MixtureFile

-- what was read of prices too
abbrev pub prices_added : Reads → Option (List ℕ) → Reads
prices_added reads read CaseFile = reads CaseFile
prices_added reads read ScheduleFile = reads ScheduleFile
prices_added reads read ReportFile = reads ReportFile
prices_added reads read PricesFile = read
prices_added reads read MixtureFile = reads MixtureFile

-- what was read of a mixture too
abbrev pub mixture_added : Reads → Option (List ℕ) → Reads
mixture_added reads read CaseFile = reads CaseFile
mixture_added reads read ScheduleFile = reads ScheduleFile
mixture_added reads read ReportFile = reads ReportFile
mixture_added reads read PricesFile = reads PricesFile
mixture_added reads read MixtureFile = read

-- a shelf counts the faults of a name before, between and after the reads of the input and of the last file
module _ (told : List ℕ → Option (List ℕ)) (last : Option ℕ) (before between after : List ℕ → ℕ)
    (case_name schedule_name last_name : List ℕ) where
  module _ (reads : Reads) (read : Option (List ℕ)) (early : (any : List ℕ) → before any ≤ between any)
      (late : (any : List ℕ) → between any ≤ after any)
      (are : AreReads told (λ name. Rose last (before name) (between name)) (case_and_schedule case_name schedule_name)
      reads)
      (is : IsReadOf (told last_name) (Rose last (between last_name) (after last_name)) read) where
    case_later : IsReadOf (told case_name) (Rose last (before case_name) (after case_name)) (reads CaseFile)
    case_later = read_wider (told case_name) last (before case_name) (before case_name) (between case_name)
        (after case_name) (reads CaseFile) (omega arith) (late case_name) (are CaseFile)

    schedule_later : IsReadOf (told schedule_name) (Rose last (before schedule_name) (after schedule_name))
        (reads ScheduleFile)
    schedule_later =
        read_wider (told schedule_name) last (before schedule_name) (before schedule_name) (between schedule_name)
        (after schedule_name) (reads ScheduleFile) (omega arith) (late schedule_name) (are ScheduleFile)

    last_earlier : IsReadOf (told last_name) (Rose last (before last_name) (after last_name)) read
    last_earlier = read_wider (told last_name) last (before last_name) (between last_name) (after last_name)
        (after last_name) read (early last_name) (omega arith) is

    pub are_report_added : AreReads told (λ name. Rose last (before name) (after name))
        (with_report case_name schedule_name last_name) (report_added reads read)
    are_report_added CaseFile = case_later
    are_report_added ScheduleFile = schedule_later
    are_report_added ReportFile = last_earlier
    are_report_added PricesFile = tt
    are_report_added MixtureFile = tt

    pub are_prices_added : AreReads told (λ name. Rose last (before name) (after name))
        (with_prices case_name schedule_name last_name) (prices_added reads read)
    are_prices_added CaseFile = case_later
    are_prices_added ScheduleFile = schedule_later
    are_prices_added ReportFile = tt
    are_prices_added PricesFile = last_earlier
    are_prices_added MixtureFile = tt

-- and before, between and after the reads of the input with its prices and of a mixture
module _ (told : List ℕ → Option (List ℕ)) (last : Option ℕ) (before between after : List ℕ → ℕ) (names : SettleAsked)
    (mixture_name : List ℕ) where
  module _ (reads : Reads) (read : Option (List ℕ)) (early : (any : List ℕ) → before any ≤ between any)
      (late : (any : List ℕ) → between any ≤ after any)
      (are : AreReads told (λ name. Rose last (before name) (between name))
      (with_prices names.case_name names.schedule_name names.prices_name) reads)
      (is : IsReadOf (told mixture_name) (Rose last (between mixture_name) (after mixture_name)) read) where
    later : (name : List ℕ) (bytes : Option (List ℕ)) →
        IsReadOf (told name) (Rose last (before name) (between name)) bytes →
        IsReadOf (told name) (Rose last (before name) (after name)) bytes
    later name bytes h = read_wider (told name) last (before name) (before name) (between name) (after name) bytes
        (omega arith) (late name) h

    pub are_mixture_added : AreReads told (λ name. Rose last (before name) (after name))
        (with_mixture names mixture_name) (mixture_added reads read)
    are_mixture_added CaseFile = later names.case_name (reads CaseFile) (are CaseFile)
    are_mixture_added ScheduleFile = later names.schedule_name (reads ScheduleFile) (are ScheduleFile)
    are_mixture_added ReportFile = tt
    are_mixture_added PricesFile = later names.prices_name (reads PricesFile) (are PricesFile)
    are_mixture_added MixtureFile = read_wider (told mixture_name) last (before mixture_name) (between mixture_name)
        (after mixture_name) (after mixture_name) read (early mixture_name) (omega arith) is

-- what may have been read of all files, whatever is told of them
abbrev any_of : (told : List ℕ → Option (List ℕ)) → Option (List ℕ) → Option (List ℕ)
any_of told None = None
any_of told (Some name) = unread (told name)

pub any_reads : (told : List ℕ → Option (List ℕ)) (rose : List ℕ → Type 0) (name_of : FileKind → Option (List ℕ)) →
    (reads : Reads) × AreReads told rose name_of reads
any_reads told rose name_of = (λ file. any_of told (name_of file), λ file. each (name_of file))
  where
    each : (o : Option (List ℕ)) → IfSome o (λ name. IsReadOf (told name) (rose name) (any_of told o))
    each None = tt
    each (Some name) = unread_is (told name) (rose name)
