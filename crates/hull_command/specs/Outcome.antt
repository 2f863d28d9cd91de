-- WHAT A RUN OF `hull` DOES, to be read from top to bottom (this project's profile; dual value,
-- best responses and payments are those of Gribik, Hogan and Pope 2007). `hull_run` ensures
-- IsOutcome, the record at the foot; before it stand its words: the commands, and how a run ends.
-- What follows from it in full words is in the Laws of law_outcome, IsPromised for `price` and
-- HasNoFeasibleSchedule for a schedule that is refused among them.
--
-- `told name` is what the shelf tells of a file's bytes, None where it tells none, and `rose name`
-- that its count of faults under that name rose. A real file tells nothing: then all that is said
-- is that there are bytes that fit, and that they are those on the disk is trusted; but the
-- function is one for all shelves, and over one that tells its bytes it can do nothing else.
-- `gained text` is that the sink has got the whole text, `short text` that it has a front of it and
-- its count of failed writes rose. A sink that tells nothing of what it holds, as standard output,
-- has got any text. A count that stands at its last value can't rise, and is taken to have risen.
-- `(x : T) × P` is read 'there is an x with P', `×` between two statements 'and', `⊎` 'or', `⊥`
-- 'never'.
--
-- Read hull_input's Files first: which files a command names, and what was read of them. The steps
-- over files stand in hull_input's Steps, and a case with its schedule in hull_input's Planned.
-- FurtherSteps has the case that `try` makes, and the judgement of `audit`. What makes a report and
-- a side of `fixed` right is in right_report's RightReport and RightSide. The texts of a report, a
-- settlement, a certificate and a search are in report_form's ReportText, SettlementText,
-- CertificateText and ConvexText. The others are in hull_report: CheckText, TryText, BoundText,
-- FixedText, AuditText, and what `settle`, `certify` and `convex` tell in SettledText,
-- CertifiedText and ConvexText. The line of a fault is in hull_fault's FaultLines. A case with its
-- schedule's commitments held is in plan_settle's FixedCase. Which reports are read, and the first
-- line in fault, is in report_read's Bounds and Faults, and the first line at which a report
-- differs from the right one in report_compare's Right. The bound round a row is in gap_proof's
-- Candidates, the bound by a mixture in its MixtureBound, a settlement at any prices in
-- price_settle's Settled, and what a search finds in convex_search's FoundPrices.
use Rattle.std.specs.Prelude.{◌≡◌, ◌⊎◌, ℕ, ℤ, pos, List, length, unsigned_abs, Option, None, Some}
use Rattle.std.specs.Prelude.{Result, Ok, Err}
use Rattle.uc_model.specs.Data.{PriceLists, Market}
use Rattle.plan_settle.specs.FixedCase.{fixed_market}
use Rattle.gap_proof.specs.Candidates.{RowRange, IsFirstLeast}
use Rattle.hull_words.specs.Asked.{Asked, check, price, try, bound, fixed, audit, settle}
use Rattle.hull_words.specs.Asked.{certify, convex, ConvexAsked}
use Rattle.hull_words.specs.Words.{words_of}
use Rattle.hull_words.specs.declared.word_fault.WordFault.{WordFault}
use Rattle.hull_report.specs.AuditText.{audit_text}
use Rattle.hull_report.specs.BoundText.{bound_text}
use Rattle.hull_report.specs.CertifiedText.{certificate_of}
use Rattle.hull_report.specs.CheckText.{check_text}
use Rattle.hull_report.specs.ConvexText.{convex_of}
use Rattle.hull_fault.specs.FaultLines.{status_of, fault_line}
use Rattle.right_report.specs.RightSide.{ToldSide}
use Rattle.hull_report.specs.FixedText.{fixed_text}
use Rattle.report_form.specs.CertificateText.{certificate_text}
use Rattle.report_form.specs.ConvexText.{convex_text}
use Rattle.report_form.specs.ReportText.{Report, report_text}
use Rattle.right_report.specs.RightReport.{IsRightReport}
use Rattle.right_report.specs.RightSide.{IsRightSide}
use Rattle.hull_report.specs.SettledText.{settlement_of}
use Rattle.report_form.specs.SettlementText.{settlement_text}
use Rattle.hull_report.specs.TryText.{try_text}
use Rattle.hull_fault.specs.declared.fault.FileKind.{FileKind}
use Rattle.hull_fault.specs.declared.fault.FileKind.TheVariants.{ReportFile, PricesFile, MixtureFile}
use Rattle.hull_fault.specs.declared.fault.TopFault.{TopFault}
use Rattle.hull_fault.specs.declared.fault.TopFault.TheVariants.{Words, Memory}
use Rattle.hull_input.specs.Files.{Reads, AreReads, case_and_schedule, with_report, with_prices}
use Rattle.hull_input.specs.Files.{with_mixture}
use Rattle.hull_input.specs.Planned.{PlannedCase}
use Rattle.hull_input.specs.Steps.{Then, IsInput, IsWithinWork, IsPricesFile, IsPriced}
use Rattle.hull_input.specs.Steps.{IsMixtureFile, IsCertifiable, rounds_for, IsWithinRounds}
use Rattle.hull_command.specs.declared.end.End.{End}
use Rattle.hull_command.specs.declared.end.End.TheVariants.{Done, Cut, Refused}
use Rattle.hull_command.specs.FurtherSteps.{IsMade, IsAudit}
use Rattle.price_settle.specs.Settled.{Settled, IsSettledAt}
use Rattle.gap_proof.specs.Mixtures.{MixtureLists}
use Rattle.gap_proof.specs.MixtureBound.{mixture_bound}
use Rattle.convex_search.specs.FoundPrices.{FoundPrices, IsFound}
use Rattle.convex_search.specs.declared.goals.Goal.{Goal}

-- ---- the commands

-- Which files a command reads, and under which names; what its input is over what was read of them,
-- or else its first refusal; and which texts it may print of that input.
pub record Command : Type 1 where
  pub name_of : FileKind → Option (List ℕ)
  pub IsDue : Reads → Result PlannedCase TopFault → Type 0
  pub IsText : Reads → PlannedCase → List ℕ → Type 0

abbrev pub no_files : FileKind → Option (List ℕ)
no_files file = None

-- what `text_of` writes of a right report for the input, with that budget and number of proposals
-- ahead
abbrev pub IsReportText : (Report → List ℕ) → (budget ahead : ℕ) → PlannedCase → List ℕ → Type 0
IsReportText text_of budget ahead c text =
    (r : Report) × IsRightReport c.market c.plan budget ahead r × (text ≡ text_of r)

-- the text of the best bound that the rows of a right report give round its chosen row
abbrev pub IsBoundText : (budget ahead : ℕ) (radius : ℤ) → PlannedCase → List ℕ → Type 0
IsBoundText budget ahead radius c text =
    (r : Report) × IsRightReport c.market c.plan budget ahead r
    × (range : RowRange) × (limit : ℤ) × IsFirstLeast c.market r.rows r.chosen radius range limit
    × (text ≡ bound_text (length r.rows) r.chosen r.value
    (unsigned_abs radius) range.first range.last limit)

-- the text of the run of the case and of the run with the schedule's commitments held, each with
-- what the units are owed at its chosen prices: of a right side the first case is the one that is
-- paid, as given in both, and the second the one that was run
abbrev pub IsFixedText : (budget ahead : ℕ) → PlannedCase → List ℕ → Type 0
IsFixedText budget ahead c text =
    (hull held : ToldSide) × IsRightSide c.market c.market c.plan budget ahead hull
    × IsRightSide c.market (fixed_market c.market c.plan) c.plan budget ahead held
    × (text ≡ fixed_text c.market c.cost hull held)

-- the text that tells of the report that was read that it is right for its own budget and number of
-- proposals ahead
abbrev pub IsAuditText : Option (List ℕ) → PlannedCase → List ℕ → Type 0
IsAuditText read c text =
    (r : Report) × (read ≡ Some (report_text r))
    × IsRightReport c.market c.plan r.budget r.ahead r × (text ≡ audit_text (length r.rows))

-- the text of what the schedule is settled at, at the prices that were read: their exact dual value,
-- of each unit the least of its best responses with what it earns by that, in the schedule and
-- beside the prices, and what surplus reserve is worth
abbrev pub IsSettlementText : Option (List ℕ) → PlannedCase → List ℕ → Type 0
IsSettlementText read c text =
    (prices : PriceLists) × IsPricesFile c.market.periods read (Ok prices)
    × (s : Settled) × IsSettledAt c.market c.plan prices s
    × (text ≡ settlement_text (settlement_of c.market c.cost s))

-- the text that tells of the prices that were read what the schedule is settled at there, and the
-- bound that the mixture that was read gives on the dual value of all whole prices within the limits
-- and the radius
abbrev pub IsCertificateText : (prices mixture : Option (List ℕ)) (radius : ℤ) → PlannedCase →
    List ℕ → Type 0
IsCertificateText prices mixture radius c text =
    (π : PriceLists) × IsPricesFile c.market.periods prices (Ok π)
    × (x : MixtureLists) × IsMixtureFile c.market mixture (Ok x)
    × (s : Settled) × IsSettledAt c.market c.plan π s
    × (text ≡ certificate_text (certificate_of c.market c.cost s (unsigned_abs radius)
    (mixture_bound c.market x π radius)))

-- what words and a case tell a search: the distance within which it ends, and its most rounds
abbrev pub goal_for : ConvexAsked → Market → Goal
goal_for a m = record { within = pos a.within; rounds = rounds_for a.rounds m }

-- the text of some prices, a mixture and its bound that such a search may find, with what the schedule
-- is settled at there: which ones it finds isn't said
abbrev pub IsConvexText : ConvexAsked → PlannedCase → List ℕ → Type 0
IsConvexText a c text =
    (f : FoundPrices) × IsFound c.market (goal_for a c.market) f
    × (s : Settled) × IsSettledAt c.market c.plan f.prices s
    × (text ≡ convex_text (convex_of c.market c.cost s f.mixture (pos a.within)
    (rounds_for a.rounds c.market) f.made f.bound))

-- words that are refused at once
abbrev pub refused : WordFault → Command
refused f = record {
  name_of = no_files;
  IsDue = λ reads due. due ≡ Err (Words f);
  IsText = λ reads c text. ⊥;
}

-- THE COMMAND OF THE WORDS. A further command is a further case here.
abbrev pub command_for : Result Asked WordFault → Command
-- whether a schedule is feasible, and what it costs
command_for (Ok (check a)) = record {
  name_of = case_and_schedule a.case_name a.schedule_name;
  IsDue = IsInput;
  IsText = λ reads c text. text ≡ check_text c.market c.cost;
}
-- the report of a run
command_for (Ok (price a)) = record {
  name_of = case_and_schedule a.case_name a.schedule_name;
  IsDue = λ reads. Then (IsInput reads) (IsWithinWork a.proposals);
  IsText = λ reads. IsReportText report_text a.proposals a.ahead;
}
-- the sums of a run on the case that a number stands for
command_for (Ok (try a)) = record {
  name_of = no_files;
  IsDue = λ reads. Then (IsMade a.number) (IsWithinWork a.proposals);
  IsText = λ reads. IsReportText (try_text a.number) a.proposals a.ahead;
}
-- how much better any other whole prices could be, within the limits and within a radius of those
-- that a run chose
command_for (Ok (bound a)) = record {
  name_of = case_and_schedule a.run.case_name a.run.schedule_name;
  IsDue = λ reads. Then (IsInput reads) (IsWithinWork a.run.proposals);
  IsText = λ reads. IsBoundText a.run.proposals a.run.ahead a.radius;
}
-- what the units are owed at the prices of the case, and at those with the schedule's commitments
-- held
command_for (Ok (fixed a)) = record {
  name_of = case_and_schedule a.case_name a.schedule_name;
  IsDue = λ reads. Then (IsInput reads) (IsWithinWork a.proposals);
  IsText = λ reads. IsFixedText a.proposals a.ahead;
}
-- whether a report is right
command_for (Ok (audit a)) = record {
  name_of = with_report a.case_name a.schedule_name a.report_name;
  IsDue = λ reads. Then (IsInput reads) (IsAudit reads);
  IsText = λ reads. IsAuditText (reads ReportFile);
}
-- what the schedule is settled at, at given prices
command_for (Ok (settle a)) = record {
  name_of = with_prices a.case_name a.schedule_name a.prices_name;
  IsDue = λ reads. Then (IsInput reads) (IsPriced reads);
  IsText = λ reads. IsSettlementText (reads PricesFile);
}
-- how near to the best given prices are, by a mixture of schedules
command_for (Ok (certify a)) = record {
  name_of = with_mixture a.names a.mixture_name;
  IsDue = λ reads. Then (IsInput reads) (IsCertifiable reads);
  IsText = λ reads. IsCertificateText (reads PricesFile) (reads MixtureFile) a.radius;
}
-- prices that a search finds, and how near to the best they are, by a mixture that it finds too
command_for (Ok (convex a)) = record {
  name_of = case_and_schedule a.case_name a.schedule_name;
  IsDue = λ reads. Then (IsInput reads) (IsWithinRounds a.rounds);
  IsText = λ reads. IsConvexText a;
}
command_for (Err f) = refused f

-- ---- how a run ends

-- its status: 0 for a text written whole, 6 for one cut short, or that of its fault
abbrev pub status_at : End → ℕ
status_at Done = 0
status_at Cut = 6
status_at (Refused f) = status_of f

-- some text of an accepted input has P
abbrev pub HasText : Command → Reads → (List ℕ → Type 0) → Type 0
HasText c reads P =
    (i : PlannedCase) × c.IsDue reads (Ok i) × (text : List ℕ) × c.IsText reads i text × P text

-- `gained` says of a text that the sink has it whole, and `short` that the sink has a front of it,
-- which may be all of it, and its count rose.
--   0: the text of an accepted input was gained
--   6: it fell short
--   else: the line of the first refusal was written, as far as the sink took it. A failed read is
--   such a refusal, and want of memory may come at any time.
abbrev pub Ends : Command → Reads → (gained short : List ℕ → Type 0) → End → Type 0
Ends c reads gained short Done = HasText c reads gained
Ends c reads gained short Cut = HasText c reads short
Ends c reads gained short (Refused f) =
    (c.IsDue reads (Err f) ⊎ (f ≡ Memory)) × (gained (fault_line f) ⊎ short (fault_line f))

-- THE OUTCOME of a run of these words: there are bytes of each file that the words name, those that
-- the shelf tells where it tells any, or a read of it that failed as a count tells, and the run ended
-- as is due on them, with the status of that end.
pub record IsOutcome (words : List (List ℕ)) (told : List ℕ → Option (List ℕ))
    (rose gained short : List ℕ → Type 0) (status : ℕ) : Type 0 where
  pub reads : Reads
  pub are_reads : AreReads told rose (command_for (words_of words)).name_of reads
  pub end : End
  pub ends : Ends (command_for (words_of words)) reads gained short end
  pub status_is : status ≡ status_at end
