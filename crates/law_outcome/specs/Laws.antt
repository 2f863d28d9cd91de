-- What holds of every run. Each law is the clause of a public function. A run is one of which
-- hull_run's clause `outcome` holds: `told` is what the shelf tells, `rose` that the count of a
-- name rose or stands at its last value, `gained` that the sink has a text whole, and `short` that
-- it has a front of it and its count rose, or stands at its last value. IsOutcome and the commands
-- are in the Outcome of hull_command.
use Rattle.std.specs.List.{All}
use Rattle.std.specs.Prelude.{◌≡◌, ◌≢◌, ◌⊎◌, ⊤, ℕ, ◌<◌, ◌≤◌, ◌==◌, ◌||◌, Bool, ◌+ℤ◌, ◌-ℤ◌, List}
use Rattle.std.specs.Prelude.{Option, None, Some, Result, Ok, Err, IsTrue, IfSome, IsSome, ℤ, ◌-◌}
use Rattle.std.specs.Prelude.{pos, ◌≤ℤ◌, length, slice_get, unsigned_abs}
use Rattle.uc_model.specs.Data.{Market, PriceLists, Schedule}
use Rattle.uc_model.specs.Limits.{IsMarket}
use Rattle.uc_model.specs.PriceRule.{Proposal}
use Rattle.uc_model.specs.Systems.{IsFeasiblePlan, plan_cost, IsDualValue, IsSettled}
use Rattle.uc_case.specs.CaseFiles.{IsCaseOf}
use Rattle.uc_text.specs.Files.{FileFault}
use Rattle.uc_plan.specs.PlanFiles.{IsPlanOf}
use Rattle.uc_prices.specs.PricesFiles.{IsPricesOf}
use Rattle.uc_prices.specs.declared.fault.PriceFault.{PriceFault}
use Rattle.uc_mixture.specs.MixtureFiles.{IsMixtureFileOf}
use Rattle.uc_mixture.specs.declared.fault.ShareFault.{ShareFault}
use Rattle.gap_proof.specs.MixtureLaws.{least_paid}
use Rattle.gap_proof.specs.Mixtures.{MixtureLists, IsMixture}
use Rattle.gap_proof.specs.MixtureBound.{mixture_bound}
use Rattle.gap_proof.specs.MixtureRefused.{mixture_refusals, entry_refusal_of}
use Rattle.gap_proof.specs.declared.mixture_check.EntryFault.{EntryFault}
use Rattle.price_settle.specs.Laws.{AddsUp}
use Rattle.price_settle.specs.Settled.{Settled, IsSettledAt}
use Rattle.hull_io.specs.Edge.{Rose, Gains, FallsShort}
use Rattle.plain_lists.specs.declared.limits.TheConstants.{MOST_BYTES}
use Rattle.hull_words.specs.Asked.{Asked, CheckAsked, PriceAsked, TryAsked, BoundAsked, AuditAsked}
use Rattle.hull_words.specs.Asked.{SettleAsked, CertifyAsked, check, price, try, bound, fixed, audit}
use Rattle.hull_words.specs.Asked.{settle, certify, convex, ConvexAsked}
use Rattle.hull_words.specs.Words.{words_of}
use Rattle.hull_words.specs.declared.word_fault.WordFault.{WordFault}
use Rattle.plan_settle.specs.FixedCase.{fixed_market}
use Rattle.gap_proof.specs.Candidates.{RowRange, IsFirstLeast}
use Rattle.law_parts.specs.BoundLaws.{IsBoundRound, IsInBox, ArePriced}
use Rattle.convex_search.specs.FoundPrices.{FoundPrices, IsNear}
use Rattle.hull_report.specs.AuditText.{audit_text}
use Rattle.hull_report.specs.BoundText.{bound_text}
use Rattle.hull_fault.specs.FaultLines.{status_of, fault_line}
use Rattle.right_report.specs.RightSide.{ToldSide}
use Rattle.hull_report.specs.FixedText.{fixed_text}
use Rattle.report_form.specs.ReportText.{UnitLine, Report, report_text}
use Rattle.report_form.specs.CertificateText.{certificate_text}
use Rattle.report_form.specs.ConvexText.{convex_text}
use Rattle.report_form.specs.SettlementText.{settlement_text}
use Rattle.hull_report.specs.CertifiedText.{certificate_of}
use Rattle.hull_report.specs.ConvexText.{convex_of}
use Rattle.hull_report.specs.SettledText.{settlement_of}
use Rattle.right_report.specs.RightReport.{IsRightReport, unit_lines}
use Rattle.right_report.specs.RightSide.{IsRightSide, IsMadeUp}
use Rattle.hull_fault.specs.declared.fault.FileKind.{FileKind}
use Rattle.hull_fault.specs.declared.fault.FileKind.TheVariants.{CaseFile, ScheduleFile}
use Rattle.hull_fault.specs.declared.fault.FileKind.TheVariants.{ReportFile, PricesFile, MixtureFile}
use Rattle.hull_fault.specs.declared.fault.TopFault.{TopFault}
use Rattle.hull_fault.specs.declared.fault.TopFault.TheVariants.{Words, Read, TooBig, Memory}
use Rattle.hull_fault.specs.declared.fault.ReportCode.TheVariants.{OutOfForm, Wrong}
use Rattle.hull_fault.specs.declared.fault.TopFault.TheVariants.{Report as Unfit, MixtureRule}
use Rattle.report_read.specs.Bounds.{IsReport}
use Rattle.report_read.specs.Faults.{IsFault}
use Rattle.report_compare.specs.Right.{DiffersFromRight}
use Rattle.law_parts.specs.AuditLaws.{AreAsked}
use Rattle.hull_input.specs.Files.{Reads, AreReads}
use Rattle.hull_input.specs.Planned.{PlannedCase}
use Rattle.hull_input.specs.Steps.{IsInput, IsCaseFile, prices_fault, mixture_fault, rounds_for}
use Rattle.hull_command.specs.Outcome.{Command, command_for, HasText, IsOutcome}

-- ---- at most one thing is due

-- over what was read, one input or one refusal
abbrev pub OneDue : Type 0
OneDue = (words : List (List ℕ)) (reads : Reads) (due other : Result PlannedCase TopFault)
    → (command_for (words_of words)).IsDue reads due
    → (command_for (words_of words)).IsDue reads other → due ≡ other

-- words of every command but a search, of which it isn't said which prices it finds
abbrev pub TextFollows : Result Asked WordFault → Type 0
TextFollows (Ok (convex a)) = ⊥
TextFollows words = ⊤

-- and of such words one text of that input: its bytes follow from the case, the schedule and the
-- run's numbers
abbrev pub OneText : Type 0
OneText = (words : List (List ℕ)) (reads : Reads) (i : PlannedCase) (text other : List ℕ)
    → TextFollows (words_of words) → (command_for (words_of words)).IsText reads i text
    → (command_for (words_of words)).IsText reads i other → text ≡ other

-- an accepted input has a feasible schedule, at its cost
abbrev pub AcceptedIsFeasible : Type 0
AcceptedIsFeasible = (words : List (List ℕ)) (reads : Reads) (i : PlannedCase)
    → (command_for (words_of words)).IsDue reads (Ok i)
    → IsFeasiblePlan i.market i.plan × (i.cost ≡ plan_cost i.market i.plan)

-- ---- the cause of each status

-- the statuses of the faults of words and of what was read
abbrev pub is_refusal : ℕ → Bool
is_refusal n = n == 1 || n == 3 || n == 4 || n == 5 || n == 8 || n == 9 || n == 10

-- there are reads of the command's files over which P holds
abbrev pub OverReads : Command → (told : List ℕ → Option (List ℕ)) (rose : List ℕ → Type 0) →
    (Reads → Type 0) → Type 0
OverReads c told rose P = (reads : Reads) × AreReads told rose c.name_of reads × P reads

module _ (c : Command) (told : List ℕ → Option (List ℕ))
    (rose gained short : List ℕ → Type 0) where
  -- the line was written, as far as the sink took it
  abbrev pub IsWritten : TopFault → Type 0
  IsWritten f = gained (fault_line f) ⊎ short (fault_line f)

  -- a fault of that status is due, and its line was written
  abbrev pub IsRefused : ℕ → Reads → Type 0
  IsRefused n reads = (f : TopFault) × c.IsDue reads (Err f) × (n ≡ status_of f) × IsWritten f

  -- the count of a file's name rose, what is read before it isn't refused, and its line was written
  abbrev pub IsUnread : Reads → Type 0
  IsUnread reads =
      (file : FileKind) × (name : List ℕ) × (c.name_of file ≡ Some name) × rose name
      × c.IsDue reads (Err (Read file)) × IsWritten (Read file)

  pub record HasCause (n : ℕ) : Type 0 where
    pub known : n ≤ 10
    pub done : n ≡ 0 → OverReads c told rose (λ reads. HasText c reads gained)
    pub cut : n ≡ 6 → OverReads c told rose (λ reads. HasText c reads short)
    pub refused : IsTrue (is_refusal n) → OverReads c told rose (IsRefused n)
    pub unread : n ≡ 2 → OverReads c told rose IsUnread
    pub memory : n ≡ 7 → IsWritten Memory

  -- no count rose
  pub record IsQuiet : Type 0 where
    pub shelf : (file : FileKind) → IfSome (c.name_of file) (λ name. ¬ rose name)
    pub sink : (text : List ℕ) → ¬ short text

-- No read failed; an accepted input ends in 0, and a refusal in its status, but for want of memory.
pub record IsDecided (c : Command) (n : ℕ) (reads : Reads) : Type 0 where
  pub read : (file : FileKind) → IfSome (c.name_of file) (λ name. IsSome (reads file))
  pub accepted : (i : PlannedCase) → c.IsDue reads (Ok i) → (n ≡ 0) ⊎ (n ≡ 7)
  pub refused : (f : TopFault) → c.IsDue reads (Err f) → (n ≡ status_of f) ⊎ (n ≡ 7)

-- ---- what the words alone say

-- the fault of words that give no command
abbrev pub word_fault : Result Asked WordFault → Option WordFault
word_fault (Ok asked) = None
word_fault (Err f) = Some f

-- words that ask for given prices to be read
abbrev pub AskForPrices : Result Asked WordFault → Type 0
AskForPrices words =
    ((a : SettleAsked) × (words ≡ Ok (settle a))) ⊎ ((a : CertifyAsked) × (words ≡ Ok (certify a)))

-- What a status tells of words. Faulty words end in 1 or 7 and no other words end in 1; a check, a
-- settlement and a certificate have no limit of work; only an audit reads a report, only a
-- settlement and a certificate read prices, and only a certificate reads a mixture.
pub record FollowsFromWords (words : Result Asked WordFault) (gained short : List ℕ → Type 0)
    (n : ℕ) : Type 0 where
  pub faulty : (f : WordFault) → word_fault words ≡ Some f → (n ≡ 1) ⊎ (n ≡ 7)
  pub at_1 : n ≡ 1 → (f : WordFault) × (word_fault words ≡ Some f)
      × (gained (fault_line (Words f)) ⊎ short (fault_line (Words f)))
  pub check_at_5 : (a : CheckAsked) → words ≡ Ok (check a) → n ≢ 5
  pub settle_at_5 : (a : SettleAsked) → words ≡ Ok (settle a) → n ≢ 5
  pub certify_at_5 : (a : CertifyAsked) → words ≡ Ok (certify a) → n ≢ 5
  pub at_8 : n ≡ 8 → (a : AuditAsked) × (words ≡ Ok (audit a))
  pub at_9 : n ≡ 9 → AskForPrices words
  pub at_10 : n ≡ 10 → (a : CertifyAsked) × (words ≡ Ok (certify a))

-- ---- what the status of a refused schedule promises

-- THE PROMISE of 4: the line of a fault that is due was written, as far as the sink took it; the
-- case's file is a case, which keeps the limits of one; and the schedule's file has more than
-- 67,108,864 bytes, or no feasible schedule of the case is in it.
pub record HasNoFeasibleSchedule (c : Command) (gained short : List ℕ → Type 0)
    (reads : Reads) : Type 0 where
  pub fault : TopFault
  pub status : status_of fault ≡ 4
  pub due : c.IsDue reads (Err fault)
  pub written : gained (fault_line fault) ⊎ short (fault_line fault)
  pub market : Market
  pub is_case : IsCaseFile (reads CaseFile) (Ok market)
  pub limits : IsMarket market
  pub bytes : List ℕ
  pub is_read : reads ScheduleFile ≡ Some bytes
  pub none : length bytes ≤ MOST_BYTES → (plan : List Schedule) → IsPlanOf market bytes (Ok plan) →
      IsFeasiblePlan market plan → ⊥

-- ---- what a printed report promises

-- THE PROMISE of `hull price`, where it answers 0: there are bytes of the case and of the schedule,
-- those that are told where any are; they are a case and a feasible schedule of it; and what was
-- printed is the text of a right report, whose payments and surplus make up what the chosen value
-- lacks of the cost, which is the gap that it prints. No payment is below 0, and neither is the
-- surplus.
pub record IsPromised (a : PriceAsked) (told : List ℕ → Option (List ℕ))
    (gained : List ℕ → Type 0) : Type 0 where
  pub case_bytes : List ℕ
  pub case_told : IfSome (told a.case_name) (λ all. case_bytes ≡ all)
  pub schedule_bytes : List ℕ
  pub schedule_told : IfSome (told a.schedule_name) (λ all. schedule_bytes ≡ all)
  pub market : Market
  pub is_case : IsCaseOf case_bytes (Ok market)
  pub plan : List Schedule
  pub is_plan : IsPlanOf market schedule_bytes (Ok plan)
  pub feasible : IsFeasiblePlan market plan
  pub report : Report
  pub right : IsRightReport market plan a.proposals a.ahead report
  pub printed : gained (report_text report)
  pub made_up : report.payments +ℤ report.surplus ≡ plan_cost market plan -ℤ report.value
  pub gap : report.gap ≡ plan_cost market plan -ℤ report.value
  pub payments_from_0 : All (λ (l : UnitLine). pos 0 ≤ℤ l.payment) (unit_lines report)
  pub surplus_from_0 : pos 0 ≤ℤ report.surplus

-- THE PROMISE of `hull bound`, where it answers 0, over an accepted input: what was printed is the
-- text of a bound round the chosen row of a right report. No whole prices within the radius of that
-- row's prices, and within the limits, have a dual value above the printed bound, and the printed
-- distance is at least 0.
pub record IsBoundPromised (a : BoundAsked) (i : PlannedCase) (gained : List ℕ →
    Type 0) : Type 0 where
  pub report : Report
  pub right : IsRightReport i.market i.plan a.run.proposals a.run.ahead report
  pub row : Proposal
  pub chosen : slice_get report.rows (report.chosen - 1) ≡ Some row
  pub value : report.value ≡ row.value
  pub range : RowRange
  pub limit : ℤ
  pub best : IsFirstLeast i.market report.rows report.chosen a.radius range limit
  pub holds : IsBoundRound i.market row a.radius limit
  pub printed : gained (bound_text (length report.rows) report.chosen report.value
      (unsigned_abs a.radius) range.first range.last limit)

-- no payment of a side is below 0, and neither is its surplus
pub record PaysFrom0 (s : ToldSide) : Type 0 where
  pub payments : All (λ (x : ℤ). pos 0 ≤ℤ x) s.payments
  pub surplus : pos 0 ≤ℤ s.surplus

-- THE PROMISE of `hull fixed`, where it answers 0, over an accepted input: what was printed is the
-- text of a right side of the case's own run, and of one of the run with the schedule's commitments
-- held. On each the payments and the surplus make up what the dual value of the case as given, at
-- that side's prices, lacks of the cost, and no payment and no surplus is below 0.
pub record IsFixedPromised (a : PriceAsked) (i : PlannedCase) (gained : List ℕ → Type 0)
    : Type 0 where
  pub hull : ToldSide
  pub held : ToldSide
  pub hull_right : IsRightSide i.market i.market i.plan a.proposals a.ahead hull
  pub held_right : IsRightSide i.market (fixed_market i.market i.plan) i.plan a.proposals a.ahead
      held
  pub hull_made_up : IsMadeUp i.market i.plan hull
  pub held_made_up : IsMadeUp i.market i.plan held
  pub hull_from_0 : PaysFrom0 hull
  pub held_from_0 : PaysFrom0 held
  pub cost : i.cost ≡ plan_cost i.market i.plan
  pub printed : gained (fixed_text i.market i.cost hull held)

-- THE PROMISE of `hull audit`, where it answers 0: there are bytes of the case, of the schedule and
-- of the report, those that are told where any are; the first two are a case and a feasible
-- schedule of it; the third are the text of a report that is right for its own budget and number of
-- proposals ahead, whose payments and surplus make up what the chosen value lacks of the cost, none
-- of them below 0.
pub record IsAuditPromised (a : AuditAsked) (told : List ℕ → Option (List ℕ))
    (gained : List ℕ → Type 0) : Type 0 where
  pub case_bytes : List ℕ
  pub case_told : IfSome (told a.case_name) (λ all. case_bytes ≡ all)
  pub schedule_bytes : List ℕ
  pub schedule_told : IfSome (told a.schedule_name) (λ all. schedule_bytes ≡ all)
  pub report_bytes : List ℕ
  pub report_told : IfSome (told a.report_name) (λ all. report_bytes ≡ all)
  pub market : Market
  pub is_case : IsCaseOf case_bytes (Ok market)
  pub plan : List Schedule
  pub is_plan : IsPlanOf market schedule_bytes (Ok plan)
  pub feasible : IsFeasiblePlan market plan
  pub report : Report
  pub bounds : IsReport report
  pub is_report : report_bytes ≡ report_text report
  pub right : IsRightReport market plan report.budget report.ahead report
  pub made_up : report.payments +ℤ report.surplus ≡ plan_cost market plan -ℤ report.value
  pub payments_from_0 : All (λ (l : UnitLine). pos 0 ≤ℤ l.payment) (unit_lines report)
  pub surplus_from_0 : pos 0 ≤ℤ report.surplus
  pub printed : gained (audit_text (length report.rows))

-- Bytes are the text of a report within the bounds of reading that isn't right for its own budget
-- and number of proposals ahead, and this is the first line at which they differ from the right
-- one.
pub record IsWrongAt (i : PlannedCase) (bytes : List ℕ) (line : ℕ) : Type 0 where
  pub report : Report
  pub bounds : IsReport report
  pub is_text : bytes ≡ report_text report
  pub wrong : IsRightReport i.market i.plan report.budget report.ahead report → ⊥
  pub differs : DiffersFromRight i.market i.plan report line

-- And where it answers 8, over an accepted input: the line of a fault that is due was written, as
-- far as the sink took it. The report's file has more than 67,108,864 bytes; or the line is the
-- first that is out of form; or the report isn't right, and the line is the first that differs. No
-- right report with a budget and a number ahead that a run may be asked for has the bytes, unless
-- they are too many; and where a wrong line is told, no right report at all has them.
pub record IsAuditRefused (c : Command) (gained short : List ℕ → Type 0) (reads : Reads)
    (i : PlannedCase) : Type 0 where
  pub fault : TopFault
  pub status : status_of fault ≡ 8
  pub due : c.IsDue reads (Err fault)
  pub written : gained (fault_line fault) ⊎ short (fault_line fault)
  pub input : IsInput reads (Ok i)
  pub bytes : List ℕ
  pub is_read : reads ReportFile ≡ Some bytes
  pub too_big : fault ≡ TooBig ReportFile → MOST_BYTES < length bytes
  pub unfit : (line : ℕ) → fault ≡ Unfit OutOfForm line → IsFault bytes line
  pub wrong : (line : ℕ) → fault ≡ Unfit Wrong line → IsWrongAt i bytes line
  pub none : length bytes ≤ MOST_BYTES → (r : Report) → AreAsked r.budget r.ahead →
      IsRightReport i.market i.plan r.budget r.ahead r → bytes ≡ report_text r → ⊥
  pub never : (line : ℕ) → fault ≡ Unfit Wrong line → (r : Report) →
      IsRightReport i.market i.plan r.budget r.ahead r → bytes ≡ report_text r → ⊥

-- THE PROMISE of `hull settle`, where it answers 0: there are bytes of the case, of the schedule
-- and of the prices, those that are told where any are; they are a case, a feasible schedule of it,
-- and prices over its periods; and what was printed is the text of what the schedule is settled at,
-- at these prices: with their exact dual value, and of each unit the least of its best responses.
-- Payments and surplus make up what the dual value lacks of the cost, and none of them is below 0.
pub record IsSettlePromised (a : SettleAsked) (told : List ℕ → Option (List ℕ))
    (gained : List ℕ → Type 0) : Type 0 where
  pub case_bytes : List ℕ
  pub case_told : IfSome (told a.case_name) (λ all. case_bytes ≡ all)
  pub schedule_bytes : List ℕ
  pub schedule_told : IfSome (told a.schedule_name) (λ all. schedule_bytes ≡ all)
  pub prices_bytes : List ℕ
  pub prices_told : IfSome (told a.prices_name) (λ all. prices_bytes ≡ all)
  pub market : Market
  pub is_case : IsCaseOf case_bytes (Ok market)
  pub plan : List Schedule
  pub is_plan : IsPlanOf market schedule_bytes (Ok plan)
  pub feasible : IsFeasiblePlan market plan
  pub prices : PriceLists
  pub is_prices : IsPricesOf market.periods prices_bytes (Ok prices)
  pub settlement : Settled
  pub settled : IsSettledAt market plan prices settlement
  pub adds_up : AddsUp market plan settlement
  pub printed : gained (settlement_text (settlement_of market (plan_cost market plan) settlement))

-- And where it, or `hull certify`, answers 9, over an accepted input: the line of a fault that is
-- due was written, as far as the sink took it. The prices file has more than 67,108,864 bytes; or
-- the fault is the first of the file. Unless its bytes are too many, it has no prices over the
-- periods of the case.
pub record HasNoPrices (c : Command) (gained short : List ℕ → Type 0) (reads : Reads)
    (i : PlannedCase) : Type 0 where
  pub fault : TopFault
  pub status : status_of fault ≡ 9
  pub due : c.IsDue reads (Err fault)
  pub written : gained (fault_line fault) ⊎ short (fault_line fault)
  pub input : IsInput reads (Ok i)
  pub bytes : List ℕ
  pub is_read : reads PricesFile ≡ Some bytes
  pub cause : (MOST_BYTES < length bytes × (fault ≡ TooBig PricesFile))
      ⊎ (first : FileFault PriceFault) × IsPricesOf i.market.periods bytes (Err first)
      × (fault ≡ prices_fault first)
  pub none : length bytes ≤ MOST_BYTES → (prices : PriceLists) →
      IsPricesOf i.market.periods bytes (Ok prices) → ⊥

-- THE PROMISE of `hull certify`, where it answers 0: there are bytes of the case, of the schedule,
-- of the prices and of the mixture, those that are told where any are; they are a case, a feasible
-- schedule of it, prices over its periods, and a mixture of feasible schedules of its thermal units;
-- and what was printed is the certificate of what the schedule is settled at, at these prices, with
-- the bound by this mixture. No whole prices within the limits and the radius of the given ones have
-- a dual value above the bound, so neither have these; at any such prices payments and surplus sum
-- to at least `least_paid`, and at the given ones to the gap.
pub record IsCertifyPromised (a : CertifyAsked) (told : List ℕ → Option (List ℕ))
    (gained : List ℕ → Type 0) : Type 0 where
  pub case_bytes : List ℕ
  pub case_told : IfSome (told a.names.case_name) (λ all. case_bytes ≡ all)
  pub schedule_bytes : List ℕ
  pub schedule_told : IfSome (told a.names.schedule_name) (λ all. schedule_bytes ≡ all)
  pub prices_bytes : List ℕ
  pub prices_told : IfSome (told a.names.prices_name) (λ all. prices_bytes ≡ all)
  pub mixture_bytes : List ℕ
  pub mixture_told : IfSome (told a.mixture_name) (λ all. mixture_bytes ≡ all)
  pub market : Market
  pub is_case : IsCaseOf case_bytes (Ok market)
  pub plan : List Schedule
  pub is_plan : IsPlanOf market schedule_bytes (Ok plan)
  pub feasible : IsFeasiblePlan market plan
  pub prices : PriceLists
  pub is_prices : IsPricesOf market.periods prices_bytes (Ok prices)
  pub mixture : MixtureLists
  pub is_mixture : IsMixtureFileOf market mixture_bytes (Ok mixture)
  pub mixed : IsMixture market mixture
  pub settlement : Settled
  pub settled : IsSettledAt market plan prices settlement
  pub adds_up : AddsUp market plan settlement
  pub limit : ℤ
  pub limit_is : limit ≡ mixture_bound market mixture prices a.radius
  pub holds : (π : PriceLists) (value : ℤ) → IsInBox market prices a.radius π →
      IsDualValue market π value → value ≤ℤ limit
  pub reached : settlement.row.value ≤ℤ limit
  pub paid : (π : PriceLists) (scheduled payments : List ℤ) (surplus sum : ℤ) →
      IsInBox market prices a.radius π → IsSettled market plan π scheduled payments surplus sum →
      least_paid (plan_cost market plan) limit ≤ℤ (sum +ℤ surplus)
  pub printed : gained (certificate_text (certificate_of market (plan_cost market plan) settlement
      (unsigned_abs a.radius) limit))

-- And where it answers 10, over an accepted input: the line of a fault that is due was written, as
-- far as the sink took it. The mixture file has more than 67,108,864 bytes; or the fault is the
-- first of the file; or it is the first rule that a schedule of the mixture breaks. Unless its bytes
-- are too many, the file has no mixture of feasible schedules.
pub record HasNoMixture (c : Command) (gained short : List ℕ → Type 0) (reads : Reads)
    (i : PlannedCase) : Type 0 where
  pub fault : TopFault
  pub status : status_of fault ≡ 10
  pub due : c.IsDue reads (Err fault)
  pub written : gained (fault_line fault) ⊎ short (fault_line fault)
  pub input : IsInput reads (Ok i)
  pub bytes : List ℕ
  pub is_read : reads MixtureFile ≡ Some bytes
  pub cause : (MOST_BYTES < length bytes × (fault ≡ TooBig MixtureFile))
      ⊎ (((first : FileFault ShareFault) × IsMixtureFileOf i.market bytes (Err first)
      × (fault ≡ mixture_fault first))
      ⊎ ((x : MixtureLists) × (rule : EntryFault) × IsMixtureFileOf i.market bytes (Ok x)
      × (fault ≡ MixtureRule rule)
      × (slice_get (mixture_refusals i.market x) 0 ≡ Some (entry_refusal_of rule))))
  pub none : length bytes ≤ MOST_BYTES → (x : MixtureLists) →
      IsMixtureFileOf i.market bytes (Ok x) → IsMixture i.market x → ⊥

-- THE PROMISE of `hull convex`, where it answers 0: there are bytes of the case and of the schedule,
-- those that are told where any are; they are a case and a feasible schedule of it; and what was
-- printed is the text of prices within their limits, of what the schedule is settled at there, of a
-- mixture of feasible schedules of each thermal unit, and of a bound. No whole prices within the
-- limits have a dual value above the bound, so neither have these; and at any of them payments and
-- surplus sum to at least `least_paid`. No more rounds were made than the words and the case give,
-- and fewer only where bound and dual value are near.
pub record IsConvexPromised (a : ConvexAsked) (told : List ℕ → Option (List ℕ))
    (gained : List ℕ → Type 0) : Type 0 where
  pub case_bytes : List ℕ
  pub case_told : IfSome (told a.case_name) (λ all. case_bytes ≡ all)
  pub schedule_bytes : List ℕ
  pub schedule_told : IfSome (told a.schedule_name) (λ all. schedule_bytes ≡ all)
  pub market : Market
  pub is_case : IsCaseOf case_bytes (Ok market)
  pub plan : List Schedule
  pub is_plan : IsPlanOf market schedule_bytes (Ok plan)
  pub feasible : IsFeasiblePlan market plan
  pub found : FoundPrices
  pub prices : ArePriced market found.prices
  pub settlement : Settled
  pub settled : IsSettledAt market plan found.prices settlement
  pub adds_up : AddsUp market plan settlement
  pub mixed : IsMixture market found.mixture
  pub holds : (π : PriceLists) (value : ℤ) → ArePriced market π → IsDualValue market π value →
      value ≤ℤ found.bound
  pub reached : settlement.row.value ≤ℤ found.bound
  pub paid : (π : PriceLists) (scheduled payments : List ℤ) (surplus sum : ℤ) →
      ArePriced market π → IsSettled market plan π scheduled payments surplus sum →
      least_paid (plan_cost market plan) found.bound ≤ℤ (sum +ℤ surplus)
  pub made : found.made ≤ rounds_for a.rounds market
  pub near : found.made < rounds_for a.rounds market →
      IsNear (pos a.within) found.bound settlement.row.value
  pub printed : gained (convex_text (convex_of market (plan_cost market plan) settlement
      found.mixture (pos a.within) (rounds_for a.rounds market) found.made found.bound))

-- ---- how many workers there are

-- Two commands read the same files, and over them the same is due and the same texts may be
-- printed.
pub record AreAlike (c d : Command) : Type 0 where
  pub names : c.name_of ≡ d.name_of
  pub due : (reads : Reads) (found : Result PlannedCase TopFault) →
      c.IsDue reads found → d.IsDue reads found
  pub text : (reads : Reads) (i : PlannedCase) (text : List ℕ) →
      c.IsText reads i text → d.IsText reads i text

-- The number of workers changes nothing that is due and nothing that may be printed. So by OneDue
-- and OneText both follow from the other words and from what was read.
abbrev pub WorkersAreFree : Type 0
WorkersAreFree =
    (n : ℕ)
    → ((a : PriceAsked) → AreAlike (command_for (Ok (price a)))
    (command_for (Ok (price (record a { workers = n })))))
    × ((a : TryAsked) → AreAlike (command_for (Ok (try a)))
    (command_for (Ok (try (record a { workers = n })))))
    × ((a : BoundAsked) → AreAlike (command_for (Ok (bound a)))
    (command_for (Ok (bound (record a { run = record a.run { workers = n } })))))
    × ((a : PriceAsked) → AreAlike (command_for (Ok (fixed a)))
    (command_for (Ok (fixed (record a { workers = n })))))
    × ((a : AuditAsked) → AreAlike (command_for (Ok (audit a)))
    (command_for (Ok (audit (record a { workers = n })))))

-- the same words with so many workers, where they have any
abbrev pub with_workers : ℕ → Asked → Asked
with_workers n (price a) = price (record a { workers = n })
with_workers n (try a) = try (record a { workers = n })
with_workers n (bound a) = bound (record a { run = record a.run { workers = n } })
with_workers n (fixed a) = fixed (record a { workers = n })
with_workers n (audit a) = audit (record a { workers = n })
with_workers n (check a) = check a
with_workers n (settle a) = settle a
with_workers n (certify a) = certify a
with_workers n (convex a) = convex a

-- both tell the same bytes of each file that these words name
abbrev pub TellTheSame : Asked → (told other : List ℕ → Option (List ℕ)) → Type 0
TellTheSame a told other =
    (file : FileKind) → IfSome ((command_for (Ok a)).name_of file)
    (λ name. (bytes : List ℕ) × (told name ≡ Some bytes) × (other name ≡ Some bytes))

-- ---- the laws, over a shelf and a sink before and after the run

module _ {F S : Type 0} (told : F → List ℕ → Option (List ℕ)) (faults : F → List ℕ → ℕ)
    (last : Option ℕ) (held : S → Option (List ℕ)) (counts : S → ℕ) (most : Option ℕ) where
  abbrev OnRuns : (List (List ℕ) → (List ℕ → Option (List ℕ)) →
      (rose gained short : List ℕ → Type 0) → ℕ → Type 0) → Type 0
  OnRuns P = (words : List (List ℕ)) (old new : F) (before after : S) (n : ℕ)
      → IsOutcome words (told old) (λ name. Rose last (faults old name) (faults new name))
      (Gains held counts before after) (FallsShort held counts most before after) n
      → P words (told old) (λ name. Rose last (faults old name) (faults new name))
      (Gains held counts before after) (FallsShort held counts most before after) n

  abbrev pub EachStatusHasItsCause : Type 0
  EachStatusHasItsCause = OnRuns (λ words told rose gained short n.
      HasCause (command_for (words_of words)) told rose gained short n)

  -- COMPLETENESS: where no count rose, what was read decides
  abbrev pub WhatWasReadDecides : Type 0
  WhatWasReadDecides = OnRuns (λ words told rose gained short n.
      let c = command_for (words_of words) in
      IsQuiet c told rose gained short → OverReads c told rose (IsDecided c n))

  abbrev pub WordsFollow : Type 0
  WordsFollow = OnRuns (λ words told rose gained short n.
      FollowsFromWords (words_of words) gained short n)

  abbrev pub RefusedSchedulesAreInfeasible : Type 0
  RefusedSchedulesAreInfeasible = OnRuns (λ words told rose gained short n.
      let c = command_for (words_of words) in
      n ≡ 4 → OverReads c told rose (HasNoFeasibleSchedule c gained short))

  abbrev pub ReportsAreRight : Type 0
  ReportsAreRight = OnRuns (λ words told rose gained short n.
      (a : PriceAsked) → words_of words ≡ Ok (price a) → n ≡ 0 → IsPromised a told gained)

  abbrev pub BoundsHold : Type 0
  BoundsHold = OnRuns (λ words told rose gained short n.
      (a : BoundAsked) → words_of words ≡ Ok (bound a) → n ≡ 0 →
      OverReads (command_for (words_of words)) told rose (λ reads. (i : PlannedCase) ×
      (command_for (words_of words)).IsDue reads (Ok i) × IsBoundPromised a i gained))

  abbrev pub BothGapsAreMadeUp : Type 0
  BothGapsAreMadeUp = OnRuns (λ words told rose gained short n.
      (a : PriceAsked) → words_of words ≡ Ok (fixed a) → n ≡ 0 →
      OverReads (command_for (words_of words)) told rose (λ reads. (i : PlannedCase) ×
      (command_for (words_of words)).IsDue reads (Ok i) × IsFixedPromised a i gained))

  abbrev pub AuditsHold : Type 0
  AuditsHold = OnRuns (λ words told rose gained short n.
      (a : AuditAsked) → words_of words ≡ Ok (audit a) →
      (n ≡ 0 → IsAuditPromised a told gained)
      × (n ≡ 8 → OverReads (command_for (words_of words)) told rose (λ reads.
      (i : PlannedCase) × IsAuditRefused (command_for (words_of words)) gained short reads i)))

  abbrev pub SettlementsHold : Type 0
  SettlementsHold = OnRuns (λ words told rose gained short n.
      (a : SettleAsked) → words_of words ≡ Ok (settle a) →
      (n ≡ 0 → IsSettlePromised a told gained)
      × (n ≡ 9 → OverReads (command_for (words_of words)) told rose (λ reads.
      (i : PlannedCase) × HasNoPrices (command_for (words_of words)) gained short reads i)))

  abbrev pub CertificatesHold : Type 0
  CertificatesHold = OnRuns (λ words told rose gained short n.
      (a : CertifyAsked) → words_of words ≡ Ok (certify a) →
      (n ≡ 0 → IsCertifyPromised a told gained)
      × (n ≡ 9 → OverReads (command_for (words_of words)) told rose (λ reads.
      (i : PlannedCase) × HasNoPrices (command_for (words_of words)) gained short reads i))
      × (n ≡ 10 → OverReads (command_for (words_of words)) told rose (λ reads.
      (i : PlannedCase) × HasNoMixture (command_for (words_of words)) gained short reads i)))

  abbrev pub SearchesHold : Type 0
  SearchesHold = OnRuns (λ words told rose gained short n.
      (a : ConvexAsked) → words_of words ≡ Ok (convex a) → n ≡ 0 → IsConvexPromised a told gained)

-- ---- two runs

-- a run told what was asked: its text, or what is wrong with a report
abbrev pub IsTold : ℕ → Type 0
IsTold n = (n ≡ 0) ⊎ (n ≡ 8)

-- ONE OUTPUT: two runs of the same words but for the number of workers, of no search, over shelves
-- that tell the same of the files that they name. Where each of them answers 0 or 8, both answer the
-- same: no two audits of the same files call a report right and wrong, whatever fails beside them.
-- Where that is 0, their sinks gained one and the same text; and so they did where it is 8 and no
-- write failed.
module _ {F S G T : Type 0} (told : F → List ℕ → Option (List ℕ)) (faults : F → List ℕ → ℕ)
    (last : Option ℕ) (held : S → Option (List ℕ)) (counts : S → ℕ) (most : Option ℕ)
    (told_other : G → List ℕ → Option (List ℕ)) (faults_other : G → List ℕ → ℕ)
    (last_other : Option ℕ) (held_other : T → Option (List ℕ)) (counts_other : T → ℕ)
    (most_other : Option ℕ) where
  abbrev pub RunsPrintTheSame : Type 0
  RunsPrintTheSame =
      (words words_other : List (List ℕ)) (a : Asked) (workers : ℕ)
      (old new : F) (before after : S) (n : ℕ)
      (old_other new_other : G) (before_other after_other : T) (n_other : ℕ)
      → TextFollows (Ok a)
      → words_of words ≡ Ok a → words_of words_other ≡ Ok (with_workers workers a)
      → TellTheSame a (told old) (told_other old_other)
      → IsOutcome words (told old) (λ name. Rose last (faults old name) (faults new name))
      (Gains held counts before after) (FallsShort held counts most before after) n
      → IsOutcome words_other (told_other old_other)
      (λ name. Rose last_other (faults_other old_other name) (faults_other new_other name))
      (Gains held_other counts_other before_other after_other)
      (FallsShort held_other counts_other most_other before_other after_other) n_other
      → IsTold n → IsTold n_other
      → (n ≡ n_other)
      × ((n ≡ 0) ⊎ ((text : List ℕ) → ¬ FallsShort held counts most before after text)
      × ((text : List ℕ) → ¬ FallsShort held_other counts_other most_other before_other after_other text)
      → (text : List ℕ) × Gains held counts before after text
      × Gains held_other counts_other before_other after_other text)
