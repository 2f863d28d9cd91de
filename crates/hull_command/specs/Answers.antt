-- What a command answers, and what its end leaves.
use Rattle.std.specs.Prelude.{◌≡◌, ◌⊎◌, ⊤, ℕ, ℤ, List, unsigned_abs, Result, Ok, Err}
use Rattle.uc_model.specs.Data.{PriceLists}
use Rattle.uc_model.specs.Limits.{IsSum, IsWorth}
use Rattle.uc_model.specs.PlainCases.{market_of, schedules_of}
use Rattle.gap_proof.specs.Mixtures.{MixtureLists, mixture_of, HasMixtureShape}
use Rattle.gap_proof.specs.MixtureBound.{mixture_bound}
use Rattle.right_report.specs.Told.{IsTold}
use Rattle.board_store.specs.Board.{Setup}
use Rattle.hull_report.specs.AuditText.{audit_text}
use Rattle.hull_report.specs.CertifiedText.{certificate_of}
use Rattle.hull_report.specs.CheckText.{check_text}
use Rattle.hull_fault.specs.FaultLines.{fault_line}
use Rattle.right_report.specs.RightSide.{told_of}
use Rattle.hull_report.specs.FixedText.{fixed_text}
use Rattle.convex_search.specs.FoundPrices.{FoundPrices, IsFound}
use Rattle.hull_report.specs.ConvexText.{convex_of}
use Rattle.report_form.specs.CertificateText.{certificate_text}
use Rattle.report_form.specs.ConvexText.{convex_text}
use Rattle.report_form.specs.ReportText.{Report, report_text}
use Rattle.hull_report.specs.SettledText.{settlement_of}
use Rattle.report_form.specs.SettlementText.{settlement_text}
use Rattle.hull_report.specs.TryText.{try_text}
use Rattle.hull_fault.specs.declared.fault.TopFault.{TopFault}
use Rattle.hull_command.specs.declared.answer.Answer.{Answer}
use Rattle.hull_command.specs.declared.answer.Answer.TheVariants.{Price, Check, Settle, Try, Bound}
use Rattle.hull_command.specs.declared.answer.Answer.TheVariants.{Fixed, Audit, Certify, Convex}
use Rattle.hull_command.specs.declared.answer.CertifiedInput.{CertifiedInput}
use Rattle.hull_command.specs.declared.answer.FoundInput.{FoundInput}
use Rattle.hull_command.specs.declared.answer.SettledInput.{SettledInput}
use Rattle.hull_command.specs.declared.end.End.{End}
use Rattle.hull_command.specs.declared.end.End.TheVariants.{Done, Cut, Refused}
use Rattle.hull_command.specs.Outcome.{Command, IsReportText, IsBoundText}
use Rattle.hull_input.specs.Answers.{IsFaultOf}
use Rattle.hull_input.specs.Files.{Reads}
use Rattle.hull_input.specs.Planned.{PlannedCase, planned_in}
use Rattle.plan_settle.specs.Ended.{IsEnded}
use Rattle.plan_settle.specs.Bounded.{IsBounded}
use Rattle.plan_settle.specs.Compared.{ArePaid}
use Rattle.price_settle.specs.Settled.{HasEachUnit}
use Rattle.price_settle.specs.Settled.{settled_of, IsSettledAt}

-- ---- the answer of a command

-- the texts that may be printed of a run
abbrev pub IsRunText : (Report → List ℕ) → Setup → List ℕ → Type 0
IsRunText text_of b = IsReportText text_of b.budget b.ahead (planned_in b)

-- the text that tells what a search found
abbrev pub found_text : FoundInput → List ℕ
found_text x =
    convex_text (convex_of (market_of x.settled.input.case) x.settled.input.cost
    (settled_of x.settled.settled) (mixture_of x.mixture) x.goal.within x.goal.rounds x.made x.bound)

-- the texts that may be printed of an answer
abbrev pub IsTextOf : Answer → List ℕ → Type 0
IsTextOf (Price done) text = IsRunText report_text done.closed.setup text
IsTextOf (Check input) text = text ≡ check_text (market_of input.case) input.cost
IsTextOf (Settle s) text =
    text ≡ settlement_text
    (settlement_of (market_of s.input.case) s.input.cost (settled_of s.settled))
IsTextOf (Certify x) text =
    text ≡ certificate_text
    (certificate_of (market_of x.settled.input.case) x.settled.input.cost
    (settled_of x.settled.settled) (unsigned_abs x.within.radius) x.within.bound)
IsTextOf (Convex x) text = text ≡ found_text x
IsTextOf (Try number done) text = IsRunText (try_text number) done.closed.setup text
IsTextOf (Bound b) text =
    IsBoundText b.done.closed.setup.budget b.done.closed.setup.ahead b.radius
    (planned_in b.done.closed.setup) text
IsTextOf (Fixed s) text =
    text ≡ fixed_text (market_of s.case) s.cost (told_of s.hull) (told_of s.fixed)
IsTextOf (Audit proposals) text = text ≡ audit_text proposals

-- a settlement has a number for each unit, and its sums are within their limits
pub record HasSettled (s : SettledInput) : Type 0 where
  pub cost : IsSum s.input.cost
  pub value : IsWorth s.settled.row.value
  pub each : HasEachUnit (market_of s.input.case) (settled_of s.settled)

-- so it is of a certificate, and its bound is one that may be told
pub record HasCertified (x : CertifiedInput) : Type 0 where
  pub settled : HasSettled x.settled
  pub bound : IsTold x.within.bound

-- so it is of what a search found, and its mixture has entries for each thermal unit
pub record HasFound (x : FoundInput) : Type 0 where
  pub settled : HasSettled x.settled
  pub shape : HasMixtureShape (market_of x.settled.input.case) (mixture_of x.mixture)
  pub bound : IsTold x.bound

-- what a search found: the prices are those of the settlement
abbrev pub found_in : FoundInput → FoundPrices
found_in x = record {
  prices = (settled_of x.settled.settled).row.prices;
  mixture = mixture_of x.mixture;
  bound = x.bound;
  made = x.made;
}

-- what a search may find, and the schedule's settlement at the prices that it found
pub record IsFoundIn (x : FoundInput) : Type 0 where
  pub found : IsFound (market_of x.settled.input.case) x.goal (found_in x)
  pub settled : IsSettledAt (market_of x.settled.input.case) (schedules_of x.settled.input.plan)
      (found_in x).prices (settled_of x.settled.settled)

-- the schedule's settlement at these prices, and the bound round them by this mixture
pub record IsCertifiedAt (π : PriceLists) (mixture : MixtureLists) (radius : ℤ)
    (x : CertifiedInput) : Type 0 where
  pub settled : IsSettledAt (market_of x.settled.input.case) (schedules_of x.settled.input.plan)
      π (settled_of x.settled.settled)
  pub radius_is : x.within.radius ≡ radius
  pub bound_is : x.within.bound ≡ mixture_bound (market_of x.settled.input.case) mixture π radius

-- a run that is answered has ended, and each unit is paid
abbrev pub IsAnswered : Answer → Type 0
IsAnswered (Price done) = IsEnded done.closed.setup done
IsAnswered (Check input) = ⊤
IsAnswered (Settle s) = HasSettled s
IsAnswered (Certify x) = HasCertified x
IsAnswered (Convex x) = HasFound x
IsAnswered (Try number done) = IsEnded done.closed.setup done
IsAnswered (Bound b) = IsBounded b.done.closed.setup b.radius b
IsAnswered (Fixed s) = ArePaid s
IsAnswered (Audit proposals) = ⊤

-- the answer's texts are texts of an accepted input of the command; a fault is one that is due, or
-- want of memory
abbrev pub IsCommandAnswer : Command → Reads → Result Answer TopFault → Type 0
IsCommandAnswer c reads (Ok answer) =
    (i : PlannedCase) × c.IsDue reads (Ok i)
    × ((text : List ℕ) → IsTextOf answer text → c.IsText reads i text)
IsCommandAnswer c reads (Err f) = IsFaultOf (c.IsDue reads) f

-- ---- the end

-- a text was written so: 0 where it was gained, and 6 where it fell short
abbrev pub HasStatus : ℕ → (gained short : Type 0) → Type 0
HasStatus n gained short = ((n ≡ 0) × gained) ⊎ ((n ≡ 6) × short)

module _ (gained short : List ℕ → Type 0) where
  -- what the end of an answer says of the sink
  abbrev pub IsEndOf : Result Answer TopFault → End → Type 0
  IsEndOf (Ok answer) Done = (text : List ℕ) × IsTextOf answer text × gained text
  IsEndOf (Ok answer) Cut = (text : List ℕ) × IsTextOf answer text × short text
  IsEndOf (Ok answer) (Refused f) = ⊥
  IsEndOf (Err f) Done = ⊥
  IsEndOf (Err f) Cut = ⊥
  IsEndOf (Err f) (Refused g) = (g ≡ f) × (gained (fault_line g) ⊎ short (fault_line g))
