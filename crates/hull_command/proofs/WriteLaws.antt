-- What is written of a run that has ended is the text of a right report.
use Rattle.hull_command.proofs.Common.{◌≡◌, ℕ, ℤ, List, Option, Result, length, unsigned_abs, refl, sym, subst}
use Rattle.hull_command.proofs.Common.{unit_count, Report, planned_in, IsRunText, IsBoundText, IsEnded, Writes}
use Rattle.hull_command.specs.Answers.{IsTextOf}
use Rattle.hull_command.specs.declared.answer.Answer.{Answer}
use Rattle.board_store.specs.Calls.{own_rows}
use Rattle.hull_report.specs.BoundText.{bound_text}
use Rattle.right_report.specs.RecordReport.{chosen_of, value_of, report_of, ReportOfFinishedBoardIsRight}
use Rattle.right_report.specs.RecordReport.{SettlementHasEntryForEachUnit}
use Rattle.plan_settle.specs.declared.done.Done.{Done}
use Rattle.plan_settle.specs.declared.bound.Bounded.{Bounded}
use Rattle.plan_settle.specs.Bounded.{IsBounded}

module _ {S E : Type 0} {held : S → Option (List ℕ)} {faults : S → ℕ} {last : Option ℕ} {old new : S}
    {r : Result (Unit {0}) E} where
  -- a text of the answer that was written
  pub written_as : (a b : Answer) → a ≡ b → (text : List ℕ) → IsTextOf b text →
      Writes held faults last old new r text →
      (told : List ℕ) × IsTextOf a told × Writes held faults last old new r told
  written_as a b same text is w =
      subst (λ (x : Answer). (told : List ℕ) × IsTextOf x told × Writes held faults last old new r told) (sym same)
      (text, is, w)

  -- a text that was written of a number, of the same number
  pub at_number : (text : ℤ → List ℕ) (x y : ℤ) → x ≡ y → Writes held faults last old new r (text x) →
      Writes held faults last old new r (text y)
  at_number text x y same w = subst (λ (z : ℤ). Writes held faults last old new r (text z)) same w

-- the settlement has one number for each unit
pub ended_lengths : SettlementHasEntryForEachUnit → (d : Done) → IsEnded d.closed.setup d
    → (length d.settlement.scheduled.items ≡ unit_count d.closed.setup.market) ×
    (length d.settlement.payments.items ≡ unit_count d.closed.setup.market)
ended_lengths settled_lengths d h =
    settled_lengths d.closed.setup.market d.closed.setup.plan h.row.prices d.settlement.scheduled.items
    d.settlement.payments.items d.settlement.surplus d.settlement.total
    h.settled.feasible h.settled.settled

pub run_text : ReportOfFinishedBoardIsRight → (text_of : Report → List ℕ) (d : Done) → IsEnded d.closed.setup d →
    IsRunText text_of d.closed.setup (text_of (report_of d.closed d.settlement))
run_text right text_of d h = (report_of d.closed d.settlement, right d.closed d.settlement h.row h.settled, refl)

-- what is written of a bound
abbrev pub written_bound : Bounded → List ℕ
written_bound b =
    bound_text (length (own_rows b.done.closed)) (chosen_of b.done.closed) (value_of b.done.closed)
    (unsigned_abs b.radius) b.certified.first b.certified.last b.certified.bound

pub bound_written : ReportOfFinishedBoardIsRight → (b : Bounded) → IsBounded b.done.closed.setup b.radius b
    → IsBoundText b.done.closed.setup.budget b.done.closed.setup.ahead b.radius (planned_in b.done.closed.setup)
    (written_bound b)
unfolding report_of
bound_written right b h = (
  report_of b.done.closed b.done.settlement,
  right b.done.closed b.done.settlement h.ended.row h.ended.settled,
  record { first = b.certified.first; last = b.certified.last },
  b.certified.bound,
  h.best,
  refl,
)
