-- What the run of a command answers.
use Rattle.hull_engine.proofs.Common.{◌≡◌, ℕ, ℤ, List, subst, sym, ap, ◌∙◌, unit_count, market_of, Report, told_of}
use Rattle.hull_engine.proofs.Common.{fixed_text, Terms, IsReportText, IsBoundText, IsFixedText, planned_in}
use Rattle.hull_engine.proofs.Common.{planned_run, IsRunText, setup_of}
use Rattle.board_store.specs.Board.{Setup}
use Rattle.plan_settle.specs.Compared.{AreSides, ArePaid}
use Rattle.plan_settle.specs.declared.sides.Sides.{Sides}

-- the texts of a run are those of its input, with the numbers of the words
pub run_texts : (text_of : Report → List ℕ) (terms : Terms) (b : Setup) (budget ahead : ℕ) → b ≡ setup_of terms →
    terms.budget ≡ budget → terms.ahead ≡ ahead
    → (text : List ℕ) → IsRunText text_of b text → IsReportText text_of budget ahead (planned_run terms) text
run_texts text_of terms b budget ahead same e f text is =
    subst (λ (n : ℕ). IsReportText text_of budget n (planned_run terms) text) f
    (subst (λ (n : ℕ). IsReportText text_of n terms.ahead (planned_run terms) text) e
    (subst (λ (x : Setup). IsRunText text_of x text) same is))

-- and so are those of a bound round its chosen prices
pub bound_texts : (terms : Terms) (b : Setup) (budget ahead : ℕ) (held radius : ℤ) → b ≡ setup_of terms →
    terms.budget ≡ budget → terms.ahead ≡ ahead → held ≡ radius
    → (text : List ℕ) → IsBoundText b.budget b.ahead held (planned_in b) text →
    IsBoundText budget ahead radius (planned_run terms) text
bound_texts terms b budget ahead held radius same e f g text is =
    subst (λ (q : ℤ). IsBoundText budget ahead q (planned_run terms) text) g
    (subst (λ (n : ℕ). IsBoundText budget n held (planned_run terms) text) f
    (subst (λ (n : ℕ). IsBoundText n terms.ahead held (planned_run terms) text) e
    (subst (λ (x : Setup). IsBoundText x.budget x.ahead held (planned_in x) text) same is)))

-- ---- both runs of `hull fixed`

pub sides_paid : (terms : Terms) (s : Sides) → AreSides (setup_of terms) s → ArePaid s
sides_paid terms s h =
    let same = ap unit_count (sym h.case) in
    record { hull = h.hull.count ∙ same; fixed = h.fixed.count ∙ same }

pub fixed_texts : (terms : Terms) (s : Sides) (budget ahead : ℕ) → AreSides (setup_of terms) s → terms.budget ≡ budget →
    terms.ahead ≡ ahead
    → (text : List ℕ) → text ≡ fixed_text (market_of s.case) s.cost (told_of s.hull) (told_of s.fixed) →
    IsFixedText budget ahead (planned_run terms) text
fixed_texts terms s budget ahead h e f text is =
    subst (λ (n : ℕ). IsFixedText budget n (planned_run terms) text) f
    (subst (λ (n : ℕ). IsFixedText n terms.ahead (planned_run terms) text) e (
      told_of s.hull,
      told_of s.fixed,
      h.hull.right,
      h.fixed.right,
      is ∙
          (λ j. fixed_text (h.case j) (h.cost j) (told_of s.hull) (told_of s.fixed)),
    ))
