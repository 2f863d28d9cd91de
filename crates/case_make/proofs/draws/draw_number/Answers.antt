use Rattle.case_make.proofs.Common.{◌+◌, ◌-◌, ◌%◌, ℕ, ap, ◌∙◌, Lcg, draw}
use Rattle.case_make.proofs.Lemmas.{first_word, one_step}
use Rattle.case_make.proofs.draws.draw_number.Goals as goal

pub returns-clause-value : goal.returns-clause-value
unfolding draw
returns-clause-value c =
    let low = c.args.low in
    let high = c.args.high in
    ap (λ (w : ℕ). low + w % (high - low + 1))
    (ap (λ (p : ℕ × Lcg). p.0) c.next_word.ensures ∙ first_word c.args.random.now)

pub returns-clause-moved : goal.returns-clause-moved
returns-clause-moved c = ap (λ (p : ℕ × Lcg). p.1) c.next_word.ensures ∙ one_step c.args.random.now
