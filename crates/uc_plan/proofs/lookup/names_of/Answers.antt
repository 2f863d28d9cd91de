use Rattle.uc_plan.proofs.Common.{ℕ, List, Bor, rules}
use Rattle.uc_plan.proofs.Lemmas.{no_name, put_name}
use Rattle.uc_plan.proofs.lookup.names_of.Goals as goal

pub loop-done-init : goal.loop-done-init
loop-done-init g c = λ q. rw (no_name g.N.Named.name_of q c.args.units.now, c.in_ok-set.ensures.empty) (search rules)

-- a name at any address
abbrev key : List ℕ → Bor (List ℕ)
key q = record { ref_ptr = (0, 0); now = q }

pub loop-done-preserved : goal.loop-done-preserved
loop-done-preserved g c = λ q.
    put_name g.N.Named.name_of q c.name.result.now c.args.units.now c.loop-done.done c.index-units-units.result _ _
    c.loop-done-test.true c.index-units-units.is c.name.ensures (c.in_ok-insert.ensures.updates.0 (key q))
    (c.loop-done.invariant q)
