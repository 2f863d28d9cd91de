use Rattle.unit_rows.proofs.Common.{refl, inl, thermal_of, cost_at}
use Rattle.unit_rows.proofs.Lemmas.{begun_right, begun_ripe}
use Rattle.unit_rows.proofs.origins.Origins.begin.Goals as goal

pub insert_spell_end_with_min_down_met-requires-clause-right :
    goal.insert_spell_end_with_min_down_met-requires-clause-right
insert_spell_end_with_min_down_met-requires-clause-right c = begun_right (thermal_of c.args.unit.now)
    (cost_at c.args.rows.now) _ refl refl
    (rw c.as_slice.ensures at c.start_costs_rise-self.ensures)

pub insert_spell_end_with_min_down_met-requires-clause-others :
    goal.insert_spell_end_with_min_down_met-requires-clause-others
insert_spell_end_with_min_down_met-requires-clause-others c = λ o is. inl
    (begun_ripe (thermal_of c.args.unit.now) (cost_at c.args.rows.now) o is)
