use Rattle.slope_list.proofs.Lemmas.{convex_at, IsConvex-from_places}
use Rattle.slope_list.proofs.shape_laws.convexity_depends_on_values_alone.Goals as goal

pub returns : goal.returns
returns c = λ f. (convex_at f, IsConvex-from_places f)
