use Rattle.unit_rows.proofs.Common.{rules, ◌≡◌, arith, FitsSigned, w64, to_z-of_z, thermal_of, Origin}
use Rattle.unit_rows.proofs.Common.{IsRipe, IsOrigin, IsOriginPut, cost_at}
use Rattle.unit_rows.proofs.Lemmas.{if_some, none_ripe, put_ripe, cost-is, cost_from}
use Rattle.unit_rows.proofs.origins.Origins.insert_spell_end_with_min_down_met.Goals as goal

pub returns-in_default-clause-origins : goal.returns-in_default-clause-origins
returns-in_default-clause-origins c =
    none_ripe (thermal_of c.args.unit.now) (cost_at c.args.rows.now) c.args.period c.args.self.now c.requires.few
    c.requires.right c.requires.others
    (λ o is ripe. c.in_default.not-Some o.last (c.stop_with_min_down_just_met.ensures.only o.last ripe))

pub returns-then-last-self-clause-origins : goal.returns-then-last-self-clause-origins
returns-then-last-self-clause-origins c =
    none_ripe (thermal_of c.args.unit.now) (cost_at c.args.rows.now) c.args.period c.args.self.now c.requires.few
    c.requires.right c.requires.others
    (λ o is ripe.
    let from = c.requires.right.off o.last is.gap.off.order is.gap.off in
    let same : c.in-Some.last ≡ o.last = (let e = c.stop_with_min_down_just_met.ensures.only o.last ripe in cc) in
    omega arith)

pub returns-in_default-rows-clause-origins : goal.returns-in_default-rows-clause-origins
returns-in_default-rows-clause-origins c =
    none_ripe (thermal_of c.args.unit.now) (cost_at c.args.rows.now) c.args.period c.args.self.now c.requires.few
    c.requires.right c.requires.others
    (λ o is ripe.
    let same : o.last ≡ c.in-Some.last = (let e = c.stop_with_min_down_just_met.ensures.only o.last ripe in cc) in
    let row = cost_from c.args.rows.now c.in-Some.last o.cost (cc) in
    c.in_default-rows.not-Some row.0 row.1)

pub returns-in-Some-rows-clause-origins : goal.returns-in-Some-rows-clause-origins
returns-in-Some-rows-clause-origins c =
    let u = thermal_of c.args.unit.now in
    let last = c.in-Some.last in
    let ended = c.in-Some-rows.ended in
    let ripe : IsRipe u c.args.period last = if_some (IsRipe u c.args.period) c.stop_with_min_down_just_met.result last
    c.in-Some.is
    c.stop_with_min_down_just_met.ensures.some in
    let since = c.if-last-self.false in
    let off = c.requires.right.off_since last since ripe.order in
    let n : Origin = record { last = last; cost = ended.cost } in
    let origin : IsOrigin u (cost_at c.args.rows.now) c.args.period n = record {
      ended = cost-is c.args.rows.now last ended c.in-Some-rows.is;
      gap = record { off = off; min_down = ripe.long };
    } in
    let fits : FitsSigned w64 ended.cost = search rules in
    let put : IsOriginPut n c.args.self.now c.put.new.self = simp to_z-of_z at c.put.ensures.put in
    put_ripe u (cost_at c.args.rows.now) c.args.period c.args.self.now c.requires.few c.requires.right c.requires.others
    n origin
    (λ l ripe. (let e = c.stop_with_min_down_just_met.ensures.only l ripe in let i = c.in-Some.is in cc))
    (λ i o low is. c.requires.earlier i last o low is ripe)
    (omega arith) c.put.new.self put
