use Rattle.slope_list.proofs.Common.{sym, ◌∙◌, arith, rules, FitsSigned, w64, ints, to_z-of_z}
use Rattle.slope_list.proofs.Lemmas.{part, part_value, part_goes, placed_on}
use Rattle.slope_list.proofs.below.advance_to_power.Goals as goal
use Rattle.slope_list.proofs.below.advance_to_power.Goals.{then-end-piece, else-end-piece}

pub value_at_power_in_piece-requires : goal.value_at_power_in_piece-requires
value_at_power_in_piece-requires c =
    let r = c.requires in
    let fv : FitsSigned w64 c.args.from.value = search rules in
    rw (to_z-of_z w64 c.args.from.value fv, to_z-of_z w64 c.args.at c.ranges.at, to_z-of_z w64 c.args.end c.ranges.end)
    (part_goes c.args.start c.args.pieces.now r.slopes r.within c.args.at c.args.from r.reached r.next c.args.end r.rise
    r.end)

pub returns-clause-reached : goal.returns-clause-reached
returns-clause-reached c =
    let r = c.requires in
    let fv : FitsSigned w64 c.args.from.value = search rules in
    let fr : FitsSigned w64 c.value_at_power_in_piece.result = search rules in
    let ev = to_z-of_z w64 c.args.from.value fv in
    let ea = to_z-of_z w64 c.args.at c.ranges.at in
    let ee = to_z-of_z w64 c.args.end c.ranges.end in
    let got = rw (ev, ea, ee) at c.value_at_power_in_piece.ensures in
    let v = part_value c.args.start c.args.pieces.now r.slopes r.within c.args.at c.args.from r.reached r.next
    c.args.end r.rise r.end in
    record {
      value = to_z-of_z w64 c.value_at_power_in_piece.result fr ∙ got ∙ sym v;
      placed = placed_on c.args.start c.args.pieces.now r.slopes r.within c.args.at c.args.from r.reached r.next
          c.args.end r.rise r.end c.if-end-piece.next
          (λ h. elim c.if-end-piece.branch [
            | then-end-piece w ↦ w.next-is
            | else-end-piece w ↦
                absurd (let t = w.if-end-piece in omega (arith, ints))
          ])
          (λ h. elim c.if-end-piece.branch [
            | then-end-piece w ↦ absurd (let t = w.if-end-piece in omega (arith, ints))
            | else-end-piece w ↦ (let t = w.next-is in omega arith)
          ]);
    }

pub returns-clause-line : goal.returns-clause-line
returns-clause-line c =
    let r = c.requires in
    part c.args.start c.args.pieces.now r.slopes r.within c.args.at c.args.from r.reached r.next c.args.end r.rise r.end

pub returns-clause-past : goal.returns-clause-past
returns-clause-past c = λ h.
    elim c.if-end-piece.branch [
      | then-end-piece w ↦ absurd (let t = w.if-end-piece in omega (arith, ints))
      | else-end-piece w ↦ (let t = w.next-is in omega arith)
    ]
