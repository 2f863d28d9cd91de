use Rattle.board_share.proofs.Common.{rules, ◌≡◌, sym, ap, ◌∙◌, arith, SeatValue}
use Rattle.board_share.proofs.Splits.{splits}
use Rattle.board_share.proofs.shared.SharedBoard.split.Goals as goal

pub split_seat-at_table-requires : goal.split_seat-at_table-requires
split_seat-at_table-requires c =
    let s = c.seat in
    let v = s.inside.at_table.me.0 in
    let who : v.caller ≡ 0 = ap (λ (x : SeatValue). x.view.caller) s.view_is ∙ c.requires.own.1 in
    let o = s.invariant.of_owner (sym s.invariant.of_caller ∙ who) in (
      search rules,
      search rules,
      splits _ _ v o.0 s.invariant.at_rest who
          (let m = o.1 in let lt = c.if-seat-self.false in omega arith),
    )
