use Rattle.board_share.proofs.Common.{ap, subst, SeatValue, HasJoined, View}
use Rattle.board_share.proofs.Lemmas.{has_joined}
use Rattle.board_share.proofs.shared.SharedBoard.join.Goals as goal

pub returns-clause-joined : goal.returns-clause-joined
returns-clause-joined c =
    let v = c.seat.inside.at_table.me.0 in
    let w = c.other.inside.at_table.me.0 in
    let u = c.join_table_seats.new.seat.me.0 in
    subst (λ (z : View × View). HasJoined z.0 z.1 u)
    (λ i. (ap (λ (x : SeatValue). x.view) c.seat.view_is i, ap (λ (x : SeatValue). x.view) c.other.view_is i))
    (has_joined v w u c.join_table_seats.ensures.glued c.join_table_seats.ensures.joined
    c.join_table_seats.ensures.made)
