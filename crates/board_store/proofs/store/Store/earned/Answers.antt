use Rattle.board_store.proofs.Common.{rules, pos, get_or, sym, ap, ◌∙◌, arith, w64, FitsSigned, to_z-of_z, get_or_read}
use Rattle.board_store.proofs.Common.{Answer, Answers, no_answer, least_left}
use Rattle.board_store.proofs.Answers.{place_of, answer_at_place}
use Rattle.board_store.proofs.store.Store.earned.Goals as goal

pub index-requires : goal.index-requires
index-requires c =
    let s = c.self.inside in
    let lt = place_of s.on.rows s.power.rows s.reserve.rows s.earned.items c.args.self.now s.on.long
    (least_left s.on.left s.power.left s.reserve.left) c.args.index c.self.view_is c.requires in
    omega (arith, lt)

pub returns : goal.returns
returns c =
    let s = c.self.inside in
    let lt = place_of s.on.rows s.power.rows s.reserve.rows s.earned.items c.args.self.now s.on.long
    (least_left s.on.left s.power.left s.reserve.left) c.args.index c.self.view_is c.requires in
    let f : FitsSigned w64 c.index.result.now = search rules in
    let read = get_or_read s.earned.items c.args.index c.index.result.now lt c.index.ensures (pos 0) in
    to_z-of_z w64 c.index.result.now f ∙ read
    ∙ sym (ap (λ (a : Answer). a.earned)
    (answer_at_place s.on.rows s.power.rows s.reserve.rows s.earned.items c.args.index lt))
    ∙ ap (λ (v : Answers). (get_or v.answers c.args.index no_answer).earned) c.self.view_is
