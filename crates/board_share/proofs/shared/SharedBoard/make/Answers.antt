use Rattle.board_share.proofs.Common.{◌≡◌, ℕ, List, [], ◌∷◌, ◌++◌, length, sym, ap, subst, ◌∙◌, opening, Content, Entry}
use Rattle.board_share.proofs.Common.{first_view, Shared}
use Rattle.board_share.proofs.Begins.{starts}
use Rattle.board_share.proofs.Lemmas.{length-entries}
use Rattle.board_share.proofs.shared.SharedBoard.make.Goals as goal

pub new-requires : goal.new-requires
new-requires c =
    let slots : c.push_reserved.new.self.items ≡ c.args.board ∷ [] = c.push_reserved.ensures.items ∙
    ap (λ (l : List Content). l ++ c.args.board ∷ []) c.in_ok-slots.ensures.items in
    let len : length c.history.result.now ≡ length c.args.board.events =
    ap (λ (l : List Entry). length l) c.history.ensures.entries ∙ length-entries c.args.board.events in
    subst (λ (z : Content × ℕ × List Content). Shared z.0 (opening (z.1 ∷ 0 ∷ 0 ∷ []) z.2 (first_view z.0)))
    (λ i. (sym c.of-about.ensures i, sym len i, sym slots i)) (starts c.args.board c.requires)
