use Rattle.board_run.proofs.Common.{List, [], ◌∷◌, ◌++◌, subst, ◌∙◌, AllZip-long, HasWorked, HaveWorked, Worker}
use Rattle.board_run.proofs.Common.{named_by}
use Rattle.board_run.proofs.Lemmas.{crew_done, written}
use Rattle.board_run.proofs.crew.answer_board.Goals as goal

pub close_board-requires : goal.close_board-requires
close_board-requires g c =
    (crew_done (named_by c.args.workers.items) c.args.board c.args.workers.items _ c.pop.new.self.items c.in-Some.owner
    c.answer_all.result c.requires
    c.answer_all.ensures.own (subst (λ (ws : List Worker). HaveWorked ws c.answer_all.new.workers)
    c.as_mut_slice.ensures.value c.answer_all.ensures.worked) c.answer_all.ensures.ended
    (written c.args.workers.len c.answer_all.new.workers c.args.workers.items
    (c.pop.new.self.items ++ c.in-Some.owner ∷ [])
    (AllZip-long HasWorked c.as_mut_slice.result.now c.answer_all.new.workers c.answer_all.ensures.worked ∙
    c.as_mut_slice.ensures.len) c.in-Some.ensures.items)).out

pub returns-clause-setup : goal.returns-clause-setup
returns-clause-setup g c =
    c.close_board.ensures.setup
    ∙ (crew_done (named_by c.args.workers.items) c.args.board c.args.workers.items _ c.pop.new.self.items
    c.in-Some.owner c.answer_all.result c.requires
    c.answer_all.ensures.own (subst (λ (ws : List Worker). HaveWorked ws c.answer_all.new.workers)
    c.as_mut_slice.ensures.value c.answer_all.ensures.worked) c.answer_all.ensures.ended
    (written c.args.workers.len c.answer_all.new.workers c.args.workers.items
    (c.pop.new.self.items ++ c.in-Some.owner ∷ [])
    (AllZip-long HasWorked c.as_mut_slice.result.now c.answer_all.new.workers c.answer_all.ensures.worked ∙
    c.as_mut_slice.ensures.len) c.in-Some.ensures.items)).setup

pub returns-clause-bench : goal.returns-clause-bench
returns-clause-bench g c =
    (crew_done (named_by c.args.workers.items) c.args.board c.args.workers.items _ c.pop.new.self.items c.in-Some.owner
    c.answer_all.result c.requires
    c.answer_all.ensures.own (subst (λ (ws : List Worker). HaveWorked ws c.answer_all.new.workers)
    c.as_mut_slice.ensures.value c.answer_all.ensures.worked) c.answer_all.ensures.ended
    (written c.args.workers.len c.answer_all.new.workers c.args.workers.items
    (c.pop.new.self.items ++ c.in-Some.owner ∷ [])
    (AllZip-long HasWorked c.as_mut_slice.result.now c.answer_all.new.workers c.answer_all.ensures.worked ∙
    c.as_mut_slice.ensures.len) c.in-Some.ensures.items)).bench
