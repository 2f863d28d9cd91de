use Rattle.flat_answer.proofs.Common.{rules, pos, ℤ, FitsSigned, List, [], subst, sym, ◌∙◌, to_z-of_z, w64, Block}
use Rattle.flat_answer.proofs.Common.{IsBlockList, int_at, IsLeastChoice, IsWithinBlocks, bought_at}
use Rattle.std.proofs.lemmas.Option.{get_or_from_slice_get}
use Rattle.flat_answer.proofs.Lemmas.{blocks_read}
use Rattle.flat_answer.proofs.bids.bid_choice_in_period.Goals as goal

pub bid_choice_of_worthwhile_blocks-requires-clause-blocks : goal.bid_choice_of_worthwhile_blocks-requires-clause-blocks
bid_choice_of_worthwhile_blocks-requires-clause-blocks c =
    let e = blocks_read c.args.bid.now.blocks.items c.args.index c.get.result.now c.get.ensures.item in
    let f = c.as_slice-blocks.ensures in
    subst IsBlockList (e ∙ sym f) (c.args.bid.now.valid.blocks c.args.index [] c.requires.index)

pub returns : goal.returns
returns c =
    let e = blocks_read c.args.bid.now.blocks.items c.args.index c.get.result.now c.get.ensures.item in
    let f = c.as_slice-blocks.ensures in
    let a : FitsSigned w64 c.get-2.result.now = search rules in
    let p = get_or_from_slice_get c.args.prices.now.energy.items c.args.index c.get-2.result.now (pos 0)
    c.get-2.ensures.item in
    let r = simp to_z-of_z at c.bid_choice_of_worthwhile_blocks.ensures in
    let own : IsLeastChoice (IsWithinBlocks c.as_slice-blocks.result.now)
    (bought_at c.as_slice-blocks.result.now (int_at c.args.prices.now.energy.items c.args.index))
    c.bid_choice_of_worthwhile_blocks.result.power c.bid_choice_of_worthwhile_blocks.result.earned =
    subst (λ (z : ℤ). IsLeastChoice (IsWithinBlocks c.as_slice-blocks.result.now)
    (bought_at c.as_slice-blocks.result.now z) c.bid_choice_of_worthwhile_blocks.result.power
    c.bid_choice_of_worthwhile_blocks.result.earned)
    (sym p) r in
    subst (λ (bs : List Block). IsLeastChoice (IsWithinBlocks bs)
    (bought_at bs (int_at c.args.prices.now.energy.items c.args.index)) c.bid_choice_of_worthwhile_blocks.result.power
    c.bid_choice_of_worthwhile_blocks.result.earned) (f ∙ sym e) own
