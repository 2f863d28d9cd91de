use Rattle.board_core.proofs.Common.{◌≡◌, ◌+◌, ◌++◌, ◌∷◌, [], ℕ, List, length, map, replicate, sym, ap, ◌∙◌, arith}
use Rattle.board_core.proofs.Common.{length-map, length-replicate, map-append, replicate-append-replicate, proposal_of}
use Rattle.board_core.proofs.Common.{Proposal}
use Rattle.uc_model.specs.declared.cases.Row.{Row}
use Rattle.board_core.proofs.ledger.make_blank_proposal_rows.Goals as goal

-- as many rows as there are copies
count : (rows : List Row) (n : ℕ) (p : Proposal) → map proposal_of rows ≡ replicate n p → length rows ≡ n
count rows n p is = sym (length-map rows proposal_of) ∙ ap (λ (ps : List Proposal). length ps) is ∙ length-replicate n p

-- and one more
longer : (rows : List Row) (row : Row) (n : ℕ) (p : Proposal) → map proposal_of rows ≡ replicate n p →
    proposal_of row ≡ p → map proposal_of (rows ++ row ∷ []) ≡ replicate (n + 1) p
longer rows row n p is new =
    map-append proposal_of rows (row ∷ []) ∙ ap (λ (ps : List Proposal). ps ++ proposal_of row ∷ []) is ∙
    ap (λ (q : Proposal). replicate n p ++ q ∷ []) new ∙ replicate-append-replicate n 1 p

pub push_reserved-requires : goal.push_reserved-requires
push_reserved-requires c =
    let was = c.loop.invariant in
    let room = was.room in
    let n = count c.loop.rows.items c.loop.counter _ was.so_far in
    omega (arith, room, n)

pub loop-preserved : goal.loop-preserved
loop-preserved c =
    let was = c.loop.invariant in
    let room = was.room in
    record {
      so_far = ap (map proposal_of) c.push_reserved.ensures.items ∙
          longer c.loop.rows.items c.in_ok-row.row c.loop.counter _ was.so_far c.in_ok-row.ensures;
      room = omega (arith, room, c.push_reserved.ensures.capacity);
    }
