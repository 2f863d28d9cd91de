use Rattle.text_tokens.proofs.Common.{◌+◌, Option, drop, sym, ap, ◌∙◌, arith, option_map, Piece, string_from, piece_of}
use Rattle.text_tokens.proofs.Lemmas.{ends, closes, goes_on, is_none, len_goes_on, quote_len}
use Rattle.text_tokens.proofs.strings.len_of_escaped_string.Goals as goal

pub returns-then-bytes-at-eq34-clause-is : goal.returns-then-bytes-at-eq34-clause-is
returns-then-bytes-at-eq34-clause-is c =
    quote_len c.pieces.at (string_from 0 (drop c.pieces.at c.args.bytes.now))
    (closes c.args.bytes.now c.pieces.at c.pieces-test.true c.if-bytes-at-eq34.true) ∙ sym c.pieces.invariant.rest

pub returns-in_err-piece-clause-is : goal.returns-in_err-piece-clause-is
returns-in_err-piece-clause-is c =
    c.from_residual.ensures ∙
    sym (c.pieces.invariant.rest ∙ ap (λ (s : Option Piece). option_map (λ q. c.pieces.at + q.1) s)
    (is_none c.args.bytes.now c.bytes_from.result.now c.pieces.at c.pieces-test.true c.if-bytes-at-eq34.false
    c.bytes_from.ensures c.in_err-piece.ensures.is))

pub returns-clause-is : goal.returns-clause-is
returns-clause-is c =
    sym (c.pieces.invariant.rest ∙ ap (λ (s : Option Piece). option_map (λ q. c.pieces.at + q.1) s)
    (ends c.args.bytes.now c.pieces.at c.pieces-test.false))

pub pieces-preserved : goal.pieces-preserved
pieces-preserved c =
    let len = c.in_ok-piece.ensures.len in
    let p = piece_of c.in_ok-piece.piece in
    record {
      rest = c.pieces.invariant.rest ∙ ap (λ (s : Option Piece). option_map (λ q. c.pieces.at + q.1) s)
          (goes_on c.args.bytes.now c.bytes_from.result.now c.pieces.at p c.pieces-test.true c.if-bytes-at-eq34.false
          c.bytes_from.ensures c.in_ok-piece.ensures.is len.0)
          ∙ len_goes_on c.pieces.at p (string_from 0 (drop (c.pieces.at + p.1) c.args.bytes.now));
      near = omega (arith, len.1);
    }
