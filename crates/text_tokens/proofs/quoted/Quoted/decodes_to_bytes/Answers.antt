use Rattle.text_tokens.proofs.Common.{◌≡◌, true, get_or, is_plain, ℕ, ◌+◌, ◌++◌, List, drop, take, ap₂, sym, ap, ◌∙◌}
use Rattle.text_tokens.proofs.Common.{append_assoc, arith, option_map, string_from, after_piece, piece_of}
use Rattle.text_tokens.proofs.Lemmas.{ends, closes, goes_on, is_none, said_goes_on, said_is, never, says_other}
use Rattle.text_tokens.proofs.Lemmas.{says_rest, says_plain_other}
use Rattle.std.proofs.lemmas.List.{take-append-drop}
use Rattle.text_tokens.proofs.quoted.Quoted.decodes_to_bytes.Goals as goal
use Rattle.text_tokens.proofs.quoted.Quoted.decodes_to_bytes.Goals.{then-pieces-test+else-bytes-at-ne34}
use Rattle.text_tokens.proofs.quoted.Quoted.decodes_to_bytes.Goals.{else-pieces-test}

pub pieces-init : goal.pieces-init
pieces-init c =
    let text = c.args.text.now in
    let n = c.common_prefix_len-at.result in
    let known = c.common_prefix_len-at.ensures in
    record {
      front = (
        take n c.args.self.bytes.now,
        sym (take-append-drop n text) ∙
            ap₂ (λ (front rest : List ℕ). front ++ rest) known.same (sym c.bytes_from-wanted.ensures),
        known.front,
      );
      near = omega (arith, known.near);
    }

pub unreachable-requires : goal.unreachable-requires
unreachable-requires c =
    let bs = c.args.self.bytes.now in
    let i = c.pieces.invariant.front in
    never bs i.0 c.pieces.at (string_from 0 (drop c.pieces.at bs)) c.args.self.closed i.2
    (is_none bs c.bytes_from.result.now c.pieces.at c.pieces-test.true c.if-bytes-at-ne34.true c.bytes_from.ensures
    c.in_default.ensures.is)

pub pieces-preserved : goal.pieces-preserved
pieces-preserved c =
    let bs = c.args.self.bytes.now in
    let i = c.pieces.invariant.front in
    let p = piece_of c.in-Some.piece in
    let others = string_from 0 (drop (c.pieces.at + p.1) bs) in
    let here = goes_on bs c.bytes_from.result.now c.pieces.at p c.pieces-test.true c.if-bytes-at-ne34.true
    c.bytes_from.ensures c.in-Some.ensures.is c.in-Some.ensures.len.0 in
    record {
      front = (
        i.0 ++ p.0,
        i.1 ∙ ap (λ (r : List ℕ). i.0 ++ r) c.in-Some-strip_prefix_of_decoded_piece.ensures.some ∙
            sym (append_assoc i.0 p.0 c.in-Some-strip_prefix_of_decoded_piece.others.now),
        i.2 ∙ ap (option_map (after_piece (i.0, c.pieces.at))) here ∙ said_goes_on i.0 c.pieces.at p others,
      );
      near = omega (arith, c.in-Some.ensures.len.1);
    }

pub returns-in_default-strip_prefix_of_decoded_piece : goal.returns-in_default-strip_prefix_of_decoded_piece
returns-in_default-strip_prefix_of_decoded_piece c =
    let bs = c.args.self.bytes.now in
    let i = c.pieces.invariant.front in
    let p = piece_of c.in-Some.piece in
    let others = string_from 0 (drop (c.pieces.at + p.1) bs) in
    let here = goes_on bs c.bytes_from.result.now c.pieces.at p c.pieces-test.true c.if-bytes-at-ne34.true
    c.bytes_from.ensures c.in-Some.ensures.is c.in-Some.ensures.len.0 in
    sym (says_other bs c.args.text.now i.0 c.pieces.wanted.now c.pieces.at p others c.args.self.closed
    (i.2 ∙ ap (option_map (after_piece (i.0, c.pieces.at))) here ∙ said_goes_on i.0 c.pieces.at p others) i.1
    c.in_default-strip_prefix_of_decoded_piece.ensures.none)

pub returns : goal.returns
returns c =
    let bs = c.args.self.bytes.now in
    let i = c.pieces.invariant.front in
    let rest = string_from 0 (drop c.pieces.at bs) in
    elim c.pieces-test.branch [
      | then-pieces-test+else-bytes-at-ne34 w ↦
          says_rest bs c.args.text.now i.0 c.pieces.wanted.now c.is_empty.result
          (said_is bs i.0 c.pieces.at rest c.args.self.closed i.2
          (closes bs c.pieces.at w.pieces-test.true w.if-bytes-at-ne34.false)) i.1 c.is_empty.ensures
      | else-pieces-test w ↦
          absurd (never bs i.0 c.pieces.at rest c.args.self.closed i.2 (ends bs c.pieces.at w.pieces-test.false))
    ]

pub returns-then-is_unescaped_byte : goal.returns-then-is_unescaped_byte
returns-then-is_unescaped_byte c =
    let known = c.common_prefix_len-at.ensures in
    let plain : is_plain (get_or c.args.self.bytes.now c.common_prefix_len-at.result 0) ≡ true =
    sym c.is_unescaped_byte.ensures ∙ c.if-is_unescaped_byte.true in
    sym (says_plain_other c.args.self.bytes.now c.args.text.now c.common_prefix_len-at.result c.args.self.closed
    c.if-at-bytes.true plain known.front known.same (known.ends c.if-at-bytes.true plain))
