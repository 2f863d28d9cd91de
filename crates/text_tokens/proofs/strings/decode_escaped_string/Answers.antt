use Rattle.text_tokens.proofs.Common.{◌≡◌, ℕ, ◌+◌, ◌++◌, List, drop, take, sym, ap, subst, ◌∙◌, arith, Vec, Global}
use Rattle.text_tokens.proofs.Common.{option_map, IsUtf8, string_from, string_of, after_piece, len_or, piece_of}
use Rattle.text_tokens.proofs.Lemmas.{ends, closes, goes_on, is_none, said_goes_on, nothing_said, raw_utf8, said_is}
use Rattle.text_tokens.proofs.Lemmas.{never, piece_keeps, reaches, all_read}
use Rattle.text_tokens.proofs.strings.decode_escaped_string.Goals as goal
use Rattle.text_tokens.proofs.strings.decode_escaped_string.Goals.{then-pieces-test+else-bytes-at-ne34}
use Rattle.text_tokens.proofs.strings.decode_escaped_string.Goals.{else-pieces-test}

pub pieces-preserved : goal.pieces-preserved
pieces-preserved c =
    let bs = c.args.quoted.bytes.now in
    let len = c.in-Some.ensures.len in
    let p = piece_of c.in-Some.piece in
    let n = len_or (string_of bs) in
    let text = c.in_ok-push_decoded_piece.ensures in
    let on : string_from 0 bs ≡ option_map (after_piece (c.push_decoded_piece.new.text.items, c.pieces.at + p.1))
    (string_from 0 (drop (c.pieces.at + p.1) bs)) =
    c.pieces.invariant.rest ∙ ap (option_map (after_piece (c.pieces.text.items, c.pieces.at)))
    (goes_on bs c.bytes_from.result.now c.pieces.at p c.pieces-test.true c.if-bytes-at-ne34.true c.bytes_from.ensures
    c.in-Some.ensures.is len.0)
    ∙ said_goes_on c.pieces.text.items c.pieces.at p (string_from 0 (drop (c.pieces.at + p.1) bs))
    ∙ ap (λ (t : List ℕ). option_map (after_piece (t, c.pieces.at + p.1)) (string_from 0 (drop (c.pieces.at + p.1) bs)))
    (sym text) in
    let far = reaches bs c.push_decoded_piece.new.text.items (c.pieces.at + p.1)
    (string_from 0 (drop (c.pieces.at + p.1) bs))
    c.args.quoted.closed on in
    let kept : IsUtf8 ((c.pieces.text.items ++ p.0) ++ drop (c.pieces.at + p.1) (take n bs)) =
    piece_keeps bs c.pieces.text.items c.bytes_from.result.now p.0 c.pieces.at n p.1 c.bytes_from.ensures
    c.pieces.invariant.utf8 far c.args.quoted.within len.0 c.in-Some.ensures.escape c.in-Some.ensures.plain in
    record {
      rest = on;
      near = omega (arith, len.1);
      utf8 = subst (λ (t : List ℕ). IsUtf8 (t ++ drop (c.pieces.at + p.1) (take n bs))) (sym text) kept;
    }

pub pieces-init : goal.pieces-init
pieces-init c =
    let bs = c.args.quoted.bytes.now in
    let none = c.new-text.ensures.items in
    record {
      rest = nothing_said (string_from 0 bs) ∙
          ap (λ (t : List ℕ). option_map (after_piece (t, 0)) (string_from 0 bs)) (sym none);
      near = omega arith;
      utf8 = subst (λ (t : List ℕ). IsUtf8 (t ++ take (len_or (string_of bs)) bs)) (sym none)
          (raw_utf8 bs c.args.quoted.closed);
    }

pub unreachable-requires : goal.unreachable-requires
unreachable-requires c =
    let bs = c.args.quoted.bytes.now in
    never bs c.pieces.text.items c.pieces.at (string_from 0 (drop c.pieces.at bs)) c.args.quoted.closed
    c.pieces.invariant.rest
    (is_none bs c.bytes_from.result.now c.pieces.at c.pieces-test.true c.if-bytes-at-ne34.true c.bytes_from.ensures
    c.in_default.ensures.is)

pub unwrap-requires : goal.unwrap-requires
unwrap-requires c =
    let bs = c.args.quoted.bytes.now in
    let rest = string_from 0 (drop c.pieces.at bs) in
    c.from_utf8.ensures.succeeds (subst IsUtf8 (sym c.shrink_to_fit.ensures.items) (elim c.pieces-test.branch [
      | then-pieces-test+else-bytes-at-ne34 w ↦
          all_read bs c.pieces.text.items c.pieces.at rest c.args.quoted.closed c.pieces.invariant.rest
          (closes bs c.pieces.at w.pieces-test.true w.if-bytes-at-ne34.false) c.pieces.invariant.utf8
      | else-pieces-test w ↦
          absurd (never bs c.pieces.text.items c.pieces.at rest c.args.quoted.closed c.pieces.invariant.rest
          (ends bs c.pieces.at w.pieces-test.false))
    ]))

pub returns : goal.returns
returns c =
    let bs = c.args.quoted.bytes.now in
    let rest = string_from 0 (drop c.pieces.at bs) in
    let made = rw c.unwrap.ensures at c.from_utf8.ensures.ok in
    ap (λ (v : Vec ℕ Global). v.items) made ∙ c.shrink_to_fit.ensures.items ∙ elim c.pieces-test.branch [
      | then-pieces-test+else-bytes-at-ne34 w ↦
          said_is bs c.pieces.text.items c.pieces.at rest c.args.quoted.closed c.pieces.invariant.rest
          (closes bs c.pieces.at w.pieces-test.true w.if-bytes-at-ne34.false)
      | else-pieces-test w ↦
          absurd (never bs c.pieces.text.items c.pieces.at rest c.args.quoted.closed c.pieces.invariant.rest
          (ends bs c.pieces.at w.pieces-test.false))
    ]
