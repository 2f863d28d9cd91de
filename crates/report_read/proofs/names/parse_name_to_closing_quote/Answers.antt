use Rattle.report_read.proofs.Common.{length, closed_within}
use Rattle.report_read.proofs.Lemmas.{byte_goes_on, byte_fails, name_ends, name_is_open}
use Rattle.report_read.proofs.names.parse_name_to_closing_quote.Goals as goal

pub returns : goal.returns
returns c = name_is_open c.loop.name.items (length c.args.bytes.now) c.loop.counter c.loop.rest.now
    (closed_within (length c.args.bytes.now) c.args.bytes.now) c.loop-test.false c.loop.invariant

pub returns-in-Some : goal.returns-in-Some
returns-in-Some c =
    name_ends c.loop.name.items (length c.args.bytes.now) c.loop.counter c.loop.rest.now c.in-Some.after.now
    (closed_within (length c.args.bytes.now) c.args.bytes.now) c.loop-test.true c.in-Some.ensures c.loop.invariant

pub returns-in_default-parse_name_byte : goal.returns-in_default-parse_name_byte
returns-in_default-parse_name_byte c =
    byte_fails c.loop.name.items (length c.args.bytes.now) c.loop.counter c.loop.rest.now
    (closed_within (length c.args.bytes.now) c.args.bytes.now) c.loop-test.true
    c.in_default.ensures c.in_default-parse_name_byte.ensures c.loop.invariant

pub loop-preserved : goal.loop-preserved
loop-preserved c =
    rw c.in_ok-push.ensures.items (byte_goes_on c.loop.name.items (length c.args.bytes.now) c.loop.counter
    c.loop.rest.now c.in-Some-parse_name_byte.byte c.in-Some-parse_name_byte.after.now
    (closed_within (length c.args.bytes.now) c.args.bytes.now)
    c.loop-test.true c.in_default.ensures c.in-Some-parse_name_byte.ensures c.loop.invariant)
