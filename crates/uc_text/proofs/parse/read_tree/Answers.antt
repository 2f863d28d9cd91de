use Rattle.uc_text.proofs.Answered.{is_only, is_refused}
use Rattle.uc_text.proofs.parse.read_tree.Goals as goal

pub returns-clause-only : goal.returns-clause-only
returns-clause-only c = λ v h. is_only 32 c.args.bytes.now c.parse_whole_json_text.result
    c.parse_whole_json_text.ensures.found
    c.parse_whole_json_text.ensures.fault v h

pub returns-clause-refused : goal.returns-clause-refused
returns-clause-refused c = λ f h. is_refused 32 c.args.bytes.now c.parse_whole_json_text.result
    c.parse_whole_json_text.ensures.found
    c.parse_whole_json_text.ensures.fault f h
