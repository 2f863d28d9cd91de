use Rattle.std.proofs.lemmas.Map.Text.{hash_map_updates_text}
use Rattle.uc_plan.proofs.Common.{string_bytes}
use Rattle.uc_plan.proofs.lookup.Values.put.Goals as goal

pub returns : goal.returns
returns c = λ q.
    rw (← c.in_ok-name.ensures) (hash_map_updates_text (string_bytes c.in_ok-name.name) c.args.self.now.by_key
    c.insert.new.self _ c.in_ok-insert.ensures.updates q)
