use Rattle.uc_text.proofs.Common.{◌≡◌, ◌-◌, ◌++◌, firsts, values, items_in, views}
use Rattle.uc_text.proofs.list.ListBranch.items.Given as goal

abbrev pub invariant-loop : goal.invariant-loop
invariant-loop l = views l.items.items ++ firsts (l.self.count - l.counter) (values l.self.bytes.now l.rest) ≡ items_in
    l.self
