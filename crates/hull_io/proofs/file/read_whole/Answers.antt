use Rattle.std.proofs.Common.{rules, ◌≡◌, ◌+◌, ◌++◌, IfSome, length, length-append, take, ap, sym, ◌∙◌, subst, arith}
use Rattle.std.proofs.Common.{vec_len}
use Rattle.std.proofs.lemmas.List.{length-take}
use Rattle.hull_io.specs.Edge.{ReadsAt}
use Rattle.hull_io.proofs.GrownLemmas.{rose_wider}
use Rattle.hull_io.proofs.ReadLemmas.{front_grows, front_is_all, front_is_within}
use Rattle.hull_io.proofs.file.read_whole.Goals as goal

pub returns-in-Err-clause-failed : goal.returns-in-Err-clause-failed
returns-in-Err-clause-failed g c =
    λ _. rose_wider _ _ _ _ _ (c.reading.invariant.later c.args.name.now) c.in-Err.ensures.cause (omega arith)

pub returns-then-n-eq0-clause-bytes : goal.returns-then-n-eq0-clause-bytes
returns-then-n-eq0-clause-bytes g c =
    let next =
    subst (λ told. IfSome (told c.args.name.now)
    (λ bytes. ReadsAt bytes c.len-in-reading.result c.in-Ok-read.n c.read.new.into)) c.reading.invariant.told
    c.in-Ok-read.ensures.bytes in
    front_is_all (g.F.Shelf.told c.args.shelf.now c.args.name.now) c.reading.bytes.items c.read.new.into
    (vec_len c.reading.bytes) c.len-in-reading.result c.in-Ok-read.n c.reading.invariant.front next
    c.len-in-reading.ensures c.if-n-eq0.true
    (omega (arith, c.read.auto.into))

pub reading-preserved : goal.reading-preserved
reading-preserved g c =
    let n = c.in-Ok-read.n in
    let old = c.reading.bytes in
    let new = c.extend_from_slice.new.self in
    let next =
    subst (λ told. IfSome (told c.args.name.now)
    (λ bytes. ReadsAt bytes c.len-in-reading.result n c.read.new.into)) c.reading.invariant.told
    c.in-Ok-read.ensures.bytes in
    let front = front_grows (g.F.Shelf.told c.args.shelf.now c.args.name.now) old.items c.read.new.into (vec_len old)
    c.len-in-reading.result n c.reading.invariant.front next c.len-in-reading.ensures in
    let added : new.items ≡ old.items ++ take n c.read.new.into = search rules in
    let longer : vec_len new ≡ vec_len old + n =
    omega (
      arith,
      ap length added,
      length-append old.items (take n c.read.new.into),
      length-take n c.read.new.into,
      c.in-Ok-read.ensures.within,
      c.read.auto.into,
      new.ok.0,
      old.ok.0,
    ) in
    record {
      front = subst (λ k. IfSome (g.F.Shelf.told c.args.shelf.now c.args.name.now) (λ bytes. new.items ≡ take k bytes))
          (sym longer)
          (subst (λ xs. IfSome (g.F.Shelf.told c.args.shelf.now c.args.name.now)
          (λ bytes. xs ≡ take (vec_len old + n) bytes)) (sym added) front);
      some = omega (arith, c.read.auto.into, c.reading.invariant.some);
      told = c.read.ensures.told ∙ c.reading.invariant.told;
      later = λ any. omega (arith, c.reading.invariant.later any, c.read.ensures.later any);
    }

pub returns-in-Err-clause-later : goal.returns-in-Err-clause-later
returns-in-Err-clause-later g c = λ any. omega (arith, c.reading.invariant.later any, c.in-Err.ensures.later any)

pub returns-then-n-eq0-clause-later : goal.returns-then-n-eq0-clause-later
returns-then-n-eq0-clause-later g c =
    λ any. omega (arith, c.reading.invariant.later any, c.in-Ok-read.ensures.later any)

pub returns-then-is_err-clause-later : goal.returns-then-is_err-clause-later
returns-then-is_err-clause-later g c =
    λ any. omega (arith, c.reading.invariant.later any, c.in-Ok-read.ensures.later any)

pub returns-clause-too_big : goal.returns-clause-too_big
returns-clause-too_big g c = λ _. front_is_within (g.F.Shelf.told c.args.shelf.now c.args.name.now)
    c.reading.bytes.items (vec_len c.reading.bytes) 67108864 c.reading.invariant.front (sym c.reading.bytes.ok.0)
    (omega (arith, c.reading-test.false, c.len.ensures))
