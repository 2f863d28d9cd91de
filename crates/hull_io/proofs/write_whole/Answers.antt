use Rattle.std.proofs.Common.{◌+◌, ◌-◌, length, take, drop, arith, sym, ◌∙◌}
use Rattle.std.proofs.lemmas.Result.{err_from_is_err_and}
use Rattle.std.proofs.lemmas.List.{length-take, length-drop, take-append-drop}
use Rattle.hull_io.proofs.GrownLemmas.{rose_wider, gains_next}
use Rattle.hull_io.proofs.write_whole.Goals as goal

pub returns-in_err-n : goal.returns-in_err-n
returns-in_err-n g c =
    let p = err_from_is_err_and c.from_residual.result c.from_residual.ensures.1 in
    rw p.1 (record {
      ok = tt;
      err = record {
        front = take c.loop-at.at c.args.piece.now;
        rest = drop c.loop-at.at c.args.piece.now;
        begins = sym (take-append-drop c.loop-at.at c.args.piece.now);
        gained = c.in_err-n.ensures.err ∙ c.loop-at.invariant.gained;
        rose = rose_wider _ _ _ _ _ c.loop-at.invariant.later c.in_err-n.ensures.cause (omega arith);
        later = omega arith;
      };
    })

pub returns-then-n-eq0 : goal.returns-then-n-eq0
returns-then-n-eq0 g c = record {
  ok = tt;
  err = record {
    front = take (c.loop-at.at + c.in_ok-n.n) c.args.piece.now;
    rest = drop (c.loop-at.at + c.in_ok-n.n) c.args.piece.now;
    begins = sym (take-append-drop (c.loop-at.at + c.in_ok-n.n) c.args.piece.now);
    gained = gains_next _ _ _ c.loop-at.at c.in_ok-n.n c.args.piece.now c.loop-at.invariant.gained
        c.in_ok-n.ensures.gains;
    rose = rose_wider _ _ _ _ _ c.loop-at.invariant.later
        (c.in_ok-n.ensures.none (omega arith) (simp (length-take, length-drop) (omega arith))) (omega arith);
    later = omega arith;
  };
}

pub loop-at-preserved : goal.loop-at-preserved
loop-at-preserved g c = record {
  within = omega (
    arith,
    c.in_ok-n.ensures.within,
    length-take (length c.args.piece.now - c.loop-at.at)
        (drop c.loop-at.at c.args.piece.now),
    length-drop c.loop-at.at c.args.piece.now,
  );
  gained = gains_next _ _ _ c.loop-at.at c.in_ok-n.n c.args.piece.now c.loop-at.invariant.gained
      c.in_ok-n.ensures.gains;
  later = omega arith;
}
