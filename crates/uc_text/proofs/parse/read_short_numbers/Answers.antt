use Rattle.uc_text.proofs.Common.{◌++◌, ◌∷◌, [], List, refl, sym, subst, ◌∙◌, arith, append_assoc, append-nil}
use Rattle.uc_text.proofs.Common.{length-append, rest, AtItem, decimal_of, Value, scalar, number, NumberNode}
use Rattle.uc_text.proofs.Lemmas.{one_more, adds_none, adds_one, adds_then, one_node}
use Rattle.uc_text.proofs.parse.read_short_numbers.Goals as goal

pub numbers-init : goal.numbers-init
numbers-init c = record {
  passed = (
    [],
    refl,
    adds_none c.args.reader.now.bytes.now c.args.nodes.now.items,
    λ m all vs i. subst (λ (us : List Value). AtItem m all us (rest c.args.reader.now)) (sym (append-nil vs)) i,
  );
  few = omega arith;
  fewer = omega arith;
  same = refl;
}

pub numbers-preserved : goal.numbers-preserved
numbers-preserved c =
    let small = c.in-Some.small in
    let v : Value = scalar (number (decimal_of small)) in
    let bytes = c.args.reader.now.bytes.now in
    let i = c.numbers.invariant.passed in
    let us = i.0 in
    record {
      passed = (
        us ++ v ∷ [],
        omega (arith, i.1, length-append us (v ∷ [])),
        adds_then bytes c.args.nodes.now.items c.numbers.nodes.items c.push.new.self.items us (v ∷ []) i.2
            (adds_one bytes c.numbers.nodes.items c.push.new.self.items (NumberNode small) v c.in_ok-push.ensures.items
            (λ more. refl)),
        λ m all vs at. subst (λ (ws : List Value). AtItem m all ws (rest c.number_and_comma.new.self))
            (append_assoc vs us (v ∷ []))
            (one_more m all (vs ++ us) (rest c.numbers.reader) v (rest c.number_and_comma.new.self) (i.3 m all vs at)
            c.in-Some.ensures.some tt),
      );
      few = omega (arith, c.numbers.invariant.few, c.in-Some.ensures.less);
      fewer = omega (
        arith,
        c.numbers.invariant.fewer,
        c.in-Some.ensures.less,
        one_node c.numbers.nodes.items c.push.new.self.items _ c.in_ok-push.ensures.items,
      );
      same = c.in-Some.ensures.same ∙ c.numbers.invariant.same;
    }

pub returns-in_default-clause-passed : goal.returns-in_default-clause-passed
returns-in_default-clause-passed c =
    let i = c.numbers.invariant.passed in
    (i.0, i.1, i.2, λ m all vs at. subst (AtItem m all (vs ++ i.0)) (sym c.in_default.ensures.none) (i.3 m all vs at))
