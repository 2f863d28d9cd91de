use Rattle.uc_text.proofs.Common.{ℕ, List, [], ◌∷◌, refl, sym, ap, subst, err_from_is_err_and, tokens, seen, FaultIs}
use Rattle.uc_text.proofs.Common.{rest, token_of, IsText, IsFirstFault, TextError, Value, Adds, Node}
use Rattle.uc_text.proofs.Lemmas.{not_end, passes_on, says_whole}
use Rattle.uc_text.proofs.ValueSteps.{text_stops, text_stops_behind, text_read}
use Rattle.uc_text.proofs.parse.parse_whole_json_text.Goals as goal

pub returns-in_err-read_value-clause-fault : goal.returns-in_err-read_value-clause-fault
returns-in_err-read_value-clause-fault c =
    let p = err_from_is_err_and c.from_residual.result c.from_residual.ensures.1 in
    rw (p.1, p.2) (passes_on c.in_err-read_value.field-0.0 _ _
    (λ f s. text_stops 32 c.args.bytes.now f (s (tokens c.args.bytes.now) c.next-first.ensures.next))
    c.in_err-read_value.ensures.fault)

pub returns-in-End-clause-found : goal.returns-in-End-clause-found
returns-in-End-clause-found c =
    let bytes = c.args.bytes.now in
    let read = c.in_ok-read_value.ensures.ok (tokens bytes) c.next-first.ensures.next in
    let ns = c.read_value.new.nodes.items in
    let none = subst (λ (old : List Node). Adds c.next-first.new.self.bytes.now old ns (read.0 ∷ []))
    c.new-nodes.ensures.items read.2 in
    let whole = says_whole bytes ns read.0
    (subst (λ (bs : List ℕ). Adds bs [] ns (read.0 ∷ [])) c.next-first.ensures.same none) in
    subst (λ (v : Value). IsText 32 bytes v) (sym whole)
    (text_read 32 bytes read.0 (rest c.read_value.new.reader) (seen c.next-behind.result) read.1
    (c.next-behind.ensures.last (ap token_of c.in-End.is)) (ap token_of c.in-End.is))

pub returns : goal.returns
returns c =
    let read = c.in_ok-read_value.ensures.ok (tokens c.args.bytes.now) c.next-first.ensures.next in
    record {
      found = tt;
      fault = subst (λ (e : TextError). FaultIs e (λ f. IsFirstFault 32 c.args.bytes.now f)) (sym c.text_error.ensures)
          (text_stops_behind 32 c.args.bytes.now read.0 (rest c.read_value.new.reader) (seen c.next-behind.result)
          (rest c.next-behind.new.self) _
          read.1 c.next-behind.ensures.next (not_end c.next-behind.result.token c.in_default.not-End) refl refl);
    }
