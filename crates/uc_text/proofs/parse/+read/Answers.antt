use Rattle.uc_text.proofs.Common.{◌≡◌, ℕ, ◌++◌, ◌∷◌, [], List, refl, sym, ap, subst, ◌∙◌, arith, err_from_is_err_and}
use Rattle.uc_text.proofs.Common.{◌+◌, length, length-append, length-set, Value, scalar, text, list, object, said}
use Rattle.uc_text.proofs.Common.{AreDifferent, IsFirst, Name, Token, open_list, open_object, items_of, members_of}
use Rattle.uc_text.proofs.Common.{names, DoublesStop, Adds, IsStuck, levels, Lexed, NotJson, TooDeep, AtItem, NextIs}
use Rattle.uc_text.proofs.Common.{seen, StuckAt, FaultIs, rest, token_of, scalar_of, TextError, StandsAt, in_turn}
use Rattle.uc_text.proofs.Common.{names_said, ListNode, ObjectNode, TextNode, NullNode}
use Rattle.uc_text.proofs.Words.{word_stops, text_node}
use Rattle.uc_text.proofs.Lemmas.{not_close_list, not_close_object, not_comma, not_colon, not_text, not_start}
use Rattle.uc_text.proofs.Lemmas.{passes_on, if_fault_then, items_begin, items_empty, at_next, read_first, items_end}
use Rattle.uc_text.proofs.Lemmas.{items_stop, items_stop_behind, members_begin, members_empty, members_go_on}
use Rattle.uc_text.proofs.Lemmas.{members_end, name_stops, colon_stops, value_stops, member_stops_behind, adds_none}
use Rattle.uc_text.proofs.Lemmas.{adds_one, adds_then, adds_anew, says_list, says_object, adds_member, not_end_comma}
use Rattle.uc_text.proofs.Lemmas.{split_pushed, after_push, doubles_none, doubles_push, all_different, one_node}
use Rattle.uc_text.proofs.Lemmas.{not_end_colon, not_end_close_list, not_end_close_object}
use Rattle.uc_text.proofs.Objects.{of_member, names_push}
use Rattle.uc_text.proofs.ValueSteps as first
use Rattle.uc_text.proofs.parse.+read.Goals as goal

some_items : (vs : List Value) (v : Value) (us : List Value) → (vs ++ v ∷ []) ++ us ≡ [] → ⊥
some_items [] v us e = cc
some_items (w ∷ vs) v us e = cc

-- ---- items

pub read_items-returns-in-CloseList-clause-ok : goal.read_items-returns-in-CloseList-clause-ok
read_items-returns-in-CloseList-clause-ok t c = (
  [],
  refl,
  items_empty c.args.left (rest c.args.reader.now) (seen c.next-first.result) (rest c.next-first.new.self)
      c.next-first.ensures.next (ap token_of c.in-CloseList.is),
  adds_none c.args.reader.now.bytes.now c.args.nodes.now.items,
)

pub read_items-items-init : goal.read_items-items-init
read_items-items-init t c = record {
  inside = (
    [],
    items_begin c.args.left (rest c.args.reader.now) (seen c.next-first.result) (rest c.next-first.new.self)
        c.next-first.ensures.next (not_close_list c.next-first.result.token c.in_default.not-CloseList),
    refl,
    adds_none c.args.reader.now.bytes.now c.args.nodes.now.items,
  );
  stands = subst (λ (bytes : List ℕ). StandsAt bytes c.next-first.result.offset c.next-first.result.token)
      (sym c.next-first.ensures.same) c.next-first.ensures.stands;
  same = c.next-first.ensures.same;
  few = omega (arith, c.next-first.ensures.ahead);
  fewer = omega (arith, c.next-first.ensures.ahead);
  room = omega arith;
}

pub read_items-returns-in_err-read_value : goal.read_items-returns-in_err-read_value
read_items-returns-in_err-read_value t c =
    let p = err_from_is_err_and c.from_residual.result c.from_residual.ensures.1 in
    let i = c.items.invariant.inside in
    rw (p.1, p.2) (record {
      ok = tt;
      fault = passes_on c.in_err-read_value.field-0.0 _ _
          (λ f s. items_stop c.args.left (rest c.args.reader.now) i.0 (seen c.items.first)
          (rest c.items.reader) f
          c.items.invariant.room i.1 (s i.1.ahead i.1.next)) c.in_err-read_value.ensures.fault;
      ahead = tt;
      fewer = tt;
      same = tt;
    })

pub read_items-items-preserved : goal.read_items-items-preserved
read_items-items-preserved t c =
    let i = c.items.invariant.inside in
    let r = c.in_ok-read_value.ensures.ok i.1.ahead i.1.next in
    let vs = i.0 ++ r.0 ∷ [] in
    let at : AtItem c.args.left (rest c.args.reader.now) vs (rest c.next-behind.new.self) =
    at_next c.args.left (rest c.args.reader.now) i.0 (seen c.items.first) (rest c.items.reader) r.0
    (rest c.read_value.new.reader) (seen c.next-behind.result) (rest c.next-behind.new.self) i.1 r.1.takes r.1.pass
    c.next-behind.ensures.next (ap token_of c.in-Comma.is) in
    let more = c.in_ok-count-in-Comma.ensures.passed in
    let bytes = c.args.reader.now.bytes.now in
    let here = c.next-behind.ensures.same ∙ c.in_ok-read_value.ensures.same ∙ c.items.invariant.same in
    let one = subst (λ (bs : List ℕ). Adds bs c.items.nodes.items c.read_value.new.nodes.items (r.0 ∷ []))
    c.items.invariant.same r.2 in
    let others = subst (λ (bs : List ℕ). Adds bs c.read_value.new.nodes.items c.read_short_numbers.new.nodes.items
    more.0)
    here
    more.2 in
    record {
      inside = (
        vs ++ more.0,
        read_first c.args.left (rest c.args.reader.now) (vs ++ more.0) (rest c.read_short_numbers.new.reader)
            (seen c.next-first-in-Comma.result) (rest c.next-first-in-Comma.new.self)
            (more.3 c.args.left (rest c.args.reader.now) vs at) c.next-first-in-Comma.ensures.next
            (some_items i.0 r.0 more.0),
        omega (arith, i.2, more.1, length-append i.0 (r.0 ∷ []), length-append vs more.0),
        adds_then bytes c.args.nodes.now.items c.read_value.new.nodes.items c.read_short_numbers.new.nodes.items vs
            more.0
            (adds_then bytes c.args.nodes.now.items c.items.nodes.items c.read_value.new.nodes.items i.0 (r.0 ∷ [])
            i.3 one)
            others,
      );
      stands = subst (λ (bs : List ℕ). StandsAt bs c.next-first-in-Comma.result.offset
          c.next-first-in-Comma.result.token) (sym c.next-first-in-Comma.ensures.same)
          c.next-first-in-Comma.ensures.stands;
      same = c.next-first-in-Comma.ensures.same ∙ c.in_ok-count-in-Comma.ensures.same ∙ here;
      few = omega (
        arith,
        c.items.invariant.few,
        c.in_ok-read_value.ensures.ahead,
        c.next-behind.ensures.less (λ e. not_end_comma c.next-behind.result.token c.in-Comma.is e),
        c.in_ok-count-in-Comma.ensures.few,
        c.next-first-in-Comma.ensures.ahead,
      );
      fewer = omega (
        arith,
        c.items.invariant.fewer,
        c.in_ok-read_value.ensures.fewer,
        c.next-behind.ensures.less (λ e. not_end_comma c.next-behind.result.token c.in-Comma.is e),
        c.in_ok-count-in-Comma.ensures.fewer,
        c.next-first-in-Comma.ensures.ahead,
      );
      room = c.items.invariant.room;
    }

pub read_items-returns-in-CloseList-token : goal.read_items-returns-in-CloseList-token
read_items-returns-in-CloseList-token t c =
    let i = c.items.invariant.inside in
    let r = c.in_ok-read_value.ensures.ok i.1.ahead i.1.next in
    let bytes = c.args.reader.now.bytes.now in
    let one = subst (λ (bs : List ℕ). Adds bs c.items.nodes.items c.read_value.new.nodes.items (r.0 ∷ []))
    c.items.invariant.same r.2 in
    record {
      ok = (
        i.0 ++ r.0 ∷ [],
        omega (arith, i.2, length-append i.0 (r.0 ∷ [])),
        items_end c.args.left (rest c.args.reader.now) i.0 (seen c.items.first) (rest c.items.reader) r.0
            (rest c.read_value.new.reader) (seen c.next-behind.result) (rest c.next-behind.new.self)
            i.1 r.1.takes r.1.pass c.next-behind.ensures.next (ap token_of c.in-CloseList-token.is),
        adds_then bytes c.args.nodes.now.items c.items.nodes.items c.read_value.new.nodes.items i.0 (r.0 ∷ []) i.3
            one,
      );
      fault = tt;
      ahead = omega (arith, c.next-behind.ensures.ahead, c.in_ok-read_value.ensures.ahead, c.items.invariant.few);
      fewer = omega (
        arith,
        c.items.invariant.fewer,
        c.in_ok-read_value.ensures.fewer,
        c.next-behind.ensures.less
            (λ e. not_end_close_list c.next-behind.result.token c.in-CloseList-token.is e),
      );
      same = c.next-behind.ensures.same ∙ c.in_ok-read_value.ensures.same ∙ c.items.invariant.same;
    }

pub read_items-returns-in_default-token : goal.read_items-returns-in_default-token
read_items-returns-in_default-token t c =
    let i = c.items.invariant.inside in
    let r = c.in_ok-read_value.ensures.ok i.1.ahead i.1.next in
    record {
      ok = tt;
      fault = subst (λ (e : TextError). FaultIs e
          (λ f. StuckAt c.args.left (open_list ∷ []) (rest c.args.reader.now) f)) (sym c.text_error.ensures)
          (items_stop_behind c.args.left (rest c.args.reader.now) i.0 (seen c.items.first)
          (rest c.items.reader) r.0
          (rest c.read_value.new.reader) (seen c.next-behind.result) (rest c.next-behind.new.self) _
          c.items.invariant.room i.1 r.1.takes r.1.pass c.next-behind.ensures.next
          (not_comma c.next-behind.result.token c.in_default-token.not-Comma)
          (not_close_list c.next-behind.result.token c.in_default-token.not-CloseList) refl refl);
      ahead = tt;
      fewer = tt;
      same = tt;
    }

-- ---- members

pub read_members_and_note_names-returns-in-CloseObject-clause-ok :
    goal.read_members_and_note_names-returns-in-CloseObject-clause-ok
read_members_and_note_names-returns-in-CloseObject-clause-ok t c = (
  [],
  refl,
  ap names_said c.requires.none,
  λ _. members_empty c.args.left (rest c.args.reader.now) (seen c.next-first.result) (rest c.next-first.new.self)
      c.next-first.ensures.next (ap token_of c.in-CloseObject.is),
  adds_none c.args.reader.now.bytes.now c.args.nodes.now.items,
)

pub read_members_and_note_names-returns-in-CloseObject-clause-doubles :
    goal.read_members_and_note_names-returns-in-CloseObject-clause-doubles
read_members_and_note_names-returns-in-CloseObject-clause-doubles t c =
    subst (DoublesStop c.args.left (rest c.args.reader.now)) (sym c.requires.none)
    (doubles_none c.args.left (rest c.args.reader.now))

pub read_members_and_note_names-members-init : goal.read_members_and_note_names-members-init
read_members_and_note_names-members-init t c = record {
  inside = (
    [],
    λ _. members_begin c.args.left (rest c.args.reader.now) (seen c.next-first.result) (rest c.next-first.new.self)
        c.next-first.ensures.next (not_close_object c.next-first.result.token c.in_default.not-CloseObject),
    refl,
    adds_none c.args.reader.now.bytes.now c.args.nodes.now.items,
    ap names_said c.requires.none,
  );
  doubles = subst (DoublesStop c.args.left (rest c.args.reader.now)) (sym c.requires.none)
      (doubles_none c.args.left (rest c.args.reader.now));
  stands = subst (λ (bs : List ℕ). StandsAt bs c.next-first.result.offset c.next-first.result.token)
      (sym c.next-first.ensures.same) c.next-first.ensures.stands;
  same = c.next-first.ensures.same;
  few = omega (arith, c.next-first.ensures.ahead);
  fewer = omega (arith, c.next-first.ensures.ahead);
  room = c.requires.left;
}

pub read_members_and_note_names-returns-in_default-token : goal.read_members_and_note_names-returns-in_default-token
read_members_and_note_names-returns-in_default-token t c =
    let i = c.members.invariant.inside in
    record {
      ok = tt;
      fault = subst (λ (e : TextError). FaultIs e (λ f. AreDifferent (names_said c.members.names.items) →
          StuckAt c.args.left (open_object ∷ []) (rest c.args.reader.now) f)) (sym c.text_error.ensures)
          (λ d. name_stops c.args.left (rest c.args.reader.now) i.0 (seen c.members.first)
          (rest c.members.reader) _
          c.members.invariant.room (i.1 (subst AreDifferent i.4 d))
          (not_text c.members.first.token c.in_default-token.not-Text) refl refl);
      doubles = c.members.invariant.doubles;
      ahead = tt;
      fewer = tt;
      same = tt;
    }

pub read_members_and_note_names-returns-in_err-push-2-clause-doubles :
    goal.read_members_and_note_names-returns-in_err-push-2-clause-doubles
read_members_and_note_names-returns-in_err-push-2-clause-doubles t c =
    let i = c.members.invariant.inside in
    let k = said c.in-Text.quoted.bytes.now in
    doubles_push c.args.left (rest c.args.reader.now) c.members.names.items c.push.new.self.items _ i.0
    (seen c.members.first) (rest c.members.reader) k c.in_ok-push.ensures.items c.members.invariant.room
    c.members.invariant.doubles i.4 i.1 (ap token_of c.in-Text.is) refl refl

pub read_members_and_note_names-returns-in_default-token-2 : goal.read_members_and_note_names-returns-in_default-token-2
read_members_and_note_names-returns-in_default-token-2 t c =
    let i = c.members.invariant.inside in
    let k = said c.in-Text.quoted.bytes.now in
    let pushed = after_push c.members.names.items c.push.new.self.items _ i.0 k c.in_ok-push.ensures.items i.4 refl
    in
    record {
      ok = tt;
      fault = subst (λ (e : TextError). FaultIs e (λ f. AreDifferent (names_said c.push.new.self.items) →
          StuckAt c.args.left (open_object ∷ []) (rest c.args.reader.now) f))
          (sym c.text_error-in_default-token-2.ensures)
          (λ d. let s = split_pushed (names i.0) _ k pushed d in
          colon_stops c.args.left (rest c.args.reader.now) i.0 (seen c.members.first) (rest c.members.reader)
          k
          (seen c.next-between.result) (rest c.next-between.new.self) _
          c.members.invariant.room (i.1 s.0) (ap token_of c.in-Text.is) s.1 c.next-between.ensures.next
          (not_colon c.next-between.result.token c.in_default-token-2.not-Colon) refl refl);
      doubles = doubles_push c.args.left (rest c.args.reader.now) c.members.names.items c.push.new.self.items _ i.0
          (seen c.members.first) (rest c.members.reader) k c.in_ok-push.ensures.items
          c.members.invariant.room
          c.members.invariant.doubles i.4 i.1 (ap token_of c.in-Text.is) refl refl;
      ahead = tt;
      fewer = tt;
      same = tt;
    }

pub read_members_and_note_names-returns-in_err-read_value : goal.read_members_and_note_names-returns-in_err-read_value
read_members_and_note_names-returns-in_err-read_value t c =
    let q = err_from_is_err_and c.from_residual-in_err-read_value.result c.from_residual-in_err-read_value.ensures.1 in
    let i = c.members.invariant.inside in
    let k = said c.in-Text.quoted.bytes.now in
    let pushed = after_push c.members.names.items c.push.new.self.items _ i.0 k c.in_ok-push.ensures.items i.4 refl
    in
    rw (q.1, q.2) (record {
      ok = tt;
      fault = passes_on c.in_err-read_value.field-0.0 _ _ (λ f s d.
          let p = split_pushed (names i.0) _ k pushed d in
          value_stops c.args.left (rest c.args.reader.now) i.0 (seen c.members.first) (rest c.members.reader)
          k
          (seen c.next-between.result) (rest c.next-between.new.self) f c.members.invariant.room (i.1 p.0)
          (ap token_of c.in-Text.is) p.1 c.next-between.ensures.next (ap token_of c.in-Colon.is)
          (s (rest c.next-between.new.self) c.next-start.ensures.next)) c.in_err-read_value.ensures.fault;
      doubles = doubles_push c.args.left (rest c.args.reader.now) c.members.names.items c.push.new.self.items _ i.0
          (seen c.members.first) (rest c.members.reader) k c.in_ok-push.ensures.items
          c.members.invariant.room
          c.members.invariant.doubles i.4 i.1 (ap token_of c.in-Text.is) refl refl;
      ahead = tt;
      fewer = tt;
      same = tt;
    })

pub read_members_and_note_names-members-preserved : goal.read_members_and_note_names-members-preserved
read_members_and_note_names-members-preserved t c =
    let i = c.members.invariant.inside in
    let k = said c.in-Text.quoted.bytes.now in
    let pushed = after_push c.members.names.items c.push.new.self.items _ i.0 k c.in_ok-push.ensures.items i.4 refl
    in
    let r = c.in_ok-read_value.ensures.ok (rest c.next-between.new.self) c.next-start.ensures.next in
    let bytes = c.args.reader.now.bytes.now in
    let p = of_member k r.0 in
    let stands = subst (StandsAt bytes c.members.first.offset) c.in-Text.is
    (subst (λ (bs : List ℕ). StandsAt bs c.members.first.offset c.members.first.token)
    c.members.invariant.same
    c.members.invariant.stands) in
    let named = adds_one bytes c.members.nodes.items c.push-in-members.new.self.items
    (TextNode c.members.first.offset)
    (scalar (text k)) c.in_ok-push-2.ensures.items
    (text_node bytes c.in-Text.quoted.bytes.now c.members.first.offset stands) in
    let start = c.next-start.ensures.same ∙ c.next-between.ensures.same ∙ c.members.invariant.same in
    let valued = subst (λ (bs : List ℕ). Adds bs c.push-in-members.new.self.items c.read_value.new.nodes.items
    (r.0 ∷ []))
    start r.2 in
    let added = adds_member bytes c.args.nodes.now.items c.members.nodes.items
    c.push-in-members.new.self.items
    c.read_value.new.nodes.items i.0 p i.3 named valued in
    let behind = c.next-behind.ensures.same ∙ c.in_ok-read_value.ensures.same ∙ start in
    record {
      inside = (
        i.0 ++ p ∷ [],
        λ d.
            let s = split_pushed (names i.0) _ k (names_push i.0 p) d in
            members_go_on c.args.left (rest c.args.reader.now) i.0 (seen c.members.first)
            (rest c.members.reader) k
            (seen c.next-between.result) (rest c.next-between.new.self) r.0 (rest c.read_value.new.reader)
            (seen c.next-behind.result) (rest c.next-behind.new.self) (seen c.next-first-in-Comma.result)
            (rest c.next-first-in-Comma.new.self)
            (i.1 s.0) (ap token_of c.in-Text.is) s.1 c.next-between.ensures.next (ap token_of c.in-Colon.is) r.1.takes
            r.1.pass c.next-behind.ensures.next (ap token_of c.in-Comma.is) c.next-first-in-Comma.ensures.next,
        omega (arith, i.2, length-append i.0 (p ∷ [])),
        added,
        pushed ∙ sym (names_push i.0 p),
      );
      doubles = doubles_push c.args.left (rest c.args.reader.now) c.members.names.items c.push.new.self.items _ i.0
          (seen c.members.first) (rest c.members.reader) k c.in_ok-push.ensures.items
          c.members.invariant.room
          c.members.invariant.doubles i.4 i.1 (ap token_of c.in-Text.is) refl refl;
      stands = subst (λ (bs : List ℕ). StandsAt bs c.next-first-in-Comma.result.offset
          c.next-first-in-Comma.result.token) (sym c.next-first-in-Comma.ensures.same)
          c.next-first-in-Comma.ensures.stands;
      same = c.next-first-in-Comma.ensures.same ∙ behind;
      few = omega (
        arith,
        c.members.invariant.few,
        c.next-between.ensures.ahead,
        c.next-start.ensures.ahead,
        c.in_ok-read_value.ensures.ahead,
        c.next-behind.ensures.less
            (λ e. not_end_comma c.next-behind.result.token c.in-Comma.is e),
        c.next-first-in-Comma.ensures.ahead,
      );
      fewer = omega (
        arith,
        c.members.invariant.fewer,
        one_node c.members.nodes.items c.push-in-members.new.self.items _ c.in_ok-push-2.ensures.items,
        c.next-between.ensures.less (λ e. not_end_colon c.next-between.result.token c.in-Colon.is e),
        c.next-start.ensures.ahead,
        c.in_ok-read_value.ensures.fewer,
        c.next-behind.ensures.less
            (λ e. not_end_comma c.next-behind.result.token c.in-Comma.is e),
        c.next-first-in-Comma.ensures.ahead,
      );
      room = c.members.invariant.room;
    }

pub read_members_and_note_names-returns-in-CloseObject-token :
    goal.read_members_and_note_names-returns-in-CloseObject-token
read_members_and_note_names-returns-in-CloseObject-token t c =
    let i = c.members.invariant.inside in
    let k = said c.in-Text.quoted.bytes.now in
    let pushed = after_push c.members.names.items c.push.new.self.items _ i.0 k c.in_ok-push.ensures.items i.4 refl
    in
    let r = c.in_ok-read_value.ensures.ok (rest c.next-between.new.self) c.next-start.ensures.next in
    let bytes = c.args.reader.now.bytes.now in
    let p = of_member k r.0 in
    let stands = subst (StandsAt bytes c.members.first.offset) c.in-Text.is
    (subst (λ (bs : List ℕ). StandsAt bs c.members.first.offset c.members.first.token)
    c.members.invariant.same
    c.members.invariant.stands) in
    let named = adds_one bytes c.members.nodes.items c.push-in-members.new.self.items
    (TextNode c.members.first.offset)
    (scalar (text k)) c.in_ok-push-2.ensures.items
    (text_node bytes c.in-Text.quoted.bytes.now c.members.first.offset stands) in
    let start = c.next-start.ensures.same ∙ c.next-between.ensures.same ∙ c.members.invariant.same in
    let valued = subst (λ (bs : List ℕ). Adds bs c.push-in-members.new.self.items c.read_value.new.nodes.items
    (r.0 ∷ []))
    start r.2 in
    let added = adds_member bytes c.args.nodes.now.items c.members.nodes.items
    c.push-in-members.new.self.items
    c.read_value.new.nodes.items i.0 p i.3 named valued in
    let behind = c.next-behind.ensures.same ∙ c.in_ok-read_value.ensures.same ∙ start in
    record {
      ok = (
        i.0 ++ p ∷ [],
        omega (arith, i.2, length-append i.0 (p ∷ [])),
        pushed ∙ sym (names_push i.0 p),
        λ d.
            let s = split_pushed (names i.0) _ k (names_push i.0 p) d in
            members_end c.args.left (rest c.args.reader.now) i.0 (seen c.members.first)
            (rest c.members.reader) k
            (seen c.next-between.result) (rest c.next-between.new.self) r.0 (rest c.read_value.new.reader)
            (seen c.next-behind.result) (rest c.next-behind.new.self)
            (i.1 s.0) (ap token_of c.in-Text.is) s.1 c.next-between.ensures.next (ap token_of c.in-Colon.is) r.1.takes
            r.1.pass c.next-behind.ensures.next (ap token_of c.in-CloseObject-token.is),
        added,
      );
      fault = tt;
      doubles = doubles_push c.args.left (rest c.args.reader.now) c.members.names.items c.push.new.self.items _ i.0
          (seen c.members.first) (rest c.members.reader) k c.in_ok-push.ensures.items
          c.members.invariant.room
          c.members.invariant.doubles i.4 i.1 (ap token_of c.in-Text.is) refl refl;
      ahead = omega (
        arith,
        c.members.invariant.few,
        c.next-between.ensures.ahead,
        c.next-start.ensures.ahead,
        c.in_ok-read_value.ensures.ahead,
        c.next-behind.ensures.ahead,
      );
      fewer = omega (
        arith,
        c.members.invariant.fewer,
        one_node c.members.nodes.items c.push-in-members.new.self.items _ c.in_ok-push-2.ensures.items,
        c.next-between.ensures.less (λ e. not_end_colon c.next-between.result.token c.in-Colon.is e),
        c.next-start.ensures.ahead,
        c.in_ok-read_value.ensures.fewer,
        c.next-behind.ensures.less
            (λ e. not_end_close_object c.next-behind.result.token c.in-CloseObject-token.is e),
      );
      same = behind;
    }

pub read_members_and_note_names-returns-in_default-token-3 : goal.read_members_and_note_names-returns-in_default-token-3
read_members_and_note_names-returns-in_default-token-3 t c =
    let i = c.members.invariant.inside in
    let k = said c.in-Text.quoted.bytes.now in
    let pushed = after_push c.members.names.items c.push.new.self.items _ i.0 k c.in_ok-push.ensures.items i.4 refl
    in
    let r = c.in_ok-read_value.ensures.ok (rest c.next-between.new.self) c.next-start.ensures.next in
    record {
      ok = tt;
      fault = subst (λ (e : TextError). FaultIs e (λ f. AreDifferent (names_said c.push.new.self.items) →
          StuckAt c.args.left (open_object ∷ []) (rest c.args.reader.now) f))
          (sym c.text_error-in_default-token-3.ensures)
          (λ d. let s = split_pushed (names i.0) _ k pushed d in
          member_stops_behind c.args.left (rest c.args.reader.now) i.0 (seen c.members.first)
          (rest c.members.reader) k
          (seen c.next-between.result) (rest c.next-between.new.self) r.0 (rest c.read_value.new.reader)
          (seen c.next-behind.result) (rest c.next-behind.new.self) _
          c.members.invariant.room (i.1 s.0) (ap token_of c.in-Text.is) s.1 c.next-between.ensures.next
          (ap token_of c.in-Colon.is) r.1.takes r.1.pass c.next-behind.ensures.next
          (not_comma c.next-behind.result.token c.in_default-token-3.not-Comma)
          (not_close_object c.next-behind.result.token c.in_default-token-3.not-CloseObject) refl refl);
      doubles = doubles_push c.args.left (rest c.args.reader.now) c.members.names.items c.push.new.self.items _ i.0
          (seen c.members.first) (rest c.members.reader) k c.in_ok-push.ensures.items
          c.members.invariant.room
          c.members.invariant.doubles i.4 i.1 (ap token_of c.in-Text.is) refl refl;
      ahead = tt;
      fewer = tt;
      same = tt;
    }

pub read_members-returns-clause-fault : goal.read_members-returns-clause-fault
read_members-returns-clause-fault t c =
    let ns = c.read_members_and_note_names-read.new.names.items in
    let double = c.in_ok-double.double in
    let told : IsFirst (names_said c.deref.result.now) double = c.in_ok-double.ensures in
    let first : IsFirst (names_said ns) double =
    subst (λ (ms : List Name). IsFirst (names_said ms) double) c.deref.ensures.value told in
    let different = all_different ns (names_said ns) double refl
    (omega (arith, c.if-double-len.false, c.len.ensures, c.read_members_and_note_names-read.new.names.ok.0)) first in
    if_fault_then c.read_members_and_note_names-read.result _ _ (λ f s. s different)
    c.read_members_and_note_names-read.ensures.fault

-- ---- a value

pub read_value-returns-in_err-node-in-Word-clause-fault : goal.read_value-returns-in_err-node-in-Word-clause-fault
read_value-returns-in_err-node-in-Word-clause-fault t c =
    let p = err_from_is_err_and c.from_residual.result c.from_residual.ensures.1 in
    rw (p.1, p.2) (passes_on c.in_err-node-in-Word.field-0.0 _ _
    (λ f s ts n. word_stops c.args.left (seen c.args.first) (rest c.args.reader.now) ts (scalar_of c.in-Word.word) f
    (ap token_of c.in-Word.is) s.0 s.1 n) c.in_err-node-in-Word.ensures.fault)

pub read_value-returns-in_ok-push-in-Word-clause-ok : goal.read_value-returns-in_ok-push-in-Word-clause-ok
read_value-returns-in_ok-push-in-Word-clause-ok t c = λ ts n.
    let bytes = c.args.reader.now.bytes.now in
    let s = scalar_of c.in-Word.word in
    let stands = subst (StandsAt bytes c.args.first.offset) c.in-Word.is c.requires in (
      scalar s,
      first.reads_scalar c.args.left ts (seen c.args.first) (rest c.args.reader.now) s n (ap token_of c.in-Word.is)
          c.in_ok-node-in-Word.ensures.short,
      adds_one bytes c.args.nodes.now.items c.push.new.self.items c.in_ok-node-in-Word.node (scalar s)
          c.in_ok-push-in-Word.ensures.items (c.in_ok-node-in-Word.ensures.ok bytes stands),
    )

pub read_value-returns-in_ok-push-in-Text-clause-ok : goal.read_value-returns-in_ok-push-in-Text-clause-ok
read_value-returns-in_ok-push-in-Text-clause-ok t c = λ ts n.
    let bytes = c.args.reader.now.bytes.now in
    let k = said c.in-Text.field-0.bytes.now in
    let stands = subst (StandsAt bytes c.args.first.offset) c.in-Text.is c.requires in (
      scalar (text k),
      first.reads_scalar c.args.left ts (seen c.args.first) (rest c.args.reader.now) (text k) n
          (ap token_of c.in-Text.is) tt,
      adds_one bytes c.args.nodes.now.items c.push-in-Text.new.self.items (TextNode c.args.first.offset)
          (scalar (text k)) c.in_ok-push-in-Text.ensures.items
          (text_node bytes c.in-Text.field-0.bytes.now c.args.first.offset stands),
    )

pub read_value-returns-in_ok-count-in-OpenList-clause-ok : goal.read_value-returns-in_ok-count-in-OpenList-clause-ok
read_value-returns-in_ok-count-in-OpenList-clause-ok t c = λ ts n.
    let bytes = c.args.reader.now.bytes.now in
    let r = c.in_ok-count-in-OpenList.ensures.ok in
    let parts = c.parts_of_list_or_object.result in
    let all : parts.nodes + (c.len-at.result + 1) ≡ length c.read_items.new.nodes.items =
    omega (arith, c.parts_of_list_or_object.ensures.nodes, c.len.ensures, c.read_items.new.nodes.ok.0) in (
      list (items_of r.0),
      first.reads_list c.args.left ts (seen c.args.first) (rest c.args.reader.now) r.0 (rest c.read_items.new.reader)
          (omega (arith, c.if-left-eq0.false)) n (ap token_of c.in-OpenList.is) r.2,
      adds_anew bytes c.args.nodes.now.items c.push-in-OpenList.new.self.items c.read_items.new.nodes.items _ NullNode
          (ListNode parts) r.0 (list (items_of r.0)) c.len-at.result c.in_ok-push-in-OpenList.ensures.items
          (omega (arith, c.len-at.ensures, c.args.nodes.now.ok.0)) refl
          all (says_list parts.count r.0 (c.parts_of_list_or_object.ensures.count ∙ r.1)) r.3,
    )

pub read_value-returns-in_ok-count-in-OpenList-clause-fewer :
    goal.read_value-returns-in_ok-count-in-OpenList-clause-fewer
read_value-returns-in_ok-count-in-OpenList-clause-fewer t c =
    omega (
      arith,
      c.in_ok-count-in-OpenList.ensures.fewer,
      one_node c.args.nodes.now.items c.push-in-OpenList.new.self.items _ c.in_ok-push-in-OpenList.ensures.items,
      length-set c.read_items.new.nodes.items c.len-at.result (ListNode c.parts_of_list_or_object.result),
    )

pub read_value-returns-in_ok-count-in-OpenObject-clause-ok : goal.read_value-returns-in_ok-count-in-OpenObject-clause-ok
read_value-returns-in_ok-count-in-OpenObject-clause-ok t c = λ ts n.
    let bytes = c.args.reader.now.bytes.now in
    let r = c.in_ok-count-in-OpenObject.ensures.ok in
    let parts = c.parts_of_list_or_object-in-OpenObject.result in
    let all : parts.nodes + (c.len-at-in-OpenObject.result + 1) ≡ length c.read_members.new.nodes.items =
    omega (
      arith,
      c.parts_of_list_or_object-in-OpenObject.ensures.nodes,
      c.len-in-OpenObject.ensures,
      c.read_members.new.nodes.ok.0,
    ) in (
      object (members_of r.0),
      first.reads_object c.args.left ts (seen c.args.first) (rest c.args.reader.now) r.0
          (rest c.read_members.new.reader)
          (omega (arith, c.if-left-eq0-2.false)) n (ap token_of c.in-OpenObject.is) r.2,
      adds_anew bytes c.args.nodes.now.items c.push-in-OpenObject.new.self.items c.read_members.new.nodes.items _
          NullNode
          (ObjectNode parts) (in_turn r.0) (object (members_of r.0)) c.len-at-in-OpenObject.result
          c.in_ok-push-in-OpenObject.ensures.items
          (omega (arith, c.len-at-in-OpenObject.ensures, c.args.nodes.now.ok.0)) refl
          all (says_object parts.count r.0 (c.parts_of_list_or_object-in-OpenObject.ensures.count ∙ r.1)) r.3,
    )

pub read_value-returns-in_ok-count-in-OpenObject-clause-fewer :
    goal.read_value-returns-in_ok-count-in-OpenObject-clause-fewer
read_value-returns-in_ok-count-in-OpenObject-clause-fewer t c =
    omega (
      arith,
      c.in_ok-count-in-OpenObject.ensures.fewer,
      one_node c.args.nodes.now.items c.push-in-OpenObject.new.self.items _ c.in_ok-push-in-OpenObject.ensures.items,
      length-set c.read_members.new.nodes.items c.len-at-in-OpenObject.result
          (ObjectNode c.parts_of_list_or_object-in-OpenObject.result),
    )

pub read_value-returns-in_ok-push-in-Word-clause-fewer : goal.read_value-returns-in_ok-push-in-Word-clause-fewer
read_value-returns-in_ok-push-in-Word-clause-fewer t c =
    omega (arith, one_node c.args.nodes.now.items c.push.new.self.items _ c.in_ok-push-in-Word.ensures.items)

pub read_value-returns-in_ok-push-in-Text-clause-fewer : goal.read_value-returns-in_ok-push-in-Text-clause-fewer
read_value-returns-in_ok-push-in-Text-clause-fewer t c =
    omega (arith, one_node c.args.nodes.now.items c.push-in-Text.new.self.items _ c.in_ok-push-in-Text.ensures.items)

pub read_value-returns-then-left-eq0-clause-fault : goal.read_value-returns-then-left-eq0-clause-fault
read_value-returns-then-left-eq0-clause-fault t c =
    let zero_left : c.args.left ≡ 0 = c.if-left-eq0.true in
    subst (λ (e : TextError). FaultIs e (λ f. (ts : List Lexed) →
    NextIs ts (seen c.args.first) (rest c.args.reader.now) → StuckAt c.args.left [] ts f)) (sym c.text_error.ensures)
    (λ ts n. first.value_stops c.args.left ts (seen c.args.first) (rest c.args.reader.now) _ TooDeep n refl refl
    (subst (λ (k : Token). IsStuck c.args.left [] k levels) (sym (ap token_of c.in-OpenList.is))
    (subst (λ (m : ℕ). IsStuck m [] open_list levels) (sym zero_left) first.stuck_deep_list)))

pub read_value-returns-then-left-eq0-2-clause-fault : goal.read_value-returns-then-left-eq0-2-clause-fault
read_value-returns-then-left-eq0-2-clause-fault t c =
    let zero_left : c.args.left ≡ 0 = c.if-left-eq0-2.true in
    subst (λ (e : TextError). FaultIs e (λ f. (ts : List Lexed) →
    NextIs ts (seen c.args.first) (rest c.args.reader.now) → StuckAt c.args.left [] ts f))
    (sym c.text_error-then-left-eq0-2.ensures)
    (λ ts n. first.value_stops c.args.left ts (seen c.args.first) (rest c.args.reader.now) _ TooDeep n refl refl
    (subst (λ (k : Token). IsStuck c.args.left [] k levels) (sym (ap token_of c.in-OpenObject.is))
    (subst (λ (m : ℕ). IsStuck m [] open_object levels) (sym zero_left) first.stuck_deep_object)))

pub read_value-returns-in_err-count-in-OpenList-clause-fault :
    goal.read_value-returns-in_err-count-in-OpenList-clause-fault
read_value-returns-in_err-count-in-OpenList-clause-fault t c =
    let p = err_from_is_err_and c.from_residual-in_err-count-in-OpenList.result
    c.from_residual-in_err-count-in-OpenList.ensures.1 in
    rw (p.1, p.2) (passes_on c.in_err-count-in-OpenList.field-0.0 _ _
    (λ f s ts n. first.container_stops c.args.left ts (seen c.args.first) (rest c.args.reader.now) open_list f n
    (ap token_of c.in-OpenList.is) refl s) c.in_err-count-in-OpenList.ensures.fault)

pub read_value-returns-in_err-count-in-OpenObject-clause-fault :
    goal.read_value-returns-in_err-count-in-OpenObject-clause-fault
read_value-returns-in_err-count-in-OpenObject-clause-fault t c =
    let p = err_from_is_err_and c.from_residual-in_err-count-in-OpenObject.result
    c.from_residual-in_err-count-in-OpenObject.ensures.1 in
    rw (p.1, p.2) (passes_on c.in_err-count-in-OpenObject.field-0.0 _ _
    (λ f s ts n. first.container_stops c.args.left ts (seen c.args.first) (rest c.args.reader.now) open_object f n
    (ap token_of c.in-OpenObject.is) refl s) c.in_err-count-in-OpenObject.ensures.fault)

pub read_value-returns-in_default : goal.read_value-returns-in_default
read_value-returns-in_default t c = record {
  ok = tt;
  fault = subst (λ (e : TextError). FaultIs e (λ f. (ts : List Lexed) →
      NextIs ts (seen c.args.first) (rest c.args.reader.now) → StuckAt c.args.left [] ts f))
      (sym c.text_error-in_default.ensures)
      (λ ts n. first.value_stops c.args.left ts (seen c.args.first) (rest c.args.reader.now) _ NotJson n refl refl
      (first.stuck_not_start c.args.left (token_of c.args.first.token)
      (not_start c.args.first.token c.in_default.not-OpenList c.in_default.not-OpenObject c.in_default.not-Word
      c.in_default.not-Text)));
  ahead = tt;
  fewer = tt;
  same = tt;
}
