-- The seats of a run's workers, from the splits to the joins: nobody halts, so the board has finished.
use Rattle.board_run.proofs.Common.{◌≡◌, ◌≢◌, ℕ, ◌+◌, Bool, true, false, ◌||◌, inl, inr, ⊎_elim, Some, List, [], ◌∷◌}
use Rattle.board_run.proofs.Common.{◌++◌, length, take, drop, subst, sym, ap, ◌∙◌, refl, arith, append_assoc}
use Rattle.board_run.proofs.Common.{append-nil, length-append, All, AllZip, Contains, list_any, All-nil, All-cons}
use Rattle.board_run.proofs.Common.{All-head, All-tail, All-append, All-weaker, All-pop, All-push, Contains-push}
use Rattle.board_run.proofs.Common.{Contains-push_cases, Contains-append_left, AllZip-long, Fits, Setup, IsLegalHistory}
use Rattle.board_run.proofs.Common.{has_finished, FinishedStays, empty_board, SeatValue, view_of, IsSeatOf, IsSameBoard}
use Rattle.board_run.proofs.Common.{IsOwner, BoardEvent, View, caller_of, content, cut_left, cut_right, first_view}
use Rattle.board_run.proofs.Common.{without, IsBenchOf, IsWorkerOf, HasParts, Came, HasWorked, HaveWorked, HaveEnded}
use Rattle.board_run.proofs.Common.{HasSeenHalt, HasFinished, Worker, StartsWith, named_by, IsNew, IsCrew, IsHired}
use Rattle.board_run.proofs.Common.{IsCalmWorker, IsCalm, SomeEnd, AreOut}
use Rattle.std.proofs.lemmas.List.Folds.{list_any-append}
use Rattle.board_store.specs.Rounds.{Given, Taken, Closing, Stopped, is_halt}
use Rattle.board_share.specs.Rule.{GoesOnWithout, Past, Sees}
use Rattle.board_share.specs.Tells.{HasJoined}
use Rattle.board_share.specs.declared.shared.SharedBoard.{SharedBoard}
use Rattle.answer_workers.specs.declared.worker.Ended.{Ended}
use Rattle.answer_workers.specs.declared.worker.Ended.TheVariants.{Finished, Halted}
use Rattle.board_run.proofs.Outs.{in_none, in_one, in_without}

-- ---- one more seat is joined

past_calm : (v : View) (e : BoardEvent) → v.caller ≡ 0 → Past v e → IsCalm v.out e
past_calm v e owner p c is =
    (subst (Contains v.out) (ap caller_of is) (p.1 owner), (λ none. p.0 (ap caller_of is ∙ (none ∙ sym owner))))

module _ (v w u : View) (owner : v.caller ≡ 0) where
  abbrev NotOf : BoardEvent → Type 0
  NotOf e = e ≢ Stopped w.caller

  joined_calm : All (IsCalm v.out) v.seen → All NotOf w.seen → Sees v u.seen → GoesOnWithout w.caller u.seen w.seen →
      u.out ≡ without w.caller v.out → All (IsCalm u.out) u.seen
  joined_calm calm own fresh others out k d inside c is =
      let past : All (IsCalm v.out) fresh.rest =
      All-weaker (Past v) (IsCalm v.out) (λ e. past_calm v e owner) fresh.rest fresh.past in
      let a = subst (All (IsCalm v.out)) fresh.whole (All-append (IsCalm v.out) v.seen fresh.rest calm past) k d inside
      c is in
      let rest : All NotOf others.0 = All-weaker (λ (e : BoardEvent). caller_of e ≢ w.caller) NotOf
      (λ e n same. n (ap caller_of same)) others.0 others.2 in
      let b = subst (All NotOf) others.1 (All-append NotOf w.seen others.0 own rest) k d inside in (
        subst (λ (l : List ℕ). Contains l c) (sym out)
            (in_without w.caller v.out c a.0 (λ same. b (is ∙ ap Stopped same))),
        a.1,
      )

halt_stays : (h rest later : List BoardEvent) → h ++ rest ≡ later → list_any is_halt h ≡ true →
    list_any is_halt later ≡ true
halt_stays h rest later e some = ap (list_any is_halt) (sym e) ∙
    (list_any-append is_halt h rest ∙ ap (λ (b : Bool). b || list_any is_halt rest) some)

joined_ends : (v u : View) (ws : List Worker) (w : Worker) → u.setup ≡ v.setup → StartsWith u.seen v.seen →
    StartsWith u.seen (view_of w.seat).seen → SomeEnd v (ws ++ w ∷ []) → SomeEnd u ws
joined_ends v u ws w setup own others (inl f) =
    let whole : f.0 ++ (f.1.0 ++ own.0) ≡ u.seen =
    sym (append_assoc f.0 f.1.0 own.0) ∙ (ap (λ (l : List BoardEvent). l ++ own.0) f.1.1 ∙ own.1) in
    inl (f.0, (f.1.0 ++ own.0, whole), subst (λ (b : Setup). has_finished (content b f.0) ≡ true) (sym setup) f.2)
joined_ends v u ws w setup own others (inr (inl h)) = inr (inl (halt_stays v.seen own.0 u.seen own.1 h))
joined_ends v u ws w setup own others (inr (inr x)) =
    ⊎_elim (λ (at : Contains ws x.0). inr (inr (x.0, at, x.2)))
    (λ (same : w ≡ x.0). inr
    (inl (halt_stays (view_of w.seat).seen others.0 u.seen others.1
    (subst (λ (y : Worker). HasSeenHalt y) (sym same) x.2)))) (Contains-push_cases ws w x.0 x.1)

still_calm : (s t : SeatValue) (w : Worker) → IsSameBoard s t → IsCalmWorker s w → IsCalmWorker t w
still_calm s t w same c =
    record { same = (c.same.0 ∙ sym same.0, c.same.1 ∙ sym same.1); split = c.split; calm = c.calm }

pub join_one : (board : SharedBoard) (s t : SeatValue) (ws : List Worker) (w : Worker) → AreOut board s (ws ++ w ∷ []) →
    IsSameBoard s t → IsOwner t
    → (view_of t).out ≡ without (view_of w.seat).caller (view_of s).out →
    HasJoined (view_of s) (view_of w.seat) (view_of t) → AreOut board t ws
join_one board s t ws w is same owner out j =
    let others : All (IsCalmWorker s) (ws ++ w ∷ []) = is.others in
    let split = All-pop (IsCalmWorker s) (ws ++ w ∷ []) ws (Some w) refl others in
    let mine : IsCalmWorker s w = split.1 in
    let fewer = j.fewer in
    let before = is.count in
    let long = length-append ws (w ∷ []) in
    record {
      own = ((same.0 ∙ is.own.0.0, ap (λ (b : Setup). b.callers) same.1 ∙ is.own.0.1), owner);
      others = All-weaker (IsCalmWorker s) (IsCalmWorker t) (λ x. still_calm s t x same) ws split.0;
      count = omega (arith, fewer, before, long);
      owner_out = subst (λ (l : List ℕ). Contains l 0) (sym out)
          (in_without (view_of w.seat).caller (view_of s).out 0 is.owner_out (λ e. mine.split (sym e)));
      calm = joined_calm (view_of s) (view_of w.seat) (view_of t) is.own.1 is.calm mine.calm j.fresh j.others out;
      ended = joined_ends (view_of s) (view_of t) ws w same.1 (j.fresh.rest, j.fresh.whole) (j.others.0, j.others.1)
          is.ended;
    }

-- ---- all are joined

not_halt : (out : List ℕ) (e : BoardEvent) → length out ≡ 1 → Contains out 0 → IsCalm out e → is_halt e ≡ false
not_halt out (Given c n u) one own calm = refl
not_halt out (Taken c n u a) one own calm = refl
not_halt out (Closing c n u a) one own calm = refl
not_halt [] (Stopped c) one own calm = absurd (omega (arith, one))
not_halt (x ∷ []) (Stopped c) one own calm = let a = calm c refl in absurd (a.1 (sym (in_one x c a.0) ∙ in_one x 0 own))
not_halt (x ∷ y ∷ out) (Stopped c) one own calm = absurd (omega (arith, one))

none_halt : (h : List BoardEvent) → All (λ (e : BoardEvent). is_halt e ≡ false) h → list_any is_halt h ≡ true → ⊥
none_halt [] none some = absurd cc
none_halt (e ∷ h) none some =
    let first : is_halt e ≡ false = All-head (λ (x : BoardEvent). is_halt x ≡ false) e h none in
    none_halt h (All-tail (λ (x : BoardEvent). is_halt x ≡ false) e h none)
    (ap (λ (b : Bool). b || list_any is_halt h) (sym first) ∙ some)

pub all_finished : FinishedStays Fits → (board : SharedBoard) (s : SeatValue) → AreOut board s [] →
    IsLegalHistory (view_of s).setup (view_of s).seen → has_finished (content (view_of s).setup (view_of s).seen) ≡ true
all_finished stays board s is legal = decide is.ended
  where
    v : View
    v = view_of s

    no_halt : list_any is_halt v.seen ≡ true → ⊥
    no_halt = none_halt v.seen (All-weaker (IsCalm v.out) (λ (e : BoardEvent). is_halt e ≡ false)
        (λ e. not_halt v.out e is.count is.owner_out) v.seen is.calm)

    decide : SomeEnd v [] → has_finished (content v.setup v.seen) ≡ true
    decide (inl f) = subst (λ (h : List BoardEvent). has_finished (content v.setup h) ≡ true) f.1.1
        (stays v.setup f.0 f.1.0 (subst (IsLegalHistory v.setup) (sym f.1.1) legal) f.2)
    decide (inr (inl h)) = absurd (no_halt h)
    decide (inr (inr x)) = absurd (in_none x.0 x.1)

-- ---- the work is done

zip_last : {A : Type 0} (R : A → A → Type 0) (xs ys : List A) (x y : A) → AllZip R (xs ++ x ∷ []) (ys ++ y ∷ []) →
    AllZip R xs ys × R x y
zip_last R [] [] x y h = (tt, h.0)
zip_last R [] (b ∷ []) x y h = absurd h.1
zip_last R [] (b ∷ c ∷ ys) x y h = absurd h.1
zip_last R (a ∷ []) [] x y h = absurd h.1
zip_last R (a ∷ c ∷ xs) [] x y h = absurd h.1
zip_last R (a ∷ xs) (b ∷ ys) x y h = let r = zip_last R xs ys x y h.1 in ((h.0, r.0), r.1)

-- an event that the owner came to see
owner_calm : (v : View) (out : List ℕ) (e : BoardEvent) → v.caller ≡ 0 → out ≡ v.out → Contains v.out 0 → Came v e →
    IsCalm out e
owner_calm v out e owner same mine came c is = (
  subst (λ (l : List ℕ). Contains l c) (sym same)
      (⊎_elim (λ (own : caller_of e ≡ 0). subst (Contains v.out) (sym own ∙ ap caller_of is) mine)
      (λ (other : Contains v.out (caller_of e)). subst (Contains v.out) (ap caller_of is) other) (came.1 owner)),
  (λ none. came.0 (is ∙ ap Stopped (none ∙ sym owner))),
)

seen_more : (x y : Worker) (h : HasWorked x y) → (view_of x.seat).seen ≡ [] → h.goes.more ≡ (view_of y.seat).seen
seen_more x y h none = ap (λ (l : List BoardEvent). l ++ h.goes.more) (sym none) ∙ h.goes.longer

module _ (b : Setup) (board : SharedBoard) where
  calm_after : (owner : SeatValue) (x y : Worker) → IsSeatOf board owner → (view_of owner).setup ≡ b → IsNew b board x →
      (IsOwner x.seat → ⊥) → HasWorked x y → IsCalmWorker owner y
  calm_after owner x y at named new split worked =
      let caller : (view_of y.seat).caller ≡ (view_of x.seat).caller = ap (λ (v : View). v.caller) worked.goes.same in
      let NotOwn : BoardEvent → Type 0 = λ e. e ≢ Stopped (view_of y.seat).caller in
      let more : All NotOwn worked.goes.more = All-weaker (Came (view_of x.seat)) NotOwn
      (λ e came is. came.0 (is ∙ ap Stopped caller)) worked.goes.more worked.goes.came in
      record {
        same = (worked.board.0 ∙ (new.own.seat.0 ∙ sym at.0), worked.board.1 ∙ (new.setup ∙ sym named));
        split = λ is. split (sym caller ∙ is);
        calm = subst (All NotOwn) (seen_more x y worked new.seen) more;
      }

  others_after : (owner : SeatValue) (xs ys : List Worker) → IsSeatOf board owner → (view_of owner).setup ≡ b →
      All (IsNew b board) xs → All (λ (w : Worker). IsOwner w.seat → ⊥) xs → AllZip HasWorked xs ys →
      All (IsCalmWorker owner) ys
  others_after owner [] [] at named new split worked = All-nil (IsCalmWorker owner)
  others_after owner [] (y ∷ ys) at named new split worked = absurd worked
  others_after owner (x ∷ xs) [] at named new split worked = absurd worked
  others_after owner (x ∷ xs) (y ∷ ys) at named new split worked =
      let Apart : Worker → Type 0 = λ w. IsOwner w.seat → ⊥ in
      All-cons (IsCalmWorker owner) y ys
      (calm_after owner x y at named (All-head (IsNew b board) x xs new) (All-head Apart x xs split) worked.0)
      (others_after owner xs ys at named (All-tail (IsNew b board) x xs new) (All-tail Apart x xs split) worked.1)

  ended_some : (ended : Ended) (rest : List Worker) (o : Worker) → HaveEnded ended (rest ++ o ∷ []) →
      SomeEnd (view_of o.seat) rest
  ended_some Finished rest o h =
      inl (
        (view_of o.seat).seen,
        ([], append-nil (view_of o.seat).seen),
        (All-pop HasFinished (rest ++ o ∷ []) rest (Some o) refl h).1,
      )
  ended_some Halted rest o h =
      ⊎_elim (λ (at : Contains rest h.0). inr (inr (h.0, at, h.2)))
      (λ (same : o ≡ h.0). inr (inl (subst (λ (y : Worker). HasSeenHalt y) (sym same) h.2)))
      (Contains-push_cases rest o h.0 h.1)

  -- the owner's worker and the others, after the work
  pub record HaveDone (o : Worker) (rest : List Worker) : Type 0 where
    pub out : AreOut board o.seat rest
    pub setup : (view_of o.seat).setup ≡ b
    pub bench : IsBenchOf b.market o.bench

  pub crew_done : (ws now rest : List Worker) (o : Worker) (ended : Ended) → IsCrew b board ws →
      All (IsWorkerOf board) now → HaveWorked ws now → HaveEnded ended now → now ≡ rest ++ o ∷ [] → HaveDone o rest
  crew_done ws now rest o ended crew own worked ends is =
      let zip : AllZip HasWorked (crew.others ++ crew.owner ∷ []) (rest ++ o ∷ []) =
      subst (λ (l : List Worker × List Worker). AllZip HasWorked l.0 l.1) (λ i. (crew.all i, is i)) worked in
      let parts = zip_last HasWorked crew.others rest crew.owner o zip in
      let mine : HasWorked crew.owner o = parts.1 in
      let new : All (IsNew b board) (crew.others ++ crew.owner ∷ []) = subst (All (IsNew b board)) crew.all crew.new in
      let news = All-pop (IsNew b board) (crew.others ++ crew.owner ∷ []) crew.others (Some crew.owner) refl new in
      let first : IsNew b board crew.owner = news.1 in
      let of : IsWorkerOf board o = (All-pop (IsWorkerOf board) now rest (Some o) is own).1 in
      let setup : (view_of o.seat).setup ≡ b = mine.board.1 ∙ first.setup in
      let caller : (view_of o.seat).caller ≡ 0 = ap (λ (v : View). v.caller) mine.goes.same ∙ crew.is_owner in
      let out : (view_of o.seat).out ≡ (view_of crew.owner.seat).out = ap (λ (v : View). v.out) mine.goes.same in
      let Calm : BoardEvent → Type 0 = IsCalm (view_of o.seat).out in
      let more : All Calm mine.goes.more =
      All-weaker (Came (view_of crew.owner.seat)) Calm
      (λ e came. owner_calm (view_of crew.owner.seat) (view_of o.seat).out e crew.is_owner out crew.owner_out
      came) mine.goes.more mine.goes.came in
      let count = crew.count in
      let long = AllZip-long HasWorked ws now worked in
      let listed = ap (length {A = Worker}) is in
      let snoc = length-append rest (o ∷ []) in
      let outs = ap (length {A = ℕ}) out in
      record {
        out = record {
          own = (of.seat, caller);
          others = others_after o.seat crew.others rest of.seat setup news.0 crew.split parts.0;
          count = omega (arith, count, long, listed, snoc, outs);
          owner_out = subst (λ (l : List ℕ). Contains l 0) (sym out) crew.owner_out;
          calm = subst (All Calm) (seen_more crew.owner o mine first.seen) more;
          ended = ended_some ended rest o (subst (HaveEnded ended) is ends);
        };
        setup = setup;
        bench = subst (λ (s : Setup). IsBenchOf s.market o.bench) setup of.parts.bench;
      }

  -- ---- the seats are split

  pub split_new : (owner s : SeatValue) (w : Worker) → IsSeatOf board owner → (view_of owner).setup ≡ b →
      (view_of owner).seen ≡ [] → IsSameBoard owner s → view_of s ≡ cut_right (view_of owner) → w.seat ≡ s →
      HasParts b.market w → IsNew b board w
  split_new owner s w at named none same cut is parts =
      let table = ap (λ (x : SeatValue). x.board) is in
      let view : view_of w.seat ≡ view_of s = ap view_of is in
      let setup : (view_of w.seat).setup ≡ b = ap (λ (v : View). v.setup) view ∙ (same.1 ∙ named) in
      record {
        own = record {
          seat = (
            table ∙ (same.0 ∙ at.0),
            ap (λ (x : Setup). x.callers) (ap (λ (v : View). v.setup) view ∙ same.1) ∙
                at.1,
          );
          parts = subst (λ (x : Setup). HasParts x.market w) (sym setup) parts;
        };
        setup = setup;
        seen = ap (λ (v : View). v.seen) (view ∙ cut) ∙ none;
      }

  hired_none : (owner : SeatValue) → IsSeatOf board owner → (view_of owner).setup ≡ b →
      view_of owner ≡ first_view (empty_board (view_of owner).setup) → IsHired b board owner 1 []
  hired_none owner at named first = record {
    own = (at, ap (λ (v : View). v.caller) first);
    setup = named;
    seen = ap (λ (v : View). v.seen) first;
    made = ap (λ (v : View). v.made) first;
    out = ap (λ (v : View). length v.out) first;
    owner_out = subst (λ (l : List ℕ). Contains l 0) (sym (ap (λ (v : View). v.out) first)) (Contains-push [] 0);
    count = omega arith;
    new = All-nil (IsNew b board);
    split = All-nil (λ (w : Worker). IsOwner w.seat → ⊥);
  }

  hired_more : (owner later s : SeatValue) (k : ℕ) (ws : List Worker) (w : Worker) → IsHired b board owner k ws →
      IsSameBoard owner later × IsOwner later → IsSameBoard owner s × (view_of s ≡ cut_right (view_of owner)) →
      view_of later ≡ cut_left (view_of owner)
      → w.seat ≡ s → HasParts b.market w → IsHired b board later (k + 1) (ws ++ w ∷ [])
  hired_more owner later s k ws w h same cut left is parts =
      let Apart : Worker → Type 0 = λ x. IsOwner x.seat → ⊥ in
      let outs = ap (λ (v : View). length v.out) left in
      let long = length-append (view_of owner).out ((view_of owner).made ∷ []) in
      let more = length-append ws (w ∷ []) in
      let old_out = h.out in
      let old_made = h.made in
      let old_count = h.count in
      let made = ap (λ (v : View). v.made) left in
      let caller : (view_of w.seat).caller ≡ k = ap (λ (x : SeatValue). (view_of x).caller) is ∙
      (ap (λ (v : View). v.caller) cut.1 ∙ h.made) in
      record {
        own = ((same.0.0 ∙ h.own.0.0, ap (λ (x : Setup). x.callers) same.0.1 ∙ h.own.0.1), same.1);
        setup = same.0.1 ∙ h.setup;
        seen = ap (λ (v : View). v.seen) left ∙ h.seen;
        made = omega (arith, made, old_made);
        out = omega (arith, outs, long, old_out);
        owner_out = subst (λ (l : List ℕ). Contains l 0) (sym (ap (λ (v : View). v.out) left))
            (Contains-append_left (view_of owner).out ((view_of owner).made ∷ []) 0 h.owner_out);
        count = omega (arith, more, old_count);
        new = All-push (IsNew b board) ws w h.new (split_new owner s w h.own.0 h.setup h.seen cut.0 cut.1 is parts);
        split = All-push Apart ws w h.split (λ owns. let none : k ≡ 0 = sym caller ∙ owns in
            absurd (omega (arith, none, old_count)));
      }

  hired_all : (owner : SeatValue) (k : ℕ) (ws : List Worker) (w : Worker) → b.callers ≡ k → IsHired b board owner k ws →
      w.seat ≡ owner → HasParts b.market w → IsCrew b board (ws ++ w ∷ [])
  hired_all owner k ws w each h is parts =
      let view : view_of w.seat ≡ view_of owner = ap view_of is in
      let setup : (view_of w.seat).setup ≡ b = ap (λ (v : View). v.setup) view ∙ h.setup in
      let out = ap (λ (v : View). length v.out) view in
      let old_out = h.out in
      let count = h.count in
      let more = length-append ws (w ∷ []) in
      let last : IsNew b board w = record {
        own = record {
          seat = subst (IsSeatOf board) (sym is) h.own.0;
          parts =
              subst (λ (x : Setup). HasParts x.market w) (sym setup) parts;
        };
        setup = setup;
        seen = ap (λ (v : View). v.seen) view ∙ h.seen;
      } in
      record {
        others = ws;
        owner = w;
        all = refl;
        callers = omega (arith, each, count, more);
        new = All-push (IsNew b board) ws w h.new last;
        is_owner = ap (λ (v : View). v.caller) view ∙ h.own.1;
        split = h.split;
        count = omega (arith, out, old_out, count, more);
        owner_out = subst (λ (l : List ℕ). Contains l 0) (sym (ap (λ (v : View). v.out) view)) h.owner_out;
      }

  -- the same over a list that is said to be that one
  pub hired_first : (owner : SeatValue) (vs : List Worker) → IsSeatOf board owner → (view_of owner).setup ≡ b →
      view_of owner ≡ first_view (empty_board (view_of owner).setup) → vs ≡ [] → IsHired b board owner 1 vs
  hired_first owner vs at named first is = subst (IsHired b board owner 1) (sym is) (hired_none owner at named first)

  pub hired_again : (owner later s : SeatValue) (k : ℕ) (ws vs : List Worker) (w : Worker) →
      IsHired b board owner k ws → IsSameBoard owner later × IsOwner later →
      IsSameBoard owner s × (view_of s ≡ cut_right (view_of owner)) → view_of later ≡ cut_left (view_of owner)
      → w.seat ≡ s → HasParts b.market w → vs ≡ ws ++ w ∷ [] → IsHired b board later (k + 1) vs
  hired_again owner later s k ws vs w h same cut left is parts all =
      subst (IsHired b board later (k + 1)) (sym all) (hired_more owner later s k ws w h same cut left is parts)

  pub crew_all : (owner : SeatValue) (k : ℕ) (ws vs : List Worker) (w : Worker) → b.callers ≡ k →
      IsHired b board owner k ws → w.seat ≡ owner → HasParts b.market w → vs ≡ ws ++ w ∷ [] → IsCrew b board vs
  crew_all owner k ws vs w each h is parts all =
      subst (IsCrew b board) (sym all) (hired_all owner k ws w each h is parts)

-- ---- a row of workers that was lent

front : (xs rest : List Worker) → take (length xs) (xs ++ rest) ≡ xs
front [] rest = refl
front (x ∷ xs) rest = ap (λ (l : List Worker). x ∷ l) (front xs rest)

-- what is written back where as many were lent
pub written : (n : ℕ) (xs ys zs : List Worker) → length xs ≡ n → take n (xs ++ drop (length xs) ys) ≡ zs → xs ≡ zs
written n xs ys zs long is =
    sym (subst (λ (m : ℕ). take m (xs ++ drop (length xs) ys) ≡ xs) long (front xs (drop (length xs) ys))) ∙ is

-- a crew names what its first worker does
pub crew_names : (b : Setup) (board : SharedBoard) (ws : List Worker) → IsCrew b board ws → named_by ws ≡ b
crew_names b board [] crew = let n = ap (length {A = Worker}) crew.all in
    let m = length-append crew.others (crew.owner ∷ []) in absurd (omega (arith, n, m))
crew_names b board (w ∷ ws) crew = (All-head (IsNew b board) w ws crew.new).setup
