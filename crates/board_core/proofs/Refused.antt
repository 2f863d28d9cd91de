-- Why a post is refused, and what holds where it isn't.
use Rattle.board_core.proofs.Common.{◌≡◌, ℕ, ◌+◌, ◌-◌, ◌<◌, ◌≤◌, ◌⊎◌, inl, inr, subst, Bool, true, false, cond, ◌||◌}
use Rattle.board_core.proofs.Common.{◌==◌, Option, Some, None, List, get_or, refl, sym, ap, ◌∙◌, arith, nat_tests}
use Rattle.board_core.proofs.Common.{option_map_or, nat_lt, nat_le, slice_get, slice_index, Setup, Answer, no_answer}
use Rattle.board_core.proofs.Common.{rules_of, differs_from, post_answer, Rules, Event, posts, holders, opened}
use Rattle.board_core.proofs.Common.{prices_at, is_closed, with_post, PostReply, OtherProposal, OtherUnit, OtherContent}
use Rattle.board_core.proofs.Common.{Doubled, OtherHolder, TakenPost, is_holder, with_answer, Difference, AnyUnit}
use Rattle.board_core.proofs.Common.{PriceLists, unit_count, Proposal, task_number, LedgerValue, blank, Lists, mark}
use Rattle.board_core.proofs.Common.{IsBoard, differs_of, own_prices_in, held_refusal, refusal_of, posted_of}
use Rattle.board_core.specs.declared.replies.Differs.{Differs}
use Rattle.board_core.specs.declared.replies.Differs.TheVariants as differs
use Rattle.board_core.specs.declared.replies.Posted.{Posted}
use Rattle.board_core.specs.declared.replies.Posted.TheVariants as posted
use Rattle.board_core.proofs.Advances.{choose_true, choose_false, bool_cases}
use Rattle.board_core.proofs.Claims.{price_is}
use Rattle.board_core.proofs.Entries.{content}
use Rattle.board_core.proofs.Fronts.{opened_is}

-- the answer to a post that is refused
abbrev pub refused_as : PostReply Difference → Option Posted
refused_as (OtherProposal n o) = Some (posted.Stranger (differs.Proposal n o))
refused_as (OtherUnit u m) = Some (posted.Stranger (differs.Unit u m))
refused_as (OtherContent d) = Some (posted.Stranger (differs.Content d.place d.board d.task))
refused_as (Doubled k) = Some (posted.Doubled k)
refused_as (OtherHolder c holder) = Some (posted.Stranger (differs.Holder c holder))
refused_as (TakenPost closed) = None

pub refused_says : (r : PostReply Difference) (p : Posted) → refused_as r ≡ Some p →
    (posted_of r ≡ p) × ((h : List (Event Answer)) (e : Event Answer) → with_answer h e r ≡ h)
refused_says (OtherProposal n o) p e = ((cc), λ h x. refl)
refused_says (OtherUnit u m) p e = ((cc), λ h x. refl)
refused_says (OtherContent d) p e = ((cc), λ h x. refl)
refused_says (Doubled k) p e = ((cc), λ h x. refl)
refused_says (OtherHolder c holder) p e = ((cc), λ h x. refl)
refused_says (TakenPost closed) p e = (cc)

pub taken_says : (r : PostReply Difference) → refused_as r ≡ None → (closed : Option ℕ) × (r ≡ TakenPost closed)
taken_says (OtherProposal n o) e = (cc)
taken_says (OtherUnit u m) e = (cc)
taken_says (OtherContent d) e = (cc)
taken_says (Doubled k) e = (cc)
taken_says (OtherHolder c holder) e = (cc)
taken_says (TakenPost closed) e = (closed, refl)

within_of : (n o : ℕ) → ((n == 0) || nat_lt o n) ≡ false → (0 < n) × (n ≤ o)
within_of n o h = grind (arith, nat_tests)

unit_in : (m u : ℕ) → nat_le m u ≡ false → u < m
unit_in m u h = grind (arith, nat_tests)

-- past the first two tests
last_tests : (d : Option Difference) (t : Bool) (taker : ℕ) (kept : Answer) (holder : Option ℕ) (z : Option ℕ) (k : ℕ) →
    refused_as (option_map_or OtherContent d
    (option_map_or (λ (y : ℕ × Answer). Doubled y.0) (cond t (Some (taker, kept)) None)
    (cond (is_holder holder k) (TakenPost z) (OtherHolder k holder))))
    ≡ option_map_or (λ (y : Difference). Some (posted.Stranger (differs.Content y.place y.board y.task))) d
    (cond t (Some (posted.Doubled taker))
    (cond (is_holder holder k) None (Some (posted.Stranger (differs.Holder k holder)))))
last_tests (Some y) t taker kept holder z k = refl
last_tests None true taker kept holder z k = refl
last_tests None false taker kept holder z k = choose (is_holder holder k)
  where
    choose : (t : Bool) → refused_as (cond t (TakenPost z) (OtherHolder k holder)) ≡ cond {A = Option Posted} t None
        (Some (posted.Stranger (differs.Holder k holder)))
    choose true = refl
    choose false = refl

-- ---- the tests one after another

pub differing : (o : Option Difference) (d : Differs) (rest : Option Posted) → differs_of o ≡ Some d →
    Some (posted.Stranger d) ≡ option_map_or
    (λ (y : Difference). Some (posted.Stranger (differs.Content y.place y.board y.task))) o rest
differing None d rest e = (cc)
differing (Some y) d rest e = let s : differs.Content y.place y.board y.task ≡ d = (cc) in
    ap (λ (z : Differs). Some (posted.Stranger z)) (sym s)

pub not_differing : (o : Option Difference) (rest : Option Posted) → differs_of o ≡ None →
    option_map_or (λ (y : Difference). Some (posted.Stranger (differs.Content y.place y.board y.task))) o rest ≡ rest
not_differing None rest e = refl
not_differing (Some y) rest e = (cc)

-- the proposal isn't open
pub unopened : (b : Setup) (l : LedgerValue) (marks : List Bool) (takers : List ℕ) (k n u : ℕ) (ρ : PriceLists)
    (v : AnyUnit) (o : ℕ) → o ≡ l.opened → (n ≡ 0) ⊎ (o < n) →
    Some (posted.Stranger (differs.Proposal n o)) ≡ refusal_of b l marks takers k n u ρ v
unopened b l marks takers k n u ρ v o e early =
    let third = option_map_or (λ (y : Difference). Some (posted.Stranger (differs.Content y.place y.board y.task)))
    (differs_from b u ρ v (own_prices_in l n))
    (held_refusal marks takers (task_number (unit_count b.market) n u) k) in
    let second = cond (nat_le (unit_count b.market) u) (Some (posted.Stranger (differs.Unit u (unit_count b.market))))
    third in
    ap (λ (x : ℕ). Some (posted.Stranger (differs.Proposal n x))) e
    ∙ sym (choose_true ((n == 0) || nat_lt l.opened n) (Some (posted.Stranger (differs.Proposal n l.opened))) second
    (shut n l.opened (subst (λ (x : ℕ). (n ≡ 0) ⊎ (x < n)) e early)))
  where
    shut : (n o : ℕ) → (n ≡ 0) ⊎ (o < n) → ((n == 0) || nat_lt o n) ≡ true
    shut n o (inl h) = grind (arith, nat_tests)
    shut n o (inr h) = grind (arith, nat_tests)

-- there is no unit of that number
pub no_unit : (b : Setup) (l : LedgerValue) (marks : List Bool) (takers : List ℕ) (k n u : ℕ) (ρ : PriceLists)
    (v : AnyUnit) (m : ℕ) → 0 < n → n ≤ l.opened → m ≡ unit_count b.market → m ≤ u →
    Some (posted.Stranger (differs.Unit u m)) ≡ refusal_of b l marks takers k n u ρ v
no_unit b l marks takers k n u ρ v m one within e outside =
    let third = option_map_or (λ (y : Difference). Some (posted.Stranger (differs.Content y.place y.board y.task)))
    (differs_from b u ρ v (own_prices_in l n))
    (held_refusal marks takers (task_number (unit_count b.market) n u) k) in
    let second = cond (nat_le (unit_count b.market) u) (Some (posted.Stranger (differs.Unit u (unit_count b.market))))
    third in
    ap (λ (x : ℕ). Some (posted.Stranger (differs.Unit u x))) e
    ∙ sym (choose_false ((n == 0) || nat_lt l.opened n) (Some (posted.Stranger (differs.Proposal n l.opened))) second
    (is_open n l.opened one within)
    ∙ choose_true (nat_le (unit_count b.market) u) (Some (posted.Stranger (differs.Unit u (unit_count b.market)))) third
    (is_past (unit_count b.market) u (subst (λ (x : ℕ). x ≤ u) e outside)))
  where
    is_open : (n o : ℕ) → 0 < n → n ≤ o → ((n == 0) || nat_lt o n) ≡ false
    is_open n o h i = grind (arith, nat_tests)

    is_past : (m u : ℕ) → m ≤ u → nat_le m u ≡ true
    is_past m u h = grind (arith, nat_tests)

pub past_tests : (b : Setup) (l : LedgerValue) (marks : List Bool) (takers : List ℕ) (k n u : ℕ) (ρ : PriceLists)
    (v : AnyUnit) → 0 < n → n ≤ l.opened → u < unit_count b.market →
    refusal_of b l marks takers k n u ρ v
    ≡ option_map_or (λ (y : Difference). Some (posted.Stranger (differs.Content y.place y.board y.task)))
    (differs_from b u ρ v (own_prices_in l n)) (held_refusal marks takers (task_number (unit_count b.market) n u) k)
past_tests b l marks takers k n u ρ v one within inside =
    let third = option_map_or (λ (y : Difference). Some (posted.Stranger (differs.Content y.place y.board y.task)))
    (differs_from b u ρ v (own_prices_in l n))
    (held_refusal marks takers (task_number (unit_count b.market) n u) k) in
    let second = cond (nat_le (unit_count b.market) u) (Some (posted.Stranger (differs.Unit u (unit_count b.market))))
    third in
    choose_false ((n == 0) || nat_lt l.opened n) (Some (posted.Stranger (differs.Proposal n l.opened))) second
    (open_ n l.opened one within)
    ∙ choose_false (nat_le (unit_count b.market) u) (Some (posted.Stranger (differs.Unit u (unit_count b.market))))
    third (in_ (unit_count b.market) u inside)
  where
    open_ : (n o : ℕ) → 0 < n → n ≤ o → ((n == 0) || nat_lt o n) ≡ false
    open_ n o h i = grind (arith, nat_tests)

    in_ : (m u : ℕ) → u < m → nat_le m u ≡ false
    in_ m u h = grind (arith, nat_tests)

module _ (b : Setup) (h : List (Event Answer)) (x : Lists) (l : LedgerValue) (I : IsBoard b h x l) (k n u : ℕ)
    (ρ : PriceLists) (v : AnyUnit) (a : Answer) where
  abbrev g : Rules PriceLists Proposal Answer
  g = rules_of b

  abbrev m : ℕ
  m = unit_count b.market

  abbrev i : ℕ
  i = task_number m n u

  abbrev closed : Option ℕ
  closed = cond (is_closed g (with_post (posts h) k n u a) n) (Some n) None

  abbrev ends : (differs : Option Difference) (post : Option (ℕ × Answer)) (holder : Option ℕ) → PostReply Difference
  ends d post holder = option_map_or OtherContent d
      (option_map_or (λ (y : ℕ × Answer). Doubled y.0) post
      (cond (is_holder holder k) (TakenPost closed) (OtherHolder k holder)))

  abbrev own : Option Difference
  own = differs_from b u ρ v (prices_at g (posts h) n)

  abbrev third : Option Posted
  third = option_map_or (λ (y : Difference). Some (posted.Stranger (differs.Content y.place y.board y.task)))
      (differs_from b u ρ v (own_prices_in l n)) (held_refusal x.marks x.takers i k)

  abbrev second : Option Posted
  second = cond (nat_le m u) (Some (posted.Stranger (differs.Unit u m))) third

  open_is : l.opened ≡ opened g (posts h)
  open_is = opened_is b l I.ledger (posts h) I.rounds

  third_is : 0 < n → n ≤ l.opened → u < m → refused_as (ends own (posts h n u) (holders h n u)) ≡ third
  third_is one within inside =
      let e = I.ledger.opened in
      let k_ = n - 1 in
      let low : n ≤ b.budget = omega (arith, within, e) in
      let j : k_ + 1 ≡ n = omega (arith, one) in
      let π : prices_at g (posts h) n ≡ own_prices_in l n =
      ap (prices_at g (posts h)) (sym j) ∙ sym (price_is b h x l I k_ (blank 0) (omega (arith, one, within))) in
      ap (λ (o : Option (ℕ × Answer)). refused_as (ends own o (holders h n u))) (I.marks_are.each n u one low inside)
      ∙ ap (λ (o : Option ℕ). refused_as (ends own (mark x.marks x.takers x.kept i) o))
      (I.takers_are.each n u one low inside)
      ∙ last_tests own (get_or x.marks i false) (slice_index x.takers i) (get_or x.kept i no_answer)
      (slice_get x.takers i) closed k
      ∙ ap (λ (ρ2 : PriceLists). option_map_or
      (λ (y : Difference). Some (posted.Stranger (differs.Content y.place y.board y.task)))
      (differs_from b u ρ v ρ2) (held_refusal x.marks x.takers i k)) π

  -- the refusal that the lists give is that of the machine
  pub refusal_is : refused_as (post_answer (content b h) k n u ρ v a) ≡ refusal_of b l x.marks x.takers k n u ρ v
  refusal_is =
      let whole : ℕ → PostReply Difference = λ o. cond ((n == 0) || nat_lt o n) (OtherProposal n o)
      (cond (nat_le m u) (OtherUnit u m) (ends own (posts h n u) (holders h n u))) in
      ap (λ (o : ℕ). refused_as (whole o)) (sym open_is)
      ∙ bool_cases ((n == 0) || nat_lt l.opened n)
      (λ t.
      ap refused_as (choose_true ((n == 0) || nat_lt l.opened n) (OtherProposal n l.opened)
      (cond (nat_le m u) (OtherUnit u m) (ends own (posts h n u) (holders h n u))) t)
      ∙ sym (choose_true ((n == 0) || nat_lt l.opened n) (Some (posted.Stranger (differs.Proposal n l.opened))) second
      t))
      (λ t.
      let w = within_of n l.opened t in
      ap refused_as (choose_false ((n == 0) || nat_lt l.opened n) (OtherProposal n l.opened)
      (cond (nat_le m u) (OtherUnit u m) (ends own (posts h n u) (holders h n u))) t)
      ∙ bool_cases (nat_le m u)
      (λ s.
      ap refused_as (choose_true (nat_le m u) (OtherUnit u m) (ends own (posts h n u) (holders h n u)) s)
      ∙ sym (choose_true (nat_le m u) (Some (posted.Stranger (differs.Unit u m))) third s))
      (λ s.
      ap refused_as (choose_false (nat_le m u) (OtherUnit u m) (ends own (posts h n u) (holders h n u)) s)
      ∙ third_is w.0 w.1 (unit_in m u s)
      ∙ sym (choose_false (nat_le m u) (Some (posted.Stranger (differs.Unit u m))) third s))
      ∙ sym (choose_false ((n == 0) || nat_lt l.opened n) (Some (posted.Stranger (differs.Proposal n l.opened))) second
      t))
