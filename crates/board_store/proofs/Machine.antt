-- What the answer of a post that is taken tells.
use Rattle.board_store.proofs.Common.{◌≡◌, ℕ, ◌<◌, ◌≤◌, Bool, true, false, cond, ◌||◌, ◌==◌, Option, Some, None, List}
use Rattle.board_store.proofs.Common.{refl, ap, ◌∙◌, arith, false≢true, nat_tests, option_map_or, nat_le, nat_lt}
use Rattle.board_store.proofs.Common.{Rules, Event, holders, posts, with_post, is_closed, prices_at, opened}
use Rattle.board_store.proofs.Common.{PostReply, OtherProposal, OtherUnit, OtherContent, Doubled, OtherHolder}
use Rattle.board_store.proofs.Common.{TakenPost, is_holder, post_from, post_reply}

-- ---- posts

pub not_past : (n o : ℕ) → 0 < n → n ≤ o → ((n == 0) || nat_lt o n) ≡ false
not_past n o h i = grind (arith, nat_tests)

within_of : (n o : ℕ) → ((n == 0) || nat_lt o n) ≡ false → (0 < n) × (n ≤ o)
within_of n o h = grind (arith, nat_tests)

pub not_past_unit : (m u : ℕ) → u < m → nat_le m u ≡ false
not_past_unit m u h = grind (arith, nat_tests)

within_units : (m u : ℕ) → nat_le m u ≡ false → u < m
within_units m u h = grind (arith, nat_tests)

pub same_number : (d c : ℕ) → (d == c) ≡ true → d ≡ c
same_number d c h = grind (arith, nat_tests)

number_same : (c : ℕ) → (c == c) ≡ true
number_same c = grind (arith, nat_tests)

pub holder_of : (o : Option ℕ) (c : ℕ) → is_holder o c ≡ true → o ≡ Some c
holder_of None c h = absurd (false≢true h)
holder_of (Some d) c h = ap (λ (x : ℕ). Some x) (same_number d c h)

pub is_holder_of : (o : Option ℕ) (c : ℕ) → o ≡ Some c → is_holder o c ≡ true
is_holder_of o c h = ap (λ (x : Option ℕ). is_holder x c) h ∙ number_same c

abbrev pub closed_of : Bool → ℕ → Option ℕ
closed_of closes n = cond closes (Some n) None

-- what a post that is taken tells
pub record IsTakeable {D A : Type 0} (opened units : ℕ) (differs : Option D) (post : Option (ℕ × A)) (holder : Option ℕ)
    (c n u : ℕ) : Type 0 where
  pub from_one : 0 < n
  pub open_ : n ≤ opened
  pub unit : u < units
  pub same : differs ≡ None
  pub first : post ≡ None
  pub held_by : holder ≡ Some c

module _ {D A : Type 0} (o m : ℕ) (differs : Option D) (post : Option (ℕ × A)) (holder : Option ℕ) (closes : Bool)
    (c n u : ℕ) where
  abbrev pub last : Bool → PostReply D
  last t = cond t (TakenPost (closed_of closes n)) (OtherHolder c holder)

  abbrev pub doubled : Option (ℕ × A) → PostReply D
  doubled x = option_map_or (λ (y : ℕ × A). Doubled y.0) x (last (is_holder holder c))

  abbrev pub content : Option D → PostReply D
  content d = option_map_or (λ (x : D). OtherContent x) d (doubled post)

  pub take : IsTakeable o m differs post holder c n u →
      post_from o m differs post holder closes c n u ≡ TakenPost (closed_of closes n)
  take t =
      ap (λ (b : Bool). cond b (OtherProposal n o) (cond (nat_le m u) (OtherUnit u m) (content differs)))
      (not_past n o t.from_one t.open_)
      ∙ ap (λ (b : Bool). cond b (OtherUnit u m) (content differs)) (not_past_unit m u t.unit)
      ∙ ap content t.same
      ∙ ap doubled t.first
      ∙ ap last (is_holder_of holder c t.held_by)

  pub taken_says : (closed : Option ℕ) → post_from o m differs post holder closes c n u ≡ TakenPost closed →
      IsTakeable o m differs post holder c n u
  taken_says closed h = choose ((n == 0) || nat_lt o n) (nat_le m u) differs post (is_holder holder c) refl refl refl
      refl refl h
    where
      choose : (b1 b2 : Bool) (d : Option D) (x : Option (ℕ × A)) (b3 : Bool) → ((n == 0) || nat_lt o n) ≡ b1 →
          nat_le m u ≡ b2 → differs ≡ d → post ≡ x → is_holder holder c ≡ b3 →
          cond b1 (OtherProposal n o)
          (cond b2 (OtherUnit u m) (option_map_or (λ (y : D). OtherContent y) d
          (option_map_or (λ (y : ℕ × A). Doubled y.0) x (last b3)))) ≡ TakenPost closed →
          IsTakeable o m differs post holder c n u
      choose true b2 d x b3 i1 i2 i3 i4 i5 e = (cc)
      choose false true d x b3 i1 i2 i3 i4 i5 e = (cc)
      choose false false (Some y) x b3 i1 i2 i3 i4 i5 e = (cc)
      choose false false None (Some y) b3 i1 i2 i3 i4 i5 e = (cc)
      choose false false None None false i1 i2 i3 i4 i5 e = (cc)
      choose false false None None true i1 i2 i3 i4 i5 e =
          let w = within_of n o i1 in
          record {
            from_one = w.0;
            open_ = w.1;
            unit = within_units m u i2;
            same = i3;
            first = i4;
            held_by =
                holder_of holder c i5;
          }

module _ {P R A : Type 0} (g : Rules P R A) (fits : ℕ → P → A → Type 0) (h : List (Event A)) where
  module _ {D : Type 0} (differs : P → Option D) (c n u : ℕ) (a : A) where
    abbrev closes : Bool
    closes = is_closed g (with_post (posts h) c n u a) n

    abbrev pub IsTaken : Type 0
    IsTaken = IsTakeable (opened g (posts h)) g.units (differs (prices_at g (posts h) n)) (posts h n u) (holders h n u)
        c n u

    pub reply_taken : IsTaken → post_reply g h differs c n u a ≡ TakenPost (closed_of closes n)
    reply_taken t = take (opened g (posts h)) g.units (differs (prices_at g (posts h) n)) (posts h n u) (holders h n u)
        closes c n u t

    pub reply_says : (closed : Option ℕ) → post_reply g h differs c n u a ≡ TakenPost closed → IsTaken
    reply_says closed e = taken_says (opened g (posts h)) g.units (differs (prices_at g (posts h) n)) (posts h n u)
        (holders h n u) closes c n u closed e
