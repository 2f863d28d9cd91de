-- The words of a generator that has moved on are those behind the ones that it gave.
use Rattle.case_make.proofs.Common.{◌≡◌, ℕ, zero, suc, ◌+◌, ◌-◌, ◌%◌, ◌<◌, ◌≤◌, refl, ap, sym, ◌∙◌, arith, zero-add}
use Rattle.case_make.proofs.Common.{mod_below, Lcg, next_state, state_after, IsDrawn, moved_on, word_at, draw}
use Rattle.rand_pcg.specs.Pcg.{multiplier_64, pcg32}

states_join : (w m increment a b s : ℕ) →
    state_after w m increment b (state_after w m increment a s) ≡ state_after w m increment (a + b) s
unfolding state_after
states_join w m increment zero b s = ap (λ (n : ℕ). state_after w m increment n s) (sym (zero-add b))
states_join w m increment (suc a) b s =
    let e : suc a + b ≡ suc (a + b) = omega arith in
    states_join w m increment a b (next_state w m increment s) ∙ sym (ap (λ (n : ℕ). state_after w m increment n s) e)

pub moved_twice : (a b : ℕ) (g : Lcg) → moved_on b (moved_on a g) ≡ moved_on (a + b) g
unfolding moved_on
moved_twice a b g = ap (λ (s : ℕ). let h : Lcg = record { state = s; increment = g.increment } in h)
    (states_join 64 multiplier_64 g.increment a b g.state)

pub word_later : (a b : ℕ) (g : Lcg) → word_at (moved_on a g) b ≡ word_at g (a + b)
unfolding word_at
word_later a b g = ap (λ (h : Lcg). (pcg32 h).0) (moved_twice a b g)

-- a call gives the first word, and moves the generator on by one
pub first_word : (g : Lcg) → (pcg32 g).0 ≡ word_at g 0
unfolding word_at moved_on state_after
first_word g = refl

pub one_step : (g : Lcg) → (pcg32 g).1 ≡ moved_on 1 g
unfolding moved_on state_after
one_step g = refl

-- no word yet
pub not_moved : (g : Lcg) → moved_on 0 g ≡ g
unfolding moved_on state_after
not_moved g = refl

-- after a words, and one more
pub word_after : (a : ℕ) (g h : Lcg) → h ≡ moved_on a g → word_at h 0 ≡ word_at g (a + 0)
word_after a g h e = ap (λ (x : Lcg). word_at x 0) e ∙ word_later a 0 g

pub one_more : (a : ℕ) (g h i : Lcg) → h ≡ moved_on a g → i ≡ moved_on 1 h → i ≡ moved_on (a + 1) g
one_more a g h i e f = f ∙ ap (moved_on 1) e ∙ moved_twice a 1 g

pub drawn_within : (low high word : ℕ) → low ≤ high → IsDrawn low high (draw low high word)
unfolding draw
drawn_within low high word h =
    let below : word % (high - low + 1) < high - low + 1 = mod_below word (high - low + 1) (omega arith) in
    record { at_least = omega arith; at_most = omega (arith, h, below) }

-- after a words, and b more
pub then_moved : (a b n : ℕ) (g h i : Lcg) → h ≡ moved_on a g → i ≡ moved_on b h → n ≡ a + b → i ≡ moved_on n g
then_moved a b n g h i e f is = f ∙ ap (moved_on b) e ∙ moved_twice a b g ∙ sym (ap (λ (m : ℕ). moved_on m g) is)
