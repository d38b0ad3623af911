-- The order of ranks is strict and total on the pairs of one room: ranks are compared number by number, their last two numbers
-- are the ticket and the alternative's place, and no two jobs hold one ticket.
use Rattle.std.specs.Prelude.{◌≡◌, refl, ◌⊎◌, true, false, List, [], ◌∷◌, ◌++◌, ℕ, suc, ◌≤◌, ℤ, pos}
use Rattle.std.proofs.Common.{sym, ap, ◌∙◌, inl, inr, arith}
use Rattle.std.proofs.Math.Option.{some}
use Rattle.rules.specs.Condition.{Atom, Condition}
use Rattle.rules.specs.Tag.{tag}
use Rattle.rules.specs.Rank.{before, place, rank}
use Rattle.rules.specs.Room.{Room, waiting, standing}
use Rattle.rules.specs.Search.{Waiter, Pair, pairs_of, pairs}
use Rattle.rules.specs.Laws.In.{In, by_bool, in-gather}
use Rattle.rules.specs.Laws.Order.{before-irrefl, before-trans, before-total}
use Rattle.rules.specs.Laws.Waiting.{of, waiters_of, waits_there}
use Rattle.rules.specs.Demands.Tickets.{TicketsApart, ticket_of}

-- ---- the last two numbers of a list
last-two : ℤ → ℤ → List ℤ → ℤ × ℤ
last-two x y [] = (x, y)
last-two x y (z ∷ l) = last-two y z l

last-two-are : (p : List ℤ) (x y u v : ℤ) → last-two x y (p ++ (u ∷ v ∷ [])) ≡ (u, v)
unfolding last-two
last-two-are [] x y u v = refl
last-two-are (z ∷ p) x y u v = last-two-are p y z u v

same-pos : {a b : ℕ} → pos a ≡ pos b → a ≡ b
same-pos e = cc

pub rank_same : (a b : List Atom) (t u i k : ℕ) → rank a t i ≡ rank b u k → (t ≡ u) × (i ≡ k)
rank_same a b t u i k e =
    let q : ◌≡◌ {A = ℤ × ℤ} (pos t, pos i) (pos u, pos k) =
    sym (last-two-are (place (tag a)) (pos 0) (pos 0) (pos t) (pos i)) ∙ ap (last-two (pos 0) (pos 0)) e ∙ last-two-are (place (tag b)) (pos 0) (pos 0) (pos u) (pos k) in
    (same-pos (ap (λ z. z.0) q), same-pos (ap (λ z. z.1) q))

-- ---- the pairs of one job
ranked : (w : Waiter) (p : Pair) (k : ℕ) (c : Condition) → In p (pairs_of w k c) → (i : ℕ) × (k ≤ i) × (p.rank ≡ rank p.alternative w.ticket i)
ranked w p k [] h = absurd h
ranked w p k (a ∷ c) (inl e) = (k, omega arith, λ i. at_head i)
  where
    at_head : p.rank ≡ rank p.alternative w.ticket k
    at_head = ap (λ (q : Pair). q.rank) e ∙ ap (λ b. rank b w.ticket k) (sym (ap (λ (q : Pair). q.alternative) e))
ranked w p k (a ∷ c) (inr h) = let r = ranked w p (suc k) c h in (r.0, omega (arith, r.1), r.2)

later : (w : Waiter) (p : Pair) (a : List Atom) (k : ℕ) (c : Condition) → In p (pairs_of w (suc k) c) → p.rank ≡ rank a w.ticket k → ⊥
later w p a k c h e =
    let r = ranked w p (suc k) c h in
    omega (arith, r.1, (rank_same p.alternative a w.ticket w.ticket r.0 k (sym r.2 ∙ e)).1)

one-job : (w : Waiter) (p q : Pair) (k : ℕ) (c : Condition) → In p (pairs_of w k c) → In q (pairs_of w k c) → p.rank ≡ q.rank → p ≡ q
one-job w p q k [] h i e = absurd h
one-job w p q k (a ∷ c) (inl d) (inl f) e = d ∙ sym f
one-job w p q k (a ∷ c) (inl d) (inr i) e = absurd (later w q a k c i (sym e ∙ ap (λ (z : Pair). z.rank) d))
one-job w p q k (a ∷ c) (inr h) (inl f) e = absurd (later w p a k c h (e ∙ ap (λ (z : Pair). z.rank) f))
one-job w p q k (a ∷ c) (inr h) (inr i) e = one-job w p q (suc k) c h i e

-- ---- the jobs of one room
waiting-same : {c d : Condition} {t u : ℕ} → waiting c t ≡ waiting d u → c ≡ d
waiting-same e = cc

module _ (r : Room) (apart : TicketsApart r) where
  pub one-ticket : (v w : Waiter) → In v (waiters_of r) → In w (waiters_of r) → v.ticket ≡ w.ticket → v ≡ w
  one-ticket v w h i e =
      let a = waits_there r v h in
      let b = waits_there r w i in
      let j : v.job ≡ w.job = apart.apart v.job w.job v.ticket (ap ticket_of a) (ap ticket_of b ∙ ap some (sym e)) in
      let c : v.condition ≡ w.condition = waiting-same (sym a ∙ ap (standing r) j ∙ b) in
      λ k. record { job = j k; condition = c k; ticket = e k }

  same_rank : (p q : Pair) → In p (pairs (waiters_of r)) → In q (pairs (waiters_of r)) → p.rank ≡ q.rank → p ≡ q
  same_rank p q h i e =
      let a = in-gather of p (waiters_of r) h in
      let b = in-gather of q (waiters_of r) i in
      let x = ranked a.0 p 0 a.0.condition a.2 in
      let y = ranked b.0 q 0 b.0.condition b.2 in
      let t = (rank_same p.alternative q.alternative a.0.ticket b.0.ticket x.0 y.0 (sym x.2 ∙ e ∙ y.2)).0 in
      let w = one-ticket a.0 b.0 a.1 b.1 t in
      one-job a.0 p q 0 a.0.condition a.2 (rw (sym w) at b.2) e

  pub ranks-total : (p q : Pair) → In p (pairs (waiters_of r)) → In q (pairs (waiters_of r)) → (before p.rank q.rank ≡ true) ⊎ (before q.rank p.rank ≡ true) ⊎ (p ≡ q)
  ranks-total p q h i = by_bool (before p.rank q.rank) (λ t. inl t) (λ f. by_bool (before q.rank p.rank) (λ t. inr (inl t))
      (λ g. inr (inr (same_rank p q h i (before-total p.rank q.rank f g)))))

pub ranks-strict : (p : Pair) → before p.rank p.rank ≡ false
ranks-strict p = before-irrefl p.rank

pub ranks-transitive : (p q s : Pair) → before p.rank q.rank ≡ true → before q.rank s.rank ≡ true → before p.rank s.rank ≡ true
ranks-transitive p q s = before-trans p.rank q.rank s.rank
