-- The law of the search. For any list of pairs in rank order that holds exactly the alternatives, of the oldest job of each
-- distinct condition, whose tag holds: the first true one, and how many there are up to it, are what the search finds and
-- counts. For a younger job's pair has a twin, of the oldest, before it; and a true alternative's tag holds.
use Rattle.std.specs.Prelude.{◌≡◌, refl, Bool, true, not, ◌&&◌, List, [], ◌∷◌, ℕ, suc, ◌<◌, ltb, length, ℤ}
use Rattle.std.proofs.Common.{sym, ap, ◌∙◌, subst, inl, inr, ltb-true}
use Rattle.std.proofs.Math.Option.{Option, none, some}
use Rattle.rules.specs.Base.{those, first}
use Rattle.rules.specs.Condition.{Condition, alternative_true, identical}
use Rattle.rules.specs.Tag.{tag_holds}
use Rattle.rules.specs.Rank.{before, rank}
use Rattle.rules.specs.Search.{Waiter, Pair, pairs_of, pairs, follows, oldest, not_after, found, evaluated}
use Rattle.rules.specs.Laws.In.{In, by_bool, true-not-false, both, in-those, those-in, those-none, those-both, any_some, gather-in, in-gather, first-in, first-true, first-none}
use Rattle.rules.specs.Laws.Order.{before-asym, before-irrefl}
use Rattle.rules.proofs.Laws.Identical.{identical-true}
use Rattle.rules.proofs.Laws.Tagged.{older, true-tag}
use Rattle.rules.specs.Laws.Least.{Not, not-cast, not-self, least-none, least-least}
use Rattle.rules.specs.Laws.Waiting.{of}
use Rattle.rules.specs.Laws.Rearranged.{Rearranged, back, re-in, re-count, Once}
use Rattle.rules.specs.Demands.Calls.{is_true}
use Rattle.rules.proofs.Demands.Calls.{found-true}
use Rattle.rules.specs.Laws.InRankOrder.{InRankOrder, up_to}

-- ---- in a list in order
pub ordered-once : (l : List Pair) → InRankOrder l → Once l
ordered-once [] o = tt
ordered-once (p ∷ l) o = (λ h. true-not-false (o.0 p h) (before-irrefl p.rank), ordered-once l o.1)

first-least : (p : Pair → Bool) (l : List Pair) → InRankOrder l → (n q : Pair) → first p l ≡ some n → In q l → p q ≡ true → Not q n
first-least p [] o n q e h t = absurd h
first-least p (x ∷ l) o n q e (inl d) t = not-cast q (rw (sym (ap p d) ∙ t) at e) (not-self q x d)
first-least p (x ∷ l) o n q e (inr i) t = by_bool (p x) (λ u. not-cast q (rw u at e) (before-asym x.rank q.rank (o.0 q i))) (λ f. first-least p l o.1 n q (rw f at e) i t)

ordered_same : (l : List Pair) → InRankOrder l → (p q : Pair) → In p l → In q l → Not p q → Not q p → p ≡ q
ordered_same [] o p q i j h g = absurd i
ordered_same (x ∷ l) o p q (inl d) (inl e) h g = d ∙ sym e
ordered_same (x ∷ l) o p q (inl d) (inr j) h g = true-not-false (ap (λ (z : Pair). before z.rank q.rank) d ∙ o.0 q j) h
ordered_same (x ∷ l) o p q (inr i) (inl e) h g = true-not-false (ap (λ (z : Pair). before z.rank p.rank) e ∙ o.0 p i) g
ordered_same (x ∷ l) o p q (inr i) (inr j) h g = ordered_same l o.1 p q i j h g

hit : (x : Pair) (l : List Pair) → InRankOrder (x ∷ l) → length (those (not_after (some x)) (x ∷ l)) ≡ 1
hit x l s = rw (before-irrefl x.rank) (ap (λ (m : List Pair). suc (length m)) (those-none (not_after (some x)) l (λ q i. ap not (s.0 q i))))

miss : (p : Pair → Bool) (x : Pair) (l : List Pair) → InRankOrder (x ∷ l) → (o : Option Pair) → first p l ≡ o → not_after o x ≡ true
miss p x l s none e = refl
miss p x l s (some n) e = ap not (before-asym x.rank n.rank (s.0 n (first-in p l n e)))

up-count : (p : Pair → Bool) (l : List Pair) → InRankOrder l → (o : Option Pair) → first p l ≡ o → length (those (not_after o) l) ≡ up_to p l
up-count p [] s o e = refl
up-count p (x ∷ l) s o e = by_bool (p x)
    (λ t. let q : some x ≡ o = rw t at e in ap (λ (z : Option Pair). length (those (not_after z) (x ∷ l))) (sym q) ∙ hit x l s ∙ rw t)
    (λ f. let q : first p l ≡ o = rw f at e in rw (miss p x l s o q, f) (ap suc (up-count p l s.1 o q)))

-- ---- the job found is the oldest of its condition
twin : (w v : Waiter) (p : Pair) (i : ℕ) (c : Condition) → v.ticket < w.ticket → In p (pairs_of w i c) → (q : Pair) × In q (pairs_of v i c) × (q.alternative ≡ p.alternative) × (before q.rank p.rank ≡ true)
twin w v p i [] h m = absurd m
twin w v p i (a ∷ c) h (inl d) = (
  record { waiter = v; alternative = a; rank = rank a v.ticket i },
  inl refl,
  ap (λ (z : Pair). z.alternative) (sym d),
  ap (λ (z : Pair). before (rank a v.ticket i) z.rank) d ∙ older a v.ticket w.ticket i h,
)
twin w v p i (a ∷ c) h (inr m) = let r = twin w v p (suc i) c h m in (r.0, inr r.1, r.2, r.3)

module _ (now : List ℤ) (ws : List Waiter) where
  true-not-before : (p q : Pair) → found now ws ≡ some p → In q (pairs ws) → is_true now q ≡ true → Not q p
  true-not-before p q e i t = least-least (those (is_true now) (pairs ws)) p q e (those-in (is_true now) (pairs ws) i t)

  no-twin : (p : Pair) (w : Waiter) → found now ws ≡ some p → is_true now p ≡ true → In p (of w) → follows ws w ≡ true → ⊥
  no-twin p w e t m h =
      let a = any_some (λ (v : Waiter). identical v.condition w.condition && ltb v.ticket w.ticket) ws h in
      let v = a.0 in
      let b = both (identical v.condition w.condition) (ltb v.ticket w.ticket) a.2 in
      let r = twin w v p 0 w.condition (ltb-true v.ticket w.ticket b.1) m in
      let i : In r.0 (of v) = subst (λ d. In r.0 (pairs_of v 0 d)) (sym (identical-true v.condition w.condition b.0)) r.1 in
      true-not-false r.3 (true-not-before p r.0 e (gather-in of v r.0 ws a.1 i) (ap (alternative_true now) r.2 ∙ t))

  leads : (p : Pair) → found now ws ≡ some p → In p (pairs (oldest ws))
  leads p e =
      let f = found-true now ws p e in
      let g = in-gather of p ws f.0 in
      let w = g.0 in
      gather-in of w p (oldest ws) (those-in (λ v. not (follows ws v)) ws g.1 (by_bool (follows ws w) (λ t. absurd (no-twin p w e f.1 g.2 t)) (λ u. ap not u))) g.2

  among : (p : Pair) → In p (pairs (oldest ws)) → In p (pairs ws)
  among p i = let g = in-gather of p (oldest ws) i in gather-in of g.0 p ws (in-those (λ v. not (follows ws v)) ws g.1).0 g.2

  module _ (ns : List Pair) (ordered : InRankOrder ns) (holding : Rearranged (those (λ p. tag_holds now p.alternative) (pairs (oldest ws))) ns) where
    listed : (p : Pair) → In p (pairs (oldest ws)) → is_true now p ≡ true → In p ns
    listed p i t = re-in p holding (those-in (λ q. tag_holds now q.alternative) (pairs (oldest ws)) i (true-tag now p.alternative t))

    unlisted : (p : Pair) → In p ns → In p (pairs ws)
    unlisted p i = among p (in-those (λ q. tag_holds now q.alternative) (pairs (oldest ws)) (re-in p (back holding) i)).0

    pub law-found : first (is_true now) ns ≡ found now ws
    law-found = go (first (is_true now) ns) (found now ws) refl refl
      where
        go : (a b : Option Pair) → first (is_true now) ns ≡ a → found now ws ≡ b → a ≡ b
        go none none d e = refl
        go (some n) none d e = absurd (least-none (those (is_true now) (pairs ws)) n (those-in (is_true now) (pairs ws) (unlisted n (first-in (is_true now) ns n d)) (first-true (is_true now) ns n d)) e)
        go none (some p) d e = let t = (found-true now ws p e).1 in absurd (first-none (is_true now) ns p d (listed p (leads p e) t) t)
        go (some n) (some p) d e =
            let t = (found-true now ws p e).1 in
            let i = first-in (is_true now) ns n d in
            let j = listed p (leads p e) t in
            ap some (ordered_same ns ordered n p i j (true-not-before p n e (unlisted n i) (first-true (is_true now) ns n d)) (first-least (is_true now) ns ordered n p d j t))

    pub law-count : up_to (is_true now) ns ≡ evaluated now ws
    law-count = sym (ap length (those-both (λ p. tag_holds now p.alternative) (not_after (found now ws)) (pairs (oldest ws)))
        ∙ re-count (not_after (found now ws)) holding ∙ up-count (is_true now) ns ordered (found now ws) law-found)
