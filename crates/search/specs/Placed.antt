-- Where a lead's node ranks, by its home: equality tags below the thresholds, each heap in a band of its own, those without a tag above them.
use Rattle.std.specs.Prelude.{Some, None, ◌≡◌, true, ℕ, ◌+◌, ◌*◌, ◌^◌, ◌<◌, ◌≤◌}
use Rattle.std.specs.Prelude as contracts
use Rattle.std.proofs.Common.{sym, ◌∙◌, arith}
use Rattle.std.proofs.Math.Option.{Option, none, some}
use Rattle.rules.specs.Condition.{Atom}
use Rattle.rules.specs.Tag.{is_equality}
use Rattle.rules.specs.Rank.{is_upward}
use Rattle.rules.specs.Laws.In.{by_bool}
use Rattle.condition.specs.Tags.{tag_at, tag_means}
use Rattle.ranks.specs.Words.{high_word, TagFits}
use Rattle.ranks.specs.Biased.{biased-below}
use Rattle.filing.specs.Homes.{home}
use Rattle.filing.specs.Bands as bands
use Rattle.rows.specs.Halves.{word_of}
use Rattle.search.specs.Live.{Searchable, node, tag_for, home_for, node-is, home-is, fits-is}

-- ---- a tag of a room with so many measures
abbrev TagBelow : ℕ → Option Atom → Type 0
TagBelow measures none = Unit {0}
TagBelow measures (some a) = a.measure < measures

word_below : (measures : ℕ) (o : Option Atom) → TagFits o → TagBelow measures o → home o ≡ 32 → high_word o < measures * 2 ^ 42
unfolding high_word
word_below measures none f b h = absurd (omega (arith, h))
word_below measures (some a) f b h = by_bool (is_equality a)
    (λ e. rw e (omega (arith, biased-below f.1)))
    (λ e. by_bool (is_upward a) (λ u. absurd (omega (arith, rw (e, u) at h, f.0))) (λ u. absurd (omega (arith, rw (e, u) at h, f.0))))

home_below : (measures : ℕ) (o : Option Atom) → TagBelow measures o → home o < 32 → home o < measures * 2
home_below measures none b h = absurd (omega arith)
home_below measures (some a) b h = by_bool (is_equality a)
    (λ e. absurd (omega (arith, rw e at h)))
    (λ e. by_bool (is_upward a) (λ u. rw (e, u) (omega arith)) (λ u. rw (e, u) (omega arith)))

module _ (q : Searchable) where
  tag_below : (x : ℕ) → TagBelow q.measures (tag_for q x)
  tag_below x = go (tag_at q.slots.atoms q.slots.operator x)
    where
      go : (t : contracts.Option ℕ) → TagBelow q.measures (tag_means q.slots.measure q.slots.operator q.slots.key t)
      go (Some slot) = q.fit.measure slot
      go None = tt

  abbrev pub word_for : ℕ → ℕ
  word_for = word_of q.high

  pub record Placed (x : ℕ) : Type 0 where
    pub below : home_for q x < 34
    pub equality : home_for q x ≡ 32 → word_for x < q.measures * 2 ^ 42
    pub heap : home_for q x < 32 → (2 ^ 46 + home_for q x * 2 ^ 41 ≤ word_for x) × (word_for x < 2 ^ 46 + home_for q x * 2 ^ 41 + 2 ^ 41) × (home_for q x < q.measures * 2)
    pub untagged : home_for q x ≡ 33 → word_for x ≡ 2 * 2 ^ 46

  pub placed : (x : ℕ) → node q x ≡ true → Placed x
  placed x n =
      let w = (node-is q x n).high_is in
      let e = home-is q x in
      let f = fits-is q x in
      record {
        below = rw e (bands.home_below (tag_for q x) f);
        equality = λ h. rw w (word_below q.measures (tag_for q x) f (tag_below x) (sym e ∙ h));
        heap = λ h. (
          rw w (bands.heap-band (tag_for q x) f (home_for q x) h (sym e)).0,
          rw w (bands.heap-band (tag_for q x) f (home_for q x) h (sym e)).1,
          rw e (home_below q.measures (tag_for q x) (tag_below x) (rw e at h)),
        );
        untagged = λ h. w ∙ bands.untagged-word (tag_for q x) f (sym e ∙ h);
      }
