-- An event taken from bytes, by the head that was read: of each kind but Wait (`TakesWait.antt`) it is the event's function that steps as the rules do.
use Rattle.std.specs.Prelude.{◌≡◌, refl, List, [], ℕ, ◌<◌, ℤ, drop, Option, Some, None, Result, Ok, Err}
use Rattle.std.proofs.Common.{sym, ap, ◌∙◌, subst, arith}
use Rattle.rules.specs.Limits.{value_most}
use Rattle.rules.specs.Step as rules
use Rattle.rules.specs.Laws.Bounds.{Within}
use Rattle.fields.specs.Answers.{numbered}
use Rattle.fields.specs.declared.refusal.Refusal.{Refusal}
use Rattle.wire.specs.Heads.{head, head_at}
use Rattle.wire.specs.Events.{KindMeans, HeadMeans, head-means}
use Rattle.wire.specs.declared.head.Head.{Head}
use Rattle.wire.specs.declared.head.Kind.{Kind}
use Rattle.wire.specs.declared.head.Kind.TheVariants.{Arrive, Admit, Set, Wait, Leave}
use Rattle.condition.specs.Slots.{closed_of}
use Rattle.room.specs.Arrays.{Arrays}
use Rattle.room.specs.Rooms.{arrays_of, Fixed}
use Rattle.room.specs.declared.room.Room.{Room}
use Rattle.room.specs.Stores.{store_of}
use Rattle.room.specs.Kept.{Kept}
use Rattle.room.specs.Steps.{Stepped}
use Rattle.room.specs.Stands.{restood}
use Rattle.room.specs.Arrives.{arrive_report, arrive_standing, arrive-steps}
use Rattle.room.specs.Assigns.{inside_report, assign_values, revalued, assign-steps}
use Rattle.room.specs.Reports.{Report}
use Rattle.event.specs.Answers.{placed}
use Rattle.event.specs.Takes.{Takes, by-step, by-refusal, by-nothing, event-fits}

-- the functions of Admit and Leave touch nothing of what the arrays hold beside the room
pub fixed-store : {r s : Room} → Fixed r s → store_of (arrays_of s) ≡ store_of (arrays_of r)
fixed-store f = λ i. record {
  coefficients = (f.shared i).coefficients;
  measures = f.measures i;
  ticket = f.ticket i;
  slots = closed_of (f.conditions i);
  high = (f.ranks i).high;
  low = (f.ranks i).low;
}

-- the head of a Wait was read
abbrev pub wait_head : ℕ → ℕ → Result (Option Head) ℕ
wait_head job next = Ok (Some (head Wait job next))

-- what is read of no bytes at all
nothing-read : (bytes left : List ℕ) {c : ℕ} → Err c ≡ head_at bytes left → left ≡ [] → ⊥
nothing-read bytes left {c} f e = let q : Err c ≡ head_at bytes [] = f ∙ ap (head_at bytes) e in let z : ◌≡◌ {A = ℕ} 0 1 = cc in omega arith

module _ (a : Arrays) (k : Kept a) (bytes : List ℕ) (at : ℕ) {r : Result (Option Head) Refusal}
    (from : numbered r ≡ head_at bytes (drop at bytes)) where
  means : {q : Result (Option Head) Refusal} → r ≡ q → HeadMeans a.measures bytes (drop at bytes) (numbered q)
  means e = subst (HeadMeans a.measures bytes (drop at bytes)) (sym from ∙ ap numbered e) (head-means a.measures bytes at)

  pub takes-nothing : r ≡ Ok None → Takes a a bytes at None
  takes-nothing e = by-nothing a k bytes at (means e)

  pub takes-refused : {c : Refusal} → r ≡ Err c → Takes a a bytes at (placed (Err c) at)
  takes-refused e = by-refusal a k bytes at (nothing-read bytes (drop at bytes) (sym (ap numbered e) ∙ from)) (means e)

  module _ {h : Head} (got : r ≡ Ok (Some h)) where
    pub kind-means : {kind : Kind} → h.kind ≡ kind → KindMeans a.measures bytes (drop at bytes) h.job h.next kind
    kind-means e = subst (KindMeans a.measures bytes (drop at bytes) h.job h.next) e (means got)

    pub arrive-small : h.kind ≡ Arrive → h.job < 32
    arrive-small e = event-fits a k bytes at (kind-means e).0

    pub admit-small : h.kind ≡ Admit → h.job < 32
    admit-small e = event-fits a k bytes at (kind-means e).0

    pub leave-small : h.kind ≡ Leave → h.job < 32
    leave-small e = event-fits a k bytes at (kind-means e).0

    pub set-fits : {variable : ℕ} {value : ℤ} → h.kind ≡ Set variable value → (h.job < 32) × (variable < 8) × Within value_most value
    set-fits e = event-fits a k bytes at (kind-means e).0

    -- the head that a Wait's numbers follow
    pub wait-read : h.kind ≡ Wait → head_at bytes (drop at bytes) ≡ wait_head h.job h.next
    wait-read e = sym from ∙ ap numbered got ∙ ap (λ x. Ok (Some (head x h.job h.next))) e

    pub takes-arrive : h.kind ≡ Arrive → {w : Report} {st : List ℕ} → w ≡ arrive_report a.standing h.job →
        st ≡ arrive_standing a.standing h.job →
        Takes a (restood a st) bytes at (placed w h.next)
    takes-arrive e {w} {st} p q =
        let s = arrive-steps a k.sound h.job (arrive-small e) in
        let m = kind-means e in
        by-step a k bytes at
        (subst (λ l. Stepped a (restood a l) (rules.arrive h.job) w) (sym q)
        (subst (Stepped a (restood a (arrive_standing a.standing h.job)) (rules.arrive h.job)) (sym p) s))
        refl m.0 m.1

    -- x is what the machine hands on for the value
    pub takes-set : {variable : ℕ} {value x : ℤ} → h.kind ≡ Set variable value → x ≡ value → {w : Report} {vs : List ℤ} →
        w ≡ inside_report a.standing h.job →
        vs ≡ assign_values a.standing a.values h.job variable x → Takes a (revalued a vs) bytes at (placed w h.next)
    takes-set {variable} {value} {x} e is {w} {vs} p q =
        let f = set-fits e in
        let s = assign-steps a k.sound h.job variable value f.0 f.1 f.2 in
        let m = kind-means e in
        by-step a k bytes at
        (subst (λ l. Stepped a (revalued a l) (rules.assign h.job variable value) w)
        (sym (q ∙ ap (assign_values a.standing a.values h.job variable) is))
        (subst (Stepped a (revalued a (assign_values a.standing a.values h.job variable value)) (rules.assign h.job variable value))
        (sym p) s))
        refl m.0 m.1

    pub takes-admit : h.kind ≡ Admit → {b : Arrays} {w : Report} → Stepped a b (rules.admit h.job) w → store_of b ≡ store_of a →
        Takes a b bytes at (placed w h.next)
    takes-admit e s o = let m = kind-means e in by-step a k bytes at s o m.0 m.1

    pub takes-leave : h.kind ≡ Leave → {b : Arrays} {w : Report} → Stepped a b (rules.leave h.job) w → store_of b ≡ store_of a →
        Takes a b bytes at (placed w h.next)
    takes-leave e s o = let m = kind-means e in by-step a k bytes at s o m.0 m.1
