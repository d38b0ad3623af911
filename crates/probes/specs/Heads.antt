-- Each case of an event's head as plain numbers: the kind is document 01's number, and 0 for a refusal and where no byte is left.
use Rattle.std.specs.Prelude.{◌≡◌, ℕ, ℤ, pos, Option, Some, None, Result, Ok, Err}
use Rattle.wire.specs.Heads.{head}
use Rattle.wire.specs.declared.head.Head.{Head}
use Rattle.wire.specs.declared.head.Kind.{Kind}
use Rattle.wire.specs.declared.head.Kind.TheVariants.{Arrive, Admit, Set, Wait, Leave}
use Rattle.probes.specs.declared.events.HeadAnswer.{HeadAnswer}

-- an event that is its kind and its job
abbrev pub job_alone : ℕ → ℕ → ℕ → HeadAnswer
job_alone kind job next = record { kind = kind; refusal = 0; job = job; variable = 0; value = pos 0; next = next }

abbrev pub no_event : ℕ → HeadAnswer
no_event refusal = record { kind = 0; refusal = refusal; job = 0; variable = 0; value = pos 0; next = 0 }

abbrev pub plain_kind : Kind → ℕ → ℕ → HeadAnswer
plain_kind Arrive job next = job_alone 1 job next
plain_kind Admit job next = job_alone 2 job next
plain_kind (Set variable value) job next = record { kind = 3; refusal = 0; job = job; variable = variable; value = value; next = next }
plain_kind Wait job next = job_alone 4 job next
plain_kind Leave job next = job_alone 5 job next

abbrev pub plain_head : Result (Option Head) ℕ → HeadAnswer
plain_head (Ok (Some h)) = plain_kind h.kind h.job h.next
plain_head (Ok None) = no_event 0
plain_head (Err k) = no_event k

-- as the code has it: the head was found to be of this case
pub plain-arrive : {h : Result (Option Head) ℕ} {job next : ℕ} → h ≡ Ok (Some (head Arrive job next)) → job_alone 1 job next ≡ plain_head h
plain-arrive e = rw e

pub plain-admit : {h : Result (Option Head) ℕ} {job next : ℕ} → h ≡ Ok (Some (head Admit job next)) → job_alone 2 job next ≡ plain_head h
plain-admit e = rw e

pub plain-set : {h : Result (Option Head) ℕ} {job variable : ℕ} {value : ℤ} {next : ℕ} →
    h ≡ Ok (Some (head (Set variable value) job next)) →
    record { kind = 3; refusal = 0; job = job; variable = variable; value = value; next = next } ≡ plain_head h
plain-set e = rw e

pub plain-wait : {h : Result (Option Head) ℕ} {job next : ℕ} → h ≡ Ok (Some (head Wait job next)) → job_alone 4 job next ≡ plain_head h
plain-wait e = rw e

pub plain-leave : {h : Result (Option Head) ℕ} {job next : ℕ} → h ≡ Ok (Some (head Leave job next)) → job_alone 5 job next ≡ plain_head h
plain-leave e = rw e

pub plain-no-event : {h : Result (Option Head) ℕ} {k : ℕ} → h ≡ Err k → no_event k ≡ plain_head h
plain-no-event e = rw e

pub plain-none-left : {h : Result (Option Head) ℕ} → h ≡ Ok None → no_event 0 ≡ plain_head h
plain-none-left e = rw e
