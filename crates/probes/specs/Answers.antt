-- Each case of the readers' answers as plain numbers: refusal 0 is none, and on a refusal the rest is 0.
use Rattle.std.specs.Prelude.{◌≡◌, ℕ, ℤ, pos, Result, Ok, Err}
use Rattle.probes.specs.declared.answers.Answer.{Answer}
use Rattle.probes.specs.declared.answers.SignedAnswer.{SignedAnswer}

abbrev pub plain_answer : Result (ℕ × ℕ) ℕ → Answer
plain_answer (Ok p) = record { refusal = 0; value = p.0; next = p.1 }
plain_answer (Err k) = record { refusal = k; value = 0; next = 0 }

abbrev pub plain_signed : Result (ℤ × ℕ) ℕ → SignedAnswer
plain_signed (Ok p) = record { refusal = 0; value = p.0; next = p.1 }
plain_signed (Err k) = record { refusal = k; value = pos 0; next = 0 }

-- as the code has it: the answer was found to be of this case
pub plain-got : {a : Result (ℕ × ℕ) ℕ} {n next : ℕ} → a ≡ Ok (n, next) → record { refusal = 0; value = n; next = next } ≡ plain_answer a
plain-got e = rw e

pub plain-refused : {a : Result (ℕ × ℕ) ℕ} {k : ℕ} → a ≡ Err k → record { refusal = k; value = 0; next = 0 } ≡ plain_answer a
plain-refused e = rw e

pub plain-signed-got : {a : Result (ℤ × ℕ) ℕ} {z : ℤ} {next : ℕ} → a ≡ Ok (z, next) →
    record { refusal = 0; value = z; next = next } ≡ plain_signed a
plain-signed-got e = rw e

pub plain-signed-refused : {a : Result (ℤ × ℕ) ℕ} {k : ℕ} → a ≡ Err k → record { refusal = k; value = pos 0; next = 0 } ≡ plain_signed a
plain-signed-refused e = rw e
