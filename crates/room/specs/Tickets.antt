-- The next ticket has no part in what the arrays keep, nor in a search: both hold whatever it is.
use Rattle.std.specs.Prelude.{List, ℕ, ℤ}
use Rattle.search.specs.declared.Answer.{Answer}
use Rattle.room.specs.Arrays.{Arrays, arrays}
use Rattle.room.specs.Kept.{Sound}
use Rattle.room.specs.Calls.{moved, CallsNext}

abbrev pub with_next : Arrays → ℕ → Arrays
with_next a next = arrays a.coefficients a.values a.standing a.ticket a.slots a.entry a.high a.low a.places a.lengths a.measures next

pub sound-next : (a : Arrays) (next : ℕ) → Sound a → Sound (with_next a next)
sound-next a next k = record {
  sizes = record {
    coefficients = k.sizes.coefficients;
    values = k.sizes.values;
    standing = k.sizes.standing;
    ticket = k.sizes.ticket;
    slots = k.sizes.slots;
    high = k.sizes.high;
    low = k.sizes.low;
  };
  fit = k.fit;
  some-measure = k.some-measure;
  ranges = k.ranges;
  zeros = k.zeros;
  tickets = k.tickets;
  codes = k.codes;
  index = k.index;
  waits = k.waits;
  apart = k.apart;
  words = k.words;
}

pub calls-next : (a : Arrays) (next : ℕ) (now : List ℤ) (standing entry places lengths : List ℕ) (r : Answer) → CallsNext a now standing entry places lengths r → CallsNext (with_next a next) now standing entry places lengths r
calls-next a next now standing entry places lengths r n = record {
  answer-is = n.answer-is;
  standing-is = n.standing-is;
  sound = sound-next (moved a standing entry places lengths) next n.sound;
}
