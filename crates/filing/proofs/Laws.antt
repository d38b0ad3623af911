-- The laws that the proofs of the code cite, by function.
use Rattle.condition.specs.Tags.{tag-slot}
use Rattle.filing.specs.Homes.{home-nowhere, home-equality, home-upward, home-downward}
use Rattle.filing.specs.Words.{slot-fits, word-nowhere, word_at}

pub ruleset home_laws = (tag-slot, home-nowhere, home-equality, home-upward, home-downward)

pub ruleset word_laws = (tag-slot, slot-fits, word-nowhere, word_at)
