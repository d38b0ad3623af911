-- Where a lookup finds no place, and what a word is asked.
use Rattle.search.specs.Lookups.{nothing_walked, value_room}

pub ruleset lookup_laws = (nothing_walked, value_room)
