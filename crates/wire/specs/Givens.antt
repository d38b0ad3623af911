-- What the struct of src/given.rt holds, by the definitions over its arrays.
use Rattle.wire.specs.WaitSlots.{AtomSlots, atom_slots, WaitSlots, wait_slots}
use Rattle.wire.specs.declared.given.Given.{Given}

abbrev pub atoms_of_given : Given → AtomSlots
atoms_of_given g = atom_slots g.measure g.operator g.coefficients g.constant

abbrev pub slots_of_given : Given → WaitSlots
slots_of_given g = wait_slots g.counts (atoms_of_given g)
