-- A host's room, which is that of crate room: its arrays by name, and the rules' room that it means. Two rooms with the same arrays are the
-- same room.
use Rattle.rules.specs.Room as rules
use Rattle.room.specs.Arrays.{room_of}
use Rattle.room.specs.declared.room.Room.{Room}
pub use Rattle.room.specs.Rooms.{arrays_of, one-room}

abbrev pub meaning : Room → rules.Room
meaning r = room_of (arrays_of r)
