-- Flat netlists: the wiring of a design and the bodies of its processes, as contracts see them, and what such a netlist
-- is to a simulation. In order of reading:
pub mod FlatNetlist
pub mod CoreNetlist
pub mod Wiring
pub mod Laws
