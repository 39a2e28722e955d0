-- what is taken out of a source with a fault
pub mod Naming
pub mod Taken
-- which faults may follow from that
pub mod Known
-- how it is found
pub mod Once
