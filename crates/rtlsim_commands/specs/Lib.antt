-- what is told of a command's answer
pub mod Answered
-- what commands do on a netlist
pub mod Listed
pub mod Simulated
pub mod Machine
pub mod Tracing
-- what is seen of it
pub mod Watched
pub mod Sights
pub mod Expected
pub mod Opened
-- what is told of it
pub mod Unsettled
pub mod Wider
pub mod Freed
pub mod Remarked
pub mod Told
pub mod Served
pub mod Refused
