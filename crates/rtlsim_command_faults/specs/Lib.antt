-- faults, and how they are told
pub mod Faults
pub mod Places
pub mod Reports
pub mod Lines
pub mod Expecting
pub mod Explanations
pub mod Changing
pub mod Status
pub mod Told
-- what is told
pub mod Further
pub mod Grammar
pub mod Behind
pub mod Refusal
-- how it is found
pub mod Next
