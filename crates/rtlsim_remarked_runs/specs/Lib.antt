pub mod Remarking
