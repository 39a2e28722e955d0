mod Names
mod Ends
