mod Telling
mod Runs
mod Text
