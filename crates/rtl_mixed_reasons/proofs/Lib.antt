mod Searches
mod Branching
mod Driven
mod Law
mod MixedKinds
