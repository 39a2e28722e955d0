pub mod Agenda
pub mod MapState
pub mod Laws
pub mod Occupied
pub mod Wheel
