pub mod Woken
pub mod ToRun
