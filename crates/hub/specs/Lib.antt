pub mod Judging
pub mod Answering
pub mod Seats
pub mod Desks
pub mod Told
pub mod Machine
