pub mod Among
pub mod Passing
pub mod Digits
pub mod Moves
pub mod Rooms
pub mod Spelled
pub mod Standing
pub mod Steps
