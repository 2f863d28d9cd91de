pub mod Ended
pub mod RunRooms
pub mod Bounded
pub mod Compared
pub mod FixedCase
pub mod HeldLaws
pub mod Rooms
pub mod Answers
