pub mod Listing
pub mod Rooms
