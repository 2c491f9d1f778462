pub mod Laws
pub mod Receipts
pub mod Rule
pub mod Seats
pub mod Stamps
pub mod Views
pub mod Words
