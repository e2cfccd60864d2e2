mod PieceLemmas
pub mod ToldLemmas
mod ReadingLemmas
pub mod GivingLemmas
mod AddressLemmas
mod RoomLemmas
mod ParcelLemmas
