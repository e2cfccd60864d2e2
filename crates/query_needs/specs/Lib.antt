pub mod Holders
pub mod Targets
pub mod Known
pub mod Takes
pub mod Outcomes
pub use Rattle.channel_url.specs.Addresses
pub use Rattle.channel_url.specs.Law as AddressLaws
pub use Rattle.fetch_flight.specs.Made
pub use Rattle.fetch_flight.specs.Pin
pub use Rattle.fetch_flight.specs.Pins
pub use Rattle.closure_plan.specs.Plan
