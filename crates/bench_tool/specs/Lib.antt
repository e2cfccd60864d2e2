pub mod Walk
pub mod Sign
