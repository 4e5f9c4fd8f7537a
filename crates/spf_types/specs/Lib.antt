pub mod TooLarge
pub mod Contract
pub mod Laws
