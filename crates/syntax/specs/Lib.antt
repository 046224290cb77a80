pub mod Reading
pub mod Cases
pub mod Laws
