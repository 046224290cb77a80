pub mod Lines
pub mod Texts
pub mod HostMeaning
pub mod Cuts
