pub mod Traces
pub mod Frames
pub mod HostMeaning
pub mod Files
