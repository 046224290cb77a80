pub mod Order
pub mod Trees
pub mod Tables
pub mod Laws
