pub mod Input
pub mod Kind
pub mod Laws
pub mod Output
pub mod Text
