pub mod Layout
pub mod Best
pub mod Worked
pub mod Price
pub mod Row
pub mod ToGo
pub mod Chosen
pub mod Laws
