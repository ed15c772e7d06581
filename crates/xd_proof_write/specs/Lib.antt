pub mod SecondText
pub mod ClaimText
pub mod Written
pub mod Laws
