pub mod Telephones
pub mod Persons
pub mod Laws
