pub mod Scrutinees
