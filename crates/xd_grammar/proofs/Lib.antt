pub mod Derive
pub mod Shift
pub mod Tests
pub mod Courses
pub mod Stands
pub mod Ends
pub mod TextLemmas
pub mod ErasedLemmas
