pub mod Matches
pub mod First
pub mod Tails
pub mod Taking
pub mod Compiled
pub mod Meanings
pub mod Matcher
pub mod Serving
