pub mod Scan
pub mod Spelled
pub mod Spellings
pub mod Tokens
pub mod LexedTokens
pub mod Left
pub mod Reading
pub mod Cut
