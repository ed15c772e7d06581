pub mod WrittenForAll
