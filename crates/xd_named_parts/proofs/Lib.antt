pub mod FitTests
pub mod AlikeLaws
pub mod AnyLaws
pub mod CopyLaws
pub mod NamedLaws
