pub mod ListLemmas
pub mod CodeLemmas
pub mod HasNumberLemmas
pub mod CellLemmas
pub mod PutsTasksLemmas
pub mod FindsLemmas
pub mod WorkedTaskLemmas
