pub mod PlanLaws
pub mod ContentLaws
pub mod ShowLaws
pub mod SettledLaws
