-- What is proved of the definitions.
pub mod DerivationLaws
pub mod IsolationLaws
pub mod StatusLaws
pub mod LawfulLaws
pub mod TextLaws
pub mod TouchLaws
pub mod SendLaws
pub mod FateLaws
pub mod UnmapLaws
pub mod ClearLaws
pub mod RefusalLaws
pub mod KeptStatusLaws
pub mod RecursionLaws
pub mod ReplayLaws
pub mod ChangeLaws
