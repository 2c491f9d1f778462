pub mod Dead
pub mod FitLaws
pub mod LikeLaws
pub mod MachineLaws
pub mod ReplyLaws
pub mod RowLaws
pub mod StepLaws
pub mod Tables
