pub mod Forms
pub mod Given
pub mod Joined
pub mod Refusals
pub mod Settings
pub mod SettingsFaults
