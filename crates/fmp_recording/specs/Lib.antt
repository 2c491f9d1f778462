pub mod Recordings
pub mod RecordingLaws
pub mod Replaying
