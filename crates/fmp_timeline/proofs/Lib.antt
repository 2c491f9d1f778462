mod Columns
mod Points
mod Recordings
mod Stays
