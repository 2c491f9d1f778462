mod Distances
mod FoundTopics
