mod Fronts
mod HostDeeds
mod Written
