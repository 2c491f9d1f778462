mod Canvases
mod Drops
mod Escapes
mod Fronts
mod Joined
mod Kept
