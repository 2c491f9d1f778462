mod FirstBytes
mod Settling
