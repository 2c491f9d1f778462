pub mod Decoding
pub mod Hands
pub mod Laws
pub mod Prepared
pub mod Stretches
pub mod Vms
