pub mod Queues
pub mod Reaching
pub mod Handing
pub mod Fills
