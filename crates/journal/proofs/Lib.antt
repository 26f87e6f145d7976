pub mod Journals
pub mod Restoring
pub mod Taking
