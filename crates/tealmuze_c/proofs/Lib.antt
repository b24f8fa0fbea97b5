pub mod Answered
pub mod Boxed
pub mod Found
pub mod Handing
pub mod Owned
pub mod Stepped
pub mod Told
