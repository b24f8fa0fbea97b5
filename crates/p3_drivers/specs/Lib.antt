pub mod DriverLends
pub mod Drivers
