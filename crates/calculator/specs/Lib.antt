pub mod Text
pub mod Calls
pub mod Commands
pub mod Settings
pub mod Results
pub mod Lines
