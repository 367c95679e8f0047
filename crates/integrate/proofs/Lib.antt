pub mod Decimal
pub mod Examples
pub mod Full
pub mod Placing
pub mod Turning
