pub mod Digits
pub mod Ends
pub mod Listing
pub mod Piecing
pub mod Splits
pub mod Telling
