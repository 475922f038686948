mod Common
pub mod answers
pub mod collections
pub mod ends
pub mod firing
pub mod forced
pub mod handles
pub mod joined
pub mod lists
pub mod nodes
pub mod theorem
pub mod views
