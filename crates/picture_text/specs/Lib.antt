pub mod Outlines
pub mod TextPictures
