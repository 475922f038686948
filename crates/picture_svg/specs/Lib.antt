pub mod Bars
pub mod Elements
pub mod Legend
pub mod Links
pub mod SvgPictures
pub mod Trees
