pub mod DotPictures
