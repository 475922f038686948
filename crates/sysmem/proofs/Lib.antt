mod Common
mod CoreBox
mod FirstPlaces
mod Unboxing
