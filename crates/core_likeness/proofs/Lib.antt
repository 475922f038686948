mod Common
pub mod Steps
pub mod Swapping
pub mod MixedLaws
pub mod Calls
pub mod ParcelLaws
pub mod RootLaws
pub mod OpeningLaws
pub mod TrackerLaws
pub mod ClientLaws
pub mod CollectionLaws
pub mod HandleLaws
