mod Common
pub mod BackLaws
pub mod GatherLaws
pub mod VanishingLaws
pub mod ObjectLaws
