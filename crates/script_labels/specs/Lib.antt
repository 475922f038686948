pub mod Names
pub mod Records
pub mod Tables
pub mod Texts
