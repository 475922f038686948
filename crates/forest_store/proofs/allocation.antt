-- Attached units that become ready and are allocated in their places.
pub mod Allocated
pub mod Next
pub mod Before
