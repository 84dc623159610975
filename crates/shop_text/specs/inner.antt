pub mod LineReading
pub mod DraftLimits
pub mod Drafts
pub mod InstanceReading
pub mod ScheduleReading
pub mod Cells
