pub mod Surveys
pub mod Cursors
pub mod Passing
