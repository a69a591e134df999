pub mod Texts
pub mod Numbers
pub mod GoingOn
pub mod Redraw
pub mod Clock
pub mod Readings
pub mod Whole
