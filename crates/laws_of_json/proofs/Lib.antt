pub mod Numbers
pub mod Members
pub mod ReadingBack
pub mod Utf8
