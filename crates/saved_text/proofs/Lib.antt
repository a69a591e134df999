pub mod Lists
mod Whole
pub mod Texts
pub mod RangesLeft
pub mod WhatIsLeft
