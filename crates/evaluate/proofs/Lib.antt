mod Plugged
mod Values
mod InOrder
mod Short
mod Stopping
