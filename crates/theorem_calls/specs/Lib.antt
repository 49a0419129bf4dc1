-- A list of calls on one frame, and lists that differ only in the engines that they choose.
pub mod Calls
pub mod Choices
