pub mod Laying
pub mod Echoing
pub mod Checking
