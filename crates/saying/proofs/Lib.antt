pub mod Saying
