pub mod Judged
pub mod RoundTrip
