-- What the stream is: words, the two publications, jumps, and what each call answers.
pub mod Words
pub mod SplitMix
pub mod Xoshiro
pub mod Jumps
pub mod Bytes
pub mod Calls
