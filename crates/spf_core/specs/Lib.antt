pub mod Copies
pub mod History
pub mod Marked
pub mod Parts
pub mod Replay
pub mod SoundJob
pub mod Stand
pub mod Tiling
