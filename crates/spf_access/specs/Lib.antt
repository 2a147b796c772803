pub mod Answer
pub mod Progress
pub mod ValueTrace
pub mod Units
