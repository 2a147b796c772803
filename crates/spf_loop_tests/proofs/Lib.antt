mod SmallTerms
mod SoundJobs
