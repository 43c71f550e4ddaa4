pub mod PrintedScalars
pub mod Printing
pub mod Laws
pub mod PrintedSamples
pub mod PlainRun
pub mod Levels
pub mod StableLaw
