mod Sound
mod Spans
mod Registers
mod TakingBack
