mod Dials
mod Suiting
