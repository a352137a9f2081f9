pub mod Capturing
mod Numbers
mod Reading
mod Showing
