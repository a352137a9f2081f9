mod Rows
mod Words
mod Telling
