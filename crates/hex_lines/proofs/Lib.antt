mod FirstLine
mod Pairs
