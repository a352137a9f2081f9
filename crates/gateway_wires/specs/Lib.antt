pub mod Line
pub mod Wires
pub mod Inside
