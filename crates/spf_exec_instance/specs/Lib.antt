pub mod Layout
pub mod Frame
pub mod RunErrors
pub mod Instance
