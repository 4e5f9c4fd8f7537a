pub mod Tame
pub mod Rules
pub mod Ends
pub mod Filled
pub mod AcceptedPackBits
pub mod AcceptedHuffman
pub mod AcceptedLexer
