pub mod Writing
pub mod PackBits
pub mod Huffman
pub mod Lexer
pub mod Laws
