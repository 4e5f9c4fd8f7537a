mod Lines
mod PackBitsText
mod HuffmanText
mod LexerText
mod Said
