pub mod Lex
pub mod LexRows
pub mod Tableaux
pub mod Values
pub mod Dictionaries
pub mod Pivots
