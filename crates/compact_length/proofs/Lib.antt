pub mod Words
pub mod Strings
pub mod Lexemes
pub mod Tokens
pub mod Numbers
pub mod Values
