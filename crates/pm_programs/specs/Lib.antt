pub mod Lex
pub mod LexLaws
pub mod Tableaux
pub mod TableauLaws
pub mod Dictionaries
pub mod DictionaryLaws
pub mod Pivots
pub mod PivotLaws
