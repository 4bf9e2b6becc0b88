pub mod StandardBook
