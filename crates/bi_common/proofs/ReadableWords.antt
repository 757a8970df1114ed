-- Lemmas on words: names, values, numbers and the words of lines are read back from their text.
pub mod Cuts
pub mod ShownNames
pub mod QuotedValues
pub mod WordLines
pub mod Numbers
pub mod Lines
