mod LinesInTexts
pub mod DoneInTurn
mod LabelFacts
