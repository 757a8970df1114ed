pub mod LabelledTexts
pub mod LabelledCommands
pub mod LabelLaws
pub mod InTurn
pub mod KnownLabels
