use Rattle.std.specs.Prelude.{ℕ, List, [], ◌∷◌, map}
use Rattle.bi_base.specs.Cells.{cell}
use Rattle.bi_fit.specs.Judgement.{listed_names}
use Rattle.bi_common.specs.MadeFields.{field_of}
use Rattle.bi_values.specs.ValueResults.{ValueResult, ValueBytes, code_number, text_lines}
use Rattle.bi_values.specs.ValueResults.{word_line}
use Rattle.bi_values.specs.declared.outputs.ValueOutput.{ValueOutput}
use Rattle.bi_values.specs.declared.outputs.ValueOutput.TheVariants.{Word, Code, Texts, Bytes}
use Rattle.bi_values.specs.declared.outputs.ValueOutput.TheVariants.{Cell, Byte}

-- What is written for values, as the code has it.

-- The bytes that are written for a value.
abbrev pub output_text : ValueOutput → List ℕ
output_text (Word word) = word_line (field_of word)
output_text (Code code) = word_line (code_number code)
output_text (Texts value) = text_lines (listed_names value.now)
output_text (Bytes bytes) = bytes.now
output_text (Cell number) = cell number
output_text (Byte byte) = byte ∷ []

-- The bytes that are written for some values.
abbrev pub output_texts : List ValueOutput → List (List ℕ)
output_texts outputs = map output_text outputs

-- The result that the code has.
abbrev pub result_of_output : (output : ValueOutput) → ValueResult
result_of_output output = ValueBytes (output_text output)
