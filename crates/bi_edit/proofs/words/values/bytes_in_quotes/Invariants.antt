use Rattle.std.proofs.Common.{◌≡◌, ◌++◌, drop}
use Rattle.bi_edit.specs.Unquoted.{bytes_in_quotes}
use Rattle.bi_edit.specs.declared.words.values.Quoting.TheVariants.{Outside}
use Rattle.bi_edit.proofs.words.values.bytes_in_quotes.Given as goal

abbrev pub invariant-loop-byte : goal.invariant-loop-byte
invariant-loop-byte l = l.bytes.items ++ bytes_in_quotes l.quoting (drop l.byte-index l.text) ≡ bytes_in_quotes Outside l.text
