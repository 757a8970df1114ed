use Rattle.std.proofs.Common.{arith}
use Rattle.bi_lay.proofs.DocTexts.{length-items_structure, length-of_sizes, same_text}
use Rattle.bi_lay.proofs.document.Doc.put.Goals as goal

pub put_text-requires-clause-structure : goal.put_text-requires-clause-structure
put_text-requires-clause-structure g c = grind (arith, length-items_structure)

pub returns : goal.returns
returns g c = grind (arith, length-of_sizes, same_text)
