use Rattle.std.proofs.Common.{arith, rules}
use Rattle.bi_norm.proofs.ConvertedParts.{no_elements}
use Rattle.bi_norm.proofs.converting.check.Goals as goal

pub returns-then-part_count-eq0-clause-fault : goal.returns-then-part_count-eq0-clause-fault
returns-then-part_count-eq0-clause-fault c =
    let none = no_elements c.args.image.now.image.parts (omega arith) in
    search (rules, none)
