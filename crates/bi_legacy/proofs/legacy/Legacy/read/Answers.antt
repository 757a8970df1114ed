use Rattle.std.proofs.Common.{arith}
use Rattle.bi_legacy.proofs.ReadResults.{parsed_of, only_fault_of}
use Rattle.bi_legacy.proofs.legacy.Legacy.read.Goals as goal

pub returns-clause-read : goal.returns-clause-read
returns-clause-read c =
    parsed_of c.args.file.now c.args.limits c.parse.result (record { each = λ i. omega (arith, c.type_inv.file i) })
    c.parse.ensures.no_fault c.parse.ensures.image c.parse.ensures.unused

pub returns-clause-fault : goal.returns-clause-fault
returns-clause-fault c = only_fault_of c.args.file.now c.args.limits c.parse.result c.parse.ensures.fault
