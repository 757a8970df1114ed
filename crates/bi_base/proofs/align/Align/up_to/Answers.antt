use Rattle.std.proofs.Common.{◌-◌, ◌+◌, arith}
use Rattle.std.proofs.lemmas.Nat.{div-add-mod'}
use Rattle.bi_base.proofs.AlignmentLaws.{alignment-small}
use Rattle.bi_base.proofs.align.Align.up_to.Goals as goal

pub overflow_add-result : goal.overflow_add-result
overflow_add-result c = omega (arith, c.requires, alignment-small c.args.self.bytes c.args.self.is_alignment)

pub overflow_mul-result : goal.overflow_mul-result
overflow_mul-result c =
    let align = c.args.self.bytes in
    omega (arith, c.requires, alignment-small align c.args.self.is_alignment, div-add-mod' (c.args.n + (align - 1)) align)
