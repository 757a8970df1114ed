use Rattle.std.proofs.Common.{sym}
use Rattle.bi_c.proofs.CodeNames.{no_name_of_field_without_text}
use Rattle.bi_c.proofs.codes.code_in_field.Goals as goal

pub returns-in_default : goal.returns-in_default
returns-in_default c = sym (no_name_of_field_without_text c.args.field c.args.name.now c.in_default.ensures.cases.0)
