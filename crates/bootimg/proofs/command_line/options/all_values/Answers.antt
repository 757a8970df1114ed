use Rattle.bootimg.proofs.CommandLines.{words_are}
use Rattle.bootimg.proofs.command_line.options.all_values.Goals as goal

pub returns : goal.returns
returns c = words_are c.get_strs.result _ c.unwrap_or_default.result c.get_strs.ensures c.unwrap_or_default.ensures
