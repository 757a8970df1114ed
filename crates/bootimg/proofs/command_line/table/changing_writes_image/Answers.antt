use Rattle.bootimg.proofs.command_line.table.changing_writes_image.Goals as goal

pub returns : goal.returns
returns c = c.some_writes_image.ensures
