use Rattle.bootimg.proofs.command_line.table.building_writes_image.Goals as goal

pub returns : goal.returns
returns c = c.some_writes_image.ensures
