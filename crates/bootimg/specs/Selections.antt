use Rattle.bi_commands.specs.KnownChoices.{lent}
use Rattle.bi_commands.specs.declared.extract.Select.{Select}
use Rattle.bi_commands.specs.declared.extract.Select.TheVariants as select
use Rattle.bootimg.specs.declared.command_line.extract.Selected.{Selected}
use Rattle.bootimg.specs.declared.command_line.extract.Selected.TheVariants.{Part, Image, Config}
use Rattle.bootimg.specs.declared.command_line.extract.Selected.TheVariants.{Default}

-- What the arguments select, as the library takes it.
abbrev pub select_of : Selected → Select
select_of (Part index) = select.Part index
select_of (Image name) = select.Image (lent name.items)
select_of (Config name key index) = select.Config (lent name.items) key index
select_of (Default key index) = select.Default key index
