use Rattle.bootimg.proofs.command_line.refused.reason.Goals as goal

pub returns-in-BadValue : goal.returns-in-BadValue
returns-in-BadValue c = rw c.in-BadValue.is c.refused_value.ensures

pub returns-in-BadImage : goal.returns-in-BadImage
returns-in-BadImage c = rw c.in-BadImage.is c.refused_field.ensures

pub returns-in-BadConfiguration : goal.returns-in-BadConfiguration
returns-in-BadConfiguration c = rw c.in-BadConfiguration.is c.configuration_at.ensures
