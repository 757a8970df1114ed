use Rattle.std.specs.Prelude.{ℕ, List, map, Some}
use Rattle.std.specs.Option.{option_map}
use Rattle.bi_base.specs.Slices.{bytes_of}
use Rattle.bi_fit.specs.declared.building.ConfigurationSpec.{ConfigurationSpec}
use Rattle.bi_fit.specs.declared.building.Head.{Head}
use Rattle.bi_fit.specs.declared.building.NamedImage.{NamedImage}
use Rattle.bi_fit.specs.declared.building.Plan.{Plan}
use Rattle.bi_fit.specs.declared.image.Image.{Image}
use Rattle.bi_fit.specs.declared.image.Place.TheVariants.{Absent}
use Rattle.bi_fit.specs.declared.key.Key.{Key}
use Rattle.bi_fit.specs.declared.key.Key.TheVariants.{Kernel, Fdt, Ramdisk, Firmware, Loadables}
use Rattle.bi_fit.specs.declared.key.Key.TheVariants.{Script}
use Rattle.bi_fit.specs.Building.{HeadModel, ImageSpecModel, ConfigurationSpecModel, PlanModel}

-- Images and plans, as the calls that build a flattened image tree take them.

-- The description and the time.
abbrev pub head_model : Head → HeadModel
head_model head = record { description = head.description.now; time = head.time }

-- The image to be built.
abbrev pub named_model : NamedImage → ImageSpecModel
named_model image = record {
  name = image.name.now;
  description = option_map (λ text. text.now) image.description;
  image_type = image.image_type.now;
  arch = image.arch.now;
  os = image.os.now;
  compression = image.compression.now;
  load = image.load;
  entry = image.entry;
  payload = image.payload.now;
}

-- The images to be built.
abbrev pub named_models : List NamedImage → List ImageSpecModel
named_models images = map named_model images

-- The names that a configuration lists under a key.
abbrev pub names_listed : ConfigurationSpec → Key → List (List ℕ)
names_listed configuration Kernel = bytes_of configuration.kernel.now
names_listed configuration Fdt = bytes_of configuration.fdt.now
names_listed configuration Ramdisk = bytes_of configuration.ramdisk.now
names_listed configuration Firmware = bytes_of configuration.firmware.now
names_listed configuration Loadables = bytes_of configuration.loadables.now
names_listed configuration Script = bytes_of configuration.script.now

-- The configuration to be built.
abbrev pub configuration_spec_model : ConfigurationSpec → ConfigurationSpecModel
configuration_spec_model configuration = record {
  name = configuration.name.now;
  description = option_map (λ text. text.now) configuration.description;
  compatible = bytes_of configuration.compatible.now;
  lists = names_listed configuration;
}

-- The configurations to be built.
abbrev pub configuration_spec_models : List ConfigurationSpec → List ConfigurationSpecModel
configuration_spec_models configurations = map configuration_spec_model configurations

-- The plan.
abbrev pub plan_model : Plan → PlanModel
plan_model plan = record {
  configurations = configuration_spec_models plan.configurations.now;
  default = plan.default.now;
  algorithms = plan.algorithms.now;
}

-- The image with the payload that must be placed in the text. It is not in a file.
abbrev pub image_to_place : NamedImage → Image
image_to_place image =
    record { name = image.name; payload = Some image.payload; place = Absent }
