use Rattle.std.proofs.Common.{◌≡◌, ◌++◌, List, [], codes, ap, ◌∙◌, rules}
use Rattle.std.specs.FinMap.{empty, from_entries}
use Rattle.bi_blob.specs.Tree.{Property}
use Rattle.bi_fit.specs.declared.key.Key.TheVariants.{Kernel, Fdt, Ramdisk, Firmware, Loadables, Script}
use Rattle.bi_fit.specs.Building.{list_property}
use Rattle.bi_fit.specs.BuiltNames.{built_names}
use Rattle.bi_fit.specs.NamedImages.{configuration_spec_model}
use Rattle.bi_fit.specs.PropertyMapModels.{among}
use Rattle.bi_fit.proofs.building.properties.configuration_properties.Goals as goal

pub returns : goal.returns
returns c =
    let model = configuration_spec_model c.args.configuration.now in
    let lists = c.requires.lists in
    let of_script : List Property = list_property (codes "script") (model.lists Script) ++ [] in
    let of_loadables : List Property = list_property (codes "loadables") (model.lists Loadables) ++ of_script in
    let of_firmware : List Property = list_property (codes "firmware") (model.lists Firmware) ++ of_loadables in
    let of_ramdisk : List Property = list_property (codes "ramdisk") (model.lists Ramdisk) ++ of_firmware in
    let of_fdt : List Property = list_property (codes "fdt") (model.lists Fdt) ++ of_ramdisk in
    let of_keys : List Property = list_property (codes "kernel") (model.lists Kernel) ++ of_fdt in
    let none : c.new-properties.result ≡ among built_names (from_entries []) =
    c.new-properties.ensures ∙ ap (λ names. among names empty) c.requires.names in
    let script = c.in_ok-insert_list.ensures.inserted (model.lists Script) [] (c.deref.ensures.value ∙ lists.script) none in
    let loadables = c.in_ok-insert_list-2.ensures.inserted (model.lists Loadables) of_script
    (c.deref-2.ensures.value ∙ lists.loadables) script in
    let firmware = c.in_ok-insert_list-3.ensures.inserted (model.lists Firmware) of_loadables
    (c.deref-3.ensures.value ∙ lists.firmware) loadables in
    let ramdisk = c.in_ok-insert_list-4.ensures.inserted (model.lists Ramdisk) of_firmware
    (c.deref-4.ensures.value ∙ lists.ramdisk) firmware in
    let fdt = c.in_ok-insert_list-5.ensures.inserted (model.lists Fdt) of_ramdisk (c.deref-5.ensures.value ∙ lists.fdt) ramdisk in
    let kernel = c.in_ok-insert_list-6.ensures.inserted (model.lists Kernel) of_fdt (c.deref-6.ensures.value ∙ lists.kernel) fdt in
    let compatible = c.in_ok-insert_list-7.ensures.inserted model.compatible of_keys
    (c.deref-7.ensures.value ∙ lists.compatible) kernel in
    let description = c.in_ok-insert_description.ensures in
    search rules
