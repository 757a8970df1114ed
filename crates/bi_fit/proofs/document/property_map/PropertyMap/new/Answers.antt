use Rattle.std.proofs.Common.{ap}
use Rattle.bi_fit.specs.PropertyMapModels.{among}
use Rattle.bi_fit.proofs.PropertyMaps.{from_sorted-none}
use Rattle.bi_fit.proofs.document.property_map.PropertyMap.new.Goals as goal

pub returns : goal.returns
returns c = rw (c.new.ensures.items) (ap (among c.args.names.now) from_sorted-none)
