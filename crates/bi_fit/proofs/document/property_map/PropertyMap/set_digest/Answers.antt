use Rattle.std.proofs.Common.{subst}
use Rattle.bi_fdt.specs.Numbers.{IsNumberOf}
use Rattle.bi_fit.specs.Names.{value_name}
use Rattle.bi_fit.proofs.document.property_map.PropertyMap.set_digest.Goals as goal

pub insert-requires : goal.insert-requires
insert-requires c = (
  value_name,
  subst (λ m. IsNumberOf m.names value_name c.ranks-ranks.result.digest) c.self.view_is c.ranks-ranks.ensures.numbers.digest,
)
