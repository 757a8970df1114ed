use Rattle.bi_show.proofs.LayoutFacts.{name_of_image, no_name_of_image}
use Rattle.bi_show.proofs.show.layout.image_name.Goals as goal

pub returns-in-Some : goal.returns-in-Some
returns-in-Some c =
    let found = c.in-Some.ensures.lookup.3 in
    name_of_image c.args.images.now c.args.index c.in-Some.image.now found.0 (found.1 c.in-Some.image.now)

pub returns-in-None : goal.returns-in-None
returns-in-None c = no_name_of_image c.args.images.now c.args.index c.in-None.ensures.lookup.3
