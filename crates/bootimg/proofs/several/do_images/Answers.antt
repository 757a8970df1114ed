use Rattle.std.proofs.Common.{refl}
use Rattle.bootimg.proofs.DoneImages.{images_to_file, images_to_output}
use Rattle.bootimg.proofs.several.do_images.Goals as goal

pub returns-in-None : goal.returns-in-None
returns-in-None g c = images_to_output _ c.args.hints c.args.request.now _ c.in-None.is c.do_each.ensures.done

pub returns-in-Some : goal.returns-in-Some
returns-in-Some g c = images_to_file _ c.args.hints c.args.request.now _ c.in-Some.name c.in-Some.is c.do_each_to_file.ensures refl
