use Rattle.std.proofs.Common.{refl, sym, ap}
use Rattle.bi_commands.specs.Extracting.{choice_of_part}
use Rattle.bi_c.proofs.Places.{part_in_file, no_part_at}
use Rattle.bi_c.proofs.regions.part_at.Goals as goal

pub returns-in_err-place-clause-none : goal.returns-in_err-place-clause-none
returns-in_err-place-clause-none c = rw c.from_residual-in_err-place.ensures
    (no_part_at c.args.image.now.image c.args.index (sym c.in_err-place.ensures))

pub returns-clause-found : goal.returns-clause-found
returns-clause-found c limits file parsed =
    let part = c.in_ok-part.part.now in
    record {
      bytes = part;
      is_chosen = ap choice_of_part (sym c.in_ok-part.ensures);
      is_size = refl;
      is_there = part_in_file limits file c.args.image.now c.args.index c.in_ok-place.place part parsed
          (sym c.in_ok-part.ensures) (sym c.in_ok-place.ensures);
    }
