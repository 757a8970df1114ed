use Rattle.std.proofs.Common.{ap, refl}
use Rattle.bi_values.specs.ValueNames.{PropertyAt, names_of_path}
use Rattle.bi_values.proofs.known_values.names_of_values_are_known.Goals as goal

pub returns : goal.returns
returns c = record {
  of_field = refl;
  of_path = λ first second. refl;
  of_property = λ path name first is. ap (λ names. PropertyAt (names_of_path names) name.items) is;
}
