use Rattle.std.specs.Prelude.{◌≡◌, ℕ, List, [], codes}
use Rattle.bi_values.specs.KnownValues.{valued_file}
use Rattle.bi_c.specs.ValueCalls.{HasValueForm, IsGotten, IsValueFailure, NameNothing}
use Rattle.bi_c.specs.declared.argument.Argument.TheVariants as argument
use Rattle.bi_c.specs.declared.failure.Failure.TheVariants.{WrongArgument, NotFound}

-- What the call that gets a value returns for a small file, by which a reader can judge the
-- definitions.

-- The texts of a property of the root, a field of a flattened image tree, a form that is not there,
-- and words that do not name one value.
pub record ValueCallsAreKnown : Type 0 where
  pub texts : IsGotten 0x7fffffff 64 1 (codes "/") (codes "model") valued_file
      (codes "two\ntexts\n") 0
  pub only : (text : List ℕ) (value : ℕ)
      → IsGotten 0x7fffffff 64 1 (codes "/") (codes "model") valued_file text value
      → (text ≡ codes "two\ntexts\n") × (value ≡ 0)
  pub other_kind : IsValueFailure 0x7fffffff 64 0 (codes "load") [] valued_file (NotFound 1 0)
  pub other_form : IsValueFailure 0x7fffffff 64 4 (codes "/") (codes "model") valued_file
      (WrongArgument argument.Form 0)
  pub bad_words : IsValueFailure 0x7fffffff 64 0 (codes "size") [] valued_file
      (WrongArgument argument.Place 0)
  pub no_form : ¬ (HasValueForm 0x7fffffff 64 4)
  pub no_field : NameNothing (codes "size") []
  pub two_fields : NameNothing (codes "load") (codes "name")
