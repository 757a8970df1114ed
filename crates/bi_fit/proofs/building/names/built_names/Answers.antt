use Rattle.std.proofs.Common.{sym, ap, subst}
use Rattle.bi_base.specs.Slices.{bytes_of}
use Rattle.bi_fit.specs.ChangedNames.{AreRankedNames}
use Rattle.bi_fit.proofs.BuiltNames.{built_ranked}
use Rattle.bi_fit.proofs.building.names.built_names.Goals as goal

pub new-requires : goal.new-requires
new-requires c =
    subst (λ names. AreRankedNames names (record { payload = 5; offset = 6; position = 7; size = 8; time = 20; digest = 22 }))
    (sym (ap bytes_of c.in_ok-from_array.ensures.items)) built_ranked
