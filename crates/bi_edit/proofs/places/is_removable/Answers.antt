use Rattle.std.proofs.Common.{◌∷◌, [], not, bytes_eq, sym, ap, ◌∙◌}
use Rattle.bi_edit.specs.Places.{names_of_path}
use Rattle.bi_edit.proofs.RemovablePaths.{one_item, removable_one}
use Rattle.bi_edit.proofs.places.is_removable.Goals as goal

pub returns-in-len1 : goal.returns-in-len1
returns-in-len1 c =
    removable_one c.args.path.now c.as_slice.result.now c.ne.result c.names.ensures.path
    (sym c.names.ensures.names
    ∙ ap names_of_path (one_item c.names.result.now c.name-item.result c.in-len1.len_at_least c.in-len1.len_below c.name-item.is)
    ∙ ap (λ name. name ∷ []) (sym c.as_slice.ensures.value))
    (c.ne.ensures ∙ ap (λ name. not (bytes_eq c.as_slice.result.now name)) c.as_slice-in-len1.ensures)
