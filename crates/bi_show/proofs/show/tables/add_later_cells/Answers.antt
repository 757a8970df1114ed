use Rattle.std.proofs.Common.{◌++◌, List, ℕ, sym, ap, ◌∙◌, append-nil, refl, string_bytes}
use Rattle.std.specs.Iterator.Adapters.{zip_first, zip_second}
use Rattle.std.specs.Slice.Iter.{iter_rest}
use Rattle.std.proofs.lemmas.Slice.Zip.{either_empty_from_Zip}
use Rattle.bi_show.proofs.TableFacts.{no_more_cells}
use Rattle.bi_show.proofs.show.tables.add_later_cells.Goals as goal

pub returns : goal.returns
returns c =
    let page : List ℕ = string_bytes c.loop-width.page in
    let pairs = c.loop-width.width-iterator in
    sym (append-nil page)
    ∙ ap (λ (l : List ℕ). page ++ l)
    (sym (no_more_cells c.loop-width.spaces (iter_rest (zip_first pairs)) (iter_rest (zip_second pairs))
    (either_empty_from_Zip pairs c.next.new.self _ refl c.in-None.ensures.steps)))
    ∙ c.loop-width.invariant
