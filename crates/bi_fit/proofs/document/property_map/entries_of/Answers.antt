use Rattle.std.proofs.Common.{◌++◌, [], ◌∷◌, refl, sym, ap, subst, ◌∙◌, append_assoc}
use Rattle.std.specs.List.{AllZip}
use Rattle.std.proofs.lemmas.Slice.Zip.{all_zipped_more}
use Rattle.bi_lay.specs.declared.items.Value.TheVariants.{Slice}
use Rattle.bi_fdt.specs.Order.{KeyedProperty}
use Rattle.bi_fdt.specs.Properties.{file_property_of}
use Rattle.bi_fit.specs.PropertyMaps.{IsEntryOf}
use Rattle.bi_fit.proofs.document.property_map.entries_of.Goals as goal

pub loop-rank-preserved : goal.loop-rank-preserved
loop-rank-preserved c =
    let done = c.loop-rank.invariant.0 in
    let keyed : KeyedProperty = (c.in-Some.rank, file_property_of c.in-Some.property) in (
      done ++ keyed ∷ [],
      c.loop-rank.invariant.1 ∙ ap (λ l. done ++ l) c.in-Some.ensures.steps ∙ sym (append_assoc done (keyed ∷ []) c.next.new.self),
      subst (AllZip IsEntryOf (done ++ keyed ∷ [])) (sym c.in_ok-push.ensures.items)
          (all_zipped_more IsEntryOf done c.loop-rank.entries.items keyed (
            c.in-Some.rank,
            Slice c.in-Some.property.value,
          ) c.loop-rank.invariant.2 (refl, refl)),
    )
