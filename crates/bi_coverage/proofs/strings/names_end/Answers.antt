use Rattle.std.proofs.Common.{sym, subst, ap, ◌∙◌, arith, max}
use Rattle.std.specs.List.{AllByRecursion}
use Rattle.bi_fdt.specs.Properties.{file_property_of}
use Rattle.bi_coverage.specs.Coverage.{properties_end}
use Rattle.bi_coverage.specs.NodeIndices.{HasTokenIn}
use Rattle.bi_coverage.proofs.Ends.{property_more}
use Rattle.bi_coverage.proofs.strings.names_end.Goals as goal

pub counted_end-requires : goal.counted_end-requires
counted_end-requires c =
    (subst (AllByRecursion (HasTokenIn c.args.file.now)) c.in-Some.ensures.steps c.loop-property.invariant.tokens).0

pub loop-property-preserved : goal.loop-property-preserved
loop-property-preserved c = record {
  so_far = property_more c.args.file.now (file_property_of c.in-Some.property) c.next.new.self c.loop-property.end _ _
      (ap (λ l. max c.loop-property.end (properties_end c.args.file.now l)) (sym c.in-Some.ensures.steps)
      ∙ c.loop-property.invariant.so_far)
      (omega (arith, c.counted_end.ensures, c.max-end.ensures));
  tokens = (subst (AllByRecursion (HasTokenIn c.args.file.now)) c.in-Some.ensures.steps c.loop-property.invariant.tokens).1;
}
