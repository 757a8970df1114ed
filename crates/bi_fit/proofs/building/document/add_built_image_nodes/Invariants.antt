use Rattle.std.proofs.Common.{◌≡◌, ◌≤◌, drop}
use Rattle.bi_blob.specs.Events.{events}
use Rattle.bi_blob.specs.Layout.{longest_text}
use Rattle.bi_fit.specs.NormalNodes.{with_events, AreWithin}
use Rattle.bi_fit.proofs.NodeEvents.{IsAdding}
use Rattle.bi_fit.specs.BuiltNames.{built_names}
use Rattle.bi_fit.specs.NamedImages.{head_model, named_models}
use Rattle.bi_fit.specs.BuiltNodes.{built_payloads, built_image_nodes}
use Rattle.bi_fit.proofs.building.document.add_built_image_nodes.Given as goal

abbrev pub invariant-loop-index : goal.invariant-loop-index
invariant-loop-index l = record {
  adding : IsAdding l.doc (with_events l.fn.doc
      (events (built_image_nodes l.fn.form 0 (head_model l.parts.head) l.parts.plan.algorithms.now (named_models l.parts.images.now))))
      (built_image_nodes l.fn.form l.area.end (head_model l.parts.head) l.parts.plan.algorithms.now
      (named_models (drop l.index l.parts.images.now)));
  within : AreWithin l.fn.form l.area.end (built_payloads (named_models (drop l.index l.parts.images.now)));
  small : l.area.end ≤ longest_text;
  form : l.area.form ≡ l.fn.form;
  names : l.doc.names ≡ built_names;
}
