use Rattle.std.proofs.Common.{sym, ap, subst, ◌∙◌}
use Rattle.bi_blob.specs.Blob.{IsWithin}
use Rattle.bi_blob.specs.Lookups.{node_named}
use Rattle.bi_fit.specs.Names.{images_name}
use Rattle.bi_describe.proofs.InsideBlobs.{no_node, none_found}
use Rattle.bi_describe.proofs.describe.inside.blobs.read_blob.Goals as goal

pub returns-then-is_some-clause-none : goal.returns-then-is_some-clause-none
returns-then-is_some-clause-none c tree is =
    let read = c.in-Ok.ensures.read in
    let same = read.only tree.cpu tree.reservations is.root is.blob in
    no_node c.child.result
    (c.child.ensures.child ∙ ap (λ s. node_named s.children images_name) c.root.ensures.root
    ∙ ap (λ root. node_named root.children images_name) same.same_root ∙ is.no_images)
    (sym c.is_some.ensures ∙ c.if-is_some.true)

pub returns-clause-some : goal.returns-clause-some
returns-clause-some c =
    let read = c.in-Ok.ensures.read in
    let within = read.within in
    record {
      is_file = read.is_file;
      is_blob = read.means;
      within = subst (IsWithin c.args.limits c.args.payload.now)
          (sym (read.only within.cpu within.reservations within.root within.blob).same_root) within.within;
      no_images = sym (c.child.ensures.child ∙ ap (λ s. node_named s.children images_name) c.root.ensures.root)
          ∙ none_found c.child.result (sym c.is_some.ensures ∙ c.if-is_some.false);
    }
