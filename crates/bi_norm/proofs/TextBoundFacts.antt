use Rattle.std.proofs.Common.{◌≤◌, ◌<◌, ℕ, length, ap, subst, arith, rules}
use Rattle.bi_blob.specs.Tree.{depth_of}
use Rattle.bi_fit.specs.declared.form.Form.{Form}
use Rattle.bi_fit.specs.declared.form.Form.TheVariants.{Embedded, External}
use Rattle.bi_fit.specs.File.{FitMeans}
use Rattle.bi_fit.specs.ImageTree.{ImageTree}
use Rattle.bi_fit.specs.KnownFiles.{shared_file, shared_region, shared_tree}
use Rattle.bi_fit.specs.Text.{fit_text}
use Rattle.bi_fit.proofs.FileFacts.{shared_region_is_repeated}
use Rattle.bi_fit.proofs.FileTrees.{depth-image_tree}
use Rattle.bi_fit.proofs.Meanings.{one_fit_meaning}
use Rattle.bi_legacy.specs.KnownFaults.{limited_to}
use Rattle.bi_norm.specs.KnownBounds.{TextBoundsAreKnown}
use Rattle.bi_norm.specs.NormalForm.{IsTooLong}

-- The normal texts of a file whose images share a region are over limits or within them.

-- The file means this tree within limits that hold it.
pub shared_means : (limit : ℕ) → 1244 ≤ limit → FitMeans (limited_to limit) (shared_file 0 1000) (shared_tree shared_region)
shared_means limit holds =
    let is = shared_region_is_repeated.means in
    let shallow : depth_of (shared_tree shared_region).root ≤ 64 = omega arith in
    record {
      is_file = is;
      within = record {
        short = omega (arith, holds, shared_region_is_repeated.is_length);
        shallow = subst (λ n. n ≤ 64) (depth-image_tree (shared_file 0 1000) (shared_tree shared_region) is) shallow;
      };
    }

shared_is_too_long : (limit : ℕ) (form : Form) → 1244 ≤ limit → limit < length (fit_text form (shared_tree shared_region))
    → IsTooLong (limited_to limit) form (shared_file 0 1000)
shared_is_too_long limit form holds longer = search (rules, shared_means)

-- It means nothing else, so no other text counts.
shared_is_within : (limit : ℕ) (form : Form) → length (fit_text form (shared_tree shared_region)) ≤ limit
    → ¬ (IsTooLong (limited_to limit) form (shared_file 0 1000))
shared_is_within limit form within is =
    let same = one_fit_meaning (shared_file 0 1000) is.tree (shared_tree shared_region) is.means.is_file shared_region_is_repeated.means in
    omega (arith, within, is.longer, ap (λ (tree : ImageTree). length (fit_text form tree)) same)

pub text_bounds_are_known : TextBoundsAreKnown
text_bounds_are_known =
    let embedded = shared_region_is_repeated.embedded_length in
    let external = shared_region_is_repeated.external_length in
    record {
      embedded = shared_is_too_long 3167 Embedded (omega arith) (omega (arith, embedded));
      embedded_within = shared_is_within 3168 Embedded (omega (arith, embedded));
      external = shared_is_too_long 3243 External (omega arith) (omega (arith, external));
      external_within = shared_is_within 3244 External (omega (arith, external));
    }
