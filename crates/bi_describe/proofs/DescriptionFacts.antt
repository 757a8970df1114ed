use Rattle.std.proofs.Common.{◌≡◌, List, T, refl, nat_cmp}
use Rattle.std.specs.Cmp.Lexicographic.{slice_cmp}
use Rattle.std.specs.Fmt.{digits}
use Rattle.std.specs.FinMap.{entries, from_sorted, is_sorted, entries-from_sorted}
use Rattle.bi_base.specs.Cells.{cell, cell8}
use Rattle.bi_blob.specs.Tree.{Property}
use Rattle.bi_fit.proofs.FileFacts.{no_entries}
use Rattle.bi_describe.specs.KnownDescriptions.{described_properties, load_and_os, only_algo, only_data_value, DescriptionsAreKnown}

-- Small boot images have known descriptions.

-- Properties in byte order stay in their order.
pub sorted_entries : (properties : List Property) → T (is_sorted (slice_cmp nat_cmp) properties) →
    entries (from_sorted {R = slice_cmp nat_cmp} properties) ≡ properties
sorted_entries properties sorted = entries-from_sorted (slice_cmp nat_cmp) properties sorted

pub descriptions_are_known : DescriptionsAreKnown
unfolding digits cell cell8
descriptions_are_known = record {
  no_parts = refl;
  two_parts = refl;
  properties = rw (sorted_entries described_properties tt, no_entries) refl;
  images = rw (sorted_entries load_and_os tt, sorted_entries only_algo tt, sorted_entries only_data_value tt, no_entries) refl;
  no_parts_json = refl;
  properties_json = rw (sorted_entries described_properties tt, no_entries) refl;
  images_json = rw (sorted_entries load_and_os tt, sorted_entries only_algo tt, sorted_entries only_data_value tt, no_entries) refl;
}
