use Rattle.std.proofs.Common.{◌≡◌, [], ◌∷◌, Some, codes, lit<, lit≤, refl, sym, subst}
use Rattle.std.specs.List.{AllZip}
use Rattle.bi_base.specs.Cells.{cell, cell8, u32_at}
use Rattle.bi_base.specs.Crc.{crc32, crc_after, low_bits}
use Rattle.bi_base.specs.Strings.{text_before_nul}
use Rattle.bi_blob.specs.Layout.{text_of_events, text_of_blocks}
use Rattle.bi_fit.specs.Judgement.{verdicts_of}
use Rattle.bi_fit.specs.KnownJudgements.{default_list, good_crc}
use Rattle.bi_fit.specs.Names.{algo_name, default_name, key_name, value_name}
use Rattle.bi_fit.specs.declared.key.Key.TheVariants.{Kernel}
use Rattle.bi_fit.proofs.JudgementFacts.{find-properties}
use Rattle.bi_hash.specs.Algos.{find_algorithm}
use Rattle.bi_hash.specs.Digests.{digest_of}
use Rattle.bi_hash.specs.Verdicts.{verdict_of}
use Rattle.bi_legacy.specs.File.{header}
use Rattle.bi_legacy.specs.KnownFiles.{kernel_file_with_rest}
use Rattle.bi_legacy.specs.KnownImages.{kernel_image, multi_file, multi_image}
use Rattle.bi_legacy.specs.Laws.{OneLegacyMeaning}
use Rattle.bi_norm.proofs.ComparisonFacts.{kernel_with_rest_means, multi_means}
use Rattle.bi_report.proofs.LegacyConcernFacts.{is_read, known_model}
use Rattle.bi_show.specs.KnownTrees.{shown_configuration, shown_default, shown_file}
use Rattle.bi_show.proofs.ShownTrees.{shown_hash, shown_meaning, shown_means}
use Rattle.bi_commands.specs.KnownChoices.{second_default}
use Rattle.bi_c.specs.KnownElements.{IndicesAreKnown, LegacyElementsAreKnown, PlaceNumbersAreKnown, TreeElementsAreKnown}
use Rattle.bi_c.specs.KnownElements.{shown_hash_element}
use Rattle.bi_c.specs.VerdictElements.{IsHashElement}
use Rattle.bi_c.proofs.AnswerFacts.{widest_is_in_range}

-- The arrays that calls from C fill for small files are known.

pub place_numbers_are_known : PlaceNumbersAreKnown
place_numbers_are_known = record {
  no_source = refl;
  data_property = λ property. refl;
  data_offset = λ offset size. refl;
  data_position = λ position size. refl;
  payload = refl;
  no_payload = refl;
}

pub indices_are_known : IndicesAreKnown
unfolding text_before_nul
indices_are_known = record {
  first = refl;
  second = refl;
  no_default = refl;
  default = refl;
  other_default = refl;
  default_of_tree = rw (find-properties second_default default_name) refl;
  no_default_of_tree = rw (find-properties default_list default_name) refl;
  listed = refl;
  no_configuration = record { is = (refl, refl); only = λ other other_index is. is };
  no_key = record { is = (refl, refl); only = λ other other_index is. is };
  bad_list = record { is = (refl, refl); only = λ other other_index is. is };
  missing = record { is = (refl, refl); only = λ other other_index is. is };
  no_reason = λ reason index is. is;
  reservation = refl;
}

pub legacy_elements_are_known : OneLegacyMeaning → LegacyElementsAreKnown
unfolding header cell
legacy_elements_are_known one_legacy = record {
  fields = record {
    limits = widest_is_in_range;
    image = known_model one_legacy kernel_file_with_rest kernel_image kernel_with_rest_means 7 refl;
    is_read = is_read one_legacy kernel_file_with_rest kernel_image kernel_with_rest_means 7 refl;
    are_fields = refl;
    name_there = record { in_file = lit≤ tt; is_slice = refl };
  };
  multi_fields = record {
    limits = widest_is_in_range;
    image = known_model one_legacy multi_file multi_image multi_means 0 refl;
    is_read = is_read one_legacy multi_file multi_image multi_means 0 refl;
    are_fields = refl;
    name_there = record { in_file = lit≤ tt; is_slice = refl };
  };
  part = record {
    limits = widest_is_in_range;
    image = known_model one_legacy kernel_file_with_rest kernel_image kernel_with_rest_means 7 refl;
    is_read = is_read one_legacy kernel_file_with_rest kernel_image kernel_with_rest_means 7 refl;
    are_regions = refl;
    is_unused = refl;
  };
  parts = record {
    limits = widest_is_in_range;
    image = known_model one_legacy multi_file multi_image multi_means 0 refl;
    is_read = is_read one_legacy multi_file multi_image multi_means 0 refl;
    are_regions = refl;
    is_unused = refl;
  };
}

-- ---- trees

verdicts_are : verdicts_of shown_meaning ≡ shown_hash ∷ []
unfolding text_before_nul verdict_of find_algorithm digest_of cell crc32 crc_after low_bits
verdicts_are = rw (find-properties good_crc algo_name, find-properties good_crc value_name) refl

pub tree_elements_are_known : TreeElementsAreKnown
unfolding shown_means text_of_events text_of_blocks cell cell8 u32_at text_before_nul verdict_of find_algorithm digest_of crc32 crc_after
    low_bits
tree_elements_are_known = record {
  fields = record { limits = widest_is_in_range; tree = shown_meaning; means = shown_means; is_cpu = refl; is_size = refl };
  reservations = record {
    limits = widest_is_in_range;
    tree = shown_meaning;
    means = shown_means;
    are_elements = refl;
    no_value = refl;
  };
  images = record {
    limits = widest_is_in_range;
    tree = shown_meaning;
    means = shown_means;
    are_elements = refl;
    have_bytes = (
      record { is_size = refl; is_there = record { in_file = lit≤ tt; is_slice = refl } },
      record { is_size = refl; is_there = record { in_file = lit≤ tt; is_slice = refl } },
      tt,
    );
    no_value = refl;
  };
  configurations = record {
    limits = widest_is_in_range;
    tree = shown_meaning;
    means = shown_means;
    are_regions = refl;
    have_bytes = (record { is_size = refl; is_there = record { in_file = lit≤ tt; is_slice = refl } }, tt);
    is_default = rw (find-properties shown_default default_name) refl;
  };
  kernels = record {
    arguments = record { limits = widest_is_in_range; is_key = lit< tt };
    tree = shown_meaning;
    means = shown_means;
    listed = record { name = codes "a"; payload = Some (codes "abc") } ∷ [];
    is_listed = rw (find-properties shown_configuration (key_name Kernel)) refl;
    are_indices = refl;
    within = (lit< tt, tt);
    no_value = refl;
  };
  hashes = record {
    limits = widest_is_in_range;
    tree = shown_meaning;
    means = shown_means;
    are_elements = refl;
    are_verdicts = subst (λ v. AllZip (IsHashElement shown_file) (shown_hash_element ∷ []) v) (sym verdicts_are) (
      record {
        image = record { is_size = refl; is_there = record { in_file = lit≤ tt; is_slice = refl } };
        node = record { is_size = refl; is_there = record { in_file = lit≤ tt; is_slice = refl } };
        algorithm = record { is_size = refl; is_there = record { in_file = lit≤ tt; is_slice = refl } };
        value = record { is_size = refl; is_there = record { in_file = lit≤ tt; is_slice = refl } };
        verdict = refl;
      },
      tt,
    );
    no_value = refl;
  };
  children = record {
    limits = widest_is_in_range;
    found = _;
    is_found = record { tree = shown_meaning; means = shown_means; is_found = refl };
    are_regions = refl;
    have_bytes = (
      record { is_size = refl; is_there = record { in_file = lit≤ tt; is_slice = refl } },
      (record { is_size = refl; is_there = record { in_file = lit≤ tt; is_slice = refl } }, tt),
    );
    no_value = refl;
  };
  properties = record {
    limits = widest_is_in_range;
    found = _;
    is_found = record { tree = shown_meaning; means = shown_means; is_found = refl };
    are_elements = refl;
    have_bytes = (
      record {
        name = record { is_size = refl; is_there = record { in_file = lit≤ tt; is_slice = refl } };
        value = record { is_size = refl; is_there = record { in_file = lit≤ tt; is_slice = refl } };
      },
      (
        record {
          name = record { is_size = refl; is_there = record { in_file = lit≤ tt; is_slice = refl } };
          value = record { is_size = refl; is_there = record { in_file = lit≤ tt; is_slice = refl } };
        },
        tt,
      ),
    );
    no_value = refl;
  };
  value = record {
    limits = widest_is_in_range;
    found = _;
    is_found = record { tree = shown_meaning; means = shown_means; is_found = refl };
    property = _;
    is_named = refl;
    is_size = refl;
    is_offset = refl;
    is_there = record { in_file = lit≤ tt; is_slice = refl };
  };
}
