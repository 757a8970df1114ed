use Rattle.std.proofs.Common.{[], ◌∷◌, ◌++◌, codes, replicate, refl, lit≤, lit<}
use Rattle.std.proofs.lemmas.Bool.{eqb-false}
use Rattle.bi_base.specs.Cells.{cell}
use Rattle.bi_base.specs.Crc.{crc32, crc_after, low_bits}
use Rattle.bi_base.proofs.ByteLists.{bytes_by_test}
use Rattle.bi_legacy.specs.File.{header}
use Rattle.bi_legacy.specs.Meaning.{IsImageName}
use Rattle.bi_legacy.specs.KnownFiles.{multi_data_with_rest, FreeBytesHaveNoMeaning}

-- Bytes after the zero of a name, after the data, between the parts and after the last part do not change what a file means.

-- The name `k`.
k_is_name : IsImageName (codes "k")
k_is_name = record { short = lit≤ tt; no_zero = (eqb-false _ _ refl, tt) }

pub free_bytes_have_no_meaning : FreeBytesHaveNoMeaning
unfolding header cell crc32 crc_after low_bits
free_bytes_have_no_meaning = record {
  kernel = record {
    field = codes "k" ++ (0 ∷ replicate 30 0xff);
    body = codes "123456789";
    rest = replicate 7 0xff;
    file_is = refl;
    ranges = record {
      time = lit< tt;
      load = lit< tt;
      entry = lit< tt;
      os = lit< tt;
      arch = lit< tt;
      image_type = lit< tt;
      compression = lit< tt;
    };
    name = record { padding = 0 ∷ replicate 30 0xff; field_is = refl; padding_is = refl; whole = refl; is_name = k_is_name };
    size = lit< tt;
    parts = refl;
    bytes = bytes_by_test _ refl;
  };
  multi = record {
    field = codes "k" ++ (0 ∷ replicate 30 0);
    body = multi_data_with_rest;
    rest = [];
    file_is = refl;
    ranges = record {
      time = lit< tt;
      load = lit< tt;
      entry = lit< tt;
      os = lit< tt;
      arch = lit< tt;
      image_type = lit< tt;
      compression = lit< tt;
    };
    name = record { padding = 0 ∷ replicate 30 0; field_is = refl; padding_is = refl; whole = refl; is_name = k_is_name };
    size = lit< tt;
    parts = record {
      rest = codes "hello" ++ (0xff ∷ 0xff ∷ 0xff ∷ (codes "abc" ++ replicate 2 0xff));
      body_is = refl;
      are_table_parts = (lit< tt, (lit< tt, tt));
      padded_parts = (replicate 3 0xff, codes "abc" ++ replicate 2 0xff, refl, refl, (replicate 2 0xff, refl));
    };
    bytes = bytes_by_test _ refl;
  };
  no_parts = record {
    field = codes "k" ++ (0 ∷ replicate 30 0);
    body = cell 0;
    rest = [];
    file_is = refl;
    ranges = record {
      time = lit< tt;
      load = lit< tt;
      entry = lit< tt;
      os = lit< tt;
      arch = lit< tt;
      image_type = lit< tt;
      compression = lit< tt;
    };
    name = record { padding = 0 ∷ replicate 30 0; field_is = refl; padding_is = refl; whole = refl; is_name = k_is_name };
    size = lit< tt;
    parts = record { rest = []; body_is = refl; are_table_parts = tt; padded_parts = tt };
    bytes = bytes_by_test _ refl;
  };
}
