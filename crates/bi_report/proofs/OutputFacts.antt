use Rattle.std.proofs.Common.{◌≡◌, ◌≢◌, ◌↔◌, ℕ, Bool, true, false, IsTrue, List, [], ◌∷◌, ◌++◌, codes, length, Some, None, refl, sym}
use Rattle.std.proofs.Common.{ap, subst, ◌∙◌}
use Rattle.std.proofs.Common.{◌≤◌, ◌⊎◌, inl, inr, lit≤, true≢false, Option, arith}
use Rattle.std.specs.Fmt.{digits}
use Rattle.bi_base.specs.Cells.{cell, cell8, u32_at}
use Rattle.bi_base.specs.Crc.{crc32, crc_after, low_bits}
use Rattle.bi_base.specs.Limits.{Limits, widest}
use Rattle.bi_base.specs.Strings.{text_before_nul}
use Rattle.bi_blob.specs.KnownTexts.{smallest_text, smallest_tree}
use Rattle.bi_blob.specs.Layout.{text_of_events, text_of_blocks, tree_with_places}
use Rattle.bi_blob.specs.Tree.{Nodes, none, node, Root, Property, FileNode, tree_without_order, tree_without_places}
use Rattle.bi_fit.specs.File.{FitMeans}
use Rattle.bi_fit.specs.ImageTree.{ImageTree, image_nodes, nodes_or_none, tree_without_payloads}
use Rattle.bi_fit.specs.Judgement.{CheckedHash, verdicts_of}
use Rattle.bi_fit.specs.KnownFiles.{plain_tree, region_of, three_external, three_external_nodes, three_tree, tree_with_images}
use Rattle.bi_fit.specs.KnownJudgements.{configuration_lists, default_list, good_crc, other_lists, short_crc}
use Rattle.bi_fit.specs.Names.{algo_name, data_name, default_name, key_name, value_name}
use Rattle.bi_fit.specs.declared.key.Key.TheVariants.{Kernel, Fdt, Ramdisk, Firmware, Loadables, Script}
use Rattle.bi_fit.proofs.FileFacts.{blob_by_test, smallest_means, three_plain}
use Rattle.bi_fit.proofs.JudgementFacts.{find-properties}
use Rattle.bi_hash.specs.Algos.{find_algorithm}
use Rattle.bi_hash.specs.Digests.{digest_of}
use Rattle.bi_hash.specs.Verdicts.{verdict_of}
use Rattle.bi_hash.specs.declared.verdicts.Verdict.{Verdict}
use Rattle.bi_hash.specs.declared.verdicts.Verdict.TheVariants.{Good, Bad}
use Rattle.bi_legacy.specs.File.{LegacyMeans, header}
use Rattle.bi_legacy.specs.KnownFiles.{kernel_file_with_rest}
use Rattle.bi_legacy.specs.KnownImages.{kernel_file, kernel_image}
use Rattle.bi_legacy.specs.Laws.{OneLegacyMeaning}
use Rattle.bi_legacy.specs.Meaning.{LegacyImage}
use Rattle.bi_norm.specs.Meaning.{OfLegacy, OfFit}
use Rattle.bi_norm.proofs.ComparisonFacts.{kernel_means, kernel_with_rest_means, only_image}
use Rattle.bi_norm.proofs.KindLaws.{one_file_meaning}
use Rattle.bi_common.specs.declared.format.Format.{Format}
use Rattle.bi_common.specs.declared.format.Format.TheVariants.{Lines, Json}
use Rattle.bi_common.specs.Json.{json_line}
use Rattle.bi_common.specs.Lines.{text_of_lines}
use Rattle.bi_common.specs.PayloadBounds.{payloads_length}
use Rattle.bi_norm.specs.Comparing.{MeansOnly}
use Rattle.bi_report.specs.declared.check.Allowed.{Allowed}
use Rattle.bi_report.specs.CheckedFiles.{IsChecked, concerns_text}
use Rattle.bi_report.specs.Checking.{AreConcerns, Concern, OfImageTree as OfTreeConcerns, TrailingBytes, UnhashedImage, Unsigned}
use Rattle.bi_report.specs.Checking.{allowed_by_default, kept_concerns}
use Rattle.bi_report.specs.SignedTrees.{IsOverCheckBound}
use Rattle.bi_coverage.specs.Signatures.{all_needed_length}
use Rattle.bi_report.specs.KnownConcerns.{HasOnlyConcerns}
use Rattle.bi_report.specs.KnownOutputs.{three_object}
use Rattle.bi_report.specs.KnownOutputs.{CheckOutputsAreKnown, IsOnlyCheck, JsonListingsAreKnown, VerifyOutputsAreKnown, file_with_hash}
use Rattle.bi_report.specs.KnownOutputs.{file_without_hash}
use Rattle.bi_report.specs.ListedFiles.{IsFitListing, OfLegacyImage, OfImageTree}
use Rattle.bi_report.specs.Reports.{AreGood, counts_of, hash_report_lines, hash_report_object, hashes_of}
use Rattle.bi_report.specs.VerifiedFiles.{IsVerifyOutput}
use Rattle.bi_report.proofs.LegacyConcernFacts.{is_read, known_model, legacy_concerns_are_known}

-- Whole outputs on small files.

-- ---- the files

-- The image nodes of a tree.
abbrev nodes_in : Root (List Property) → Nodes FileNode
nodes_in root = nodes_or_none (image_nodes (tree_with_places [] root))

-- What a file with this tree means, if its images have these payloads.
abbrev meaning_with : Root (List Property) → List (Option (List ℕ)) → ImageTree
meaning_with root payloads = record {
  cpu = 0;
  reservations = [];
  root = tree_without_payloads (tree_without_order (tree_without_places (tree_with_places [] root)));
  payloads = payloads;
}

-- The tree of the file with a hash node, and its meaning.
abbrev hashed_root : List Property → Root (List Property)
hashed_root properties =
    tree_with_images
    (node (codes "a") ((data_name, codes "abc") ∷ []) (node (codes "hash-1") properties none none) none)

abbrev hashed_meaning : List Property → ImageTree
hashed_meaning properties = meaning_with (hashed_root properties) (Some (codes "abc") ∷ [])

good_means : FitMeans widest (file_with_hash good_crc) (hashed_meaning good_crc)
unfolding text_of_events text_of_blocks cell cell8 u32_at
good_means = record {
  is_file = record {
    root = tree_with_places [] (hashed_root good_crc);
    blob = blob_by_test (hashed_root good_crc) [] refl refl (lit≤ tt);
    images = _;
    has_images = refl;
    payloads = (refl, tt);
    is_root = refl;
  };
  within = record { short = lit≤ tt; shallow = lit≤ tt };
}

bad_means : FitMeans widest (file_with_hash short_crc) (hashed_meaning short_crc)
unfolding text_of_events text_of_blocks cell cell8 u32_at
bad_means = record {
  is_file = record {
    root = tree_with_places [] (hashed_root short_crc);
    blob = blob_by_test (hashed_root short_crc) [] refl refl (lit≤ tt);
    images = _;
    has_images = refl;
    payloads = (refl, tt);
    is_root = refl;
  };
  within = record { short = lit≤ tt; shallow = lit≤ tt };
}

-- Its hash node.
abbrev one_hash : List ℕ → Verdict → CheckedHash
one_hash value verdict = record {
  image = codes "a";
  node_name = codes "hash-1";
  algo = Some (codes "crc32");
  value = Some value;
  verdict = verdict;
}

good_hash : verdicts_of (hashed_meaning good_crc) ≡ one_hash (0x35 ∷ 0x24 ∷ 0x41 ∷ 0xc2 ∷ []) Good ∷ []
unfolding text_before_nul verdict_of find_algorithm digest_of cell crc32 crc_after low_bits
good_hash = rw (find-properties good_crc algo_name, find-properties good_crc value_name) refl

bad_hash : verdicts_of (hashed_meaning short_crc) ≡ one_hash (0x35 ∷ 0x24 ∷ 0x41 ∷ []) Bad ∷ []
unfolding text_before_nul verdict_of find_algorithm digest_of cell crc32 crc_after low_bits
bad_hash = rw (find-properties short_crc algo_name, find-properties short_crc value_name) refl

-- ---- verify

bad_is_not_good : Bad ≢ Good
bad_is_not_good e = absurd cc

-- What holds for the same is the same.
pub same_bool : (one other : Bool) (P : Type 0) → (IsTrue one ↔ P) → (IsTrue other ↔ P) → one ≡ other
same_bool true true P is also = refl
same_bool false false P is also = refl
same_bool true false P is also = sym (also.1 (is.0 refl))
same_bool false true P is also = is.1 (also.0 refl)

-- The report on these hash nodes, in a form.
abbrev report_on : Format → List CheckedHash → List ℕ
report_on Lines hashes = text_of_lines (hash_report_lines hashes (counts_of hashes))
report_on Json hashes = json_line (hash_report_object hashes (counts_of hashes))

module _ (one_legacy : OneLegacyMeaning) where
  one_value : (format other_format : Format) (limits other_limits : Limits) (value other : Bool) (file text other_text : List ℕ) →
      IsVerifyOutput format limits value file text → IsVerifyOutput other_format other_limits other file other_text → value ≡ other
  one_value format other_format limits other_limits value other file text other_text is also =
      let same : also.report.meaning ≡ is.report.meaning =
      one_file_meaning one_legacy other_limits limits file also.report.meaning is.report.meaning also.report.means is.report.means in
      same_bool value other (AreGood (hashes_of is.report.meaning)) is.all_good
      (subst (λ meaning. IsTrue other ↔ AreGood (hashes_of meaning)) same also.all_good)

  pub verify_outputs_are_known : VerifyOutputsAreKnown
  unfolding digits
  verify_outputs_are_known = record {
    legacy = record {
      report = record { meaning = OfLegacy kernel_image; means = kernel_means; is = refl };
      all_good = (λ _. tt, λ _. refl);
    };
    legacy_json = record {
      report = record { meaning = OfLegacy kernel_image; means = kernel_means; is = refl };
      all_good = (λ _. tt, λ _. refl);
    };
    no_hash = record {
      report = record { meaning = OfFit (plain_tree [] []); means = smallest_means; is = refl };
      all_good = (λ _. tt, λ _. refl);
    };
    good = record {
      report = record {
        meaning = OfFit (hashed_meaning good_crc);
        means = good_means;
        is = sym (ap (report_on Lines) good_hash);
      };
      all_good = (λ _. subst AreGood (sym good_hash) (refl, tt), λ _. refl);
    };
    good_json = record {
      report = record {
        meaning = OfFit (hashed_meaning good_crc);
        means = good_means;
        is = sym (ap (report_on Json) good_hash);
      };
      all_good = (λ _. subst AreGood (sym good_hash) (refl, tt), λ _. refl);
    };
    bad = record {
      report = record {
        meaning = OfFit (hashed_meaning short_crc);
        means = bad_means;
        is = sym (ap (report_on Lines) bad_hash);
      };
      all_good = (λ no. absurd (true≢false (sym no)), λ good. let all = subst AreGood bad_hash good in absurd (bad_is_not_good all.0));
    };
    bad_json = record {
      report = record {
        meaning = OfFit (hashed_meaning short_crc);
        means = bad_means;
        is = sym (ap (report_on Json) bad_hash);
      };
      all_good = (λ no. absurd (true≢false (sym no)), λ good. let all = subst AreGood bad_hash good in absurd (bad_is_not_good all.0));
    };
    one = one_value;
  }

  -- ---- check

  -- It means nothing else.
  only_tree : (file : List ℕ) (tree : ImageTree) → FitMeans widest file tree → MeansOnly widest file (OfFit tree)
  only_tree file tree means = record {
    means = means;
    only = λ other other_means. one_file_meaning one_legacy widest widest file other (OfFit tree) other_means means;
  }

  -- A tree with few bytes of payloads, which needs no paths, is within the bounds of checking.
  within_bounds : (tree : ImageTree) → payloads_length tree.payloads ≤ 0x7fffffff → all_needed_length tree ≡ 0 →
      ¬ (IsOverCheckBound widest (OfFit tree))
  within_bounds tree few no_paths (inl over) = omega (arith, over, few)
  within_bounds tree few no_paths (inr over) = omega (arith, over, no_paths)

  -- What is said of a file with these concerns.
  abbrev checked : (format : Format) (allowed : Allowed) (file text : List ℕ) (tree : ImageTree) (concerns : List Concern) →
      FitMeans widest file tree → AreConcerns widest file concerns → payloads_length tree.payloads ≤ 0x7fffffff →
      all_needed_length tree ≡ 0 → text ≡ concerns_text format allowed concerns → IsChecked format allowed widest file text
  checked format allowed file text tree concerns means are few no_paths is = record {
    meaning = OfFit tree;
    means = only_tree file tree means;
    within = within_bounds tree few no_paths;
    concerns = concerns;
    are_concerns = are;
    is_text = is;
  }

  abbrev bare_root : Root (List Property)
  bare_root = tree_with_images (node (codes "a") ((data_name, codes "abc") ∷ []) none none)

  abbrev bare_meaning : ImageTree
  bare_meaning = meaning_with bare_root (Some (codes "abc") ∷ [])

  bare_means : FitMeans widest file_without_hash bare_meaning
  unfolding text_of_events text_of_blocks cell cell8 u32_at
  bare_means = record {
    is_file = record {
      root = tree_with_places [] bare_root;
      blob = blob_by_test bare_root [] refl refl (lit≤ tt);
      images = nodes_in bare_root;
      has_images = refl;
      payloads = (refl, tt);
      is_root = refl;
    };
    within = record { short = lit≤ tt; shallow = lit≤ tt };
  }

  smallest_concerns : AreConcerns widest smallest_text (Unsigned None ∷ [])
  unfolding text_of_events text_of_blocks cell cell8 u32_at
  smallest_concerns =
      let means : FitMeans widest smallest_text (plain_tree [] []) = record {
        is_file = record {
          root = tree_with_places [] smallest_tree;
          blob = blob_by_test smallest_tree [] refl refl (lit≤ tt);
          images = none;
          has_images = refl;
          payloads = tt;
          is_root = refl;
        };
        within = record { short = lit≤ tt; shallow = lit≤ tt };
      } in
      OfTreeConcerns (plain_tree [] []) means refl

  bare_concerns : AreConcerns widest file_without_hash (UnhashedImage (codes "a") ∷ Unsigned None ∷ [])
  unfolding text_of_events text_of_blocks cell cell8 u32_at
  bare_concerns =
      let means : FitMeans widest file_without_hash bare_meaning = record {
        is_file = record {
          root = tree_with_places [] bare_root;
          blob = blob_by_test bare_root [] refl refl (lit≤ tt);
          images = nodes_in bare_root;
          has_images = refl;
          payloads = (refl, tt);
          is_root = refl;
        };
        within = record { short = lit≤ tt; shallow = lit≤ tt };
      } in
      OfTreeConcerns bare_meaning means refl

  -- A legacy image is within the bounds.
  no_bounds : (image : LegacyImage) → ¬ (IsOverCheckBound widest (OfLegacy image))
  no_bounds image (inl over) = over
  no_bounds image (inr over) = over

  -- A legacy image has one output, since it has only these concerns.
  only_check : (clean : Bool) (file text : List ℕ) (image : LegacyImage) (concerns : List Concern) → LegacyMeans widest file image →
      HasOnlyConcerns file concerns → text ≡ concerns_text Lines allowed_by_default concerns →
      (IsTrue clean ↔ (kept_concerns allowed_by_default concerns ≡ [])) → IsOnlyCheck clean file text
  only_check clean file text image concerns means are is is_empty =
      let checked : IsChecked Lines allowed_by_default widest file text = record {
        meaning = OfLegacy image;
        means = only_image one_legacy file image means;
        within = no_bounds image;
        concerns = concerns;
        are_concerns = are.are_concerns;
        is_text = is;
      } in
      record {
        is_output = record { checked = checked; is_empty = is_empty };
        is_text = checked;
        only = λ other_clean other output.
            let same = are.only output.checked.concerns output.checked.are_concerns in (
              same_bool other_clean clean (kept_concerns allowed_by_default concerns ≡ [])
                  (subst (λ concerns. IsTrue other_clean ↔ (kept_concerns allowed_by_default concerns ≡ [])) same output.is_empty) is_empty,
              output.checked.is_text ∙ ap (concerns_text Lines allowed_by_default) same ∙ sym is,
            );
      }

  pub check_outputs_are_known : CheckOutputsAreKnown
  unfolding digits text_before_nul
  check_outputs_are_known = record {
    legacy =
        only_check true kernel_file [] kernel_image (Unsigned None ∷ []) kernel_means (legacy_concerns_are_known one_legacy).nothing refl
        (λ _. refl, λ _. refl);
    trailing = only_check false kernel_file_with_rest _ kernel_image (Unsigned None ∷ TrailingBytes 7 ∷ []) kernel_with_rest_means
        (legacy_concerns_are_known one_legacy).after_data refl
        (λ no. absurd (true≢false (sym no)), λ none. absurd (omega (arith, ap length none)));
    nothing = record {
      checked = checked Lines allowed_by_default smallest_text [] (plain_tree [] []) (Unsigned None ∷ []) smallest_means
          smallest_concerns (lit≤ tt) refl refl;
      is_empty = (λ _. refl, λ _. refl);
    };
    nothing_json = record {
      checked = checked Json allowed_by_default smallest_text _ (plain_tree [] []) (Unsigned None ∷ []) smallest_means
          smallest_concerns (lit≤ tt) refl refl;
      is_empty = (λ _. refl, λ _. refl);
    };
    unhashed = record {
      checked = checked Lines allowed_by_default file_without_hash _ bare_meaning
          (UnhashedImage (codes "a") ∷ Unsigned None ∷ []) bare_means bare_concerns (lit≤ tt) refl refl;
      is_empty = (λ no. absurd (true≢false (sym no)), λ none. absurd (omega (arith, ap length none)));
    };
    unhashed_json = record {
      checked = checked Json allowed_by_default file_without_hash _ bare_meaning
          (UnhashedImage (codes "a") ∷ Unsigned None ∷ []) bare_means bare_concerns (lit≤ tt) refl refl;
      is_empty = (λ no. absurd (true≢false (sym no)), λ none. absurd (omega (arith, ap length none)));
    };
    allowed = record {
      checked = checked Lines (record allowed_by_default { unhashed = true }) file_without_hash [] bare_meaning
          (UnhashedImage (codes "a") ∷ Unsigned None ∷ []) bare_means bare_concerns (lit≤ tt) refl refl;
      is_empty = (λ _. refl, λ _. refl);
    };
    allowed_json = record {
      checked = checked Json (record allowed_by_default { unhashed = true }) file_without_hash _ bare_meaning
          (UnhashedImage (codes "a") ∷ Unsigned None ∷ []) bare_means bare_concerns (lit≤ tt) refl refl;
      is_empty = (λ _. refl, λ _. refl);
    };
    each_json = rw (
      find-properties configuration_lists (key_name Kernel),
      find-properties configuration_lists (key_name Fdt),
      find-properties configuration_lists (key_name Ramdisk),
      find-properties configuration_lists (key_name Firmware),
      find-properties configuration_lists (key_name Loadables),
      find-properties configuration_lists (key_name Script),
      find-properties other_lists (key_name Kernel),
      find-properties other_lists (key_name Fdt),
      find-properties other_lists (key_name Ramdisk),
      find-properties other_lists (key_name Firmware),
      find-properties other_lists (key_name Loadables),
      find-properties other_lists (key_name Script),
      find-properties default_list default_name,
    ) refl;
  }

  -- ---- list

  three_listing : IsFitListing Json widest three_external three_object
  unfolding digits text_of_events text_of_blocks cell cell8 u32_at
  three_listing = record {
    tree = three_tree;
    means = record {
      is_file = record {
        root = tree_with_places [] (tree_with_images (three_external_nodes 8));
        blob = blob_by_test (tree_with_images (three_external_nodes 8)) (codes "hello" ++ 0 ∷ 0 ∷ 0 ∷ codes "x") refl refl (lit≤ tt);
        images = nodes_in (tree_with_images (three_external_nodes 8));
        has_images = refl;
        payloads = (
          record { begin_cell = refl; size_cell = refl; in_file = lit≤ tt; is_slice = refl },
          (
            record { begin_cell = refl; size_cell = refl; in_file = lit≤ tt; is_slice = refl },
            (record { begin_cell = refl; size_cell = refl; in_file = lit≤ tt; is_slice = refl }, tt),
          ),
        );
        is_root = three_plain (region_of 0 5) (region_of 8 0) (region_of 8 1) (refl, (refl, tt)) (refl, (refl, tt)) (refl, (refl, tt));
      };
      within = record { short = lit≤ tt; shallow = lit≤ tt };
    };
    is = refl;
  }

  pub json_listings_are_known : JsonListingsAreKnown
  unfolding digits cell header text_before_nul
  json_listings_are_known = record {
    legacy = OfLegacyImage (known_model one_legacy kernel_file_with_rest kernel_image kernel_with_rest_means 7 refl)
        (is_read one_legacy kernel_file_with_rest kernel_image kernel_with_rest_means 7 refl) refl;
    fit = OfImageTree three_listing;
    configurations = rw (
      find-properties configuration_lists (key_name Kernel),
      find-properties configuration_lists (key_name Fdt),
      find-properties configuration_lists (key_name Ramdisk),
      find-properties configuration_lists (key_name Firmware),
      find-properties configuration_lists (key_name Loadables),
      find-properties configuration_lists (key_name Script),
      find-properties other_lists (key_name Kernel),
      find-properties other_lists (key_name Fdt),
      find-properties other_lists (key_name Ramdisk),
      find-properties other_lists (key_name Firmware),
      find-properties other_lists (key_name Loadables),
      find-properties other_lists (key_name Script),
    ) refl;
  }
