use Rattle.std.proofs.Common.{◌≡◌, ℕ, ◌<◌, ◌≤◌, true, List, [], ◌∷◌, ◌++◌, length, codes, refl, inl, inr, lit≤, arith}
use Rattle.std.specs.Prelude.{ltb}
use Rattle.std.specs.List.{list_all}
use Rattle.std.proofs.lemmas.Bool.{eqb-false, ltb-true, false≢true}
use Rattle.bi_base.specs.declared.fault.Fault.{Fault}
use Rattle.bi_base.specs.Cells.{cell, cell8, u32_at}
use Rattle.bi_base.specs.Checks.{IsFirstFault}
use Rattle.bi_blob.specs.Tree.{none, node, Root, Property, depth_of}
use Rattle.bi_blob.specs.BlobFaults.{InHeader}
use Rattle.bi_blob.specs.Layout.{text_of_tree, text_of_events, text_of_blocks, tree_with_places, longest_text}
use Rattle.bi_base.specs.Limits.{widest}
use Rattle.bi_fit.specs.Names.{images_name, data_offset_name, data_position_name, data_size_name}
use Rattle.bi_fit.specs.Faults.{FitPasses, fit_fault, fit_checks, IsFitFault, InBlob, InTree}
use Rattle.bi_fit.specs.KnownFiles.{tree_with_images, region_of, shared_region}
use Rattle.bi_fit.specs.KnownFaults.{WithoutImages, RegionsHaveFaults, FirstFaultCounts}
use Rattle.bi_fit.proofs.TestedTrees.{is_tree}
use Rattle.bi_fit.proofs.FileFacts.{blob_by_test}

-- Small files without image nodes or with a wrong one have known faults, and if two checks fail, the first gives the fault.

-- The file of a tested tree, within the widest limits, has the first fault of its checks.
in_tree : (root : Root (List Property)) (rest : List ℕ) (fault : Fault) → is_tree root ≡ true →
    list_all (λ byte. ltb byte 256) rest ≡ true → length (text_of_tree 4 0 [] root) ≤ longest_text →
    length (text_of_tree 4 0 [] root ++ rest) ≤ longest_text → depth_of (tree_with_places [] root) ≤ 64 →
    IsFirstFault (FitPasses (text_of_tree 4 0 [] root ++ rest)) fit_fault
    (fit_checks (text_of_tree 4 0 [] root ++ rest) (tree_with_places [] root)) fault →
    IsFitFault widest (text_of_tree 4 0 [] root ++ rest) fault
in_tree root rest fault tree bytes short fits shallow first =
    InTree 0 [] (tree_with_places [] root) (blob_by_test root rest tree bytes short) (record { short = fits; shallow = shallow }) first

-- The tree with one image node, and with two.
abbrev one_image : List Property → Root (List Property)
one_image properties = tree_with_images (node (codes "a") properties none none)

abbrev two_images : (first second : List Property) → Root (List Property)
two_images first second = tree_with_images (node (codes "a") first none (node (codes "b") second none none))

-- What ends after the file is not in it.
past : (end size : ℕ) → ltb size end ≡ true → ¬ (end ≤ size)
past end size after within = let less : size < end = ltb-true size end after in omega (arith, less, within)

pub without_images : WithoutImages
unfolding text_of_events text_of_blocks cell cell8 u32_at
without_images = record {
  no_child = in_tree (record { own = []; children = none }) [] _ refl refl (lit≤ tt) (lit≤ tt) (lit≤ tt) (inl (false≢true, refl));
  elsewhere = in_tree (record { own = []; children = node (codes "x") [] (node images_name [] none none) none }) [] _ refl
      refl (lit≤ tt) (lit≤ tt) (lit≤ tt)
      (inl (false≢true, refl));
}

pub regions_have_faults : RegionsHaveFaults
unfolding text_of_events text_of_blocks cell cell8 u32_at
regions_have_faults = record {
  offset_no_cell = in_tree (one_image ((data_offset_name, codes "abc") ∷ (data_size_name, cell 0) ∷ [])) [] _ refl
      refl (lit≤ tt) (lit≤ tt) (lit≤ tt)
      (inr (refl, inl (eqb-false 3 4 refl, refl)));
  position_no_cell = in_tree (one_image ((data_position_name, codes "abcde") ∷ (data_size_name, cell 0) ∷ [])) [] _ refl
      refl (lit≤ tt) (lit≤ tt) (lit≤ tt)
      (inr (refl, inl (eqb-false 5 4 refl, refl)));
  no_size = in_tree (one_image ((data_offset_name, cell 0) ∷ [])) [] _ refl refl (lit≤ tt) (lit≤ tt) (lit≤ tt)
      (inr (refl, inr (refl, inl (false≢true, refl))));
  size_no_cell = in_tree (one_image ((data_offset_name, cell 0) ∷ (data_size_name, codes "abc") ∷ [])) [] _ refl
      refl (lit≤ tt) (lit≤ tt) (lit≤ tt)
      (inr (refl, inr (refl, inr (refl, inl (eqb-false 3 4 refl, refl)))));
  offset_outside = in_tree (tree_with_images
      (node (codes "a") (region_of 0 1001) none (node (codes "b") (region_of 0 1000) none (node (codes "c") (region_of 0 1000) none none))))
      shared_region _ refl refl (lit≤ tt) (lit≤ tt) (lit≤ tt)
      (inr (refl, inr (refl, inr (refl, inr (refl, inl (past _ _ refl, refl))))));
  position_outside = in_tree (one_image ((data_position_name, cell 172) ∷ (data_size_name, cell 1) ∷ [])) [] _ refl
      refl (lit≤ tt) (lit≤ tt) (lit≤ tt)
      (inr (refl, inr (refl, inr (refl, inr (refl, inl (past _ _ refl, refl))))));
}

pub first_fault_counts : FirstFaultCounts
unfolding text_of_events text_of_blocks cell cell8 u32_at
first_fault_counts = record {
  cell_before_size = in_tree (one_image ((data_offset_name, codes "abc") ∷ [])) [] _ refl refl (lit≤ tt) (lit≤ tt) (lit≤ tt)
      (inr (refl, inl (eqb-false 3 4 refl, refl)));
  cell_before_size_cell = in_tree
      (one_image ((data_size_name, codes "abc") ∷ (data_offset_name, codes "abc") ∷ [])) [] _ refl refl (lit≤ tt) (lit≤ tt) (lit≤ tt)
      (inr (refl, inl (eqb-false 3 4 refl, refl)));
  size_cell_before_region = in_tree
      (one_image ((data_offset_name, cell 0xffffffff) ∷ (data_size_name, codes "abc") ∷ [])) [] _ refl refl (lit≤ tt) (lit≤ tt) (lit≤ tt)
      (inr (refl, inr (refl, inr (refl, inl (eqb-false 3 4 refl, refl)))));
  position_alone = in_tree (one_image
      ((data_offset_name, codes "abc") ∷ (data_position_name, cell 0xffffffff) ∷ (data_size_name, cell 1) ∷ [])) [] _ refl
      refl (lit≤ tt) (lit≤ tt) (lit≤ tt)
      (inr (refl, inr (refl, inr (refl, inr (refl, inl (past _ _ refl, refl))))));
  first_image = in_tree (two_images (region_of 0 1000) ((data_offset_name, codes "abc") ∷ [])) [] _ refl refl (lit≤ tt) (lit≤ tt) (lit≤ tt)
      (inr (refl, inr (refl, inr (refl, inr (refl, inl (past _ _ refl, refl))))));
  second_image = in_tree (two_images (region_of 0 0) ((data_offset_name, cell 0) ∷ [])) [] _ refl refl (lit≤ tt) (lit≤ tt) (lit≤ tt)
      (inr (refl, inr (refl, inr (refl, inr (refl, inr (lit≤ tt, inr (refl, inl (false≢true, refl))))))));
  limit_before_images = InBlob (InHeader (inl (past _ _ refl, refl)));
}
