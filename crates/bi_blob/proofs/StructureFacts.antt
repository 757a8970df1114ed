use Rattle.std.proofs.Common.{List, [], ◌∷◌, refl}
use Rattle.std.specs.Prelude.{codes}
use Rattle.bi_base.specs.Cells.{cell, cell8, u32_at, u64_at}
use Rattle.bi_blob.specs.Tokens.{Token, BeginNode, EndNode, Prop}
use Rattle.bi_blob.specs.BlobFaults.{HasCompatibleVersion, HasHeader, TotalHoldsHeader, PlacesReservations, PlacesStructure, PlacesStrings}
use Rattle.bi_blob.specs.BlobFaults.{HasTokenNumber, IsExpected, IsWithinDepth, HasNodeName, MayNameNode, IsNewNode, IsBeforeChildren}
use Rattle.bi_blob.specs.BlobFaults.{HasValue, HasPropertyName, MayNameProperty, IsNewProperty}
use Rattle.bi_blob.specs.Layout.{text_of_blocks}
use Rattle.bi_blob.specs.KnownFaults.{TokensHaveFaults, TokenChecksHaveOrder, Version16HasFaults}
use Rattle.bi_blob.proofs.CheckDecisions.{first_failing, lacks_byte, is_new, is_property_name, is_child_name}
use Rattle.bi_blob.proofs.HeaderDecisions.{test, in_header}
use Rattle.bi_blob.proofs.TokenDecisions.{may_be_named, are_none, token_test, is_token, is_token_at, is_before_end, are_passed}
use Rattle.bi_blob.proofs.TokenDecisions.{has_no_reservations, in_structure}

-- Small files with a wrong token have known faults, and so have those of version 16. If two checks fail, the first gives the fault.

-- The tokens up to and with that of the root, the newest first.
abbrev to_root : List Token
to_root = BeginNode [] ∷ []

-- The tokens up to and with that of the child `images`.
abbrev to_images : List Token
to_images = BeginNode (codes "images") ∷ to_root

-- The tokens before the one that fails, and its check that fails.
pub tokens_have_faults : TokensHaveFaults
unfolding u32_at u64_at cell cell8 text_of_blocks test first_failing lacks_byte is_new is_property_name is_child_name may_be_named are_none
    token_test is_token is_token_at is_before_end are_passed has_no_reservations
tokens_have_faults = record {
  no_number = in_structure _ _ (EndNode ∷ EndNode ∷ to_images) HasTokenNumber refl refl refl;
  unknown_number = in_structure _ _ [] IsExpected refl refl refl;
  end_in_root = in_structure _ _ to_root IsExpected refl refl refl;
  too_deep = in_structure _ _ to_root IsWithinDepth refl refl refl;
  endless_node_name = in_structure _ _ to_root HasNodeName refl refl refl;
  named_root = in_structure _ _ [] MayNameNode refl refl refl;
  child_with_slash = in_structure _ _ to_root MayNameNode refl refl refl;
  empty_child_name = in_structure _ _ to_root MayNameNode refl refl refl;
  second_child_of_name = in_structure _ _ (EndNode ∷ to_images) IsNewNode refl refl refl;
  after_child = in_structure _ _ (EndNode ∷ to_images) IsBeforeChildren refl refl refl;
  value_past_end = in_structure _ _ to_root HasValue refl refl refl;
  no_property_name = in_structure _ _ to_root HasPropertyName refl refl refl;
  endless_property_name = in_structure _ _ to_root HasPropertyName refl refl refl;
  empty_property_name = in_structure _ _ to_root MayNameProperty refl refl refl;
  second_property_of_name = in_structure _ _ (Prop 0 [] ∷ to_root) IsNewProperty refl refl refl;
}

-- Of two checks that fail, the first.
pub token_checks_have_order : TokenChecksHaveOrder
unfolding u32_at u64_at cell cell8 text_of_blocks test first_failing lacks_byte is_new is_property_name is_child_name may_be_named are_none
    token_test is_token is_token_at is_before_end are_passed has_no_reservations
token_checks_have_order = record {
  depth_before_end_of_name = in_structure _ _ to_root IsWithinDepth refl refl refl;
  depth_before_name = in_structure _ _ to_root IsWithinDepth refl refl refl;
  end_of_name_before_name = in_structure _ _ to_root HasNodeName refl refl refl;
  end_of_name_before_new = in_structure _ _ (EndNode ∷ to_images) HasNodeName refl refl refl;
  child_before_value = in_structure _ _ (EndNode ∷ to_images) IsBeforeChildren refl refl refl;
  value_before_name_offset = in_structure _ _ to_root HasValue refl refl refl;
}

-- The faults of small files of version 16.
pub version_16_has_faults : Version16HasFaults
unfolding u32_at u64_at cell cell8 text_of_blocks test first_failing lacks_byte is_new is_property_name is_child_name may_be_named are_none
    token_test is_token is_token_at is_before_end are_passed has_no_reservations
version_16_has_faults = record {
  short_header = in_header _ _ HasHeader refl;
  no_blocks = in_header _ _ PlacesReservations refl;
  compatible_18 = in_header _ _ HasCompatibleVersion refl;
  total_35 = in_header _ _ TotalHoldsHeader refl;
  reservations_in_header = in_header _ _ PlacesReservations refl;
  structure_in_header = in_header _ _ PlacesStructure refl;
  structure_past_end = in_header _ _ PlacesStructure refl;
  strings_in_header = in_header _ _ PlacesStrings refl;
  as_version_17 = in_header _ _ PlacesStructure refl;
  structure_at_end = in_structure _ _ [] HasTokenNumber refl refl refl;
  structure_cut = in_structure _ _ (EndNode ∷ EndNode ∷ to_images) HasTokenNumber refl refl refl;
}
