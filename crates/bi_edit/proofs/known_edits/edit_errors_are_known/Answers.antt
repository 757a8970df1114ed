use Rattle.std.proofs.Common.{◌≡◌, ◌<◌, ◌∙◌, zero, suc, [], ◌∷◌, codes, Some, nat_cmp, sym, ap, subst, refl, inl, inr, arith}
use Rattle.std.specs.Prelude.{Contains}
use Rattle.std.specs.Cmp.Lexicographic.{slice_cmp}
use Rattle.std.specs.FinMap.{empty, get-empty}
use Rattle.bi_common.specs.PayloadBounds.{payloads_length}
use Rattle.bi_fit.specs.Names.{data_name}
use Rattle.bi_fit.proofs.PayloadProperties.{get-put}
use Rattle.bi_edit.specs.declared.edit.Edit.TheVariants.{RemoveNode, SetDigests, SetField, SetTime}
use Rattle.bi_edit.specs.declared.edit.FieldValue.TheVariants as field
use Rattle.bi_edit.specs.Places.{image_path}
use Rattle.bi_edit.proofs.known_edits.edit_errors_are_known.Goals as goal

no_set : Contains (SetTime 5 ∷ []) SetDigests → ⊥
no_set (zero, less, same) = absurd cc
no_set (suc k, less, same) = absurd (omega (arith, less))

other_edit : ¬ (Some (SetTime 5) ≡ Some (RemoveNode (image_path (codes "c"))))
other_edit same = absurd cc

pub returns : goal.returns
returns c = record {
  bounds = record {
    new_payload = λ limits new longer. record {
      has_digests = (0, omega arith, refl);
      is_over = subst (λ payloads. limits.file < payloads_length payloads)
          (λ i. sym (get-put empty data_name []) i ∷ sym (get-put empty data_name new.now) i ∷ []) (omega (arith, longer));
    };
    removed_payload = λ limits old needs.
        let over = subst (λ payloads. limits.file < payloads_length payloads)
        (λ i. get-empty (slice_cmp nat_cmp) data_name i ∷ []) needs.is_over in
        omega (arith, over);
    no_digests = λ limits old needs. no_set needs.has_digests;
  };
  errors = record {
    field_of_tree = λ limits payload.
        record { edit = SetField (field.Time 1); there = (0, omega arith, refl); is_other = λ is. is };
    node_of_image = λ limits one other.
        record { edit = RemoveNode (image_path (codes "a")); there = (0, omega arith, refl); is_other = λ is. is };
    no_node = λ limits payload. record {
      of_kind = (tt, (tt, tt));
      shallow = ((λ deep. deep), ((λ deep. deep), tt));
      edit = RemoveNode (image_path (codes "c"));
      there = refl;
      is_first = inl (refl, refl);
    };
    not_the_time = λ limits payload is. elim is.is_first [
      | inl here ↦ other_edit (is.there ∙ ap Some here.1)
      | inr later ↦ later.0 refl
    ];
  };
}
