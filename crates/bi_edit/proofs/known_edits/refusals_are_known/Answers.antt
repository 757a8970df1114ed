use Rattle.std.proofs.Common.{◌≡◌, ◌∙◌, Some, ap, refl, inl, inr, true≢false}
use Rattle.bi_edit.specs.declared.edit.Edit.TheVariants.{SetDigests, SetTime}
use Rattle.bi_edit.proofs.known_edits.refusals_are_known.Goals as goal

other_edit : ¬ (Some SetDigests ≡ Some (SetTime 5))
other_edit same = absurd cc

pub returns : goal.returns
returns c = record {
  refusals = record {
    no_node = λ payload. refl;
    no_image = λ payload new. refl;
    removed_twice = λ payload. inr (λ nothing. absurd cc, inl (refl, refl));
    all_find = λ payload. (λ nothing. absurd cc, (λ nothing. absurd cc, tt));
    second_finds_nothing = λ payload find. find.1.0 refl;
    index = (SetTime 5, refl, refl);
    other_index = λ is. other_edit (is.1 ∙ ap Some is.2);
    no_field = λ tree is. is;
    no_nodes = λ image is. is;
    root_stays = λ can. can.not_root refl;
    images_stay = λ can. can.not_images refl;
    no_payload = λ is. true≢false is.no_payload;
  };
}
