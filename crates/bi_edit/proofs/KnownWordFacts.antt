use Rattle.std.proofs.Common.{◌≡◌, ℕ, ◌++◌, inl, inr, List, [], ◌∷◌, codes, None, Some, refl, arith, rules}
use Rattle.hex.specs.Hex.{decode_pairs}
use Rattle.bi_common.proofs.ReadableWords.Cuts.{later_same}
use Rattle.bi_fit.specs.Names.{images_name}
use Rattle.bi_edit.specs.EditWords.{IsPathWord, IsPayloadWord}
use Rattle.bi_edit.specs.KnownEditWords.{EditWordsAreKnown, OtherEditWordsAreKnown, load_place}
use Rattle.bi_edit.specs.Places.{IsChildNameOfBytes, IsNodePath, IsPlace, IsPropertyNameOfBytes, IsRemovable, image_path}

-- Words for edits are for known nodes, properties and values.

a_is_name : IsChildNameOfBytes (codes "a")
a_is_name = record {
  is_name = record { some = λ e. absurd cc; no_zero = (λ e. absurd cc, tt); no_slash = (λ e. absurd cc, tt) };
  bytes = search rules;
}

images_is_name : IsChildNameOfBytes images_name
images_is_name = record {
  is_name = record {
    some = λ e. absurd cc;
    no_zero = (λ e. absurd cc, (λ e. absurd cc, (λ e. absurd cc, (λ e. absurd cc, (λ e. absurd cc, (λ e. absurd cc, tt))))));
    no_slash = (λ e. absurd cc, (λ e. absurd cc, (λ e. absurd cc, (λ e. absurd cc, (λ e. absurd cc, (λ e. absurd cc, tt))))));
  };
  bytes = search rules;
}

a_space_b_is_name : IsChildNameOfBytes (codes "a b")
a_space_b_is_name = record {
  is_name = record {
    some = λ e. absurd cc;
    no_zero = (λ e. absurd cc, (λ e. absurd cc, (λ e. absurd cc, tt)));
    no_slash = (λ e. absurd cc, (λ e. absurd cc, (λ e. absurd cc, tt)));
  };
  bytes = search rules;
}

load_is_name : IsPropertyNameOfBytes (codes "load")
load_is_name = record {
  is_name = record {
    some = λ e. absurd cc;
    no_zero = (λ e. absurd cc, (λ e. absurd cc, (λ e. absurd cc, (λ e. absurd cc, tt))));
  };
  bytes = search rules;
}

root_is_path : IsNodePath []
root_is_path = record { are_names = tt; few = omega arith }

a_is_path : IsNodePath (image_path (codes "a"))
a_is_path = record { are_names = (images_is_name, (a_is_name, tt)); few = omega arith }

load_is_place : IsPlace load_place
load_is_place = record { is_path = a_is_path; is_name = load_is_name; no_payload = refl }

a_is_removable : IsRemovable (image_path (codes "a"))
a_is_removable = record { is_path = a_is_path; not_root = λ e. absurd cc; not_images = λ e. absurd cc }

pub edit_words_are_known : EditWordsAreKnown
unfolding decode_pairs
edit_words_are_known = record {
  root = record { is_path = root_is_path; is = refl };
  image = record { is_path = a_is_path; is = refl };
  child = record { is_name = a_space_b_is_name; is = refl };
  property = record {
    is_name = record {
      is_name = record { some = a_space_b_is_name.is_name.some; no_zero = a_space_b_is_name.is_name.no_zero };
      bytes = a_space_b_is_name.bytes;
    };
    is = refl;
  };
  digits = inl (record { digits = codes "0A"; is = refl; are_digits = refl });
  printed = inr (search rules, refl);
  node_removal = (a_is_removable, refl);
  property_removal = (load_is_place, refl);
  setting = record {
    is_place = load_is_place;
    after = Some (codes "0x0a");
    is = refl;
    is_value = (λ e. absurd cc, inl (record { digits = codes "0a"; is = refl; are_digits = refl }));
  };
  empty_value = record { is_place = load_is_place; after = None; is = refl; is_value = refl };
}

no_empty_path : (names : List (List ℕ)) → IsPathWord [] names → ⊥
no_empty_path [] word = let is : codes "/" ≡ [] = word.is in absurd cc
no_empty_path (name ∷ names) word = let is = word.is in absurd cc

no_empty_file : (file : List ℕ) → IsPayloadWord (codes "a=@") (codes "a") file → ⊥
no_empty_file file word =
    let is : codes "a=@" ≡ codes "a=@" ++ file = word.is in
    let rest : [] ≡ file = later_same (later_same (later_same is)) in
    word.some cc

pub other_edit_words_are_known : OtherEditWordsAreKnown
other_edit_words_are_known = record { no_slash = no_empty_path; payload = no_empty_file }
