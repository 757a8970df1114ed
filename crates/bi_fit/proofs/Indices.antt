use Rattle.std.proofs.Common.{◌≡◌, ℕ, ◌+◌, ◌<◌, List, length, map, drop, get_or, cond, Some, sym, ap, ◌∙◌}
use Rattle.std.proofs.lemmas.List.{drop_more}
use Rattle.std.specs.Prelude.{bytes_eq}
use Rattle.std.specs.Ordering.{nat_cmp}
use Rattle.std.specs.Cmp.Lexicographic.{slice_cmp}
use Rattle.std.specs.BTreeMap.{BTreeMap, Updates, get_by}
use Rattle.std.proofs.lemmas.Map.Text.{is_eq-slice_cmp}
use denote.Ref.{Bor}
use Rattle.bi_fit.specs.declared.image.Image.{Image}
use Rattle.bi_fit.specs.Content.{image_model, index_from}
use Rattle.bi_blob.proofs.NameSets.{name_cmp}

-- A map of the indices of images from one on has the index of that image by its name after it is inserted.

-- A map that has the indices of the images after one has them from that one on, after the name of
-- that one is inserted.
pub first_inserted : (images : List Image) (index next : ℕ) (default : Image) (old new : BTreeMap (Bor (List ℕ)) ℕ) → next ≡ index + 1 →
    index < length images → Updates name_cmp old new (get_or images index default).name (Some index) →
    ((name : List ℕ) → get_by (λ other. slice_cmp nat_cmp name other.now) old ≡ index_from next name (map image_model (drop next images))) →
    (name : List ℕ) → get_by (λ other. slice_cmp nat_cmp name other.now) new ≡ index_from index name (map image_model (drop index images))
first_inserted images index next default old new is_next within updates indices name =
    let key : Bor (List ℕ) = record { ref_ptr = (0, 0); now = name } in
    let image = get_or images index default in
    updates.0 key
    ∙ ap (λ b. cond b (Some index) (get_by (λ other. slice_cmp nat_cmp name other.now) old)) (is_eq-slice_cmp image.name.now name)
    ∙ ap (cond (bytes_eq image.name.now name) (Some index))
    (indices name ∙ ap (λ n. index_from n name (map image_model (drop n images))) is_next)
    ∙ ap (λ l. index_from index name (map image_model l)) (sym (drop_more images index default within))
