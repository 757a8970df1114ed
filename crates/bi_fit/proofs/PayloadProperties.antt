use Rattle.std.proofs.Common.{◌≡◌, ℕ, Bool, true, false, cond, not, List, Option, Some, None, bytes_eq, refl, sym, ap, ◌∙◌, rules}
use Rattle.std.specs.FinMap.{get, insert, same_map, get-insert, get-retain_keys}
use Rattle.std.proofs.lemmas.Cmp.{nat_list_cmp_total}
use Rattle.std.proofs.lemmas.Slice.Eq.{bytes_eq-Decides}
use Rattle.std.proofs.lemmas.Map.Text.{is_eq-slice_cmp}
use Rattle.bi_blob.specs.Tree.{PropertyMap}
use Rattle.bi_blob.proofs.Texts.PropertyOrder.{order_tells}
use Rattle.bi_fit.specs.Names.{is_payload_name, data_name, data_offset_name, data_size_name}
use Rattle.bi_fit.specs.ImageTree.{without_payload, IsApart}
use Rattle.bi_fit.specs.Text.{with_payload}

-- The four properties of payloads change no other property, and properties are as they were after these are put in and taken out again.

-- Properties that are the same by each name are the same.
pub same : (a b : PropertyMap) → ((name : List ℕ) → get a name ≡ get b name) → a ≡ b
same a b each = same_map nat_list_cmp_total order_tells a b each

-- A property that was put in is there.
pub get-put : (properties : PropertyMap) (name value : List ℕ) → get (insert properties name value) name ≡ Some value
get-put properties name value =
    get-insert nat_list_cmp_total properties name value name
    ∙ ap (λ b. cond b (Some value) (get properties name)) (is_eq-slice_cmp name name ∙ (bytes_eq-Decides name name).1 refl)

-- A property of another name is as it was.
pub get-put_other : (properties : PropertyMap) (name value other : List ℕ) → bytes_eq other name ≡ false →
    get (insert properties name value) other ≡ get properties other
get-put_other properties name value other is =
    get-insert nat_list_cmp_total properties name value other
    ∙ ap (λ b. cond b (Some value) (get properties other)) (is_eq-slice_cmp other name ∙ is)

-- A name that passes a test is not one that fails it.
pub tests_differ : (test : List ℕ → Bool) (name other : List ℕ) → test name ≡ true → test other ≡ false → bytes_eq other name ≡ false
tests_differ test name other passes fails = search (rules, bytes_eq-Decides)

-- What is left without the four properties.
pub get-without : (properties : PropertyMap) (name : List ℕ) →
    get (without_payload properties) name ≡ cond (not (is_payload_name name)) (get properties name) None
get-without properties name =
    get-retain_keys properties (λ name. not (is_payload_name name)) name
    (λ other tied. ap (λ name. not (is_payload_name name)) (sym (order_tells name other tied)))

-- Without the four properties, properties that differ only in these from ones without them are the latter.
pub taken_out : (properties bare : PropertyMap) → ((name : List ℕ) → is_payload_name name ≡ true → get bare name ≡ None) →
    ((name : List ℕ) → is_payload_name name ≡ false → get properties name ≡ get bare name) → without_payload properties ≡ bare
taken_out properties bare no_name others = search (rules, same, get-without)

-- One of the four properties changes no other.
pub get-put_payload : (properties : PropertyMap) (payload_name value name : List ℕ) → is_payload_name payload_name ≡ true →
    is_payload_name name ≡ false → get (insert properties payload_name value) name ≡ get properties name
get-put_payload properties payload_name value name is is_other =
    get-put_other properties payload_name value name (tests_differ is_payload_name payload_name name is is_other)

-- The properties that give a payload change no other.
pub get-with_payload : (alignment : Option ℕ) (begin : ℕ) (payload : Option (List ℕ)) (properties : PropertyMap) (name : List ℕ) →
    is_payload_name name ≡ false → get (with_payload alignment begin payload properties) name ≡ get properties name
get-with_payload alignment begin None properties name is = refl
get-with_payload None begin (Some payload) properties name is = get-put_payload properties data_name payload name refl is
get-with_payload (Some align) begin (Some payload) properties name is =
    get-put_payload _ data_size_name _ name refl is ∙ get-put_payload properties data_offset_name _ name refl is

-- Put in and taken out again, they leave the properties as they were.
pub without-with_payload : (alignment : Option ℕ) (begin : ℕ) (payload : Option (List ℕ)) (properties : PropertyMap) →
    IsApart properties payload → without_payload (with_payload alignment begin payload properties) ≡ properties
without-with_payload alignment begin payload properties apart = search (rules, taken_out, get-with_payload)
