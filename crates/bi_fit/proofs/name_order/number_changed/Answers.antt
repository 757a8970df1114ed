use Rattle.std.proofs.Common.{◌≡◌, [], ◌∷◌, sym, ap, subst, ◌∙◌, append-nil}
use Rattle.bi_base.specs.Slices.{bytes_of}
use Rattle.bi_fdt.specs.Numbers.{BeginsWith, names_of_table}
use Rattle.bi_fit.specs.ChangedNames.{with_missing}
use Rattle.bi_fit.specs.Names.{data_name, data_offset_name, data_position_name, data_size_name, timestamp_name, value_name}
use Rattle.bi_fit.proofs.ChangedNames.{begins_all, number_stays}
use Rattle.bi_fit.proofs.name_order.number_changed.Goals as goal

pub number_name-requires-6-clause-begin : goal.number_name-requires-6-clause-begin
number_name-requires-6-clause-begin c =
    let base = names_of_table c.args.blob.now.table in
    let is-1 : bytes_of c.number_name.new.names.items ≡ with_missing base base data_name = c.in_ok-number_name.ensures.names
    ∙ ap (λ names. with_missing base names data_name) c.requires in
    let is-2 = c.in_ok-number_name-2.ensures.names ∙ ap (λ names. with_missing base names data_offset_name) is-1 in
    let is-3 = c.in_ok-number_name-3.ensures.names ∙ ap (λ names. with_missing base names data_position_name) is-2 in
    let is-4 = c.in_ok-number_name-4.ensures.names ∙ ap (λ names. with_missing base names data_size_name) is-3 in
    let is-5 = c.in_ok-number_name-5.ensures.names ∙ ap (λ names. with_missing base names timestamp_name) is-4 in
    subst (λ names. BeginsWith names base) (sym is-5)
    (begins_all base base (data_name ∷ data_offset_name ∷ data_position_name ∷ data_size_name ∷ timestamp_name
    ∷ []) ([], sym (append-nil base)))

pub returns-clause-numbers : goal.returns-clause-numbers
returns-clause-numbers c =
    let base = names_of_table c.args.blob.now.table in
    record {
      payload = number_stays base (bytes_of c.number_name-5.new.names.items)
          (bytes_of c.number_name-6.new.names.items) value_name data_name c.in_ok-number_name.field-0 c.in_ok-number_name-6.ensures.names
          (number_stays base (bytes_of c.number_name-4.new.names.items)
          (bytes_of c.number_name-5.new.names.items) timestamp_name data_name c.in_ok-number_name.field-0
          c.in_ok-number_name-5.ensures.names
          (number_stays base (bytes_of c.number_name-3.new.names.items)
          (bytes_of c.number_name-4.new.names.items) data_size_name data_name c.in_ok-number_name.field-0
          c.in_ok-number_name-4.ensures.names
          (number_stays base (bytes_of c.number_name-2.new.names.items)
          (bytes_of c.number_name-3.new.names.items) data_position_name data_name c.in_ok-number_name.field-0
          c.in_ok-number_name-3.ensures.names
          (number_stays base (bytes_of c.number_name.new.names.items)
          (bytes_of c.number_name-2.new.names.items) data_offset_name data_name c.in_ok-number_name.field-0
          c.in_ok-number_name-2.ensures.names
          c.in_ok-number_name.ensures.number))));
      offset = number_stays base (bytes_of c.number_name-5.new.names.items)
          (bytes_of c.number_name-6.new.names.items) value_name data_offset_name c.in_ok-number_name-2.field-0
          c.in_ok-number_name-6.ensures.names
          (number_stays base (bytes_of c.number_name-4.new.names.items)
          (bytes_of c.number_name-5.new.names.items) timestamp_name data_offset_name c.in_ok-number_name-2.field-0
          c.in_ok-number_name-5.ensures.names
          (number_stays base (bytes_of c.number_name-3.new.names.items)
          (bytes_of c.number_name-4.new.names.items) data_size_name data_offset_name c.in_ok-number_name-2.field-0
          c.in_ok-number_name-4.ensures.names
          (number_stays base (bytes_of c.number_name-2.new.names.items)
          (bytes_of c.number_name-3.new.names.items) data_position_name data_offset_name c.in_ok-number_name-2.field-0
          c.in_ok-number_name-3.ensures.names
          c.in_ok-number_name-2.ensures.number)));
      position = number_stays base (bytes_of c.number_name-5.new.names.items)
          (bytes_of c.number_name-6.new.names.items) value_name data_position_name c.in_ok-number_name-3.field-0
          c.in_ok-number_name-6.ensures.names
          (number_stays base (bytes_of c.number_name-4.new.names.items)
          (bytes_of c.number_name-5.new.names.items) timestamp_name data_position_name c.in_ok-number_name-3.field-0
          c.in_ok-number_name-5.ensures.names
          (number_stays base (bytes_of c.number_name-3.new.names.items)
          (bytes_of c.number_name-4.new.names.items) data_size_name data_position_name c.in_ok-number_name-3.field-0
          c.in_ok-number_name-4.ensures.names
          c.in_ok-number_name-3.ensures.number));
      size = number_stays base (bytes_of c.number_name-5.new.names.items)
          (bytes_of c.number_name-6.new.names.items) value_name data_size_name c.in_ok-number_name-4.field-0
          c.in_ok-number_name-6.ensures.names
          (number_stays base (bytes_of c.number_name-4.new.names.items)
          (bytes_of c.number_name-5.new.names.items) timestamp_name data_size_name c.in_ok-number_name-4.field-0
          c.in_ok-number_name-5.ensures.names
          c.in_ok-number_name-4.ensures.number);
      time = number_stays base (bytes_of c.number_name-5.new.names.items)
          (bytes_of c.number_name-6.new.names.items) value_name timestamp_name c.in_ok-number_name-5.field-0
          c.in_ok-number_name-6.ensures.names
          c.in_ok-number_name-5.ensures.number;
      digest = c.in_ok-number_name-6.ensures.number;
    }

pub returns-clause-names : goal.returns-clause-names
returns-clause-names c =
    let base = names_of_table c.args.blob.now.table in
    let is-1 : bytes_of c.number_name.new.names.items ≡ with_missing base base data_name = c.in_ok-number_name.ensures.names
    ∙ ap (λ names. with_missing base names data_name) c.requires in
    let is-2 = c.in_ok-number_name-2.ensures.names ∙ ap (λ names. with_missing base names data_offset_name) is-1 in
    let is-3 = c.in_ok-number_name-3.ensures.names ∙ ap (λ names. with_missing base names data_position_name) is-2 in
    let is-4 = c.in_ok-number_name-4.ensures.names ∙ ap (λ names. with_missing base names data_size_name) is-3 in
    let is-5 = c.in_ok-number_name-5.ensures.names ∙ ap (λ names. with_missing base names timestamp_name) is-4 in
    let is-6 = c.in_ok-number_name-6.ensures.names ∙ ap (λ names. with_missing base names value_name) is-5 in
    is-6
