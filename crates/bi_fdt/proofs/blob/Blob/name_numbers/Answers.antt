use Rattle.std.proofs.Common.{◌≡◌, ℕ, List, Result, Ok, Err, Vec, Global, map, ap, subst, ◌∙◌}
use Rattle.std.specs.Prelude.{IfOk}
use Rattle.std.specs.declared.alloc.AllocError.{AllocError}
use Rattle.bi_fdt.specs.declared.table.Entry.{Entry}
use Rattle.bi_fdt.specs.Content.{Blob}
use Rattle.bi_fdt.specs.Numbers.{AreNumbered, names_of_table}
use Rattle.bi_fdt.specs.Table.{item_in}
use Rattle.bi_fdt.specs.TableItems.{TableItem}
use Rattle.bi_fdt.specs.TableNames.{name_number_of, AreTableNames}
use Rattle.bi_fdt.proofs.TableNames.{numbers_of_table}
use Rattle.bi_fdt.proofs.blob.Blob.name_numbers.Goals as goal

-- The numbers of the entries of a table are those of its items.
numbered : (file : List ℕ) (entries other : List Entry) (used : List (List ℕ)) (numbers : Result (Vec ℕ Global) AllocError) →
    AreTableNames file entries used → other ≡ entries → IfOk numbers (λ numbers. numbers.items ≡ map name_number_of other) →
    IfOk numbers (λ numbers. AreNumbered (names_of_table (map (item_in file) entries)) (map (item_in file) entries) numbers.items)
numbered file entries other used (Ok numbers) are same is = numbers_of_table file entries used numbers.items are
    (is ∙ ap (map name_number_of) same)
numbered file entries other used (Err e) are same is = tt

pub returns : goal.returns
returns c =
    subst (λ (table : List TableItem). IfOk c.name_numbers.result (λ numbers. AreNumbered (names_of_table table) table numbers.items))
    (ap (λ (blob : Blob). blob.table) c.self.view_is)
    (numbered c.self.inside.file.now c.self.inside.entries.items c.deref.result.now c.self.inside.names c.name_numbers.result
    c.self.invariant.1 c.deref.ensures.value c.name_numbers.ensures)
