use Rattle.std.proofs.Common.{◌≡◌, ℕ, List, ◌+◌, [], ◌∷◌, true, drop, get_or, add-one, Some, sym, ap, subst, ◌∙◌}
use Rattle.std.specs.Prelude.{◌||◌}
use Rattle.std.specs.Borrow.{Bor}
use Rattle.std.specs.Option.{option_map}
use Rattle.std.proofs.Math.Seq.{drop-cons}
use Rattle.std.proofs.lemmas.Option.{slice_get-get_or, slice_get-map}
use Rattle.std.proofs.lemmas.Slice.Eq.{bytes_eq-Decides}
use Rattle.bi_base.specs.Slices.{bytes_of}
use Rattle.bi_blob.specs.Layout.{is_among}
use Rattle.bi_fit.proofs.building.names.index_of.Goals as goal

-- What is read if there is no name.
abbrev no_name : Bor (List ℕ)
no_name = record { ref_ptr = (0, 0); now = [] }

pub loop-index-preserved : goal.loop-index-preserved
loop-index-preserved c =
    let names = c.args.names.now in
    let index = c.loop-index.index in
    let left : drop index names ≡ get_or names index no_name
    ∷ drop (index + 1) names = rw add-one (drop-cons names index no_name c.loop-index-test.true) in
    let is = subst (λ l. is_among c.args.name.now (bytes_of l) ≡ true) left c.loop-index.invariant in
    sym (ap (λ b. b || is_among c.args.name.now (bytes_of (drop (index + 1) names))) (sym c.eq.ensures ∙ c.if-eq.false)) ∙ is

pub returns-then-eq : goal.returns-then-eq
returns-then-eq c =
    let names = c.args.names.now in
    let index = c.loop-index.index in
    slice_get-map (λ (slice : Bor (List ℕ)). slice.now) names index
    ∙ ap (option_map (λ (slice : Bor (List ℕ)). slice.now)) (slice_get-get_or names index no_name c.loop-index-test.true)
    ∙ ap Some ((bytes_eq-Decides (get_or names index no_name).now c.args.name.now).0 (sym c.eq.ensures ∙ c.if-eq.true))
