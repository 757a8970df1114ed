use Rattle.std.proofs.Common.{◌≡◌, ◌++◌, ◌∷◌, [], ℕ, List, Bor, Some, length, slice_get, slice_set, rules, sym, ap, subst, ◌∙◌}
use Rattle.std.proofs.lemmas.Bool.{not-true, not-false}
use Rattle.std.proofs.lemmas.List.{map-append}
use Rattle.std.proofs.lemmas.Option.{slice_get_read}
use Rattle.std.specs.BTreeSet.{contains}
use Rattle.bi_base.specs.Slices.{bytes_of}
use Rattle.bi_blob.specs.Layout.{is_among}
use Rattle.bi_blob.proofs.NameSets.{name_cmp}
use Rattle.bi_coverage.specs.NameBuckets.{bucket_of_name, HaveNames}
use Rattle.bi_coverage.specs.Paths.{with_new}
use Rattle.bi_coverage.proofs.NamesOnce.{new_at_end, known_stays}
use Rattle.bi_coverage.proofs.NameBuckets.{has_chosen, HaveNames-insert}
use Rattle.bi_coverage.proofs.name_set.NameSet.add.Goals as goal
use Rattle.bi_coverage.proofs.name_set.NameSet.add.Goals.{After-unwrap, Else-branch, In_ok-insert}

-- The bucket before the insertion.
bucket_is : (c : In_ok-insert) → slice_get c.self.inside.buckets.items c.bucket_of-bucket.result ≡ Some c.index_mut.result.now
bucket_is c = search (rules, slice_get_read)

chosen : (c : In_ok-insert) → c.bucket_of-bucket.result ≡ bucket_of_name (length c.self.inside.buckets.items) c.args.name.now
chosen c = search rules

-- The buckets after it.
inserted : (c : In_ok-insert) → HaveNames (slice_set c.self.inside.buckets.items c.bucket_of-bucket.result c.insert.new.self)
    (with_new (bytes_of c.self.inside.names.items) c.args.name.now)
inserted c =
    HaveNames-insert c.self.inside.buckets.items (bytes_of c.self.inside.names.items) c.bucket_of-bucket.result c.index_mut.result.now
    c.insert.new.self c.args.name c.self.invariant (chosen c) (bucket_is c) c.in_ok-insert.ensures.updates

was_among : (c : In_ok-insert) → contains name_cmp c.index_mut.result.now c.args.name
    ≡ is_among c.args.name.now (bytes_of c.self.inside.names.items)
was_among c =
    has_chosen c.self.inside.buckets.items (bytes_of c.self.inside.names.items) c.args.name c.bucket_of-bucket.result
    c.index_mut.result.now c.self.invariant (chosen c) (bucket_is c)

-- The names after the push.
pushed : (c : After-unwrap) → bytes_of c.push.new.self.items ≡ with_new (bytes_of c.self.inside.names.items) c.args.name.now
pushed c =
    let at = goal.at.returns-then-branch c in
    let items : c.push.new.self.items ≡ c.self.inside.names.items ++ c.args.name ∷ [] = search rules in
    ap bytes_of items ∙ map-append (λ (name : Bor (List ℕ)). name.now) c.self.inside.names.items (c.args.name ∷ [])
    ∙ new_at_end (bytes_of c.self.inside.names.items) c.args.name.now
    (sym (was_among at.In_ok-insert) ∙ not-true _ (sym c.in_ok-insert.ensures.added ∙ c.if-branch.true))

-- The names without one.
kept : (c : Else-branch) → bytes_of c.reserve.new.self.items ≡ with_new (bytes_of c.self.inside.names.items) c.args.name.now
kept c =
    let at = goal.at.returns-else-branch c in
    let same : bytes_of c.reserve.new.self.items ≡ bytes_of c.self.inside.names.items = search rules in
    same
    ∙ known_stays (bytes_of c.self.inside.names.items) c.args.name.now
    (sym (was_among at.In_ok-insert) ∙ not-false _ (sym c.in_ok-insert.ensures.added ∙ c.if-branch.false))

pub invariant_of-self-then-branch : goal.invariant_of-self-then-branch
invariant_of-self-then-branch c =
    let at = goal.at.invariant_of-self-then-branch c in
    subst (HaveNames (slice_set c.self.inside.buckets.items c.bucket_of-bucket.result c.insert.new.self)) (sym (pushed at.After-unwrap))
    (inserted at.In_ok-insert)

pub invariant_of-self-else-branch : goal.invariant_of-self-else-branch
invariant_of-self-else-branch c =
    let at = goal.at.invariant_of-self-else-branch c in
    subst (HaveNames (slice_set c.self.inside.buckets.items c.bucket_of-bucket.result c.insert.new.self)) (sym (kept at.Else-branch))
    (inserted at.In_ok-insert)

pub returns-then-branch : goal.returns-then-branch
returns-then-branch c = pushed (goal.at.returns-then-branch c).After-unwrap ∙ ap (λ names. with_new names c.args.name.now) c.self.view_is

pub returns-else-branch : goal.returns-else-branch
returns-else-branch c = kept (goal.at.returns-else-branch c).Else-branch ∙ ap (λ names. with_new names c.args.name.now) c.self.view_is
