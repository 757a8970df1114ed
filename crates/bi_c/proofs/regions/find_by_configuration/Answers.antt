use Rattle.std.proofs.Common.{map, IfOk, subst, sym}
use Rattle.bi_fit.specs.Content.{tree_of}
use Rattle.bi_fit.specs.JudgementCalls.{listed_image}
use Rattle.bi_commands.specs.Extracting.{Choice}
use Rattle.bi_c.specs.Extracting.{IsChosenAt}
use Rattle.bi_c.proofs.ListedChoices.{entry_by_name, listed_entry_read, reason_of_entry}
use Rattle.bi_c.proofs.Places.{listed_offset}
use Rattle.bi_c.proofs.regions.find_by_configuration.Goals as goal

pub returns-clause-found : goal.returns-clause-found
returns-clause-found c =
    let items = c.in_ok-listed.listed.items in
    let named = c.in_ok-named.named in
    let found = listed_entry_read items c.deref.result.now c.args.index c.get.result named c.deref.ensures.value c.get.ensures.lookup.3
    c.in_ok-named.ensures.value in
    let same = entry_by_name (tree_of c.args.fit.now) c.args.name.now c.args.key c.args.index (map listed_image items)
    (listed_image named.now) c.in_ok-listed.ensures.listed found in
    subst (λ (choice : Choice). IfOk c.find_by_name.result (λ region. IsChosenAt c.args.fit.now.blob.file choice region.size region.offset))
    (sym same) c.find_by_name.ensures.found

pub returns-clause-failed : goal.returns-clause-failed
returns-clause-failed c =
    let items = c.in_ok-listed.listed.items in
    let named = c.in_ok-named.named in
    let found = listed_entry_read items c.deref.result.now c.args.index c.get.result named c.deref.ensures.value c.get.ensures.lookup.3
    c.in_ok-named.ensures.value in
    let same = entry_by_name (tree_of c.args.fit.now) c.args.name.now c.args.key c.args.index (map listed_image items)
    (listed_image named.now) c.in_ok-listed.ensures.listed found in
    reason_of_entry c.find_by_name.result _ _ same c.find_by_name.ensures.failed

pub returns-clause-offset : goal.returns-clause-offset
returns-clause-offset c =
    let items = c.in_ok-listed.listed.items in
    let named = c.in_ok-named.named in
    let found = listed_entry_read items c.deref.result.now c.args.index c.get.result named c.deref.ensures.value c.get.ensures.lookup.3
    c.in_ok-named.ensures.value in
    listed_offset c.args.fit.now c.args.name.now c.args.key c.args.index (map listed_image items)
    (listed_image named.now) c.find_by_name.result
    c.in_ok-listed.ensures.listed found c.find_by_name.ensures.offset
