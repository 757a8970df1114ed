use Rattle.std.proofs.Common.{List, ℕ, IfOk, subst}
use Rattle.bi_fit.specs.Content.{tree_of}
use Rattle.bi_fit.specs.Reading.{IsReadFit}
use Rattle.bi_norm.specs.Meaning.{OfLegacy, OfFit}
use Rattle.bi_norm.specs.Reading.{IsReadBootImage}
use Rattle.bi_report.proofs.TreeMemory.{tree_needs_memory}
use Rattle.bi_commands.specs.Extracting.{choice_of}
use Rattle.bi_c.specs.Extracting.{IsChosenAt}
use Rattle.bi_fit.proofs.PlacedImages.{are_placed}
use Rattle.bi_commands.proofs.ImageCalls.{refused_of_file, failed_of_file}
use Rattle.bi_c.proofs.ExtractedFiles.{found_in_file, payload_offset_in_file}
use Rattle.bi_c.proofs.regions.find.Goals as goal

pub find_payload-requires : goal.find_payload-requires
find_payload-requires c =
    let read : IsReadFit c.args.limits c.args.file.now c.in-Fit.fit = subst
    (IsReadBootImage c.args.limits c.args.file.now) c.in-Fit.is c.in_ok-image.ensures.read in
    record { held = read.held; placed = are_placed c.in-Fit.fit read.held }

pub returns-in-Legacy-clause-found : goal.returns-in-Legacy-clause-found
returns-in-Legacy-clause-found c =
    let opened = subst (IsReadBootImage c.args.limits c.args.file.now) c.in-Legacy.is c.in_ok-image.ensures.read in
    found_in_file c.args.select c.args.limits c.args.file.now (OfLegacy c.in-Legacy.image.image) c.find_part.result opened.means
    (c.find_part.ensures.found c.args.limits c.args.file.now opened) (c.find_part.ensures.offset c.args.limits c.args.file.now opened)

pub returns-in-Legacy-clause-failed : goal.returns-in-Legacy-clause-failed
returns-in-Legacy-clause-failed c =
    let opened = subst (IsReadBootImage c.args.limits c.args.file.now) c.in-Legacy.is c.in_ok-image.ensures.read in
    refused_of_file c.args.select c.args.limits c.args.file.now
    (OfLegacy c.in-Legacy.image.image) c.find_part.result opened.means c.find_part.ensures.failed

pub returns-in-Fit-clause-found : goal.returns-in-Fit-clause-found
returns-in-Fit-clause-found c =
    let file = c.args.file.now in
    let content = c.in-Fit.fit in
    let read : IsReadFit c.args.limits file content = subst (IsReadBootImage c.args.limits file) c.in-Fit.is c.in_ok-image.ensures.read in
    found_in_file c.args.select c.args.limits file (OfFit (tree_of content)) c.find_payload.result read.means
    (subst (λ (f : List ℕ). IfOk c.find_payload.result
    (λ region. IsChosenAt f (choice_of c.args.select (OfFit (tree_of content))) region.size region.offset))
    read.is_file c.find_payload.ensures.found)
    (payload_offset_in_file c.args.select c.args.limits file content c.find_payload.result read c.find_payload.ensures.offset)

pub returns-in-Fit-clause-failed : goal.returns-in-Fit-clause-failed
returns-in-Fit-clause-failed c =
    let read : IsReadFit c.args.limits c.args.file.now c.in-Fit.fit = subst
    (IsReadBootImage c.args.limits c.args.file.now) c.in-Fit.is c.in_ok-image.ensures.read in
    failed_of_file c.args.select c.args.limits c.args.file.now (OfFit (tree_of c.in-Fit.fit)) c.find_payload.result read.means
    (tree_needs_memory c.args.limits c.args.file.now c.in-Fit.fit read) c.find_payload.ensures.failed
