use Rattle.std.proofs.Common.{subst}
use Rattle.bi_fit.specs.Content.{tree_of}
use Rattle.bi_fit.specs.Reading.{IsReadFit}
use Rattle.bi_norm.specs.Meaning.{OfLegacy, OfFit}
use Rattle.bi_norm.specs.Reading.{IsReadBootImage}
use Rattle.bi_report.proofs.TreeMemory.{tree_needs_memory}
use Rattle.bi_commands.proofs.ImageCalls.{chosen_of_file, refused_of_file, failed_of_file}
use Rattle.bi_commands.proofs.extract.extract.Goals as goal

pub select_payload-requires : goal.select_payload-requires
select_payload-requires c =
    let read : IsReadFit c.args.limits c.args.file.now c.in-Fit.fit = subst
    (IsReadBootImage c.args.limits c.args.file.now) c.in-Fit.is c.in_ok-image.ensures.read in
    record { held = read.held }

pub returns-in-Legacy-clause-chosen : goal.returns-in-Legacy-clause-chosen
returns-in-Legacy-clause-chosen c =
    let opened = subst (IsReadBootImage c.args.limits c.args.file.now) c.in-Legacy.is c.in_ok-image.ensures.read in
    chosen_of_file c.args.select c.args.limits c.args.file.now
    (OfLegacy c.in-Legacy.image.image) c.select_part.result opened.means c.select_part.ensures.chosen

pub returns-in-Legacy-clause-failed : goal.returns-in-Legacy-clause-failed
returns-in-Legacy-clause-failed c =
    let opened = subst (IsReadBootImage c.args.limits c.args.file.now) c.in-Legacy.is c.in_ok-image.ensures.read in
    refused_of_file c.args.select c.args.limits c.args.file.now
    (OfLegacy c.in-Legacy.image.image) c.select_part.result opened.means c.select_part.ensures.failed

pub returns-in-Fit-clause-chosen : goal.returns-in-Fit-clause-chosen
returns-in-Fit-clause-chosen c =
    let read : IsReadFit c.args.limits c.args.file.now c.in-Fit.fit = subst
    (IsReadBootImage c.args.limits c.args.file.now) c.in-Fit.is c.in_ok-image.ensures.read in
    chosen_of_file c.args.select c.args.limits c.args.file.now
    (OfFit (tree_of c.in-Fit.fit)) c.select_payload.result read.means c.select_payload.ensures.chosen

pub returns-in-Fit-clause-failed : goal.returns-in-Fit-clause-failed
returns-in-Fit-clause-failed c =
    let read : IsReadFit c.args.limits c.args.file.now c.in-Fit.fit = subst
    (IsReadBootImage c.args.limits c.args.file.now) c.in-Fit.is c.in_ok-image.ensures.read in
    failed_of_file c.args.select c.args.limits c.args.file.now (OfFit (tree_of c.in-Fit.fit)) c.select_payload.result read.means
    (tree_needs_memory c.args.limits c.args.file.now c.in-Fit.fit read) c.select_payload.ensures.failed
