use Rattle.std.proofs.Common.{◌≡◌, ◌∙◌, ℕ, List, Option, Some, ap, subst, sym}
use Rattle.std.specs.Prelude.{IfSome}
use Rattle.bi_files.specs.Files.{FileStep, KnownFiles}
use Rattle.bi_files.specs.FilesAfter.{AreRecorded, HaveContents, after_steps, no_names}
use Rattle.bootimg.specs.LeftFiles.{LeavesFiles, LeavesKnownFiles}
use Rattle.bootimg.specs.declared.terminal.Terminal.{Terminal}
use Rattle.bootimg.specs.Runs.{Run}
use Rattle.bootimg.specs.ProgramRuns.{IsRun}
use Rattle.bootimg.proofs.LeftFiles.{run_leaves}

-- What a run leaves of files whose steps are recorded.

pub same_steps : (one other : List FileStep) → Some one ≡ Some other → one ≡ other
same_steps one other same = cc

pub memory_run_leaves : (terminal : Terminal) (old new : KnownFiles) (old_steps new_steps : Option (List FileStep)) (arguments : List
    (List ℕ)) (run : Run)
    (input : Option (List ℕ)) (status : ℕ) → AreRecorded old old_steps → AreRecorded new new_steps → IsRun terminal arguments old run
    → run.input.remaining ≡ input → run.status ≡ status → run.steps ≡ old_steps → run.new_steps ≡ new_steps
    → LeavesKnownFiles arguments input old new new_steps status
memory_run_leaves terminal old new old_steps new_steps arguments run input status was is ran reads ends before after =
    let names = after_steps no_names was.all in
    let last = after_steps no_names is.all in
    let known = after ∙ is.are_steps in
    let leaves =
    run_leaves terminal no_names names arguments run (subst (λ f. IsRun terminal arguments f run) was.are_names ran)
    (λ l at. ap (after_steps no_names) (same_steps l was.all (sym at ∙ (before ∙ was.are_steps))))
    (subst (λ s. IfSome s HaveContents) (sym known) is.have_contents)
    in
    record {
      before = names;
      after = last;
      all = is.all;
      were_known = was.are_names;
      are_known = is.are_names;
      are_steps = is.are_steps;
      leaves = subst (λ i. LeavesFiles arguments i names last is.all status) reads
          (subst (λ s. LeavesFiles arguments run.input.remaining names last is.all s) ends
          (subst (λ s. IfSome s (λ l. LeavesFiles arguments run.input.remaining names (after_steps no_names l) l run.status)) known
          leaves));
    }
