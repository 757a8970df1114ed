use Rattle.std.proofs.Common.{◌≡◌, inl, inr, rules}
use Rattle.bi_files.specs.declared.memory_files.StepKind.TheVariants as kind
use Rattle.bi_files.proofs.MemoryLogs.{directory_looked_up, file_looked_up, other_step_keeps, removed_looked_up, renamed_looked_up}
use Rattle.bi_files.proofs.memory_files.look_up.Goals.{in-Made, in-Made-2, in-Made-3, in-Renamed, in-Renamed-2}
use Rattle.bi_files.proofs.memory_files.look_up.Goals as goal

pub returns-in-DirectoryMade : goal.returns-in-DirectoryMade
returns-in-DirectoryMade c =
    directory_looked_up c.args.step c.args.name.now c.look_up_at.result c.in-DirectoryMade.is c.look_up_at.ensures

pub returns-in-Removed : goal.returns-in-Removed
returns-in-Removed c =
    removed_looked_up c.args.step c.args.name.now c.look_up_at-in-Removed.result c.in-Removed.is c.look_up_at-in-Removed.ensures

pub returns-in_default : goal.returns-in_default
returns-in_default c names =
    other_step_keeps names c.args.step.name.now c.args.name.now c.args.step.kind c.in_default.not-Made c.in_default.not-Closed
    c.in_default.not-NotClosed c.in_default.not-Renamed c.in_default.not-Removed c.in_default.not-DirectoryMade
    c.in_default.not-DirectoryRenamed c.in_default.not-DirectoryRemoved

pub returns-in-Renamed : goal.returns-in-Renamed
returns-in-Renamed c = elim c.in-Renamed-1.branch [
  | in-Renamed w ↦ (
      let is : c.args.step.kind ≡ kind.Renamed c.in-Renamed-1.new_name = search rules in
      renamed_looked_up c.args.step c.in-Renamed-1.new_name c.args.name.now c.look_up_renamed.result (inl is) c.look_up_renamed.ensures
      )
  | in-Renamed-2 w ↦ (
      let is : c.args.step.kind ≡ kind.DirectoryRenamed c.in-Renamed-1.new_name = search rules in
      renamed_looked_up c.args.step c.in-Renamed-1.new_name c.args.name.now c.look_up_renamed.result (inr is) c.look_up_renamed.ensures
      )
]

pub returns-in-Made : goal.returns-in-Made
returns-in-Made c = elim c.in-Made-1.branch [
  | in-Made w ↦ (
      let is : c.args.step.kind ≡ kind.Made c.in-Made-1.file = search rules in
      file_looked_up c.args.step c.in-Made-1.file c.args.name.now c.look_up_at-in-Made.result (inl is) c.look_up_at-in-Made.ensures
      )
  | in-Made-2 w ↦ (
      let is : c.args.step.kind ≡ kind.Closed c.in-Made-1.file = search rules in
      file_looked_up c.args.step c.in-Made-1.file c.args.name.now c.look_up_at-in-Made.result (inr (inl is)) c.look_up_at-in-Made.ensures
      )
  | in-Made-3 w ↦ (
      let is : c.args.step.kind ≡ kind.NotClosed c.in-Made-1.file = search rules in
      file_looked_up c.args.step c.in-Made-1.file c.args.name.now c.look_up_at-in-Made.result (inr (inr is)) c.look_up_at-in-Made.ensures
      )
]
