use Rattle.std.proofs.Common.{◌≡◌, ◌++◌, ◌+◌, ◌<◌, ◌∙◌, ℕ, Bool, true, List, [], ◌∷◌, Option, Result, Ok, Err, length, map, take, drop}
use Rattle.std.proofs.Common.{get_or}
use Rattle.std.proofs.Common.{ap, inl}
use Rattle.std.proofs.Common.{inr, refl, subst, sym, add-one}
use Rattle.std.specs.Prelude.{suc}
use Rattle.std.specs.List.{AllZip, list_any}
use Rattle.std.proofs.Math.Seq.{drop-cons}
use Rattle.std.proofs.lemmas.List.{append-nil, take-append-drop, take_more}
use Rattle.std.proofs.lemmas.Slice.Zip.{all_zipped_more}
use Rattle.bi_base.specs.Limits.{Limits}
use Rattle.bi_base.specs.Pipes.{IsTracedPipe}
use Rattle.bi_base.specs.declared.fault.Error.{Error}
use Rattle.bi_commands.specs.KnownChoices.{lent}
use Rattle.bi_commands.specs.declared.parts.Part.{Part}
use Rattle.bi_commands.specs.declared.parts.Part.TheVariants.{Bytes, Length}
use Rattle.bootimg.specs.CommandLine.{is_input, reads_input, sources_of}
use Rattle.bi_files.specs.Files.{FileStep, KnownFiles, WereReadInTurn}
use Rattle.bootimg.specs.ReadParts.{IsLent, IsReadingFailure, IsPartFailure, WasRead, WereRead}
use Rattle.bootimg.specs.Runs.{build_promise, source_failure, Work, IsBuildWork, NoRoom, PartNotRead, IsBuiltWork, WasBuilt, WasNotBuilt}
use Rattle.bootimg.specs.Runs.{ArePartsRead, IsFileRead, IsPart, IsPartNotRead, AreFirstRead}
use Rattle.bootimg.specs.Tasks.{EndedWith}
use Rattle.bootimg.specs.declared.builds.OwnedPart.{OwnedPart}
use Rattle.bootimg.specs.declared.builds.OwnedPart.TheVariants as owned
use Rattle.bootimg.specs.declared.command_line.build.BuildPlan.{BuildPlan}
use Rattle.bootimg.specs.declared.command_line.part.PartSource.{PartSource}
use Rattle.bootimg.specs.declared.command_line.part.PartSource.TheVariants as part
use Rattle.bootimg.specs.declared.command_line.source.ImageSource.TheVariants.{Standard}
use Rattle.bootimg.specs.declared.failure.Failure.TheVariants.{Call}
use Rattle.bootimg.specs.declared.jobs.SourceFailure.{SourceFailure}
use Rattle.bootimg.specs.declared.tasks.Done.{Done}

-- The parts of which an image is built are those of the sources that were read, and the run fails if they cannot be read or the image
-- cannot be built.

-- ---- sources that are read in turn

-- One more source was read.
pub one_more_read : {S V : Type 0} (IsRead : S → V → (old new : Option (List FileStep)) → Type 0) (sources : List S) (values : List V)
    (source : S) (value : V) (old middle new : Option (List FileStep)) → WereReadInTurn IsRead sources values old middle
    → IsRead source value middle new → WereReadInTurn IsRead (sources ++ source ∷ []) (values ++ value ∷ []) old new
one_more_read IsRead [] [] source value old middle new were one = (new, subst (λ o. IsRead source value o new) were one, refl)
one_more_read IsRead [] (v ∷ values) source value old middle new were one = absurd were
one_more_read IsRead (s ∷ sources) [] source value old middle new were one = absurd were
one_more_read IsRead (s ∷ sources) (v ∷ values) source value old middle new were one =
    (were.0, were.1, one_more_read IsRead sources values source value were.0 middle new were.2 one)

-- Each source has one value.
pub one_value_each : {S V : Type 0} (IsRead : S → V → (old new : Option (List FileStep)) → Type 0) (sources : List S) (values : List V)
    (old new : Option (List FileStep)) → WereReadInTurn IsRead sources values old new → length values ≡ length sources
one_value_each IsRead [] [] old new were = refl
one_value_each IsRead [] (v ∷ values) old new were = absurd were
one_value_each IsRead (s ∷ sources) [] old new were = absurd were
one_value_each IsRead (s ∷ sources) (v ∷ values) old new were =
    ap suc (one_value_each IsRead sources values were.0 new were.2)

-- ---- parts

-- A part that was read, and is lent.
part_lent : (files : KnownFiles) (limits : Limits) (source : PartSource) (was_read : OwnedPart) (part : Part)
    (old new : Option (List FileStep)) → WasRead files limits source was_read old new → IsLent was_read part
    → IsPart files limits source part old new
part_lent files limits (part.Input size) (owned.Length other) (Length given) old new was is = (is ∙ was.0, was.1)
part_lent files limits (part.Input size) (owned.Length other) (Bytes bytes) old new was is = absurd is
part_lent files limits (part.Input size) (owned.Bytes bytes) given old new was is = absurd was
part_lent files limits (part.File name) (owned.Length other) given old new was is = absurd was
part_lent files limits (part.File name) (owned.Bytes bytes) (Length given) old new was is = absurd is
part_lent files limits (part.File name) (owned.Bytes bytes) (Bytes given) old new was is =
    subst (λ b. IsFileRead files limits name.now b old new) (sym is) was

pub parts_lent : (files : KnownFiles) (limits : Limits) (sources : List PartSource) (were_read : List OwnedPart) (parts : List Part)
    (old new : Option (List FileStep)) → WereRead files limits sources were_read old new → AllZip IsLent were_read parts
    → ArePartsRead files limits sources parts old new
parts_lent files limits [] [] [] old new were are = were
parts_lent files limits [] [] (p ∷ parts) old new were are = absurd are
parts_lent files limits [] (r ∷ were_read) parts old new were are = absurd were
parts_lent files limits (s ∷ sources) [] parts old new were are = absurd were
parts_lent files limits (s ∷ sources) (r ∷ were_read) [] old new were are = absurd are
parts_lent files limits (s ∷ sources) (r ∷ were_read) (p ∷ parts) old new were are =
    (were.0, part_lent files limits s r p old were.0 were.1 are.0, parts_lent files limits sources were_read parts were.0 new were.2 are.1)

-- The part that a part that was read is lent as.
abbrev lent_part : OwnedPart → Part
lent_part (owned.Length size) = Length size
lent_part (owned.Bytes bytes) = Bytes (lent bytes.items)

each_lent : (were_read : List OwnedPart) → AllZip IsLent were_read (map lent_part were_read)
each_lent [] = tt
each_lent (owned.Length size ∷ were_read) = (refl, each_lent were_read)
each_lent (owned.Bytes bytes ∷ were_read) = (refl, each_lent were_read)

-- The parts so far were read, and one more. Reading the parts so far did not change what is known of the files.
pub read_next : (files later : KnownFiles) (limits : Limits) (sources : List PartSource) (i : ℕ) (d : PartSource)
    (were_read next : List OwnedPart) (was_read : OwnedPart) (old middle new : Option (List FileStep)) → i < length sources
    → WereRead files limits (take i sources) were_read old middle → later ≡ files → next ≡ were_read ++ was_read ∷ []
    → WasRead later limits (get_or sources i d) was_read middle new → WereRead files limits (take (i + 1) sources) next old new
read_next files later limits sources i d were_read next was_read old middle new within were same is one =
    rw (take_more sources i d within, is)
    (one_more_read (WasRead files limits) (take i sources) were_read (get_or sources i d) was_read old middle new were
    (subst (λ f. WasRead f limits (get_or sources i d) was_read middle new) same one))

-- The parts so far were lent, and one more.
pub lent_next : (were_read : List OwnedPart) (i : ℕ) (d : OwnedPart) (parts next : List Part) (part : Part) → i < length were_read
    → AllZip IsLent (take i were_read) parts → next ≡ parts ++ part ∷ [] → IsLent (get_or were_read i d) part
    → AllZip IsLent (take (i + 1) were_read) next
lent_next were_read i d parts next part within are is one =
    rw (take_more were_read i d within, is) (all_zipped_more IsLent (take i were_read) parts (get_or were_read i d) part are one)

-- The first part whose file was not read.
first_not_read : (files : KnownFiles) (limits : Limits) (sources before later : List PartSource) (source : PartSource)
    (were_read : List OwnedPart) (failed : SourceFailure) (old middle new : Option (List FileStep)) → sources ≡ before ++ source ∷ later
    → WereRead files limits before were_read old middle → IsPartFailure files limits source failed middle new
    → IsPartNotRead files limits sources failed old new
first_not_read files limits sources before later (part.Input size) were_read failed old middle new is were not_read = absurd not_read
first_not_read files limits sources before later (part.File name) were_read failed old middle new is were not_read = record {
  before = before;
  name = name;
  later = later;
  parts = map lent_part were_read;
  middle = middle;
  is = is;
  are_read = parts_lent files limits before were_read (map lent_part were_read) old middle were (each_lent were_read);
  not_read = not_read.0;
  named = not_read.1;
}

pub not_read : (files later : KnownFiles) (limits : Limits) (sources : List PartSource) (i : ℕ) (d : PartSource)
    (were_read : List OwnedPart) (failed : SourceFailure) (old middle new : Option (List FileStep)) → i < length sources
    → WereRead files limits (take i sources) were_read old middle → later ≡ files
    → IsPartFailure later limits (get_or sources i d) failed middle new → IsPartNotRead files limits sources failed old new
not_read files later limits sources i d were_read failed old middle new within were same is =
    first_not_read files limits sources (take i sources) (drop (i + 1) sources) (get_or sources i d) were_read failed old middle new
    (sym (take-append-drop i sources) ∙ ap (λ l. take i sources ++ l) (rw add-one (drop-cons sources i d within))) were
    (subst (λ f. IsPartFailure f limits (get_or sources i d) failed middle new) same is)

-- The first parts were read.
pub first_read : (files : KnownFiles) (limits : Limits) (sources first later : List PartSource) (were_read : List OwnedPart)
    (old new : Option (List FileStep)) → sources ≡ first ++ later → WereRead files limits first were_read old new
    → AreFirstRead files limits sources old new
first_read files limits sources first later were_read old new is were = record {
  first = first;
  later = later;
  parts = map lent_part were_read;
  is = is;
  are_read = parts_lent files limits first were_read (map lent_part were_read) old new were (each_lent were_read);
}

-- All parts were read.
pub all_parts_read : (files : KnownFiles) (limits : Limits) (sources named : List PartSource) (were_read : List OwnedPart)
    (old new : Option (List FileStep)) → named ≡ sources → WereRead files limits named were_read old new
    → AreFirstRead files limits sources old new
all_parts_read files limits sources named were_read old new names were =
    first_read files limits sources named [] were_read old new (sym names ∙ sym (append-nil named)) were

-- The parts so far were read, and one more, for which there was no room.
pub next_read_too : (files later : KnownFiles) (limits : Limits) (sources : List PartSource) (i : ℕ) (d : PartSource)
    (were_read : List OwnedPart) (was_read : OwnedPart) (old middle new : Option (List FileStep)) → i < length sources
    → WereRead files limits (take i sources) were_read old middle → later ≡ files
    → WasRead later limits (get_or sources i d) was_read middle new → AreFirstRead files limits sources old new
next_read_too files later limits sources i d were_read was_read old middle new within were same one =
    first_read files limits sources (take (i + 1) sources) (drop (i + 1) sources) (were_read ++ was_read ∷ []) old new
    (sym (take-append-drop (i + 1) sources))
    (read_next files later limits sources i d were_read (were_read ++ was_read ∷ []) was_read old middle new within were same refl one)

-- The parts that are built are those of the sources, and there are as many.
pub are_parts : (files : KnownFiles) (limits : Limits) (sources named : List PartSource) (were_read lent_read : List OwnedPart)
    (parts given : List Part) (old new : Option (List FileStep)) → named ≡ sources → lent_read ≡ were_read → given ≡ parts
    → WereRead files limits named were_read old new → AllZip IsLent lent_read parts → ArePartsRead files limits sources given old new
are_parts files limits sources named were_read lent_read parts given old new names reads gives were are =
    subst (λ p. ArePartsRead files limits sources p old new) (sym gives)
    (parts_lent files limits sources were_read parts old new
    (subst (λ all. WereRead files limits all were_read old new) names were)
    (subst (λ all. AllZip IsLent all parts) reads are))

pub as_many : (files : KnownFiles) (limits : Limits) (sources : List PartSource) (parts : List Part)
    (old new : Option (List FileStep)) → ArePartsRead files limits sources parts old new → length parts ≡ length sources
as_many files limits sources parts old new are = one_value_each (IsPart files limits) sources parts old new are

-- Whether standard input is read for some parts.
pub reads_some : (sources : List PartSource) (result : Bool) → (sources ≡ [] → ⊥) → result ≡ list_any is_input sources
    → result ≡ reads_input sources
reads_some [] result some is = absurd (some refl)
reads_some (source ∷ later) result some is = is

-- ---- work

-- The image was built, or not, by the command.
pub was_built : (plan : BuildPlan) (parts : List Part) (limits : Limits) (work : Work) (result : Result (Unit {0}) Error) (done : Done)
    → result ≡ Ok tt
    → IsTracedPipe (build_promise plan parts limits) limits work.input work.new_input work.output work.new_output result
    → EndedWith true done → work.outcome ≡ Ok done → IsBuiltWork plan parts limits work
was_built plan parts limits work result done same piped ended outcome =
    WasBuilt done
    (subst
    (λ (r : Result (Unit {0}) Error). IsTracedPipe
    (build_promise plan parts limits) limits work.input work.new_input work.output work.new_output r)
    same piped)
    ended outcome

pub was_not_built : (plan : BuildPlan) (parts : List Part) (limits : Limits) (work : Work) (result : Result (Unit {0}) Error)
    (error : Error)
    → result ≡ Err error
    → IsTracedPipe (build_promise plan parts limits) limits work.input work.new_input work.output work.new_output result
    → work.outcome ≡ Err (source_failure Standard (Call error)) → IsBuiltWork plan parts limits work
was_not_built plan parts limits work result error same piped outcome =
    WasNotBuilt error
    (subst
    (λ (r : Result (Unit {0}) Error). IsTracedPipe
    (build_promise plan parts limits) limits work.input work.new_input work.output work.new_output r)
    same piped)
    outcome

-- The parts were not read, or there was no room for them.
pub no_parts_read : (files : KnownFiles) (plan : BuildPlan) (limits : Limits) (work : Work) (failed : SourceFailure)
    (old new : Option (List FileStep)) → IsReadingFailure files limits (sources_of plan) failed old new
    → work.new_output ≡ work.output → work.outcome ≡ Err failed → work.new_input ≡ work.input
    → IsBuildWork files plan limits work old new
no_parts_read files plan limits work failed old new (inl not_read) written outcome read =
    PartNotRead failed not_read (record { nothing_written = written; outcome = outcome }) read
no_parts_read files plan limits work failed old new (inr memory) written outcome read =
    NoRoom memory.0 (record { nothing_written = written; outcome = outcome ∙ ap (λ p. Err p) memory.1 }) read
