use Rattle.std.proofs.Common.{◌≡◌, ◌≤◌, ◌<◌, ◌+◌, ◌++◌, ◌∙◌, ℕ, List, [], ◌∷◌, Option, Ok, Err, length, take, drop, get_or, ap, subst, sym}
use Rattle.std.proofs.Common.{add-one}
use Rattle.std.proofs.Math.Seq.{drop-cons}
use Rattle.std.proofs.lemmas.List.{length-append, length-map, map-append, take-append-drop, take_more}
use Rattle.std.specs.Prelude.{Vec}
use Rattle.std.specs.declared.alloc.Global.{Global}
use Rattle.bi_base.specs.BufferedSinks.{state_of, BufferAppends, BufferFails}
use Rattle.bi_base.specs.Commands.{Appended, CommandFailed, SinkFailed, WasRefused}
use Rattle.bi_base.specs.Limits.{Limits}
use Rattle.bi_base.specs.Sinks.{Wrote}
use Rattle.bi_base.specs.Traces.{WriteTrace}
use Rattle.bi_base.specs.Writing.{WriteOrFlushStopped, WroteAndFlushed}
use Rattle.bi_base.specs.declared.buffered_sink.BufferedSink.{BufferedSink}
use Rattle.bi_base.specs.declared.fault.Error.{Error}
use Rattle.bi_base.proofs.PipeLaws.{failed_writing, finished_writing}
use Rattle.bi_common.specs.Offsets.{input_from}
use Rattle.bi_edit.specs.declared.edit.Edit.{Edit}
use Rattle.bi_edit.specs.declared.edit_error.EditError.{EditError}
use Rattle.bi_edit.specs.declared.edit_error.EditError.TheVariants as error
use Rattle.bi_edit.specs.declared.words.PayloadWord.{PayloadWord}
use Rattle.bi_edit.specs.EditedFiles.{IsEdited, IsEditFileError}
use Rattle.bi_files.specs.Files.{FileStep, KnownFiles}
use Rattle.bootimg.specs.EditedImages.{AreEditsOf, ArePayloadEdits, IsFailureOfEditing, IsPayloadEdit, contents_of}
use Rattle.bootimg.specs.Runs.{AreFirstPayloads, ArePayloadsRead, CouldNotEdit, FileRead, InputRead, Inputs, IsEditedWork, IsFileNotRead}
use Rattle.bootimg.specs.Runs.{IsFileRead, IsImageRead, IsPayloadNotRead, NotWholeWritten, Work, source_failure}
use Rattle.bootimg.specs.declared.command_line.edits.EditPlan.{EditPlan}
use Rattle.bootimg.specs.declared.command_line.source.ImageSource.{ImageSource}
use Rattle.bootimg.specs.declared.command_line.source.ImageSource.TheVariants.{File}
use Rattle.bootimg.specs.declared.failure.Failure.{Failure}
use Rattle.bootimg.specs.declared.failure.Failure.TheVariants.{Call}
use Rattle.bootimg.specs.declared.jobs.SourceFailure.{SourceFailure}
use Rattle.bootimg.proofs.BuildRuns.{one_more_read, one_value_each}

-- The files of payloads are read in their order, and an image is edited with their contents.

-- ---- files of payloads

-- The files so far were read, and one more. Reading the files so far did not change what is known of the files.
pub payload_read : (files later : KnownFiles) (limits : Limits) (words : List PayloadWord) (i : ℕ) (d word : PayloadWord)
    (contents next : List (Vec ℕ Global)) (bytes : Vec ℕ Global) (old middle new : Option (List FileStep)) → i < length words
    → word ≡ get_or words i d → ArePayloadsRead files limits (take i words) (contents_of contents) old middle → later ≡ files
    → next ≡ contents ++ bytes ∷ [] → IsFileRead later limits word.file.now bytes.items middle new
    → ArePayloadsRead files limits (take (i + 1) words) (contents_of next) old new
payload_read files later limits words i d word contents next bytes old middle new within here were same is one =
    rw (take_more words i d within, is, map-append (λ (bytes : Vec ℕ Global). bytes.items) contents (bytes ∷ []))
    (one_more_read (λ (word : PayloadWord) bytes. IsFileRead files limits word.file.now bytes) (take i words) (contents_of contents)
    (get_or words i d) bytes.items old middle new were
    (subst (λ f. IsFileRead f limits (get_or words i d).file.now bytes.items middle new) same
    (subst (λ (w : PayloadWord). IsFileRead later limits w.file.now bytes.items middle new) here one)))

-- What is before a payload, it, and what is after it.
words_around : (words : List PayloadWord) (i : ℕ) (d : PayloadWord) → i < length words →
    words ≡ take i words ++ get_or words i d ∷ drop (i + 1) words
words_around words i d within =
    sym (take-append-drop i words) ∙ ap (λ l. take i words ++ l) (rw add-one (drop-cons words i d within))

pub payload_not_read : (files later : KnownFiles) (limits : Limits) (words : List PayloadWord) (i : ℕ) (d word : PayloadWord)
    (contents : List (List ℕ)) (failed : SourceFailure) (old middle new : Option (List FileStep)) → i < length words
    → word ≡ get_or words i d → ArePayloadsRead files limits (take i words) contents old middle → later ≡ files
    → IsFileNotRead later limits word.file.now failed.failure middle new → failed.source ≡ File word.file
    → IsPayloadNotRead files limits words failed old new
payload_not_read files later limits words i d word contents failed old middle new within here were same is named = record {
  before = take i words;
  word = word;
  later = drop (i + 1) words;
  contents = contents;
  middle = middle;
  is = words_around words i d within ∙ ap (λ w. take i words ++ w ∷ drop (i + 1) words) (sym here);
  are_read = were;
  not_read = subst (λ f. IsFileNotRead f limits word.file.now failed.failure middle new) same is;
  named = named;
}

-- The files of the first payloads were read.
pub first_payloads : (files : KnownFiles) (limits : Limits) (words : List PayloadWord) (i : ℕ) (contents : List (List ℕ))
    (old new : Option (List FileStep)) → ArePayloadsRead files limits (take i words) contents old new
    → AreFirstPayloads files limits words old new
first_payloads files limits words i contents old new were = record {
  first = take i words;
  later = drop i words;
  contents = contents;
  is = sym (take-append-drop i words);
  are_read = were;
}

-- There are as many contents as payloads.
pub contents_long : (files : KnownFiles) (limits : Limits) (words : List PayloadWord) (contents : List (Vec ℕ Global))
    (old new : Option (List FileStep)) → ArePayloadsRead files limits words (contents_of contents) old new → length contents ≡ length words
contents_long files limits words contents old new were =
    sym (length-map contents (λ (bytes : Vec ℕ Global). bytes.items))
    ∙ one_value_each (λ (word : PayloadWord) bytes. IsFileRead files limits word.file.now bytes) words (contents_of contents) old new were

-- An image that was read is within the limit.
pub image_within : (files : KnownFiles) (limits : Limits) (old new : Inputs) (image : List ℕ) (source : ImageSource) →
    IsImageRead files limits old new image source → length image ≤ limits.file
image_within files limits old new image source (InputRead read same) = read.within
image_within files limits old new image source (FileRead name read same) = read.is_read.within

-- ---- the writer

-- The editor failed over a new sink.
pub editor_failed : {T E : Type 0} (trace : T → WriteTrace) (wraps : Error → E) (IsText : List ℕ → Type 0) (HasError : E → Type 0)
    (target new_target : WriteTrace) (old new : BufferedSink T) (failure : E) → (state_of trace old).held ≡ []
    → (state_of trace old).trace ≡ target → (state_of trace new).trace ≡ new_target
    → CommandFailed (BufferFails trace) wraps IsText HasError old new failure
    → CommandFailed WriteOrFlushStopped wraps IsText HasError target new_target failure
editor_failed trace wraps IsText HasError target new_target old new failure none begins ends failed =
    rw (sym begins, sym ends) (failed_writing trace wraps IsText HasError old new failure none failed)

-- The editor appended its text to a new sink, and finishing the sink failed.
pub finish_stopped : {T : Type 0} (trace : T → WriteTrace) (IsText : List ℕ → Type 0) (target new_target : WriteTrace)
    (old mid : BufferedSink T) (new : WriteTrace) (cause : Error) → (state_of trace old).held ≡ []
    → (state_of trace old).trace ≡ target → new ≡ new_target → (appended : Appended (BufferAppends trace) IsText old mid)
    → Wrote {V = Unit {0}} WroteAndFlushed WriteOrFlushStopped (state_of trace mid).trace (state_of trace mid).held (Err cause) new
    → WriteOrFlushStopped target appended.text new_target cause
finish_stopped trace IsText target new_target old mid new cause none begins ends appended finished =
    rw (sym begins, sym ends) (finished_writing trace IsText old mid new (Err cause) none appended finished)

-- It was finished.
pub finish_wrote : {T : Type 0} (trace : T → WriteTrace) (IsText : List ℕ → Type 0) (target new_target : WriteTrace)
    (old mid : BufferedSink T) (new : WriteTrace) → (state_of trace old).held ≡ []
    → (state_of trace old).trace ≡ target → new ≡ new_target → (appended : Appended (BufferAppends trace) IsText old mid)
    → Wrote {V = Unit {0}} WroteAndFlushed WriteOrFlushStopped (state_of trace mid).trace (state_of trace mid).held (Ok tt) new
    → WroteAndFlushed target appended.text new_target
finish_wrote trace IsText target new_target old mid new none begins ends appended finished =
    rw (sym begins, sym ends) (finished_writing trace IsText old mid new (Ok tt) none appended finished)

-- ---- edits

-- One more edit of a payload.
pub payload_edits_push : (words : List PayloadWord) (contents : List (List ℕ)) (edits : List Edit) (word : PayloadWord) (bytes : List ℕ)
    (edit : Edit) → ArePayloadEdits words contents edits → IsPayloadEdit word bytes edit →
    ArePayloadEdits (words ++ word ∷ []) (contents ++ bytes ∷ []) (edits ++ edit ∷ [])
payload_edits_push [] [] [] word bytes edit are is = (is, tt)
payload_edits_push [] [] (e ∷ edits) word bytes edit are is = absurd are
payload_edits_push [] (b ∷ contents) edits word bytes edit are is = absurd are
payload_edits_push (w ∷ words) [] edits word bytes edit are is = absurd are
payload_edits_push (w ∷ words) (b ∷ contents) [] word bytes edit are is = absurd are
payload_edits_push (w ∷ words) (b ∷ contents) (e ∷ edits) word bytes edit are is =
    (are.0, payload_edits_push words contents edits word bytes edit are.1 is)

pub one_more_edit : (words : List PayloadWord) (contents : List (Vec ℕ Global)) (d : Vec ℕ Global) (edits : List Edit) (word : PayloadWord)
    (edit : Edit) → length words < length contents → ArePayloadEdits words (contents_of (take (length words) contents)) edits →
    IsPayloadEdit word (get_or contents (length words) d).items edit →
    ArePayloadEdits (words ++ word ∷ []) (contents_of (take (length (words ++ word ∷ [])) contents)) (edits ++ edit ∷ [])
one_more_edit words contents d edits word edit within are is =
    let size : length (words ++ word ∷ []) ≡ length words + 1 = length-append words (word ∷ []) in
    rw (
      size,
      take_more contents (length words) d within,
      map-append (λ (bytes : Vec ℕ Global). bytes.items) (take (length words) contents) (get_or contents (length words) d ∷ []),
    )
    (payload_edits_push words (contents_of (take (length words) contents)) edits word (get_or contents (length words) d).items edit are is)

-- The edit could not be made, or the text was not wholly written.
pub edit_failed : (plan : EditPlan) (limits : Limits) (image : List ℕ) (contents : List (List ℕ)) (work : Work) (edits : List Edit)
    (failure : EditError) (why : Failure) → AreEditsOf plan contents edits →
    CommandFailed WriteOrFlushStopped (λ cause. error.Failed cause) (IsEdited edits plan.choice limits (input_from plan.offset image))
    (IsEditFileError edits plan.choice limits (input_from plan.offset image)) work.output work.new_output failure →
    IsFailureOfEditing plan.removal_words.items (input_from plan.offset image) failure why →
    work.outcome ≡ Err (source_failure plan.source why) → IsEditedWork plan limits image contents work
edit_failed plan limits image contents work edits failure why are (WasRefused is same) said outcome =
    CouldNotEdit edits are failure is why said (record { nothing_written = same; outcome = outcome })
edit_failed plan limits image contents work edits failure why are (SinkFailed text cause is stopped wrapped) said outcome =
    let known : why ≡ Call cause =
    subst (λ e. IsFailureOfEditing plan.removal_words.items (input_from plan.offset image) e why) wrapped said in
    NotWholeWritten edits are text is cause stopped (outcome ∙ ap (λ f. Err (source_failure plan.source f)) known)
