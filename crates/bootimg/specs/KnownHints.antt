use Rattle.std.specs.Prelude.{◌≡◌, ◌++◌, ℕ, false, true, List, None, Some, codes}
use Rattle.bi_base.specs.declared.fault.Cause.TheVariants.{NoImages}
use Rattle.bi_base.specs.declared.fault.Error.TheVariants.{OutOfMemory, Refused}
use Rattle.bootimg.specs.Hints.{failure_hint, hint_given, hint_line, names_with_commas}
use Rattle.bootimg.specs.Hints.{refused_text}
use Rattle.bootimg.specs.Program.{writes_image}
use Rattle.bootimg.specs.RefusedWords.{AtArgument, AtField, AtOption, GivenWordModel}
use Rattle.bootimg.specs.RefusedWords.{configuration_given, near_name, with_near}
use Rattle.bootimg.specs.TakenWords.{names_taken}
use Rattle.bootimg.specs.declared.codes.CodeField.TheVariants.{Arch, Compression}
use Rattle.bootimg.specs.declared.command_line.takes.Takes.TheVariants as takes
use Rattle.bootimg.specs.declared.failure.Failure.TheVariants.{BadConfiguration, BadValue, Call}
use Rattle.bootimg.specs.declared.failure.Failure.TheVariants.{CannotOpen, NoPart}
use Rattle.bootimg.specs.declared.terminal.Terminal.{Terminal}

-- What hints say, and which commands write images, by which a reader can judge the definitions.

-- Neither standard output nor standard error is a terminal.
abbrev pub no_terminal : Terminal
no_terminal = record { output = false; errors = false }

-- The hint for a word that is not taken.
abbrev pub hint_for : GivenWordModel → List ℕ
hint_for given = refused_text (with_near given)

-- Words that are not taken have known hints, with a name that is near if there is one.
pub record RefusedWordsAreKnown : Type 0 where
  pub compression : hint_for (record {
    place = AtOption (codes "compression");
    takes = takes.Code Compression;
    word = codes "gz";
  })
      ≡ codes "--compression takes one of none, gzip, bzip2, lzma, lzo, lz4, zstd, or a number of "
      ++ codes "at most 255, not 'gz': did you mean 'gzip'?"
  pub number : hint_for (record {
    place = AtOption (codes "time");
    takes = takes.Number;
    word = codes "now";
  })
      ≡ codes "--time takes a number below 2^32: decimal, or hexadecimal with 0x, not 'now'"
  pub file : hint_for (record {
    place = AtField 0 (codes "LEN");
    takes = takes.Part;
    word = codes "Image.gz";
  })
      ≡ codes "image 0: LEN takes a length in bytes, and a file is given as @Image.gz"
  pub argument : hint_for (record {
    place = AtArgument (codes "NAME");
    takes = takes.Topic;
    word = codes "x y";
  })
      ≡ codes "NAME takes a name that bootimg explain prints, or a line of bootimg, not 'x%20y'"
  pub no_word : hint_for (record {
    place = AtField 1 (codes "LOAD");
    takes = takes.Address;
    word = codes "";
  })
      ≡ codes "image 1: LOAD takes an address, or - for none, not ''"
  pub no_file : hint_for (record {
    place = AtField 1 (codes "LEN");
    takes = takes.Part;
    word = codes "";
  })
      ≡ codes "image 1: LEN takes a length in bytes, and a file is given as @FILE"
  pub left_out : hint_for (record {
    place = AtOption (codes "ignore");
    takes = takes.LeftOut;
    word = codes "load";
  })
      ≡ codes "--ignore takes time, signatures, a PATH, or 'PATH NAME' of a property, not 'load'"
  pub configuration : hint_for (configuration_given (codes "a"))
      ≡ codes "--config takes NAME:KEY=IMAGE, a new NAME and names of images that are built, not "
      ++ codes "'a'"
  pub own_text : hint_for (record {
    place = AtOption (codes "describe-image");
    takes = takes.OwnText;
    word = codes "kernel";
  })
      ≡ codes "--describe-image takes NAME:TEXT, the NAME of what the TEXT is for, not 'kernel'"
  pub near : near_name (names_taken (takes.Code Arch)) (codes "amd64") ≡ Some (codes "arm64")
  pub nearer : near_name (names_taken takes.Key) (codes "fd") ≡ Some (codes "fdt")
  pub none_near : near_name (names_taken takes.Key) (codes "disk") ≡ None

-- Failures have known hints, and without hints none.
pub record FailureHintsAreKnown : Type 0 where
  pub refused : failure_hint (Call (Refused (record { cause = NoImages; offset = 0 })))
      ≡ codes "see bootimg explain NoImages"
  pub memory : failure_hint (Call OutOfMemory) ≡ codes "see bootimg explain 'out of memory'"
  pub missing_file : failure_hint CannotOpen ≡ codes "see bootimg explain 'cannot be opened'"
  pub configuration : failure_hint (BadConfiguration 1)
      ≡ codes "see bootimg explain 'bad configuration'"
  pub part : failure_hint NoPart ≡ codes "bootimg list prints what the image holds"
  pub line : hint_line (hint_given true BadValue)
      ≡ codes "bootimg: hint: see bootimg explain 'bad value'\n"
  pub no_line : hint_line (hint_given false BadValue) ≡ codes ""

-- The commands that write images and payloads.
pub record ImageWritersAreKnown : Type 0 where
  pub normalise : writes_image (codes "normalise") ≡ true
  pub extract : writes_image (codes "extract") ≡ true
  pub build : writes_image (codes "build-fit") ≡ true
  pub values : writes_image (codes "get") ≡ false
  pub list : writes_image (codes "list") ≡ false
