use Rattle.std.specs.Prelude.{ℕ, List, [], ◌∷◌, ◌++◌, replicate, codes, Some}
use Rattle.std.specs.Borrow.{Bor}
use Rattle.bi_base.specs.declared.fault.Cause.{Cause}
use Rattle.bi_base.specs.declared.fault.Cause.TheVariants.{TooLarge, NoCodeName, BadField}
use Rattle.bi_base.specs.declared.fault.Cause.TheVariants.{DuplicateNode}
use Rattle.bi_base.specs.declared.fault.Error.TheVariants.{OutOfMemory}
use Rattle.bi_base.specs.Limits.{Limits}
use Rattle.bi_fit.specs.declared.form.Form.{Form}
use Rattle.bi_fit.specs.declared.form.Form.TheVariants.{Embedded}
use Rattle.bi_fit.specs.declared.building.Head.{Head}
use Rattle.bi_norm.specs.declared.fit_building.ImageSpec.{ImageSpec}
use Rattle.bi_norm.specs.FitBuilding.{IsBuildFault, IsBuildError}

-- Small trees that cannot be built, each with its fault, by which a reader can judge the
-- definitions (profile of this project). Where the slices of the arguments are makes no difference:
-- they have the given bytes, and are otherwise like any slice.

-- A slice with these bytes, otherwise like another one.
abbrev pub slice_like : Bor (List ℕ) → List ℕ → Bor (List ℕ)
slice_like any bytes = record any { now = bytes }

-- The description, and time 1.
abbrev pub head_like : Bor (List ℕ) → List ℕ → Head
head_like any description = record { description = slice_like any description; time = 1 }

-- A kernel for Linux on ARM with this name and the payload `x`.
abbrev pub kernel_like : Bor (List ℕ) → List ℕ → ImageSpec
kernel_like any name = record {
  name = slice_like any name;
  image_type = 2;
  arch = 2;
  os = 5;
  compression = 0;
  load = Some 0x8000;
  entry = Some 0x8040;
  payload = slice_like any (codes "x");
}

-- The limits of 64 bytes and 64 open nodes.
abbrev pub narrow_limits : Limits
narrow_limits = record { file = 64; depth = 64 }

-- A tree with this description and these images has this fault under these limits.
abbrev pub HasBuildFault : Bor (List ℕ) → List ℕ → List ImageSpec → Cause → ℕ → Type 0
HasBuildFault any description images cause offset =
    IsBuildFault narrow_limits Embedded (head_like any description) images
    (record { cause = cause; offset = offset })

-- A description with a zero byte.
abbrev pub description_with_zero : List ℕ
description_with_zero = codes "k" ++ 0 ∷ codes "k"

-- Each check, except that of the text's length, is the first that fails for one of these.
pub record HaveBuildFaults (any : Bor (List ℕ)) : Type 0 where
  pub many_images :
      HasBuildFault any (codes "k") (replicate 65 (kernel_like any (codes "a"))) TooLarge 64
  pub description : HasBuildFault any description_with_zero [] BadField 0
  pub empty_name : HasBuildFault any (codes "k") (kernel_like any [] ∷ []) BadField 0
  pub name_with_zero :
      HasBuildFault any (codes "k") (kernel_like any (codes "a" ++ 0 ∷ []) ∷ []) BadField 0
  pub name_with_slash :
      HasBuildFault any (codes "k") (kernel_like any (codes "a/b") ∷ []) BadField 0
  pub multi :
      HasBuildFault any (codes "k")
      (kernel_like any (codes "a") ∷ record (kernel_like any (codes "b")) { image_type = 4 } ∷ [])
      BadField 1
  pub image_type :
      HasBuildFault any (codes "k")
      (record (kernel_like any (codes "a")) { image_type = 7 } ∷ [])
      NoCodeName 0
  pub os :
      HasBuildFault any (codes "k")
      (kernel_like any (codes "a") ∷ record (kernel_like any (codes "b")) { os = 200 } ∷ [])
      NoCodeName 1
  pub arch :
      HasBuildFault any (codes "k")
      (record (kernel_like any (codes "a")) { arch = 200 } ∷ [])
      NoCodeName 0
  pub compression :
      HasBuildFault any (codes "k")
      (record (kernel_like any (codes "a")) { compression = 9 } ∷ [])
      NoCodeName 0
  pub same_names :
      HasBuildFault any (codes "k")
      (kernel_like any (codes "a")
      ∷ kernel_like any (codes "b")
      ∷ kernel_like any (codes "a")
      ∷ [])
      DuplicateNode 2

-- Two checks fail for each of these: the first gives the fault. All checks of one image come before
-- those of the next. The text of each of these trees would be longer than the limit, too.
pub record BuildChecksHaveOrder (any : Bor (List ℕ)) : Type 0 where
  pub count_before_description :
      HasBuildFault any description_with_zero
      (replicate 65 (kernel_like any (codes "a")))
      TooLarge 64
  pub count_before_image :
      HasBuildFault any (codes "k") (replicate 65 (kernel_like any [])) TooLarge 64
  pub description_before_image :
      HasBuildFault any description_with_zero
      (record (kernel_like any (codes "a")) { os = 200 } ∷ [])
      BadField 0
  pub name_before_code :
      HasBuildFault any (codes "k")
      (record (kernel_like any (codes "a/b")) { os = 200 } ∷ [])
      BadField 0
  pub multi_before_code :
      HasBuildFault any (codes "k")
      (record (kernel_like any (codes "a")) { image_type = 4; os = 200 } ∷ [])
      BadField 0
  pub multi_before_same_name :
      HasBuildFault any (codes "k")
      (kernel_like any (codes "a") ∷ record (kernel_like any (codes "a")) { image_type = 4 } ∷ [])
      BadField 1
  pub code_before_same_name :
      HasBuildFault any (codes "k")
      (kernel_like any (codes "a") ∷ record (kernel_like any (codes "a")) { os = 200 } ∷ [])
      NoCodeName 1
  pub code_before_next_name :
      HasBuildFault any (codes "k")
      (record (kernel_like any (codes "a")) { os = 200 } ∷ kernel_like any [] ∷ [])
      NoCodeName 0
  pub same_name_before_next_name :
      HasBuildFault any (codes "k")
      (kernel_like any (codes "a") ∷ kernel_like any (codes "a") ∷ kernel_like any [] ∷ [])
      DuplicateNode 1
  pub same_name_before_next_code :
      HasBuildFault any (codes "k")
      (kernel_like any (codes "a")
      ∷ kernel_like any (codes "a")
      ∷ record (kernel_like any (codes "b")) { os = 200 }
      ∷ [])
      DuplicateNode 1

-- They have these faults, wherever their slices are.
abbrev pub BuildFaultsAreKnown : Type 0
BuildFaultsAreKnown = (any : Bor (List ℕ)) → HaveBuildFaults any × BuildChecksHaveOrder any

-- Building a tree with this description and these images never runs out of memory, in any form.
abbrev pub NeedsNoMemory : Bor (List ℕ) → List ℕ → List ImageSpec → Type 0
NeedsNoMemory any description images =
    (form : Form)
    → ¬ (IsBuildError narrow_limits form (head_like any description) images OutOfMemory)

-- Memory never runs out if a check fails that needs none.
pub record RefusalsNeedNoMemory (any : Bor (List ℕ)) : Type 0 where
  pub many_images : NeedsNoMemory any (codes "k") (replicate 65 (kernel_like any (codes "a")))
  pub description :
      NeedsNoMemory any description_with_zero (kernel_like any (codes "a") ∷ [])
  pub multi :
      NeedsNoMemory any (codes "k")
      (record (kernel_like any (codes "a")) { image_type = 4 } ∷ kernel_like any (codes "b") ∷ [])
  pub os :
      NeedsNoMemory any (codes "k")
      (record (kernel_like any (codes "a")) { os = 200 } ∷ kernel_like any (codes "b") ∷ [])

-- These need no memory, wherever their slices are.
abbrev pub RefusalsAreKnown : Type 0
RefusalsAreKnown = (any : Bor (List ℕ)) → RefusalsNeedNoMemory any
