use Rattle.std.specs.Prelude.{ℕ, ◌/◌, ◌%◌, ◌≡◌, ◌==◌, ◌<◌, Bool, Some, None, if◌then◌else◌}
use Rattle.std.specs.Prelude.{Option}
use Rattle.bi_base.specs.Aligns.{align_bytes}
use Rattle.bi_base.specs.declared.fault.Error.{Error}
use Rattle.bi_base.specs.Limits.{Limits, IsInRange}
use Rattle.bi_common.specs.declared.format.Format.{Format}
use Rattle.bi_report.specs.declared.check.Allowed.{Allowed}
use Rattle.bi_report.specs.declared.check.Checker.{Checker}
use Rattle.bi_report.specs.declared.check.Policy.{Policy}
use Rattle.bi_report.specs.Checking.{allowed_under}
use Rattle.bi_fit.specs.declared.changes.Changes.{Changes}
use Rattle.bi_fit.specs.declared.form.Form.{Form}
use Rattle.bi_fit.specs.declared.form.Form.TheVariants.{Embedded, External, Aligned}
use Rattle.bi_fit.specs.declared.key.Key.{Key}
use Rattle.bi_fit.specs.declared.key.Key.TheVariants.{Kernel, Fdt, Ramdisk, Firmware, Loadables}
use Rattle.bi_fit.specs.declared.key.Key.TheVariants.{Script}
use Rattle.bi_c.specs.Checks.{LimitsCheck, NextCheck}
use Rattle.bi_c.specs.declared.argument.Argument.{Argument}
use Rattle.bi_c.specs.declared.argument.Argument.TheVariants as argument

-- The options and limits that C passes as numbers (profile of this project).

-- The limits of a call.
abbrev pub bounds : ℕ → ℕ → Limits
bounds limit depth = record { file = limit; depth = depth }

-- The number of a form: 0 for embedded payloads, 1 for external ones, and for external ones with an
-- alignment the number of its bytes.
abbrev pub number_of_form : Form → ℕ
number_of_form Embedded = 0
number_of_form External = 1
number_of_form (Aligned align) = align_bytes align

-- The limits are in their ranges, and the number is that of a form.
pub record HasForm (limit depth number : ℕ) : Type 0 where
  pub limits : IsInRange limit depth
  pub form : Form
  pub is_form : number_of_form form ≡ number

-- The limits and then the form are checked.
abbrev pub FormCheck : (limit depth number : ℕ) → Option (Argument × ℕ) → Type 0
FormCheck limit depth number =
    NextCheck (LimitsCheck limit depth) argument.Form (HasForm limit depth number)

-- The error is one of these, for the form with this number.
pub record IsErrorInForm (number : ℕ) (HasError : Form → Error → Type 0) (error : Error) : Type 0
  where
    pub form : Form
    pub is_form : number_of_form form ≡ number
    pub is_error : HasError form error

-- Whether a number means yes: 0 means no, and 1 means yes.
abbrev pub is_yes : ℕ → Bool
is_yes number = number == 1

-- The limits are in their ranges, and the number is 0 or 1.
pub record HasLayout (limit depth layout : ℕ) : Type 0 where
  pub limits : IsInRange limit depth
  pub is_layout : layout < 2

-- The limits and then the layout are checked.
abbrev pub LayoutCheck : (limit depth layout : ℕ) → Option (Argument × ℕ) → Type 0
LayoutCheck limit depth layout =
    NextCheck (LimitsCheck limit depth) argument.Layout (HasLayout limit depth layout)

-- Whether a number has the bit of a mask, which is a power of two.
abbrev pub has_bit : (mask : ℕ) → ℕ → Bool
has_bit mask number = (number / mask) % 2 == 1

-- The kinds of concerns that are allowed, a bit for each.
abbrev pub allowed_of : ℕ → Allowed
allowed_of kinds = record {
  bad_hash = has_bit 1 kinds;
  skipped_hash = has_bit 128 kinds;
  unhashed = has_bit 2 kinds;
  weak_hash = has_bit 4 kinds;
  bad_list = has_bit 8 kinds;
  missing = has_bit 16 kinds;
  unsigned = has_bit 256 kinds;
  no_nodes = has_bit 512 kinds;
  no_images = has_bit 1024 kinds;
  uncovered = has_bit 2048 kinds;
  foreign = has_bit 4096 kinds;
  strings = has_bit 8192 kinds;
  unit_address = has_bit 16384 kinds;
  bad_default = has_bit 32 kinds;
  trailing = has_bit 64 kinds;
}

-- What is asked of an image: the next bit asks for signatures.
abbrev pub policy_of : ℕ → Policy
policy_of kinds = record { allowed = allowed_of kinds; signed = has_bit 32768 kinds }

-- The kinds whose lines and elements are left out.
abbrev pub allowed_by : ℕ → Allowed
allowed_by kinds = allowed_under (policy_of kinds)

-- The checker that has this policy, and writes in a form.
abbrev pub checker_of : Format → ℕ → Checker
checker_of format kinds = record { policy = policy_of kinds; format = format }

-- The changes of an update: bit 1 sets the time, bit 2 computes the digests again.
abbrev pub changes_of : (changes time : ℕ) → Changes
changes_of changes time = record {
  time = if has_bit 1 changes then Some time else None;
  hashes = has_bit 2 changes;
}

-- The limits are in their ranges, and the numbers are those of a form and of changes.
pub record HasChanges (limit depth number changes : ℕ) : Type 0 where
  pub has_form : HasForm limit depth number
  pub are_changes : changes < 4

-- The limits, the form and then the changes are checked.
abbrev pub ChangesCheck : (limit depth number changes : ℕ) → Option (Argument × ℕ) → Type 0
ChangesCheck limit depth number changes =
    NextCheck (FormCheck limit depth number) argument.Changes
    (HasChanges limit depth number changes)

-- The key of a configuration: a number for each, counted from 0.
abbrev pub key_of : ℕ → Key
key_of number =
    if number == 0 then Kernel
    else if number == 1 then Fdt
    else if number == 2 then Ramdisk
    else if number == 3 then Firmware
    else if number == 4 then Loadables
    else Script

-- The limits are in their ranges, and the number is that of a key.
pub record HasKey (limit depth key : ℕ) : Type 0 where
  pub limits : IsInRange limit depth
  pub is_key : key < 6

-- The limits and then the key are checked.
abbrev pub KeyCheck : (limit depth key : ℕ) → Option (Argument × ℕ) → Type 0
KeyCheck limit depth key =
    NextCheck (LimitsCheck limit depth) argument.Key (HasKey limit depth key)
