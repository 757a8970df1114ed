use Rattle.std.specs.Prelude.{ℕ, zero, suc, ◌+◌, ◌/◌, ◌%◌, ◌==◌, ◌&&◌, ◌||◌, ◌≤◌, ◌≡◌, Bool, not}
use Rattle.std.specs.Prelude.{List, [], ◌∷◌, ◌++◌, codes, length, sum, if◌then◌else◌}
use Rattle.bi_show.specs.declared.show.dates.Date.{Date}

-- Dates in the Gregorian calendar, which is also used for the time before it was introduced (ISO
-- 8601), and how a time is printed (profile of this project).

-- Whether a year has a 29 February.
abbrev pub is_leap_year : (year : ℕ) → Bool
is_leap_year year = year % 4 == 0 && (not (year % 100 == 0) || year % 400 == 0)

-- How many days each month of a year has, from January on.
abbrev pub month_lengths : (year : ℕ) → List ℕ
month_lengths year =
    31 ∷ (if is_leap_year year then 29 else 28) ∷ 31 ∷ 30 ∷ 31 ∷ 30
    ∷ 31 ∷ 31 ∷ 30 ∷ 31 ∷ 30 ∷ 31 ∷ []

-- How many days a year has.
abbrev pub year_length : (year : ℕ) → ℕ
year_length year = sum (month_lengths year)

-- How many days the first years from 1970 on have together: this many years.
abbrev pub days_of_years : (count : ℕ) → ℕ
days_of_years zero = 0
days_of_years (suc count) = days_of_years count + year_length (1970 + count)

-- The date is this many days after 1970-01-01: the number of the days of the years before its year,
-- of the months before its month, and of the days before its day.
pub record IsDate (days : ℕ) (date : Date) : Type 0 where
  pub years : ℕ
  pub earlier : List ℕ
  pub month_length : ℕ
  pub later : List ℕ
  pub is_year : date.year ≡ 1970 + years
  pub months : month_lengths date.year ≡ earlier ++ month_length ∷ later
  pub is_month : date.month ≡ length earlier + 1
  pub from_first : 1 ≤ date.day
  pub to_last : date.day ≤ month_length
  pub is_day : days + 1 ≡ days_of_years years + sum earlier + date.day

-- A number below 100, as two decimal digits.
abbrev pub two_digits : ℕ → List ℕ
two_digits number = (48 + number / 10) ∷ (48 + number % 10) ∷ []

-- A date, as `2026-11-28`.
abbrev pub date_text : Date → List ℕ
date_text date =
    two_digits (date.year / 100)
    ++ (two_digits (date.year % 100)
    ++ (45 ∷ (two_digits date.month ++ (45 ∷ two_digits date.day))))

-- A time of day, by how many seconds have passed, as `01:02:03`.
abbrev pub clock_text : (seconds : ℕ) → List ℕ
clock_text seconds =
    two_digits (seconds / 3600)
    ++ (58 ∷ (two_digits (seconds / 60 % 60) ++ (58 ∷ two_digits (seconds % 60))))

-- The text is a time, as `2026-11-28 01:02:03 UTC`, this many seconds after 1970-01-01 00:00:00
-- UTC. Leap seconds are not counted (POSIX.1, 4.16).
pub record IsTimeText (seconds : ℕ) (text : List ℕ) : Type 0 where
  pub date : Date
  pub is_date : IsDate (seconds / 86400) date
  pub is : text ≡ date_text date ++ (32 ∷ (clock_text (seconds % 86400) ++ codes " UTC"))
