use Rattle.std.proofs.Common.{◌≡◌, ℕ, zero, suc, ◌+◌, ◌*◌, ◌<◌, ◌≤◌, List, [], ◌∷◌, ◌++◌, length, ap, ◌∙◌, rules}
use Rattle.std.proofs.Common.{arith, drop, get_or, subst, sum, sym, take}
use Rattle.std.specs.List.{AllByRecursion}
use Rattle.std.proofs.lemmas.List.{length-append, length-take}
use Rattle.std.proofs.Math.Seq.{split_at}
use Rattle.bi_show.specs.declared.show.dates.Date.{Date}
use Rattle.bi_show.specs.Dates.{IsDate, days_of_years, month_lengths, year_length}

-- These lemmas bound the lengths of years and months, and the numbers of a date.

-- A year has at least 365 days.
pub year_has_days : (year : ℕ) → 365 ≤ year_length year
year_has_days year = search rules

years_have_days : (count : ℕ) → 365 * count ≤ days_of_years count
years_have_days zero = omega arith
years_have_days (suc count) = search (rules, year_has_days, years_have_days count)

-- A month has at most 31 days.
months_are_short : (year : ℕ) → AllByRecursion (λ days. days ≤ 31) (month_lengths year)
months_are_short year = search rules

-- If each number of a list has a property, a number in the list has it.
of_one : (P : ℕ → Type 0) (earlier : List ℕ) (one : ℕ) (later : List ℕ) → AllByRecursion P (earlier ++ one ∷ later) → P one
of_one P [] one later each = each.0
of_one P (first ∷ earlier) one later each = of_one P earlier one later each.1

-- A time of 32 bits has a date with four digits for the year, and two for the month and for the day.
pub date_is_short : (days : ℕ) (date : Date) → IsDate days date → days < 49711 →
    (date.year < 10000) × (date.month < 100) × (date.day < 100)
date_is_short days date is few =
    let years = years_have_days is.years in
    let lengths : AllByRecursion (λ days. days ≤ 31) (is.earlier ++ is.month_length ∷ is.later) =
    subst (AllByRecursion (λ days. days ≤ 31)) is.months (months_are_short date.year) in
    let short : is.month_length ≤ 31 = of_one (λ days. days ≤ 31) is.earlier is.month_length is.later lengths in
    let twelve : 12 ≡ length is.earlier + length (is.month_length ∷ is.later) =
    ap length is.months ∙ length-append is.earlier (is.month_length ∷ is.later) in
    (omega (arith, years, is.is_year, is.is_day), omega (arith, twelve, is.is_month), omega (arith, short, is.to_last))

-- A date is that of its day, by how many months of its year come before, and how many days each month has.
pub date_at : (days years index : ℕ) (date : Date) (lengths : List ℕ) → lengths ≡ month_lengths date.year → date.year ≡ 1970 + years →
    date.month ≡ index + 1 → index < length lengths → 1 ≤ date.day → date.day ≤ get_or lengths index 0 →
    days + 1 ≡ days_of_years years + sum (take index lengths) + date.day → IsDate days date
date_at days years index date lengths are year month within from to is =
    record {
      years = years;
      earlier = take index lengths;
      month_length = get_or lengths index 0;
      later = drop (suc index) lengths;
      is_year = year;
      months = sym are ∙ split_at lengths index 0 within;
      is_month = omega (arith, month, within, length-take index lengths);
      from_first = from;
      to_last = to;
      is_day = is;
    }
