-- Inner vocabulary. What the functions that ask the checks answer, by the checks' numbers. Definitions only.
use Rattle.std.specs.Prelude.{ℕ, Result, Ok, Err}
use Rattle.raster_admitted.specs.declared.Check.{Check}
use Rattle.raster_admitted.specs.declared.Check.TheVariants as check

-- the number of the check that fails; 0 for none
abbrev pub check_number : Result Unit Check → ℕ
check_number (Ok u) = 0
check_number (Err check.Missing) = 1
check_number (Err check.OutOfRange) = 2
check_number (Err check.ShadesDiffer) = 3
check_number (Err check.NotFinite) = 4
check_number (Err check.NoColor) = 5
check_number (Err check.AlphasDiffer) = 6
