-- Inner vocabulary. One of the two cycles, by whether it is the second. Definitions only.
use Rattle.std.specs.Prelude.{ℕ, Bool, true, false}
use Rattle.combiner_inputs.specs.declared.CycleSel.{CycleSel}
use Rattle.combiner_inputs.specs.Combine.{cycle0, cycle1}

-- the one or the other, by whether it is the second
abbrev pub cycle_of : Bool → ℕ → ℕ → CycleSel
cycle_of false l h = cycle0 l h
cycle_of true l h = cycle1 l h
