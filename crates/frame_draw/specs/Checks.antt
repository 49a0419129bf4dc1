-- To be believed. Why a draw is turned away: numbers 4 and 5 (docs/RULES.md, The numbers), after numbers 1 to 3; 0 means that none of them holds. Definitions only.
use Rattle.std.specs.Prelude.{ℕ, ◌*◌, ◌%◌, Bool, true, ◌&&◌, List, [], ◌∷◌, Float, length, if◌then◌else◌, ◌==◌, nat_le}
use Rattle.raster_pixel.specs.declared.Scissor.{Scissor}
use Rattle.frame.specs.Frame.{Frame}
use Rattle.frame.specs.Checks.{or_else, frame_refusal}

-- 4: the scissor's four numbers are at most 65,535
unfoldable pub scissor_ok : Scissor → Bool
scissor_ok s = nat_le s.left 65535 && (nat_le s.top 65535 && (nat_le s.width 65535 && nat_le s.height 65535))

-- 5: at most 4,096 vertices, six floats and one presence flag of 0 or 1 for each, and at most 12,288 indices, in threes; for any geometry
unfoldable pub flags_ok : List ℕ → Bool
flags_ok [] = true
flags_ok (p ∷ ps) = nat_le p 1 && flags_ok ps

unfoldable pub inputs_ok : List Float → List ℕ → List ℕ → Bool
inputs_ok vertices present indices =
    nat_le (length present) 4096
    && (length vertices == 6 * length present
    && (flags_ok present && (length indices % 3 == 0 && nat_le (length indices) 12288)))

-- the first of numbers 1 to 5 that holds of a draw
unfoldable pub entry_refusal : Frame → ℕ → ℕ → Scissor → List Float → List ℕ → List ℕ → ℕ
entry_refusal f w h s vertices present indices =
    or_else (frame_refusal f w h) (if scissor_ok s then if inputs_ok vertices present indices then 0 else 5 else 4)
