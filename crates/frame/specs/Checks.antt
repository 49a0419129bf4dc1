-- To be believed. Why something is turned away: numbers 1 to 3 (docs/RULES.md, The numbers), in their order; 0 means that none of them holds. Definitions only.
use Rattle.std.specs.Prelude.{ℕ, zero, suc, ◌*◌, Bool, true, not, ◌&&◌, ◌||◌, List, [], ◌∷◌, length, if◌then◌else◌, ◌==◌, nat_le}
use Rattle.frame_pixel.specs.Marks.{highest_mark, coverage_marked}
use Rattle.frame.specs.Frame.{Frame}

-- 1: width and height are 1 to 1,024
abbrev pub size_ok : ℕ → Bool
size_ok n = nat_le 1 n && nat_le n 1024

abbrev pub sizes_ok : ℕ → ℕ → Bool
sizes_ok w h = size_ok w && size_ok h

-- 2: 3N colour bytes, N coverages and N marks
abbrev pub lengths_ok : Frame → ℕ → Bool
lengths_ok f n = length f.colors == 3 * n && (length f.coverages == n && length f.marks == n)

-- 3: a mark is at most the highest, and a coverage that is marked known at most 7. An unmarked coverage is not looked at
unfoldable pub mark_ok : ℕ → ℕ → Bool
mark_ok mark coverage = nat_le mark highest_mark && (not (coverage_marked mark) || nat_le coverage 7)

unfoldable pub marks_ok : List ℕ → List ℕ → Bool
marks_ok [] marks = true
marks_ok (c ∷ cs) [] = true
marks_ok (c ∷ cs) (m ∷ ms) = mark_ok m c && marks_ok cs ms

-- the first of numbers 1 to 3 that holds
unfoldable pub frame_refusal : Frame → ℕ → ℕ → ℕ
frame_refusal f w h =
    if sizes_ok w h then if lengths_ok f (w * h) then if marks_ok f.coverages f.marks then 0 else 3 else 2 else 1

-- a number, or the next check where it is 0
abbrev pub or_else : ℕ → ℕ → ℕ
or_else zero next = next
or_else (suc n) next = suc n
