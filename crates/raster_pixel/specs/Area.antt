-- Inner vocabulary. The part of a frame inside a scissor: writeback.rs, `rasterize`, its clamps of the scissor to the frame. Definitions only.
use Rattle.std.specs.Prelude.{ℕ, ◌+◌, ◌≤◌, min}
use Rattle.raster_pixel.specs.declared.Scissor.{Scissor}
use Rattle.raster_pixel.specs.declared.Area.{Area}

-- A scissor's numbers have 16 bits, and a frame is at most 1,024 pixels wide and high.
pub record Sized (s : Scissor) (w h : ℕ) : Type 0 where
  pub width_small : w ≤ 1024
  pub height_small : h ≤ 1024
  pub left_small : s.left ≤ 65535
  pub top_small : s.top ≤ 65535
  pub across_small : s.width ≤ 65535
  pub down_small : s.height ≤ 65535

-- right and bottom are the scissor's or the frame's, whichever comes first; left and top are the scissor's, but never past them
abbrev pub right_of : Scissor → ℕ → ℕ
right_of s w = min w (s.left + s.width)

abbrev pub bottom_of : Scissor → ℕ → ℕ
bottom_of s h = min h (s.top + s.height)

unfoldable pub area_of : Scissor → ℕ → ℕ → Area
area_of s w h =
    record {
      left = min s.left (right_of s w);
      top = min s.top (bottom_of s h);
      right = right_of s w;
      bottom = bottom_of s h;
    }

-- a part of a frame that is w wide and h high
pub record Bounded (a : Area) (w h : ℕ) : Type 0 where
  pub across : a.left ≤ a.right
  pub right_in : a.right ≤ w
  pub down : a.top ≤ a.bottom
  pub bottom_in : a.bottom ≤ h
