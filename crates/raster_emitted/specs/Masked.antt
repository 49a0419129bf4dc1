-- To be believed. An emitted pixel without its colour: its number, and the mask of its eight samples. And the k-th pixel of a list, from 0. Definitions only. Source:
-- document 02, S-1.
use Rattle.std.specs.Prelude.{ℕ, List, map, slice_index_or}
use Rattle.raster_pixel.specs.Emitted.{Emit}

pub record Masked : Type 0 where
  pub pixel : ℕ
  pub mask : ℕ

abbrev pub masked_of : Emit → Masked
masked_of e = record { pixel = e.pixel; mask = e.mask }

-- past the last pixel both are 0
abbrev pub no_pixel : Masked
no_pixel = record { pixel = 0; mask = 0 }

abbrev pub kth : List Emit → ℕ → Masked
kth es k = slice_index_or (map masked_of es) k no_pixel
