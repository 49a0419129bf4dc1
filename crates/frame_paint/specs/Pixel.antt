-- Inner vocabulary. What a part of a draw does, and one emitted pixel. Definitions only.
use Rattle.std.specs.Prelude.{ℕ, Float, List}
use Rattle.state.specs.declared.Rgba.{Rgba}
use Rattle.num_bits.specs.Ones.{ones_of}
use Rattle.blender.specs.declared.Source.{Source}
use Rattle.raster_pixel.specs.declared.Fragment.{Fragment}
use Rattle.raster_pixel.specs.Emitted.{Emit}
use Rattle.frame.specs.Frame.{Frame}
use Rattle.frame.specs.Fits.{Fit}
use Rattle.state.specs.declared.RenderMode.{RenderMode}
use Rattle.combiner.specs.declared.Combiner.{Combiner}
use Rattle.raster_pixel.specs.Ran.{Ran}
use Rattle.frame_paint.specs.declared.Target.{Target}
use Rattle.frame_paint.specs.Steps.{step_frame}
use Rattle.frame_paint.specs.Target.{seen, SameLoans}

-- what a part of a draw does that emits es, to a frame of n pixels
pub record Drew (mode : RenderMode) (k : Combiner) (n : ℕ) (es : List Emit) (before after : Frame) (count : ℕ) : Type 0 where
  pub ran : Ran (step_frame mode k) es before after count
  pub fit : Fit n after

-- and to the frame that the draw is carried out on, which stays the same view of the same lent slices
pub record DrewOn (mode : RenderMode) (k : Combiner) (es : List Emit) (before after : Target) (count : ℕ) : Type 0 where
  pub ran : Ran (step_frame mode k) es (seen before) (seen after) count
  pub same : SameLoans before after

-- what the rules look at of a pixel that is emitted
abbrev pub fragment_source : Fragment → Source
fragment_source f = record { color = f.color; shade_alpha = f.shade_alpha; count = ones_of f.mask }

abbrev pub emit_of : ℕ → ℕ → Rgba → Float → Emit
emit_of pixel mask color shade = record { pixel = pixel; mask = mask; color = color; shade = shade }
