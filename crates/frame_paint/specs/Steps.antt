-- To be believed. What emitted pixels do to the frame, one after the other. Definitions only. Source: docs/RULES.md, Rules F1 to F5.
use mathlib.Core.List.{List, foldl}
use Rattle.state.specs.declared.RenderMode.{RenderMode}
use Rattle.combiner.specs.declared.Combiner.{Combiner}
use Rattle.num_bits.specs.Ones.{ones_of}
use Rattle.blender.specs.declared.Source.{Source}
use Rattle.frame_pixel.specs.Rules.{pixel_step}
use Rattle.raster_pixel.specs.Emitted.{Emit}
use Rattle.frame.specs.Frame.{Frame, pixel_at, put_pixel}

-- what the rules look at of an emitted pixel: of its mask the number of ones
abbrev pub source_of : Emit → Source
source_of e = record { color = e.color; shade_alpha = e.shade; count = ones_of e.mask }

-- rules F1 to F5 at the pixel's place
unfoldable pub step_frame : RenderMode → Combiner → Frame → Emit → Frame
step_frame mode k f e = put_pixel f e.pixel (pixel_step mode k (source_of e) (pixel_at f e.pixel))

-- a list of emitted pixels, one after the other, each on the bytes just before it
abbrev pub draw_list : RenderMode → Combiner → Frame → List Emit → Frame
draw_list mode k f es = foldl (step_frame mode k) f es
