-- Inner vocabulary. What a row of a triangle or of a rectangle emits, as it is drawn: by its shades, or, without them, in one colour. Definitions only.
use Rattle.std.specs.Prelude.{◌≡◌, true, List, [], ◌∷◌, ℕ, ◌+◌, ◌*◌, ◌<◌, ◌≤◌, Option, Some, None, if◌then◌else◌}
use Rattle.num_float.specs.Color.{f1}
use Rattle.state.specs.declared.Rgba.{Rgba}
use Rattle.combiner_resolved.specs.Resolved.{mixed_by}
use Rattle.frame_pixel.specs.declared.full.Full.{Full}
use Rattle.frame_pixel.specs.Full.{full_step}
use Rattle.raster_range.specs.declared.Range.{Range}
use Rattle.raster_edges.specs.declared.Edges.{Edges}
use Rattle.raster_edges.specs.Sample.{mask_of}
use Rattle.raster_vertex.specs.declared.row.ShadeRow.{ShadeRow}
use Rattle.raster_vertex.specs.Row.{shade_on}
use Rattle.raster_pixel.specs.declared.Fragment.{Fragment}
use Rattle.raster_pixel.specs.Emitted.{Emit, shown, emits}
use Rattle.frame.specs.Frame.{Frame, pixel_at, put_pixel}
use Rattle.frame_paint.specs.declared.paint.Paint.{Paint}
use Rattle.frame_paint.specs.Pixel.{emit_of}

-- a pixel x with these samples: in the colour of its shade; or, without shades, in the paint's own, with 1.0 for the shade's alpha
abbrev pub painted : Paint → Option ShadeRow → ℕ → ℕ → Fragment
painted paint None mask x = record { mask = mask; color = paint.color; shade_alpha = f1 }
painted paint (Some row) mask x = record { mask = mask; color = mixed_by paint.resolved (shade_on row x); shade_alpha = (shade_on row x).a }

-- if it is emitted
unfoldable pub fragment_of : Paint → Option ShadeRow → ℕ → ℕ → Option Fragment
fragment_of paint shades mask x = if shown paint.mode.antialias mask then Some (painted paint shades mask x) else None

-- pixel x of row y between the edges e, in a frame of width w
abbrev pub row_at : Paint → Option ShadeRow → Edges → ℕ → ℕ → ℕ → List Emit
row_at paint shades e w y x = emits (fragment_of paint shades (mask_of e x) x) (y * w + x)

-- ---- full pixels of one colour

-- pixel p
abbrev pub full_pixel : Rgba → ℕ → List Emit
full_pixel color p = emit_of p 255 color f1 ∷ []

-- what is stored of it
abbrev pub filled_at : Full → Frame → ℕ → Frame
filled_at full f p = put_pixel f p (full_step full (pixel_at f p))

-- a part of a row that has more than one pixel is a run of full pixels of the paint's colour
abbrev pub Runs : Paint → Option ShadeRow → Range → ℕ → ℕ → Type 0
Runs paint shades full x next = x + 1 < next → (shades ≡ None) × (paint.even ≡ true) × (full.start ≤ x) × (next ≤ full.end)
