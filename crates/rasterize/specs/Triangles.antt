-- Inner vocabulary. The triangles of a list. Definitions only.
use Rattle.std.specs.Prelude.{◌≡◌, true, ℕ, ◌/◌, Bool, List, length}
use Rattle.state.specs.declared.Rgba.{Rgba}
use Rattle.combiner.specs.Combine.{color_of}
use Rattle.combiner_resolved.specs.Resolved.{color_value}
use Rattle.raster_pixel.specs.declared.shapes.Shapes.{Shapes}
use Rattle.raster_pixel.specs.declared.view.View.{View}
use Rattle.raster_pixel.specs.Parts.{from}
use Rattle.raster_pixel.specs.Admitted.{triangle_at}
use Rattle.raster_pixel.specs.Emitted.{Emit, three_emits}
use Rattle.frame_paint.specs.declared.paint.Paint.{Paint}

-- where flat, every pixel of a triangle has the paint's colour, and what full pixels of that need is enough for it
abbrev pub Flat : Paint → Bool → Type 0
Flat paint flat = flat ≡ true → (paint.even ≡ true) × ((s : Rgba) → color_of paint.combiner s ≡ color_value paint.color)

-- triangle i of a draw
abbrev pub triangle_of : Paint → Shapes → View → ℕ → List Emit
triangle_of paint s v i =
    three_emits paint.mode paint.combiner s.cull v.scissor v.width v.height (triangle_at s.lists.vertices.now s.lists.present.now s.lists.indices.now i)

-- and all of them
abbrev pub triangles_of : Paint → Shapes → View → List Emit
triangles_of paint s v = from (triangle_of paint s v) 0 (length s.lists.indices.now / 3)
