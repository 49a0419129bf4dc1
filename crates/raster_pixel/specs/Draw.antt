-- Inner vocabulary. What a draw emits, as the code has the draw: where it may, and what it draws. Definitions only.
use Rattle.std.specs.Prelude.{List}
use Rattle.raster_pixel.specs.declared.shapes.Shapes.{Shapes}
use Rattle.raster_pixel.specs.declared.view.View.{View}
use Rattle.raster_pixel.specs.Emitted.{Emit, geometry_emits}

abbrev pub emitted_as : View → Shapes → List Emit
emitted_as v s =
    geometry_emits s.mode s.combiner s.cull v.scissor v.width v.height s.lists.vertices.now s.lists.present.now s.lists.indices.now s.geometry
