-- The triangles are near.
use mathlib.Core.Path.{sym, ◌∙◌}
use Rattle.raster_pixel.proofs.shapes.Shapes.set_up.Goals as goal

pub set_up-requires : goal.set_up-requires
set_up-requires c = c.args.self.now.near c.requires.triangles _ c.requires.listed _ (sym c.triangle_at.ensures ∙ c.in_ok-triangle.was)
