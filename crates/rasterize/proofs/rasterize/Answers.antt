use Rattle.rasterize.proofs.rasterize.Goals as goal

pub returns-in-Triangles : goal.returns-in-Triangles
returns-in-Triangles c = let p = c.new-paint.ensures in record { drew = rw (c.in-Triangles.is, ← p.same_mode, ← p.same_combiner) c.draw_triangles.ensures }
