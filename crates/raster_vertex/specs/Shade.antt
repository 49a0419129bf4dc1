-- To be believed. The float area of a triangle, what is culled by it, and the colour at a pixel: writeback.rs, `rasterize`.
-- `sub binary32` and its like are Rust's operators on f32, each rounded once.
use Rattle.std.specs.Prelude.{ℕ, Bool, ◌&&◌, List, pos, Float}
use Rattle.std.specs.Float.{binary32}
use Rattle.std.specs.Float.Ieee.{of_int, le, add, sub, mul, div}
use Rattle.num_float.specs.Color.{f0}
use Rattle.state.specs.declared.Rgba.{Rgba}
use Rattle.raster_vertex.specs.declared.Vertex.{Vertex}
use Rattle.raster_vertex.specs.Sorted.{vertex_at}

-- a vertex's colour
abbrev pub colours_of : Vertex → Rgba
colours_of v = record { r = v.r; g = v.g; b = v.b; a = v.a }

-- (b.x - a.x) * (py - a.y) - (b.y - a.y) * (px - a.x)
unfoldable pub edge_of : Vertex → Vertex → Float → Float → Float
edge_of a b px py =
    sub binary32 (mul binary32 (sub binary32 b.x a.x) (sub binary32 py a.y)) (mul binary32 (sub binary32 b.y a.y) (sub binary32 px a.x))

-- twice the area: (b.x - a.x) * (c.y - a.y) - (b.y - a.y) * (c.x - a.x)
abbrev pub area_of : Vertex → Vertex → Vertex → Float
area_of a b c = edge_of a b c.x c.y

-- With cull on, a triangle whose area is 0.0 or above is skipped. Where the area is a NaN, `le` is false.
abbrev pub culled_of : Bool → Vertex → Vertex → Vertex → Bool
culled_of cull a b c = cull && le f0 (area_of a b c)

-- weight * colour / den
abbrev pub term : Float → Float → Float → Float
term weight colour den = div binary32 (mul binary32 weight colour) den

-- Three terms, added in order. Rust's `.sum()` of f32 starts at -0.0, and -0.0 + p is p. Older ones start at 0.0, which differs at most in
-- a zero's sign, and 0.0 counts as equal to -0.0 (docs/RULES.md).
abbrev pub sum3 : Float → Float → Float → Float
sum3 p q r = add binary32 (add binary32 p q) r

-- the colours of three vertices by their weights
unfoldable pub weighed : Vertex → Vertex → Vertex → Float → Float → Float → Float → Rgba
weighed a b c u v w den =
    record {
      r = sum3 (term u a.r den) (term v b.r den) (term w c.r den);
      g = sum3 (term u a.g den) (term v b.g den) (term w c.g den);
      b = sum3 (term u a.b den) (term v b.b den) (term w c.b den);
      a = sum3 (term u a.a den) (term v b.a den) (term w c.a den);
    }

-- the colour at a point: a vertex's weight is the edge across from it, at that point
abbrev pub shade_at : Vertex → Vertex → Vertex → Float → Float → Rgba
shade_at a b c px py = weighed a b c (edge_of b c px py) (edge_of c a px py) (edge_of a b px py) (area_of a b c)

-- the colour of the triangle v at the upper left corner of pixel x, y, which is the point (x as f32, y as f32)
abbrev pub shade_of : List Vertex → ℕ → ℕ → Rgba
shade_of v x y = shade_at (vertex_at v 0) (vertex_at v 1) (vertex_at v 2) (of_int binary32 (pos x)) (of_int binary32 (pos y))
