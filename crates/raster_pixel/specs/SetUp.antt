-- Inner vocabulary. A triangle set up to be drawn, and what it then emits. Definitions only; that these are the pixels of raster_pixel/specs/Emitted is proofs/SetUp.
use Rattle.std.specs.Prelude.{ℕ, ◌+◌, ◌*◌, Bool, ◌||◌, List, [], ◌∷◌, map, nat_abs, Option, Some, None, if◌then◌else◌, ◌==◌}
use Rattle.state.specs.declared.RenderMode.{RenderMode}
use Rattle.combiner.specs.declared.Combiner.{Combiner}
use Rattle.raster_vertex.specs.declared.Vertex.{Vertex}
use Rattle.raster_vertex.specs.declared.Triangle.{Triangle}
use Rattle.raster_vertex.specs.Sorted.{sorted}
use Rattle.raster_vertex.specs.Shade.{culled_of}
use Rattle.raster_edges.specs.declared.Tri.{Tri}
use Rattle.raster_edges.specs.Edge.{area_of}
use Rattle.raster_edges.specs.Span.{tri_of, edges_of}
use Rattle.raster_pixel.specs.declared.Scissor.{Scissor}
use Rattle.raster_pixel.specs.Emitted.{Emit, emits, inside, corner_of, triangle_fragment}

-- the edges between the corners in quarter units, and the vertices from the top down; nothing where it is culled, by its float area before sorting, or has no area
unfoldable pub set_up_of : Bool → Triangle → Option (Tri × List Vertex)
set_up_of cull t =
    let o = sorted (t.a ∷ t.b ∷ t.c ∷ []) in
    let corners = map corner_of o in
    if culled_of cull t.a t.b t.c || nat_abs (area_of corners) == 0 then None else Some (tri_of corners, o)

-- a triangle of a list: nothing where a vertex is missing
abbrev pub set_up_by : Bool → Option Triangle → Option (Tri × List Vertex)
set_up_by cull None = None
set_up_by cull (Some t) = set_up_of cull t

-- what it emits
abbrev pub set_up_emits : RenderMode → Combiner → Scissor → ℕ → ℕ → Option (Tri × List Vertex) → List Emit
set_up_emits m k s w h None = []
set_up_emits m k s w h (Some p) = inside s w h (λ (y x : ℕ). emits (triangle_fragment m.antialias k p.1 (edges_of p.0 y) y x) (y * w + x))
