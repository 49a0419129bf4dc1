-- What a triangle that is set up emits is what the definition of a draw says of it. Assumes nothing.
use mathlib.Core.Path.{◌≡◌, refl}
use mathlib.Core.Bool.{Bool, true, false, cond, ◌||◌}
use mathlib.Core.List.{List, [], ◌∷◌, map}
use Prim.Native.Nat.{ℕ}
use lib.Dec.{eqb}
use lib.IntN.{nat_abs}
use Rattle.std.specs.Prelude.{Option, Some, None}
use Rattle.state.specs.declared.RenderMode.{RenderMode}
use Rattle.combiner.specs.declared.Combiner.{Combiner}
use Rattle.raster_vertex.specs.declared.Triangle.{Triangle}
use Rattle.raster_vertex.specs.declared.Vertex.{Vertex}
use Rattle.raster_vertex.specs.Sorted.{sorted}
use Rattle.raster_vertex.specs.Shade.{culled_of}
use Rattle.raster_edges.specs.declared.Tri.{Tri}
use Rattle.raster_edges.specs.Edge.{area_of}
use Rattle.raster_edges.specs.Span.{tri_of}
use Rattle.raster_pixel.specs.declared.Scissor.{Scissor}
use Rattle.raster_pixel.specs.Emitted.{corner_of, three_emits, triangle_emits}
use Rattle.raster_pixel.specs.SetUp.{set_up_of, set_up_by, set_up_emits}

pub set_up_emits-by : (m : RenderMode) (k : Combiner) (cull : Bool) (s : Scissor) (w h : ℕ) (t : Option Triangle)
    → set_up_emits m k s w h (set_up_by cull t) ≡ three_emits m k cull s w h t
unfolding set_up_of triangle_emits
set_up_emits-by m k cull s w h None = refl
set_up_emits-by m k cull s w h (Some t) =
    let o = sorted (t.a ∷ t.b ∷ t.c ∷ []) in
    let corners = map corner_of o in
    go (culled_of cull t.a t.b t.c || eqb (nat_abs (area_of corners)) 0)
  where
    go : (b : Bool)
        → (let o = sorted (t.a ∷ t.b ∷ t.c ∷ []) in
        let p : Tri × List Vertex = (tri_of (map corner_of o), o) in
        set_up_emits m k s w h (cond b None (Some p)) ≡ cond b [] (set_up_emits m k s w h (Some p)))
    go true = refl
    go false = refl
