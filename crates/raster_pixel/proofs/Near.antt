-- A triangle's corners: that an admitted triangle's are near, and that its edges are then tame. Assumes nothing.
use mathlib.Core.Path.{◌≡◌, sym, ap, subst, ◌∙◌}
use mathlib.Core.Bool.{true}
use mathlib.Core.List.{List, [], ◌∷◌, map}
use Prim.Native.Nat.{ℕ}
use lib.Ieee.{Float}
use Rattle.combiner.specs.declared.Combiner.{Combiner}
use Rattle.raster_vertex.specs.declared.Vertex.{Vertex}
use Rattle.raster_vertex.specs.Sorted.{sorted}
use Rattle.raster_edges.specs.declared.Corner.{Corner}
use Rattle.raster_edges.specs.declared.Tri.{Tri}
use Rattle.raster_edges.specs.Limits.{AllNear, TameTri}
use Rattle.raster_edges.specs.Span.{tri_of}
use Rattle.raster_edges.proofs.Tame.{tame}
use Rattle.raster_pixel.specs.declared.Geometry.TheVariants.{Triangles}
use Rattle.raster_pixel.specs.Admitted.{admitted_of}
use Rattle.raster_pixel.specs.Near.{CornersNear, TrianglesNear}
use Rattle.raster_pixel.specs.Emitted.{corner_of}
use Rattle.raster_pixel.proofs.Checked.{AllIn, admitted_in, sorted_near}

module _ (a b c : Vertex) {v : List Vertex} (ev : v ≡ sorted (a ∷ b ∷ c ∷ [])) {q : List Corner} (eq : q ≡ map corner_of v) where
  pub corners_are : q ≡ map corner_of (sorted (a ∷ b ∷ c ∷ []))
  corners_are = eq ∙ ap (map corner_of) ev

  pub near : CornersNear a b c → AllNear q
  near = subst AllNear (sym corners_are)

  pub tame_as : {t : Tri} → t ≡ tri_of q → CornersNear a b c → TameTri t
  tame_as et p = subst TameTri (sym et) (tame q (near p))

-- those of an admitted list are
pub admitted_near : (k : Combiner) (vs : List Float) (ps is : List ℕ) → admitted_of k Triangles vs ps is ≡ true → TrianglesNear vs ps is
admitted_near k vs ps is h i l t e = sorted_near t (subst AllIn e (admitted_in k vs ps is h i l))
