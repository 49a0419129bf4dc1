-- To be believed. Which draws the Rust's `admitted` takes: no triangle has a check that fails. Definitions only. Source: writeback.rs, `admitted`, its checks in its order;
-- docs/RULES.md, Admitted draws, numbers them.
use Rattle.std.specs.Prelude.{ℕ, zero, suc, ◌+◌, ◌*◌, ◌/◌, Bool, true, false, ◌&&◌, List, Float, length, Option, Some, None, ◌==◌, slice_index}
use Rattle.combiner.specs.declared.Combiner.{Combiner}
use Rattle.raster_vertex.specs.declared.Vertex.{Vertex}
use Rattle.raster_vertex.specs.declared.Triangle.{Triangle}
use Rattle.raster_admitted.specs.Check.{looked_up, check_of}
use Rattle.raster_pixel.specs.declared.Geometry.{Geometry}
use Rattle.raster_pixel.specs.declared.Geometry.TheVariants.{Nothing, Triangles, Rectangle}

-- triangle i: three vertices, or one of them is missing
abbrev pub three : Option Vertex → Option Vertex → Option Vertex → Option Triangle
three None b c = None
three (Some a) None c = None
three (Some a) (Some b) None = None
three (Some a) (Some b) (Some c) = Some (record { a = a; b = b; c = c })

unfoldable pub triangle_at : List Float → List ℕ → List ℕ → ℕ → Option Triangle
triangle_at vs ps is i =
    three (looked_up vs ps (slice_index is (3 * i))) (looked_up vs ps (slice_index is (3 * i + 1))) (looked_up vs ps (slice_index is (3 * i + 2)))

-- 1 where a vertex is missing
abbrev pub check_three : Combiner → Option Triangle → ℕ
check_three k None = 1
check_three k (Some t) = check_of k t.a t.b t.c

unfoldable pub failing : Combiner → List Float → List ℕ → List ℕ → ℕ → ℕ
failing k vs ps is i = check_three k (triangle_at vs ps is i)

-- p of n numbers from i on
unfoldable pub all : (ℕ → Bool) → ℕ → ℕ → Bool
all p zero i = true
all p (suc n) i = p i && all p n (i + 1)

-- every rectangle is admitted, and triangles of which none has a failing check
unfoldable pub admitted_of : Combiner → Geometry → List Float → List ℕ → List ℕ → Bool
admitted_of k Nothing vs ps is = false
admitted_of k (Rectangle sides) vs ps is = true
admitted_of k Triangles vs ps is = all (λ (i : ℕ). failing k vs ps is i == 0) (length is / 3) 0
