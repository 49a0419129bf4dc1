-- Inner vocabulary. A test of a triangle's vertices. Definitions only.
use Rattle.std.specs.Prelude.{Bool, ◌||◌, ◌≡◌}
use Rattle.raster_vertex.specs.declared.Vertex.{Vertex}
use Rattle.raster_vertex.specs.declared.Triangle.{Triangle}

-- p of one of the three
abbrev pub any_of : (Vertex → Bool) → Triangle → Bool
any_of p t = p t.a || p t.b || p t.c

-- the answer r, where a test answers as `answers` says: of each p that it computes
unfoldable pub AnyOf : (Vertex → Bool → Type 0) → Triangle → Bool → Type 0
AnyOf answers t r = (p : Vertex → Bool) → ((v : Vertex) (b : Bool) → answers v b → b ≡ p v) → r ≡ any_of p t
