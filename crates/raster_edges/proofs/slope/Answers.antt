-- The two differences, then the callees, then the mask.
use Prim.Native.Nat.{◌%◌, ◌*◌, ◌^◌}
use mathlib.Core.Path.{◌≡◌, refl, ap, ap₂, ◌∙◌}
use native.Mathlib.Omega.{arith}
use lib.Dec.{le→leb}
use lib.IntN.{ℤ, pos, negsuc, ◌-ℤ◌, ◌*ℤ◌, nat_abs}
use mir.Syntax.{w64}
use mir.Val.{of_z, to_z}
use Rattle.std.specs.Int.{int_max}
use Rattle.std.proofs.lemmas.Bool.Decides.{nat_tests}
use Rattle.raster_edge.specs.Edge.{away_div, at_least_one}
use Rattle.raster_edges.specs.declared.Corner.{Corner}
use Rattle.raster_edges.specs.Limits.{Near}
use Rattle.raster_edges.specs.Edge.{slope_of}
use Rattle.raster_edge.proofs.Held.{Held, made, diff, shl, low}
use Rattle.raster_edge.proofs.Size.{size_away, size_one, one_le}
use Rattle.raster_edges.proofs.slope.Goals as goal

at_least : (z : ℤ) → int_max z (pos 1) ≡ pos (at_least_one z)
at_least (pos a) = grind (arith, nat_tests)
at_least (negsuc a) = refl

module _ (a b : Corner) (p : Near a) (q : Near b) where
  abbrev dx : ℤ
  dx = b.x -ℤ a.x

  abbrev dy : ℤ
  dy = b.y -ℤ a.y

  over : Held ((of_z w64 (to_z w64 (of_z w64 b.x) -ℤ to_z w64 (of_z w64 a.x)) * 65536) % 2 ^ 64) (dx *ℤ pos 65536) 1073741824
  over = shl (diff b.x a.x q.x_near p.x_near) 16 tt

  height : {z : ℤ} → z ≡ int_max (to_z w64 (of_z w64 (to_z w64 (of_z w64 b.y) -ℤ to_z w64 (of_z w64 a.y)))) (pos 1) → Held (of_z w64 z) (pos (at_least_one dy)) 16385
  height e =
      let d = diff b.y a.y q.y_near p.y_near in
      made (e ∙ at_least _ ∙ ap (λ (z : ℤ). pos (at_least_one z)) d.read) (omega (arith, d.size, size_one dy)) tt

pub away-requires : goal.away-requires
away-requires c =
    let n = over c.args.a c.args.b c.requires.0 c.requires.1 in
    let d = height c.args.a c.args.b c.requires.0 c.requires.1 c.max.ensures.value in
    (rw n.read (omega (arith, n.size)), rw d.read (omega (arith, d.size)), rw d.read (record { le = le→leb 1 _ (one_le (dy c.args.a c.args.b c.requires.0 c.requires.1)) }))

pub returns : goal.returns
unfolding slope_of
returns c =
    let n = over c.args.a c.args.b c.requires.0 c.requires.1 in
    let d = height c.args.a c.args.b c.requires.0 c.requires.1 c.max.ensures.value in
    let x = dx c.args.a c.args.b c.requires.0 c.requires.1 *ℤ pos 65536 in
    let y = at_least_one (dy c.args.a c.args.b c.requires.0 c.requires.1) in
    let e : c.away.result ≡ away_div x y = c.away.ensures ∙ ap₂ away_div n.read (ap nat_abs d.read) in
    (low (made {z = away_div x y} {B = 1073758209} e (omega (arith, size_away x y, n.size, d.size)) tt) 61 3 refl tt).read
