-- A row without a corner lies between two edges.
use Prim.Native.Nat.{ℕ, ◌+◌, ◌*◌, ◌<◌}
use mathlib.Core.Path.{◌≡◌, sym, ◌∙◌}
use mathlib.Core.Bool.{Bool}
use native.Mathlib.Omega.{arith}
use lib.IntN.{pos}
use lib.Signed.{lt_z, le_z}
use mir.Syntax.{w64}
use mir.Val.{to_z, of_z}
use Rattle.raster_edges.specs.declared.Tri.{Tri}
use Rattle.raster_edges.specs.Limits.{TameTri}
use Rattle.raster_edge.proofs.Held.{Held, small, uns, lt_is, le_is}
use Rattle.raster_edges.proofs.Lines.{upper_row, lower_row}
use Rattle.raster_edges.proofs.edges_at.Goals as goal

-- the tests, of the numbers themselves
module _ (t : Tri) (y : ℕ) (tame : TameTri t) (low : y < 4095) where
  first : Held (y * 4) (pos (y * 4)) 16384
  first = uns (omega arith) tt

  last : Held (y * 4 + 3) (pos (y * 4 + 3)) 16384
  last = uns (omega arith) tt

  top_first : {b : Bool} → le_z (to_z w64 (of_z w64 t.top)) (to_z w64 (y * 4)) ≡ b → le_z t.top (pos (y * 4)) ≡ b
  top_first e = sym (le_is (small t.top tame.top_small tt) first) ∙ e

  last_end : {b : Bool} → lt_z (to_z w64 (y * 4 + 3)) (to_z w64 (of_z w64 t.end)) ≡ b → lt_z (pos (y * 4 + 3)) t.end ≡ b
  last_end e = sym (lt_is last (small t.end tame.end_small tt)) ∙ e

  mid_first : {b : Bool} → le_z (to_z w64 (of_z w64 t.mid)) (to_z w64 (y * 4)) ≡ b → le_z t.mid (pos (y * 4)) ≡ b
  mid_first e = sym (le_is (small t.mid tame.mid_small tt) first) ∙ e

  last_mid : {b : Bool} → lt_z (to_z w64 (y * 4 + 3)) (to_z w64 (of_z w64 t.mid)) ≡ b → lt_z (pos (y * 4 + 3)) t.mid ≡ b
  last_mid e = sym (lt_is last (small t.mid tame.mid_small tt)) ∙ e

pub returns-then-last-t-2 : goal.returns-then-last-t-2
returns-then-last-t-2 c =
    let t = c.args.t in
    let y = c.args.y in
    let h = c.requires.0 in
    let k = c.requires.1 in
    c.row_at.ensures ∙ upper_row t y (top_first t y h k c.if-t-first.true) (last_end t y h k c.if-last-t.true) (last_mid t y h k c.if-last-t-2.true)

pub returns-then-t-first-2 : goal.returns-then-t-first-2
returns-then-t-first-2 c =
    let t = c.args.t in
    let y = c.args.y in
    let h = c.requires.0 in
    let k = c.requires.1 in
    c.row_at-then-t-first-2.ensures ∙ lower_row t y (top_first t y h k c.if-t-first.true) (last_end t y h k c.if-last-t.true) (mid_first t y h k c.if-t-first-2.true)
