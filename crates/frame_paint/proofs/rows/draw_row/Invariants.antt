-- The parts before this one are drawn.
use Prim.Native.Nat.{◌-◌}
use Rattle.frame_paint.specs.Row.{row_at}
use Rattle.frame_paint.proofs.Drawing.{DrawingOn}
use Rattle.frame_paint.proofs.rows.draw_row.Given as goal

abbrev pub invariant-loop-x : goal.invariant-loop-x
invariant-loop-x l =
    DrawingOn l.paint.mode l.paint.combiner (λ v. row_at l.paint l.shades l.row.edges v.width l.y) l.start l.end l.initial.target l.x l.target l.n

abbrev pub decreases-loop-x : goal.decreases-loop-x
decreases-loop-x l = l.end - l.x
