use Rattle.std.proofs.Common.{rules}
use Rattle.frame_paint.proofs.Joins.{run_drawn, one_drawn}
use Rattle.frame_paint.proofs.rows.draw_part.Goals as goal

pub returns-then-x-next : goal.returns-then-x-next
returns-then-x-next c = let h = c.requires.x_lt_next in run_drawn _ _ c.args.row.now _ h.1 c.if-x-next.true c.fill_run.ensures (search rules)

pub returns : goal.returns
returns c = one_drawn _ _ _ _ c.samples-mask.ensures c.requires.x_lt_next.0 c.if-x-next.false c.row_pixel.ensures
