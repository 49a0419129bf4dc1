-- Nothing where its pixels are not emitted, and else a run.
use mathlib.Core.Path.{sym, ◌∙◌}
use Rattle.raster_emitted.proofs.Listing.{listed_none, listed_as}
use Rattle.raster_emitted.proofs.Lines.{part_none, part_run}
use Rattle.raster_emitted.proofs.rows.list_part.Goals as goal

pub returns-then-is_shown : goal.returns-then-is_shown
returns-then-is_shown c =
    let l = c.args.line.now in
    listed_as (part_run l.antialias l.row l.width l.y c.samples-mask.ensures c.requires.inside.0 c.requires.run (sym c.is_shown.ensures ∙ c.if-is_shown.true)) c.list_run.ensures

pub returns-else-is_shown : goal.returns-else-is_shown
returns-else-is_shown c =
    let l = c.args.line.now in
    listed_as (sym (part_none l.antialias l.row l.width l.y c.samples-mask.ensures c.requires.inside.0 c.requires.run (sym c.is_shown.ensures ∙ c.if-is_shown.false))) (listed_none c.args.slots.now)
