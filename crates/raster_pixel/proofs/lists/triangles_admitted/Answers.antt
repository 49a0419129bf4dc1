-- A triangle is sound where its check answers Ok.
use mathlib.Core.Path.{refl, ◌∙◌}
use native.Mathlib.Omega.{arith}
use borrow.Author.Tests.{tests}
use Rattle.std.proofs.Common.{rules}
use Rattle.std.proofs.lemmas.Iterator.{YieldsList-from_range}
use Rattle.std.proofs.lemmas.Iterator.Search.{all_from_yields_List}
use Rattle.raster_pixel.specs.Admitted.{admitted_of}
use Rattle.raster_pixel.proofs.Checked.{sound, is_ok-number, list_all-range}
use Rattle.raster_pixel.proofs.lists.triangles_admitted.Goals as goal

pub returns : goal.returns
unfolding admitted_of
returns c =
    let l = c.args.lists.now in
    all_from_yields_List (sound c.args.combiner l.vertices.now l.present.now l.indices.now) _ _ c.all.result c.all.ensures.ran (YieldsList-from_range 0 _ _ refl (omega arith))
    (λ x b q k. search (rules, tests, is_ok-number))
    ∙ list_all-range _ _ 0
