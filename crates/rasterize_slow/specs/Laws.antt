-- Inner vocabulary. That a frame and slots keep the laws of a sink.
use mathlib.Core.Path.{refl, sym, ap, ◌∙◌}
use mathlib.Core.List.{List, [], ◌++◌, map, map-append, foldl-append}
use lib.ListN.{length}
use Rattle.raster_pixel.specs.declared.shapes.Shapes.{Shapes}
use Rattle.raster_pixel.specs.Emitted.{Emit}
use Rattle.frame_paint.specs.declared.Target.{Target}
use Rattle.frame_paint.specs.Steps.{step_frame, draw_list}
use Rattle.frame_paint.specs.Target.{seen}
use Rattle.frame_paint.specs.Pixel.{DrewOn}
use Rattle.frame_paint.proofs.Drawing.{same_then, drew_nothing}
use Rattle.raster_emitted.specs.declared.slots.Slots.{Slots}
use Rattle.raster_emitted.specs.Masked.{masked_of}
use Rattle.raster_emitted.specs.Listed.{ListedIn}
use Rattle.raster_emitted.proofs.Listing.{listed_none, listed_as, listed_then}

pub drew_none : (d : Shapes) (s : Target) → DrewOn d.mode d.combiner [] s s 0
drew_none d s = drew_nothing s refl

pub drew_then :
    (d : Shapes) (es fs : List Emit) (s t u : Target)
    → DrewOn d.mode d.combiner es s t (length es) → DrewOn d.mode d.combiner fs t u (length fs) → DrewOn d.mode d.combiner (es ++ fs) s u (length (es ++ fs))
drew_then d es fs s t u a b =
    let draw = draw_list d.mode d.combiner in
    record {
      ran = record { state = b.ran.state ∙ ap (λ f. draw f fs) a.ran.state ∙ sym (foldl-append (step_frame d.mode d.combiner) (seen s) es fs); count = refl };
      same = same_then a.same b.same;
    }

pub listed_nothing : (d : Shapes) (s : Slots) → ListedIn (map masked_of []) s s
listed_nothing d s = listed_none s

pub listed_both :
    (d : Shapes) (es fs : List Emit) (s t u : Slots)
    → ListedIn (map masked_of es) s t → ListedIn (map masked_of fs) t u → ListedIn (map masked_of (es ++ fs)) s u
listed_both d es fs s t u a b = listed_as (sym (map-append masked_of es fs)) (listed_then a b)
