-- Inner vocabulary. A pixel with all eight samples of a colour that is worked out ahead: what it does turns on the mark at its place, and on the memory's colour where it is
-- layered. Definitions only; that it is what the rules give is proofs/Fulls.
use Rattle.std.specs.Prelude.{◌≡◌, Bool, true, false, ◌||◌, None, Some, if◌then◌else◌, ◌==◌}
use Rattle.state.specs.declared.RenderMode.{RenderMode}
use Rattle.state.specs.declared.Rgba.{Rgba}
use Rattle.combiner.specs.declared.Combiner.{Combiner}
use Rattle.blender.specs.Coverage.{Coverage}
use Rattle.blender.specs.Layer.{layered_of, steady_of, layer_of, opaque_of}
use Rattle.frame_pixel.specs.declared.Pixel.{Pixel}
use Rattle.frame_pixel.specs.declared.Colors.{Colors}
use Rattle.frame_pixel.specs.declared.full.Full.{Full}
use Rattle.frame_pixel.specs.Marks.{color_marked, coverage_marked, mark_of}
use Rattle.frame_pixel.specs.Rules.{rule_f4, rule_f5, coverage_at, assembled}
use Rattle.frame_pixel.specs.Coloring.{own_colors, over_colors}

-- F5 makes it 7
abbrev pub is_full : Coverage → Bool
is_full None = false
is_full (Some c) = c == 7

-- what is worked out ahead for the full pixels of a colour
pub record FullOf (mode : RenderMode) (k : Combiner) (color : Rgba) (full : Full) : Type 0 where
  pub layered : full.layered ≡ layered_of mode color.a
  pub own : full.own ≡ own_colors mode k color
  pub layer : full.layer ≡ layer_of mode k color
  pub sure : full.sure ≡ opaque_of mode color.a
  -- F5 makes 7 of a coverage that is not known; then it makes 7 of every other, too, and else it leaves every one
  pub fills : full.fills ≡ is_full (rule_f5 mode 8 None)
  pub sets : full.sets ≡ mark_of false full.fills

-- that is enough for a full pixel: it is layered, or it is of its own colour wherever the coverage is known
abbrev pub Enough : RenderMode → Full → Type 0
Enough mode full = (full.layered || (steady_of mode || full.sure)) ≡ true

-- whether its colour is then known, its colours if so, and its coverage
abbrev pub full_known : Full → Pixel → Bool
full_known full x = if full.layered then color_marked x.mark else full.sure || coverage_marked x.mark

abbrev pub full_colors : Full → Pixel → Colors
full_colors full x = if full.layered then over_colors full.layer (rule_f4 x) else full.own

abbrev pub full_coverage : Bool → Coverage → Coverage
full_coverage fills coverage = if fills then Some 7 else coverage

-- a full pixel whose colours are stored where they are known
unfoldable pub full_with : Bool → Bool → Colors → Pixel → Pixel
full_with known fills new x = assembled known (if known then new else rule_f4 x) (full_coverage fills (coverage_at x)) x.coverage

unfoldable pub full_step : Full → Pixel → Pixel
full_step full x = full_with (full_known full x) full.fills (full_colors full x) x
