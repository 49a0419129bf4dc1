-- To be believed. Which draws have a combiner, and which one. Definitions only.
-- Source: Combiner::new of writeback.rs. The fields are those of Set Other Modes and Set Combine Mode (N64 Programming Manual, RDP chapters).
use Rattle.std.specs.Prelude.{Bool, true, false, not, ◌&&◌, ◌||◌, Option, Some, None, if◌then◌else◌, ◌==◌, slice_index_or}
use Rattle.std.specs.Float.{nan}
use Rattle.state.specs.declared.AlphaCompare.{AlphaCompare}
use Rattle.state.specs.declared.AlphaCompare.TheVariants as compare
use Rattle.state.specs.declared.BlendClass.{BlendClass}
use Rattle.state.specs.declared.BlendClass.TheVariants as blend
use Rattle.state.specs.declared.CombinerUniform.{CombinerUniform}
use Rattle.state.specs.declared.RenderMode.{RenderMode}
use Rattle.state.specs.declared.Rgba.{Rgba}
use Rattle.combiner_inputs.specs.Combine.{cycle1}
use Rattle.combiner.specs.declared.Combiner.{Combiner}
use Rattle.combiner.specs.Combine.{color_of, full_shade}

-- whether pixels are dropped by their alpha
unfoldable pub compares : AlphaCompare → Bool
compares compare.None = false
compares compare.Threshold = true
compares compare.Dither = true

-- whether the blend colour is a source
unfoldable pub blends_color : BlendClass → Bool
blends_color blend.Replace = false
blends_color blend.BlendColor = true
blends_color blend.AlphaOver = false
blends_color blend.DualSrc = false

-- one-cycle mode, and none of: depth test and update, alpha tests, alpha and coverage mixed, the class BlendColor, colour on coverage overflow alone
unfoldable pub plain : RenderMode → Bool
plain m =
    m.cycle_type == 0
    && not ((m.z_test || m.z_write)
    || (m.cvg_x_alpha || compares m.alpha_compare || m.alpha_cvg_select)
    || (blends_color m.blend_class || m.color_on_coverage))

-- a uniform's constants, of which PrimLodFrac is the third of four, and the selectors of its second cycle, which one-cycle mode reads
unfoldable pub combiner_of : CombinerUniform → Combiner
combiner_of u =
    record {
      selectors = cycle1 u.combine_l u.combine_h;
      prim = u.prim;
      env = u.env;
      blend = u.blend_color;
      fog = u.fog_color;
      lod = slice_index_or u.lod_params 2 nan;
    }

-- a combiner that gives a colour
abbrev pub if_colored : Combiner → Option Rgba → Option Combiner
if_colored k (Some c) = Some k
if_colored k None = None

-- a draw without textures, in a plain mode, whose selectors are all known
unfoldable pub new_of : CombinerUniform → RenderMode → Option Combiner
new_of u m = if u.tex_enable == 0 && plain m then if_colored (combiner_of u) (color_of (combiner_of u) full_shade) else None
