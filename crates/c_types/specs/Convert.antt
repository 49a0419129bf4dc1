-- To be believed. The C interface's plain values and the library's types: the case of an enum that a number stands for, in the order of the declarations of the Rust
-- (hle/blender.rs, hle/combiner.rs), and structs field by field. Definitions only.
use Rattle.std.specs.Prelude.{ℕ, ◌/◌, ◌%◌, Bool, true, false, List, [], ◌∷◌, Option, Some, None, slice_index_or, slice_index}
use Rattle.state.specs.declared.AlphaCompare.{AlphaCompare}
use Rattle.state.specs.declared.BlendClass.{BlendClass}
use Rattle.state.specs.declared.ZMode.{ZMode}
use Rattle.state.specs.declared.RenderMode.{RenderMode}
use Rattle.combiner_inputs.specs.declared.ColorIn.{ColorIn}
use Rattle.combiner_inputs.specs.declared.AlphaIn.{AlphaIn}
use Rattle.combiner_inputs.specs.declared.CycleSel.{CycleSel}
use Rattle.combiner_inputs.specs.declared.CombinerSelectors.{CombinerSelectors}
use Rattle.combiner.specs.declared.Combiner.{Combiner}
use Rattle.blender.specs.Coverage.{Coverage}
use Rattle.words_pack.specs.declared.FramebufferEncoding.{FramebufferEncoding}
use Rattle.state.specs.declared.Rgba8.{Rgba8}
use Rattle.words_pack.specs.declared.Writer.{Writer}
use Rattle.combiner_inputs.specs.Inputs.{color_number, alpha_number}
use Rattle.c_types.specs.declared.Mode.{Mode}
use Rattle.c_types.specs.declared.Parts.{Parts}
use Rattle.c_types.specs.declared.Selectors.{Selectors}
use Rattle.state.specs.declared.AlphaCompare.TheVariants as compare
use Rattle.state.specs.declared.BlendClass.TheVariants as class
use Rattle.state.specs.declared.ZMode.TheVariants as depth
use Rattle.combiner_inputs.specs.declared.ColorIn.TheVariants as cin
use Rattle.combiner_inputs.specs.declared.AlphaIn.TheVariants as ain
use Rattle.words_pack.specs.declared.FramebufferEncoding.TheVariants as order

-- ---- numbers for enums

-- the cases but the last from 0 up; every other number stands for the last
abbrev pub numbered : {E : Type 0} → List E → E → ℕ → E
numbered cases last n = slice_index_or cases n last

abbrev pub blend_classes : List BlendClass
blend_classes =
    class.Replace ∷ class.BlendColor ∷ class.AlphaOver ∷ []

-- from 3 up DualSrc
unfoldable pub blend_class_of : ℕ → BlendClass
blend_class_of n = numbered blend_classes class.DualSrc n

abbrev pub z_modes : List ZMode
z_modes =
    depth.Opa ∷ depth.Inter ∷ depth.Xlu ∷ []

-- from 3 up Decal
unfoldable pub z_mode_of : ℕ → ZMode
z_mode_of n = numbered z_modes depth.Decal n

abbrev pub alpha_compares : List AlphaCompare
alpha_compares =
    compare.None ∷ compare.Threshold ∷ []

-- from 2 up Dither
unfoldable pub alpha_compare_of : ℕ → AlphaCompare
alpha_compare_of n = numbered alpha_compares compare.Dither n

abbrev pub color_inputs : List ColorIn
color_inputs =
    cin.Combined ∷ cin.Texel0 ∷ cin.Primitive ∷ cin.Shade ∷ cin.Environment ∷ cin.Zero ∷ cin.One ∷ cin.Texel1 ∷ cin.KeyCenter ∷ cin.K4 ∷ cin.KeyScale ∷ cin.CombinedAlpha ∷ cin.Texel0Alpha ∷ cin.Texel1Alpha ∷ cin.PrimitiveAlpha ∷ cin.ShadeAlpha ∷ cin.EnvAlpha ∷ cin.LodFraction ∷ cin.PrimLodFrac ∷ cin.K5 ∷ []

-- from 20 up Noise; `color_number` goes the other way
unfoldable pub color_in_of : ℕ → ColorIn
color_in_of n = numbered color_inputs cin.Noise n

abbrev pub alpha_inputs : List AlphaIn
alpha_inputs =
    ain.Combined ∷ ain.Texel0 ∷ ain.Primitive ∷ ain.Shade ∷ ain.Environment ∷ ain.Zero ∷ ain.One ∷ ain.Texel1 ∷ ain.LodFraction ∷ []

-- from 9 up PrimLodFrac; `alpha_number` goes the other way
unfoldable pub alpha_in_of : ℕ → AlphaIn
alpha_in_of n = numbered alpha_inputs ain.PrimLodFrac n

-- ---- the render mode

-- a mode's numbers and flags, with its four enums
abbrev pub mode_with : Mode → BlendClass → BlendClass → ZMode → AlphaCompare → RenderMode
mode_with m class fallback z compare =
    record {
      cycle_type = m.cycle_type;
      rgb_dither = m.rgb_dither;
      alpha_dither = m.alpha_dither;
      key_enabled = m.key_enabled;
      cvg_dst = m.cvg_dst;
      image_read = m.image_read;
      antialias = m.antialias;
      alpha_cvg_select = m.alpha_cvg_select;
      color_on_coverage = m.color_on_coverage;
      blender_mux = m.blender_mux;
      force_blend = m.force_blend;
      blend_class = class;
      fallback_class = fallback;
      non_canonical_blend = m.non_canonical_blend;
      z_source_prim = m.z_source_prim;
      z_test = m.z_test;
      z_write = m.z_write;
      z_mode = z;
      fog = m.fog;
      alpha_compare = compare;
      cvg_x_alpha = m.cvg_x_alpha;
    }

unfoldable pub mode_of : Mode → RenderMode
mode_of m =
    mode_with m (blend_class_of m.blend_class) (blend_class_of m.fallback_class) (z_mode_of m.z_mode) (alpha_compare_of m.alpha_compare)

-- ---- the combiner

-- eight selectors from eight numbers
unfoldable pub cycle_from : List ℕ → CycleSel
cycle_from l =
    record {
      ca = color_in_of (slice_index l 0);
      cb = color_in_of (slice_index l 1);
      cc = color_in_of (slice_index l 2);
      cd = color_in_of (slice_index l 3);
      aa = alpha_in_of (slice_index l 4);
      ab = alpha_in_of (slice_index l 5);
      ac = alpha_in_of (slice_index l 6);
      ad = alpha_in_of (slice_index l 7);
    }

-- and back
unfoldable pub numbers_of : CycleSel → List ℕ
numbers_of s =
    color_number s.ca ∷ color_number s.cb ∷ color_number s.cc ∷ color_number s.cd ∷ alpha_number s.aa ∷ alpha_number s.ab ∷ alpha_number s.ac ∷ alpha_number s.ad ∷ []

unfoldable pub combiner_from : Parts → Combiner
combiner_from p = record { selectors = cycle_from p.selectors; prim = p.prim; env = p.env; blend = p.blend; fog = p.fog; lod = p.lod }

unfoldable pub parts_of : Combiner → Parts
parts_of k = record { selectors = numbers_of k.selectors; prim = k.prim; env = k.env; blend = k.blend; fog = k.fog; lod = k.lod }

unfoldable pub selectors_of : CombinerSelectors → Selectors
selectors_of s = record { raw_l = s.raw_l; raw_h = s.raw_h; cyc0 = numbers_of s.cyc0; cyc1 = numbers_of s.cyc1 }

-- ---- what may be absent, the writer and bytes

abbrev pub coverage_of : Bool → ℕ → Coverage
coverage_of true coverage = Some coverage
coverage_of false coverage = None

abbrev pub literal_of : Bool → ℕ → Option ℕ
literal_of true word = Some word
literal_of false word = None

-- by whether it is big-endian
abbrev pub encoding_of : Bool → FramebufferEncoding
encoding_of true = order.BigEndian
encoding_of false = order.Native

abbrev pub writer_of : ℕ → ℕ → ℕ → Bool → Writer
writer_of fmt siz width depth = record { layout = record { fmt = fmt; siz = siz; width = width }; depth = depth }

-- a word's bytes, the lowest first
abbrev pub bytes_from : ℕ → Rgba8
bytes_from word = record { r = word % 0x100; g = word / 0x100 % 0x100; b = word / 0x10000 % 0x100; a = word / 0x1000000 % 0x100 }
