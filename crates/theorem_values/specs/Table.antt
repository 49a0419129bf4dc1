-- To be believed. The proved table (docs/RULES.md, Ten worked values): what the definitions must give, row by row. Definitions only. A yes is 1 and a no is 0.
use Rattle.std.specs.Prelude.{ℕ, ◌≡◌, Bool, true, false, List, [], ◌∷◌, map, ℤ, pos, negsuc, neg_ℤ, Float, length, replicate}
use Rattle.std.specs.Float.{fin}
use Rattle.num_bits.specs.Ones.{ones_of}
use Rattle.num_float.specs.Color.{f0, f1}
use Rattle.state.specs.declared.RenderMode.{RenderMode}
use Rattle.state.specs.declared.CombinerUniform.{CombinerUniform}
use Rattle.state.specs.declared.Rgba.{Rgba}
use Rattle.state.specs.declared.BlendClass.TheVariants.{Replace}
use Rattle.state.specs.declared.ZMode.TheVariants.{Opa}
use Rattle.state.specs.declared.AlphaCompare.TheVariants.{None}
use Rattle.combiner_inputs.specs.Combine.{cycle1}
use Rattle.combiner.specs.declared.Combiner.{Combiner}
use Rattle.blender.specs.Coverage.{destination_of}
use Rattle.blender.specs.Blend.{blend_of}
use Rattle.words_pack.specs.Color.{pack_channel_of}
use Rattle.words_pack.specs.Depth.{pack_depth_of}
use Rattle.raster_vertex.specs.declared.Vertex.{Vertex}
use Rattle.raster_vertex.specs.Range.{in_range}
use Rattle.raster_vertex.specs.Sorted.{sorted}
use Rattle.raster_edges.specs.declared.Corner.{Corner}
use Rattle.raster_edge.specs.Edge.{quantized}
use Rattle.raster_edges.specs.Edge.{slope_of}
use Rattle.raster_edges.specs.Span.{tri_of, edges_of}
use Rattle.raster_edges.specs.Sample.{mask_of}
use Rattle.raster_rectangle.specs.declared.Sides.{Sides}
use Rattle.raster_rectangle.specs.Rectangle.{rect_mask}
use Rattle.raster_pixel.specs.declared.Geometry.{Geometry}
use Rattle.raster_pixel.specs.declared.Geometry.TheVariants.{Triangles, Rectangle}
use Rattle.raster_pixel.specs.Emitted.{Emit, corner_of}
use Rattle.frame.specs.Frame.{Frame, frame_of}
use Rattle.frame_draw.specs.Draw.{DrawArgs, draw_args, Plan, plan_of, draw_answer}

-- one of the ten rows, a value of the definitions, and what it must be
pub record Entry : Type 0 where
  pub row : ℕ
  pub value : ℤ
  pub is : ℤ

abbrev pub entry : ℕ → ℤ → ℤ → Entry
entry row value is = record { row = row; value = value; is = is }

abbrev pub yes : Bool → ℤ
yes true = pos 1
yes false = pos 0

-- ---- what the rows speak of

-- a mode that blends nothing, but for the four given fields
abbrev pub mode : ℕ → Bool → Bool → ℕ → RenderMode
mode cvgDst forced antialias mux =
    record {
      cycle_type = 0;
      rgb_dither = 0;
      alpha_dither = 0;
      key_enabled = false;
      cvg_dst = cvgDst;
      image_read = false;
      antialias = antialias;
      alpha_cvg_select = false;
      color_on_coverage = false;
      blender_mux = mux;
      force_blend = forced;
      blend_class = Replace;
      fallback_class = Replace;
      non_canonical_blend = false;
      z_source_prim = false;
      z_test = false;
      z_write = false;
      z_mode = Opa;
      fog = false;
      alpha_compare = None;
      cvg_x_alpha = false;
    }

abbrev pub grey : Float → Rgba
grey v = record { r = v; g = v; b = v; a = f1 }

abbrev pub combiner : Combiner
combiner = record { selectors = cycle1 0 0; prim = grey f0; env = grey f0; blend = grey f0; fog = grey f0; lod = f0 }

-- a vertex at (x, y), in white
abbrev pub at : Float → Float → Vertex
at x y = record { x = x; y = y; r = f1; g = f1; b = f1; a = f1 }

abbrev pub corner : ℤ → ℤ → Corner
corner x y = record { x = x; y = y }

-- m * 2 ^ -e
abbrev pub parts : ℕ → ℕ → Float
parts m e = fin false m (neg_ℤ (pos e))

-- the thin triangle (0, 0), (0.125, 0.25), (1, 2)
abbrev pub thin : List Vertex
thin = at f0 f0 ∷ at (parts 1 3) (parts 1 2) ∷ at f1 (fin false 1 (pos 1)) ∷ []

-- the sides 0.25, 0, 1, 1
abbrev pub sides : Sides
sides = record { left = parts 1 2; top = f0; right = f1; bottom = f1 }

-- ---- the draws of rows 8 and 9, over a frame of 2 by 2 pixels of which nothing is known

-- no texture, and selectors that give a colour
abbrev pub uniform : CombinerUniform
uniform =
    record {
      combine_l = 0;
      combine_h = 0;
      cycle_type = 0;
      tex_enable = 0;
      blender_mux = 0;
      force_blend = 0;
      alpha_flags = 0;
      alpha_threshold = f0;
      prim = grey f0;
      env = grey f0;
      blend_color = grey f0;
      fog_color = grey f0;
      inv_tex_size = replicate 4 f0;
      inv_tex1_size = replicate 4 f0;
      lod_params = replicate 4 f0;
      inv_detail_size = replicate 4 f0;
      frame = replicate 4 0;
      is_rect = 0;
      coverage_slot = 0;
      fill_word = 0;
      fill_siz = 0;
      primitive_depth = replicate 4 0;
      native_scale = replicate 4 f0;
      raster = replicate 4 0;
    }

-- cull is off, and the scissor is the frame
abbrev pub draw : Bool → Geometry → List Float → List ℕ → List ℕ → DrawArgs
draw antialias geometry vertices present indices =
    draw_args (mode 0 false antialias 0) uniform false (record { left = 0; top = 0; width = 2; height = 2 }) geometry vertices present indices

abbrev pub draw_sides : Bool → DrawArgs
draw_sides antialias = draw antialias (Rectangle sides) [] [] []

-- vertices as a draw carries them
abbrev pub floats : List Vertex → List Float
floats [] = []
floats (v ∷ vs) = v.x ∷ v.y ∷ v.r ∷ v.g ∷ v.b ∷ v.a ∷ floats vs

abbrev pub draw_thin : Bool → DrawArgs
draw_thin antialias = draw antialias Triangles (floats thin) (1 ∷ 1 ∷ 1 ∷ []) (0 ∷ 1 ∷ 2 ∷ [])

abbrev pub unknown : Frame
unknown = frame_of (replicate 12 0) (replicate 4 0) (replicate 4 0)

-- the number that a draw is answered with: 0 where it is carried out
abbrev pub number : DrawArgs → ℤ
number d = pos (draw_answer d 2 2 unknown).number

-- and the count of pixels that it answers
abbrev pub answered : DrawArgs → ℤ
answered d = pos (draw_answer d 2 2 unknown).pixels

-- the pixels that it emits
abbrev pub planned : Plan → List Emit
planned (Plan.refuse n) = []
planned (Plan.accept k es) = es

abbrev pub emitted : DrawArgs → List Emit
emitted d = planned (plan_of d 2 2 unknown)

abbrev pub count : DrawArgs → ℤ
count d = pos (length (emitted d))

-- the number, the mask and the samples of the first of them; -1 where there is none
abbrev pub of_first : (Emit → ℕ) → List Emit → ℤ
of_first f [] = negsuc 0
of_first f (e ∷ es) = pos (f e)

abbrev pub pixel : DrawArgs → ℤ
pixel d = of_first (λ e. e.pixel) (emitted d)

abbrev pub mask : DrawArgs → ℤ
mask d = of_first (λ e. e.mask) (emitted d)

abbrev pub samples : DrawArgs → ℤ
samples d = of_first (λ e. ones_of e.mask) (emitted d)

-- ---- the table
unfoldable pub table : List Entry
table =
    -- x 1023.75 is in range, 1024.0 is not
    entry 1 (yes (in_range (at (parts 4095 2) f0))) (pos 1)
    ∷ entry 1 (yes (in_range (at (fin false 1 (pos 10)) f0))) (pos 0)
    -- a slope of +1 over 3 is 21,840; of -1 over 3 is -21,848
    ∷ entry 2 (slope_of (corner (pos 0) (pos 0)) (corner (pos 1) (pos 3))) (pos 21840)
    ∷ entry 2 (slope_of (corner (pos 0) (pos 0)) (corner (negsuc 0) (pos 3))) (neg_ℤ (pos 21848))
    -- edges 16,384, 24,576 and -2 quantise to 2, 3 and -1
    ∷ entry 3 (quantized (pos 16384)) (pos 2)
    ∷ entry 3 (quantized (pos 24576)) (pos 3)
    ∷ entry 3 (quantized (neg_ℤ (pos 2))) (neg_ℤ (pos 1))
    -- cvg_dst 0, count 5, memory 4: forced 7; antialias alone 4
    ∷ entry 4 (pos (destination_of (mode 0 true false 0) 5 4)) (pos 7)
    ∷ entry 4 (pos (destination_of (mode 0 false true 0) 5 4)) (pos 4)
    -- cvg_dst 1, the same: 1
    ∷ entry 5 (pos (destination_of (mode 1 true false 0) 5 4)) (pos 1)
    ∷ entry 5 (pos (destination_of (mode 1 false true 0) 5 4)) (pos 1)
    -- channel 5 packs to 1 at threshold 4 and to 0 at 5; 250 packs to 31 at 0
    ∷ entry 6 (pos (pack_channel_of 5 4)) (pos 1)
    ∷ entry 6 (pos (pack_channel_of 5 5)) (pos 0)
    ∷ entry 6 (pos (pack_channel_of 250 0)) (pos 31)
    -- depth 0.5 packs to 2000 hexadecimal, 1.0 to fffc
    ∷ entry 7 (pos (pack_depth_of (parts 1 1))) (pos 0x2000)
    ∷ entry 7 (pos (pack_depth_of f1)) (pos 0xfffc)
    -- rectangle sides 0.25, 0, 1, 1 give pixel 0 mask 77 hexadecimal, six samples; without antialias it is not emitted
    ∷ entry 8 (pos (rect_mask sides 0 0)) (pos 0x77)
    ∷ entry 8 (number (draw_sides true)) (pos 0)
    ∷ entry 8 (answered (draw_sides true)) (pos 1)
    ∷ entry 8 (count (draw_sides true)) (pos 1)
    ∷ entry 8 (pixel (draw_sides true)) (pos 0)
    ∷ entry 8 (mask (draw_sides true)) (pos 0x77)
    ∷ entry 8 (samples (draw_sides true)) (pos 6)
    ∷ entry 8 (number (draw_sides false)) (pos 0)
    ∷ entry 8 (count (draw_sides false)) (pos 0)
    -- the thin triangle gives mask 40 hexadecimal, one sample, at pixel (0, 1), which is pixel 2; without antialias it is not emitted
    ∷ entry 9 (pos (mask_of (edges_of (tri_of (map corner_of (sorted thin))) 1) 0)) (pos 0x40)
    ∷ entry 9 (number (draw_thin true)) (pos 0)
    ∷ entry 9 (answered (draw_thin true)) (pos 1)
    ∷ entry 9 (count (draw_thin true)) (pos 1)
    ∷ entry 9 (pixel (draw_thin true)) (pos 2)
    ∷ entry 9 (mask (draw_thin true)) (pos 0x40)
    ∷ entry 9 (samples (draw_thin true)) (pos 1)
    ∷ entry 9 (number (draw_thin false)) (pos 0)
    ∷ entry 9 (count (draw_thin false)) (pos 0)
    -- unblended 0.5 becomes byte 128
    ∷ entry 10 (pos (blend_of (mode 0 false false 0) combiner (grey (parts 1 1)) (grey f0) f1 8 7).r) (pos 128)
    ∷ []

-- each value is what it must be
abbrev pub Holds : List Entry → Type 0
Holds [] = Unit
Holds (e ∷ es) = (e.value ≡ e.is) × Holds es
