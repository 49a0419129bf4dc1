-- To be believed. The blend of a pixel with memory, as Rust's `blend`: each operation rounded once to an f32. Definitions only.
-- Source: N64 Programming Manual, RDP chapter, the blender; N64brew wiki, Reality Display Processor, Set Other Modes (P, A, M, B); order of the
-- operations from writeback.rs.
use Rattle.std.specs.Prelude.{ℕ, Bool, false, pos, Float, Some, unwrap_or, if◌then◌else◌}
use Rattle.std.specs.Float.{fin, binary32}
use Rattle.std.specs.Float.Ieee.{of_int, lt, add, sub, mul, div}
use Rattle.num_float.specs.Color.{f0, f1}
use Rattle.num_float.specs.Whole.{f255, byte_of}
use Rattle.state.specs.declared.RenderMode.{RenderMode}
use Rattle.state.specs.declared.Rgba.{Rgba}
use Rattle.combiner.specs.declared.Combiner.{Combiner}
use Rattle.state.specs.declared.Rgba8.{Rgba8}
use Rattle.blender.specs.Coverage.{Coverage}
use Rattle.blender.specs.Mux.{mux_of, pick}
use Rattle.blender.specs.Known.{alone}

-- 8.0
abbrev pub f8 : Float
f8 = fin false 1 (pos 3)

-- P and M: the pixel, the memory, the blend colour, the fog colour
abbrev pub source_of : ℕ → Combiner → Rgba → Rgba → Rgba
source_of k combiner rgba memory = pick k rgba memory combiner.blend combiner.fog

-- A: the pixel's alpha, fog's, shade's, 0
abbrev pub factor_a : ℕ → Float → Float → Float → Float
factor_a k alpha fog shade = pick k alpha fog shade f0

-- B: 1 - A, the coverage in memory as eighths, 1, 0
unfoldable pub factor_b : ℕ → Float → ℕ → Float
factor_b k a c = pick k (sub binary32 f1 a) (div binary32 (of_int binary32 (pos c)) f8) f1 f0

-- a + b, and at least 1 / 255, also for a NaN
abbrev pub divisor_of : Float → Float
divisor_of sum = let least = div binary32 f1 f255 in if lt least sum then sum else least

-- one channel: P as it is; or p * a + m * b, over a + b unless the blend is forced
unfoldable pub mixed_of : Bool → Bool → Float → Float → Float → Float → Float
mixed_of stands forced p a m b =
    let sum = add binary32 (mul binary32 p a) (mul binary32 m b) in
    if stands then p else if forced then sum else div binary32 sum (divisor_of (add binary32 a b))

-- three channels and the pixel's alpha, as bytes
unfoldable pub bytes_of : Bool → Bool → Rgba → Float → Rgba → Float → Float → Rgba8
bytes_of stands forced p a m b alpha =
    record {
      r = byte_of (mixed_of stands forced p.r a m.r b);
      g = byte_of (mixed_of stands forced p.g a m.g b);
      b = byte_of (mixed_of stands forced p.b a m.b b);
      a = byte_of alpha;
    }

-- the pixel rgba with n samples over the memory's colour and coverage c
unfoldable pub blend_of : RenderMode → Combiner → Rgba → Rgba → Float → ℕ → ℕ → Rgba8
blend_of mode combiner rgba memory shade n c =
    let x = mux_of mode.blender_mux in
    let a = factor_a x.a rgba.a combiner.fog.a shade in
    bytes_of (alone mode rgba.a n (Some c)) mode.force_blend
    (source_of x.p combiner rgba memory) a (source_of x.m combiner rgba memory) (factor_b x.b a c)
    rgba.a

-- a coverage that is not known is passed as 0
abbrev pub or_zero : Coverage → ℕ
or_zero coverage = unwrap_or coverage 0
