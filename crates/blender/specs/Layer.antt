-- Inner vocabulary. Pixels of one colour whose blend is mostly worked out once a draw. Definitions only. Source: `blend` and `color_known` of writeback.rs, of whose
-- definitions these are parts; that they give the same bytes is proofs/Layers.
use Rattle.std.specs.Prelude.{Bool, not, ◌&&◌, ◌||◌, Float, ◌==◌}
use Rattle.std.specs.Float.{binary32}
use Rattle.std.specs.Float.Ieee.{mul}
use Rattle.num_float.specs.Color.{f0}
use Rattle.state.specs.declared.RenderMode.{RenderMode}
use Rattle.state.specs.declared.Rgba.{Rgba}
use Rattle.combiner.specs.declared.Combiner.{Combiner}
use Rattle.blender.specs.declared.layer.Layer.{Layer}
use Rattle.blender.specs.Mux.{mux_of}
use Rattle.blender.specs.Known.{reject}
use Rattle.blender.specs.Blend.{factor_a, factor_b, source_of}

-- nothing of the memory enters the pixel's colour: P is not the memory's, and P is stored as it is whatever the coverage
unfoldable pub opaque_of : RenderMode → Float → Bool
opaque_of mode alpha =
    let x = mux_of mode.blender_mux in
    not (x.p == 1) && (reject mode alpha || not (mode.force_blend || mode.antialias))

-- P of a pixel that is opaque
unfoldable pub own_of : RenderMode → Combiner → Rgba → Rgba
own_of mode combiner rgba = source_of (mux_of mode.blender_mux).p combiner rgba rgba

-- the blend is forced, P is not the memory's colour and M is, A is not the shade's alpha, B is not the memory's coverage, and M has a share
unfoldable pub layered_of : RenderMode → Float → Bool
layered_of mode alpha =
    let x = mux_of mode.blender_mux in
    mode.force_blend && not (x.p == 1) && x.m == 1 && not (x.a == 2) && not (x.b == 1) && not (reject mode alpha)

-- the blend is not forced, P is not the memory's colour, and A is not the shade's alpha
unfoldable pub steady_of : RenderMode → Bool
steady_of mode =
    let x = mux_of mode.blender_mux in
    not mode.force_blend && not (x.p == 1) && not (x.a == 2)

-- P times A, and B
unfoldable pub layer_of : RenderMode → Combiner → Rgba → Layer
layer_of mode k rgba =
    let x = mux_of mode.blender_mux in
    let p = own_of mode k rgba in
    let a = factor_a x.a rgba.a k.fog.a f0 in
    record { r = mul binary32 p.r a; g = mul binary32 p.g a; b = mul binary32 p.b a; share = factor_b x.b a 0 }
