-- To be believed. Whether the colour of an emitted pixel can be told, from what is known of the memory under it: Rust's `color_known`, in its order.
-- Definitions only. Source: writeback.rs; the selectors' numbers as in specs/Blend.antt.
use Rattle.std.specs.Prelude.{ℕ, Bool, true, false, not, ◌&&◌, ◌||◌, Float, Some, None, if◌then◌else◌, ◌==◌}
use Rattle.std.specs.Float.Ieee.{le}
use Rattle.num_float.specs.Color.{f1}
use Rattle.state.specs.declared.RenderMode.{RenderMode}
use Rattle.blender.specs.Mux.{mux_of}
use Rattle.blender.specs.Coverage.{Coverage, blends}

-- A is the pixel's alpha, B is 1 - A, and the alpha is 1.0 or more: M has no share
unfoldable pub reject : RenderMode → Float → Bool
reject mode alpha = let x = mux_of mode.blender_mux in x.a == 0 && x.b == 0 && le f1 alpha

-- P is stored as it is
unfoldable pub alone : RenderMode → Float → ℕ → Coverage → Bool
alone mode alpha n coverage = not (blends mode n coverage) || reject mode alpha

-- a selector of P or M names the memory's colour, which is not known
abbrev pub missing : ℕ → Bool → Bool
missing k memory = k == 1 && not memory

-- Where the coverage in memory is not known: B is not that coverage, and the pixel is blended whatever it is, or P and M are one colour and
-- the factors add up to 1, so that on paper blended and not blended are the same
unfoldable pub any_coverage : RenderMode → Bool
any_coverage mode =
    let x = mux_of mode.blender_mux in
    not (x.b == 1) && (mode.force_blend || (x.p == x.m && x.b == 0))

-- b asks more where the coverage is unknown
abbrev pub where_unknown : Coverage → Bool → Bool
where_unknown None b = b
where_unknown (Some c) b = true

-- the colour of a pixel with n samples can be told; `memory` says that the memory's colour is known
unfoldable pub color_known : RenderMode → Float → ℕ → Coverage → Bool → Bool
color_known mode alpha n coverage memory =
    let x = mux_of mode.blender_mux in
    if missing x.p memory then false
    else if alone mode alpha n coverage then true
    else if missing x.m memory then false
    else where_unknown coverage (any_coverage mode)
