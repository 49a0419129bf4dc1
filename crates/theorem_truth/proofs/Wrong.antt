-- Each wrong rule breaks the law of one pixel, by computing: where less was known a byte is marked that is not the one where everything is known. Assumes nothing.
use Prim.Native.Nat.{ℕ}
use mathlib.Core.Path.{◌≡◌, refl, sym, ◌∙◌}
use mathlib.Core.Bool.{true, false, not, ◌&&◌}
use native.Mathlib.Omega.{arith}
use lib.Ieee.{lt, le, mul, add, sub, div, of_int}
use Rattle.num_bits.specs.Field.{field}
use Rattle.state.specs.declared.RenderMode.{RenderMode}
use Rattle.combiner.specs.declared.Combiner.{Combiner}
use Rattle.blender.specs.declared.Source.{Source}
use Rattle.blender.specs.Mux.{mux_of}
use Rattle.blender.specs.Coverage.{blends, clamp_of, destination_of}
use Rattle.blender.specs.Known as known
use Rattle.blender.specs.Blend.{factor_b, mixed_of, bytes_of, blend_of}
use Rattle.std.proofs.lemmas.Bool.{false≢true}
use Rattle.frame_pixel.specs.declared.Pixel.{Pixel}
use Rattle.frame_pixel.specs.Marks.{color_marked, coverage_marked, mark_of}
use Rattle.frame_pixel.specs.Rules.{rule_f1, rule_f2, memory_of, rule_f3, fresh_coverage, rule_f5, coverage_at, known_after, colors_after, coverage_after, assembled, pixel_step}
use Rattle.frame_pixel.specs.Knows.{KnowsPixel}
use Rattle.theorem_truth.specs.Wrong.{step_if, without_f2, zeros_stored, stale_kept, count_under_antialias, without_zero, mark_alone, fog, white, fogged, over_memory, into_memory, smooth, saved, nothing_known, color_known, all_known, Breaks}

-- everything is known of the one place, and nothing of the other
more : (red coverage : ℕ) → KnowsPixel (all_known red coverage) nothing_known
more red coverage = record { mark1 = λ t. refl; red = λ t. absurd (false≢true t); green = λ t. refl; blue = λ t. refl; mark2 = λ t. refl; coverage = λ t. absurd (false≢true t) }

-- ---- F2 left out: the white pixel is blended to black over a coverage that is not known, and stays white over the full one
fog_step :
    (color_marked (without_f2 fogged fog (white 1) nothing_known).mark ≡ true) × ((without_f2 fogged fog (white 1) nothing_known).red ≡ 0)
    × ((without_f2 fogged fog (white 1) (all_known 0 7)).red ≡ 255)
unfolding without_f2 assembled mark_of rule_f1 rule_f3 rule_f5 fresh_coverage coverage_after memory_of known.color_known known.any_coverage known.reject known.alone blends mux_of field lt le mul add sub div of_int factor_b mixed_of bytes_of blend_of clamp_of destination_of
fog_step = (refl, refl, refl)

-- Without F2 the law of one pixel is false.
pub doubt_needed : Breaks without_f2 fogged 1 (all_known 0 7) nothing_known
doubt_needed = (more 0 7, λ h. let e : ◌≡◌ {A = ℕ} 255 0 = sym fog_step.2 ∙ h.red fog_step.0 ∙ fog_step.1 in omega arith)

-- And F2 is all that is left out: where it has no doubt the step is that of the rules.
pub without_same : (mode : RenderMode) (k : Combiner) (s : Source) (x : Pixel) → rule_f2 mode s (coverage_at x) ≡ false → without_f2 mode k s x ≡ pixel_step mode k s x
unfolding without_f2 pixel_step colors_after known_after
without_same mode k s x e =
    let said = rule_f1 mode s (coverage_at x) (color_marked x.mark) in
    let path : said ≡ said && not (rule_f2 mode s (coverage_at x)) = grind arith in
    λ i. step_if (path i) mode k s x

-- ---- zeros stored for a colour that is not known: the memory was red
zeros_step :
    (color_marked (zeros_stored over_memory fog (white 1) nothing_known).mark ≡ true) × ((zeros_stored over_memory fog (white 1) nothing_known).red ≡ 0)
    × ((zeros_stored over_memory fog (white 1) (all_known 255 7)).red ≡ 255)
unfolding zeros_stored assembled mark_of rule_f1 rule_f2 rule_f3 rule_f5 fresh_coverage coverage_after memory_of known.color_known known.any_coverage known.reject known.alone blends mux_of field lt le mul add sub div of_int factor_b mixed_of bytes_of blend_of clamp_of destination_of
zeros_step = (refl, refl, refl)

pub zeros_wrong : Breaks zeros_stored over_memory 1 (all_known 255 7) nothing_known
zeros_wrong = (more 255 7, λ h. let e : ◌≡◌ {A = ℕ} 255 0 = sym zeros_step.2 ∙ h.red zeros_step.0 ∙ zeros_step.1 in omega arith)

-- ---- mark 1 kept where F1 says no: the old colour stays marked, and was painted over
stale_step :
    (color_marked (stale_kept into_memory fog (white 1) color_known).mark ≡ true) × ((stale_kept into_memory fog (white 1) color_known).red ≡ 0)
    × ((stale_kept into_memory fog (white 1) (all_known 0 7)).red ≡ 255)
unfolding stale_kept assembled mark_of rule_f1 rule_f2 rule_f3 rule_f5 fresh_coverage coverage_after colors_after known_after memory_of known.color_known known.any_coverage known.reject known.alone blends mux_of field lt le mul add sub div of_int factor_b mixed_of bytes_of blend_of clamp_of destination_of
stale_step = (refl, refl, refl)

pub stale_wrong : Breaks stale_kept into_memory 1 (all_known 0 7) color_known
stale_wrong = (before, λ h. let e : ◌≡◌ {A = ℕ} 255 0 = sym stale_step.2 ∙ h.red stale_step.0 ∙ stale_step.1 in omega arith)
  where
    before : KnowsPixel (all_known 0 7) color_known
    before = record { mark1 = λ t. refl; red = λ t. refl; green = λ t. refl; blue = λ t. refl; mark2 = λ t. refl; coverage = λ t. absurd (false≢true t) }

-- ---- count - 1 under antialias: one sample more was there
count_step :
    (coverage_marked (count_under_antialias smooth fog (white 1) nothing_known).mark ≡ true) × ((count_under_antialias smooth fog (white 1) nothing_known).coverage ≡ 0)
    × ((count_under_antialias smooth fog (white 1) (all_known 0 0)).coverage ≡ 1)
unfolding count_under_antialias assembled mark_of rule_f1 rule_f2 rule_f3 rule_f5 colors_after known_after memory_of known.color_known known.any_coverage known.reject known.alone blends mux_of field lt le mul add sub div of_int factor_b mixed_of bytes_of blend_of clamp_of destination_of
count_step = (refl, refl, refl)

pub count_wrong : Breaks count_under_antialias smooth 1 (all_known 0 0) nothing_known
count_wrong = (more 0 0, λ h. let e : ◌≡◌ {A = ℕ} 1 0 = sym count_step.2 ∙ h.coverage count_step.0 ∙ count_step.1 in omega arith)

-- ---- memory coverage 0 not asked: seven samples blend over it alone, and are full then
zero_step :
    (coverage_marked (without_zero smooth fog (white 7) nothing_known).mark ≡ true) × ((without_zero smooth fog (white 7) nothing_known).coverage ≡ 6)
    × ((without_zero smooth fog (white 7) (all_known 0 0)).coverage ≡ 7)
unfolding without_zero assembled mark_of rule_f1 rule_f2 rule_f3 rule_f5 colors_after known_after memory_of known.color_known known.any_coverage known.reject known.alone blends mux_of field lt le mul add sub div of_int factor_b mixed_of bytes_of blend_of clamp_of destination_of
zero_step = (refl, refl, refl)

pub zero_needed : Breaks without_zero smooth 7 (all_known 0 0) nothing_known
zero_needed = (more 0 0, λ h. let e : ◌≡◌ {A = ℕ} 7 6 = sym zero_step.2 ∙ h.coverage zero_step.0 ∙ zero_step.1 in omega arith)

-- ---- mark 2 without its byte: the byte that stood there counts
mark_step :
    (coverage_marked (mark_alone saved fog (white 1) nothing_known).mark ≡ true) × ((mark_alone saved fog (white 1) nothing_known).coverage ≡ 0)
    × ((mark_alone saved fog (white 1) (all_known 0 7)).coverage ≡ 7)
unfolding mark_alone mark_of rule_f1 rule_f2 rule_f3 rule_f5 fresh_coverage coverage_after colors_after known_after memory_of known.color_known known.any_coverage known.reject known.alone blends mux_of field lt le mul add sub div of_int factor_b mixed_of bytes_of blend_of clamp_of destination_of
mark_step = (refl, refl, refl)

pub mark_wrong : Breaks mark_alone saved 1 (all_known 0 7) nothing_known
mark_wrong = (more 0 7, λ h. let e : ◌≡◌ {A = ℕ} 7 0 = sym mark_step.2 ∙ h.coverage mark_step.0 ∙ mark_step.1 in omega arith)
