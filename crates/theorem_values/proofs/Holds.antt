-- The ten rows hold of the definitions: one test that antt computes over the whole table, and a law that turns it into the statement. Assumes nothing.
use mathlib.Core.Path.{◌≡◌, refl, ap}
use mathlib.Core.Bool.{Bool, true, false, ◌&&◌}
use mathlib.Core.List.{List, [], ◌∷◌}
use borrow.Author.Tests.{eqb-true}
use lib.Count.{ones}
use lib.Dec.{eqb}
use lib.IntN.{ℤ, pos, negsuc}
use lib.Ieee.{lt, le, ne, mul, add, sub, div, of_int}
use Rattle.std.proofs.lemmas.Bool.{and_parts}
use Rattle.num_bits.specs.Field.{field}
use Rattle.combiner_inputs.specs.Combine.{cycle1, select, command, color_a, color_b, color_c, color_d, alpha_abd, alpha_c}
use Rattle.combiner.specs.Combine.{color_input, alpha_input, mixed, channel_at, alpha_at, joined, color_of}
use Rattle.combiner.specs.New.{compares, blends_color, plain, combiner_of, new_of}
use Rattle.blender.specs.Mux.{mux_of}
use Rattle.blender.specs.Coverage.{blends, clamp_of, destination_of}
use Rattle.blender.specs.Known.{reject, alone}
use Rattle.blender.specs.Blend.{factor_b, mixed_of, bytes_of, blend_of}
use Rattle.words_pack.specs.Color.{pack_channel_of}
use Rattle.words_pack.specs.Depth.{last_from, range_of, depth_word, depth_of, pack_depth_of}
use Rattle.raster_vertex.specs.Sorted.{at_or_before, insert, sorted}
use Rattle.raster_edge.specs.Edge.{quantized, edge_at, cross_of}
use Rattle.raster_edges.specs.Edge.{slope_of, area_by, edge_start, edge_from}
use Rattle.raster_edge.specs.Span.{span_of}
use Rattle.raster_edges.specs.Span.{tri_by, line_of, edges_of}
use Rattle.raster_edges.specs.Sample.{two_of, pair_of, mask_of}
use Rattle.raster_rectangle.specs.Rectangle.{inside_of, sample_bit, row_bits, rect_mask}
use Rattle.raster_admitted.specs.Check.{looked_up, uses_shade, check_of}
use Rattle.raster_pixel.specs.Parts.{parts}
use Rattle.raster_pixel.specs.Admitted.{triangle_at, failing, all, admitted_of}
use Rattle.raster_pixel.specs.Emitted.{triangle_fragment, triangle_emits, rectangle_fragment, rectangle_emits}
use Rattle.frame.specs.Checks.{mark_ok, marks_ok, frame_refusal}
use Rattle.frame_draw.specs.Checks.{scissor_ok, flags_ok, inputs_ok, entry_refusal}
use Rattle.frame_draw.specs.Draw.{plan_of, draw_answer}
use Rattle.theorem_values.specs.Table.{Entry, table, Holds}

same : ℤ → ℤ → Bool
same (pos a) (pos b) = eqb a b
same (pos a) (negsuc b) = false
same (negsuc a) (pos b) = false
same (negsuc a) (negsuc b) = eqb a b

test : List Entry → Bool
test [] = true
test (e ∷ es) = same e.value e.is && test es

same_eq : (a b : ℤ) → same a b ≡ true → a ≡ b
unfolding same
same_eq (pos a) (pos b) t = ap pos (eqb-true a b t)
same_eq (pos a) (negsuc b) t = cc
same_eq (negsuc a) (pos b) t = cc
same_eq (negsuc a) (negsuc b) t = ap negsuc (eqb-true a b t)

holds : (es : List Entry) → test es ≡ true → Holds es
unfolding test
holds [] t = tt
holds (e ∷ es) t = let p = and_parts (same e.value e.is) (test es) t in (same_eq e.value e.is p.0, holds es p.1)

computed : test table ≡ true
unfolding test same table ones lt le ne mul add sub div of_int field cycle1 select command color_a color_b color_c color_d alpha_abd alpha_c mux_of blends clamp_of destination_of reject alone factor_b mixed_of bytes_of blend_of pack_channel_of last_from range_of depth_word depth_of pack_depth_of at_or_before insert sorted quantized slope_of edge_start edge_from edge_at cross_of tri_by span_of line_of edges_of two_of pair_of mask_of inside_of sample_bit row_bits rect_mask color_input alpha_input mixed channel_at alpha_at joined color_of compares blends_color plain combiner_of new_of area_by looked_up uses_shade check_of parts triangle_at failing all admitted_of triangle_fragment triangle_emits rectangle_fragment rectangle_emits mark_ok marks_ok frame_refusal scissor_ok flags_ok inputs_ok entry_refusal plan_of draw_answer
computed = refl

-- Every row of the proved table (docs/RULES.md, Ten worked values) holds of the definitions.
pub table_holds : Holds table
table_holds = holds table computed
