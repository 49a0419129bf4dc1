-- To be believed. Which vertices a draw may have: docs/RULES.md, Admitted draws, and writeback.rs, `Vertex::in_range` and `admitted`.
-- `fin s m e` is the float m * 2 ^ e, negative where s is true; `le` is Rust's `<=`, false where a NaN stands.
use Rattle.std.specs.Prelude.{Bool, true, false, ◌&&◌, pos, negsuc, Float}
use Rattle.std.specs.Float.{fin}
use Rattle.std.specs.Float.Ieee.{le}
use Rattle.num_float.specs.Color.{is_finite}
use Rattle.raster_vertex.specs.declared.Vertex.{Vertex}

-- Rust's (low..=high).contains(&x): both ends count, and a NaN is nowhere
abbrev pub within : Float → Float → Float → Bool
within low high x = le low x && le x high

-- x from -1024.0 to 1023.75: -(2 ^ 10) and 4095 / 4
abbrev pub in_range_x : Float → Bool
in_range_x x = within (fin true 1 (pos 10)) (fin false 4095 (negsuc 1)) x

-- y from -2048.0 to 2047.75: -(2 ^ 11) and 8191 / 4
abbrev pub in_range_y : Float → Bool
in_range_y y = within (fin true 1 (pos 11)) (fin false 8191 (negsuc 1)) y

abbrev pub in_range : Vertex → Bool
in_range v = in_range_x v.x && in_range_y v.y

-- no colour is a NaN or an infinity
abbrev pub finite_color : Vertex → Bool
finite_color v = is_finite v.r && is_finite v.g && is_finite v.b && is_finite v.a
