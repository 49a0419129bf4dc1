-- What a writer puts down, by the outcome of each test in turn. Assumes nothing.
use Rattle.std.proofs.Common.{◌≡◌, ℕ, Bool, cond, eqb, ap}
use Rattle.std.specs.Prelude.{Option, None}
use Rattle.words_pack.specs.Writer.{supported_of, pixel_bytes_of, bytes_of, pixel_depth_of, column_byte, color_word, color_of, written_of, encode_of}
use Rattle.words_pack.specs.declared.Bytes2.{Bytes2}
use Rattle.words_pack.specs.declared.FramebufferEncoding.{FramebufferEncoding}
use Rattle.words_pack.specs.declared.ImageLayout.{ImageLayout}
use Rattle.state.specs.declared.Rgba8.{Rgba8}
use Rattle.words_pack.specs.declared.Writer.{Writer}

-- a definition by a test, where the test's value is known
by : (t : Bool) {b : Bool} (x y : Bytes2) → t ≡ b → cond t x y ≡ cond b x y
by t x y h = ap (λ (v : Bool). cond v x y) h

pub color_by : (l : ImageLayout) (c : Rgba8) (coverage pixel mode : ℕ) (e : FramebufferEncoding) (b : Bool) → eqb (pixel_bytes_of l) 1 ≡ b
    → color_of l c coverage pixel mode e ≡ cond b (column_byte l c pixel, 0) (bytes_of e (color_word l c coverage pixel mode))
unfolding color_of
color_by l c coverage pixel mode e b h = by (eqb (pixel_bytes_of l) 1) (column_byte l c pixel, 0) (bytes_of e (color_word l c coverage pixel mode)) h

module _ (w : Writer) (c : Rgba8) (coverage pixel mode : ℕ) (e : FramebufferEncoding) where
  pub encode_by : (literal : Option ℕ) (b : Bool) → supported_of w ≡ b → encode_of w c coverage pixel literal mode e ≡ cond b (written_of w c coverage pixel literal mode e) (0, 0)
  unfolding encode_of
  encode_by literal b h = by (supported_of w) (written_of w c coverage pixel literal mode e) (0, 0) h

  pub absent_by : (b : Bool) → w.depth ≡ b → written_of w c coverage pixel None mode e ≡ cond b (bytes_of e (pixel_depth_of c)) (color_of w.layout c coverage pixel mode e)
  unfolding written_of
  absent_by b h = by w.depth (bytes_of e (pixel_depth_of c)) (color_of w.layout c coverage pixel mode e) h
