-- Three packed channels and the coverage's top bit do not overlap. Assumes nothing.
use Rattle.std.proofs.Common.{◌≡◌, ℕ, ◌+◌, ◌*◌, ◌/◌, ◌≤◌, ◌∙◌, arith}
use Rattle.words_pack.specs.Color.{pack_channel_of, pack_color_of}
use Rattle.words_pack.proofs.Channel.{channel_small}
use Rattle.words_pack.proofs.Word.{joined}
use Rattle.words_pack.proofs.pack_color.Goals as goal

small : (x v t : ℕ) → x ≡ pack_channel_of v t → x ≤ 31
small x v t e = omega (arith, channel_small v t)

pub returns : goal.returns
unfolding pack_color_of
returns c =
    let s = c.args in
    let r = c.pack_channel-r in
    let g = c.pack_channel-g in
    let b = c.pack_channel-b in
    joined r.result g.result b.result (s.coverage / 4) (small r.result s.rgba.r s.dither r.ensures) (small g.result s.rgba.g s.dither g.ensures)
    (small b.result s.rgba.b s.dither b.ensures)
    (omega arith)
    ∙ (λ i. r.ensures i * 2048 + g.ensures i * 64 + b.ensures i * 2 + s.coverage / 4)
