-- The bound of a packed channel, a law over the threshold. Assumes nothing.
use Rattle.std.proofs.Common.{ℕ, ◌≤◌, arith}
use Rattle.words_pack.specs.Color.{pack_channel_of}

-- five bits, whatever the channel and the threshold
pub channel_small : (v threshold : ℕ) → pack_channel_of v threshold ≤ 31
unfolding pack_channel_of
channel_small v threshold = omega arith
