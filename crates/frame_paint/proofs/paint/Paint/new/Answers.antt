use Rattle.frame_paint.proofs.Paints.{own_bytes}
use Rattle.frame_paint.proofs.paint.Paint.new.Goals as goal

pub invariant_of-result-clause-owned : goal.invariant_of-result-clause-owned
invariant_of-result-clause-owned c = own_bytes _ _ c.full_of-full.ensures c.decode_mux-mux.ensures c.then_some-own.ensures
