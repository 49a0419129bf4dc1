use Rattle.std.specs.Iterator.Adapters.{zip_first, zip_second}
use Rattle.std.specs.Slice.Iter.{chunks_rest, chunks_size}
use Rattle.frame.proofs.Refusals.{PartsLeft}
use Rattle.frame.proofs.refusal.Marked.parts_ok.Given as goal

abbrev pub invariant-loop-coverages : goal.invariant-loop-coverages
invariant-loop-coverages l =
    let left = l.coverages-iterator in
    (goal.iterator-loop-coverages).can_next left
    × (goal.iterator-loop-coverages).is_finite left
    × PartsLeft l.self.coverages.now l.self.marks.now (chunks_rest (zip_first left)) (chunks_rest (zip_second left)) (chunks_size (zip_first left)) (chunks_size (zip_second left))
