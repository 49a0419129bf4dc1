use Rattle.std.proofs.Common.{arith}
use Rattle.frame_emitted.proofs.Answers.{masks_few}
use Rattle.frame_emitted.proofs.Slots.{past}
use Rattle.frame_emitted.proofs.pixel_at.Goals as goal

pub returns-then-slots-k-clause-result_value : goal.returns-then-slots-k-clause-result_value
returns-then-slots-k-clause-result_value c = past _ (omega arith) (masks_few c.args.draw.now) c.list_by.ensures.part (omega arith)
