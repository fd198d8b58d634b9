use Rattle.example_own_kinds.proofs.ScaleLines.{scale_admitted}
use Rattle.example_own_kinds.proofs.scale.scale_answer.Goals as goal

pub answer_of-requires-after_bounds : goal.answer_of-requires-after_bounds
answer_of-requires-after_bounds c κs = scale_admitted _ _ _ c.new-body.ensures c.ranges.word.fits
