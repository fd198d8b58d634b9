-- The record of each layout.
use Rattle.hox_stream.proofs.cutting.told_by.Goals as goal

pub returns-in-Lines : goal.returns-in-Lines
returns-in-Lines c = rw c.in-Lines.is c.told_by_line.ensures

pub returns-in-Frames : goal.returns-in-Frames
returns-in-Frames c = rw c.in-Frames.is c.told_by_frame.ensures
